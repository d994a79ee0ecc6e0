-- What a change changes in the cells that were there: what was in a replaced cell, those of the replaced cells' own entries aside, and of the
-- rest nothing that is firm.
use Rattle.std.proofs.Common.{◌≡◌, refl, sym, ◌∙◌, ap, subst, arith, ℕ, suc, ◌<◌, ◌⊎◌, inl, inr, Bool, true, false, not, ◌||◌, List, map, true≢false, Option, Some, None, Ok}
use Rattle.std.specs.Prelude.{nat_lt, nat_le, ◌==◌, length}
use Rattle.std.proofs.lemmas.Bool.{and_parts, eqb-true, eq-eqb, leb-true, ltb-true}
use Rattle.cell_num.specs.Lists.{holds, In}
use Rattle.cell_object.specs.declared.object.Entry.{Entry}
use Rattle.cell_world.specs.declared.state.Target.{Target}
use Rattle.cell_world.specs.declared.state.Target.TheVariants.{Section, Number}
use Rattle.cell_world.specs.World.{World, Cell, Standing, is_of_group}
use Rattle.cell_world.specs.declared.state.Standing.TheVariants.{Attached, Detached}
use Rattle.cell_world.specs.Names.{Provider}
use Rattle.cell_world.specs.Linked.Target.{target_of}
use Rattle.cell_world.specs.Placed.Place.{place_all}
use Rattle.cell_world.specs.Gather.{Source, fresh_cells}
use Rattle.cell_world.specs.Changed.{is_same_key, is_same_target, is_other_target, now_in, differs}
use Rattle.cell_world.specs.Coherent.{AreSound, IsCoherent, is_known_cell}
use Rattle.cell_lemmas.specs.Firm.{firm_target}
use Rattle.cell_lemmas.specs.Targets.{is_target_in}
use Rattle.cell_num.proofs.Elements.{all-In, All-In, In-append, In-map, filter-Passes}
use Rattle.cell_lemmas.proofs.Naming.Asked.{IsAsked, asks}
use Rattle.cell_lemmas.proofs.Naming.Attach.{firm_grown, firm_is}
use Rattle.cell_lemmas.proofs.Naming.Attaching.{not_other}
use Rattle.cell_lemmas.proofs.Naming.Known.{known_parts, named}
use Rattle.cell_lemmas.proofs.Holding.KeptPaths.{holds-In}
use Rattle.cell_lemmas.proofs.Naming.NotIn.{target_out}
use Rattle.cell_lemmas.proofs.Targeting.Detached.{put, put_same, put_in, put_out, firm_own, firm_kept}
use Rattle.cell_world.specs.Change.{Change, replaced, old_of, gather, first_uncovered}
use Rattle.cell_change_law.specs.Sound.{IsSound}
use Rattle.cell_change_law.proofs.Placing.{base, set_attached, grows, behind, now_is}
use Rattle.cell_lemmas.proofs.Naming.SetAside.{new_group}

-- the same target is in the same cells
pub same_in : (numbers : List ℕ) (t u : Target) → is_same_target t u ≡ true → is_target_in numbers (Some t) ≡ is_target_in numbers (Some u)
same_in numbers (Section key offset addr) (Section other place at) h =
    ap (λ (n : ℕ). holds numbers n) (eqb-true key.cell.0 other.cell.0 (and_parts (key.cell.0 == other.cell.0) (key.section == other.section) (and_parts (is_same_key key other) (offset == place) h).0).0)
same_in numbers (Section key offset addr) (Number value) h = absurd (true≢false (sym h))
same_in numbers (Number value) (Section other place at) h = absurd (true≢false (sym h))
same_in numbers (Number value) (Number other) h = refl

-- what was in the cells and isn't any more is something else
in_and_out : (numbers : List ℕ) (o p : Option Target) → is_target_in numbers o ≡ true → is_target_in numbers p ≡ false → is_other_target o p ≡ true
in_and_out numbers None p i j = absurd (true≢false (sym i))
in_and_out numbers (Some t) None i j = refl
in_and_out numbers (Some t) (Some u) i j = pick (is_same_target t u) refl
  where
    pick : (b : Bool) → is_same_target t u ≡ b → not b ≡ true
    pick false y = refl
    pick true y = absurd (true≢false (sym i ∙ (same_in numbers t u y ∙ j)))

module _ (sources : List Source) (sound : AreSound sources) (v : World) (h : IsCoherent v) (asked : Change) (good : IsSound sources v asked) (g : World) (gathering : gather sources v asked ≡ Ok g) (w : World)
    (placing : place_all g (fresh_cells v.next_cell g) ≡ Ok w) (covered : first_uncovered v asked g ≡ None) where
  abbrev k : ℕ
  k = suc v.swaps

  abbrev old : List ℕ
  old = old_of asked

  abbrev side : World
  side = base sources sound v h asked good g gathering w placing

  -- the old numbers are those of cells that were there
  old_below : (n : ℕ) → holds old n ≡ true → n < v.next_cell
  old_below n e =
      let x = In-map (λ (c : Cell). c.id.0) (replaced asked) n (holds-In old n e) in
      let b = ltb-true x.0.id.0 v.next_cell (known_parts v x.0 (all-In (is_known_cell v) v.cells h.ready.cells x.0 (All-In (λ (c : Cell). In c v.cells) (replaced asked) good.present x.0 x.1))).number in
      omega (arith, b, x.2)

  -- an old cell is of the new group
  old_standing : (z : Cell) → In z w.cells → holds old z.id.0 ≡ true → z.standing ≡ Detached k
  old_standing z i e = go (In-append (map (put k old) v.cells) (fresh_cells v.next_cell w) z (subst (λ (cs : List Cell). In z cs) (behind sources sound v h asked good g gathering w placing).cells i))
    where
      was : (c : Cell) × In c v.cells × (z ≡ put k old c) → z.standing ≡ Detached k
      was c =
          let q : holds old c.0.id.0 ≡ true = sym (put_same k old (λ x. holds old x.id.0) c.0 refl) ∙ subst (λ (x : Cell). holds old x.id.0 ≡ true) c.2 e in
          ap (λ (x : Cell). x.standing) (c.2 ∙ put_in k old c.0 q)

      go : In z (map (put k old) v.cells) ⊎ In z (fresh_cells v.next_cell w) → z.standing ≡ Detached k
      go (inl m) = was (In-map (put k old) v.cells z m)
      go (inr m) = absurd (omega (arith, old_below z.id.0 e, leb-true v.next_cell z.id.0 (filter-Passes (λ (c : Cell). nat_le v.next_cell c.id.0) w.cells z m)))

  -- whom a cell that isn't of the group asks isn't an old cell
  asked_out : (s : Standing) → is_of_group k s ≡ false → (q : Provider) → IsAsked w s q → holds old q.cell ≡ false
  asked_out s f q r = go (holds old q.cell) refl
    where
      unasked : (s : Standing) → is_of_group k s ≡ false → asks s (Detached k) ≡ false
      unasked Attached e = refl
      unasked (Detached j) e = ap (λ b. b || false) (pick (k == j) refl)
        where
          pick : (b : Bool) → (k == j) ≡ b → b ≡ false
          pick true x = absurd (true≢false (sym (eq-eqb j k (sym (eqb-true k j x))) ∙ e))
          pick false x = refl

      go : (b : Bool) → holds old q.cell ≡ b → b ≡ false
      go false e = refl
      go true e = absurd (true≢false (sym r.3 ∙ (ap (asks s) (old_standing r.0 r.1 (subst (λ n. holds old n ≡ true) r.2 e)) ∙ unasked s f)))

  module _ (c : Cell) (i : In c v.cells) (e : Entry) where
    -- another cell names nothing in an old one any more
    pub now_out : holds old c.id.0 ≡ false → is_target_in old (target_of w (now_in w c) e) ≡ false
    now_out q =
        ap (λ (z : Cell). is_target_in old (target_of w z e)) (now_is sources sound v h asked good g gathering w placing covered c i ∙ put_out k old c q)
        ∙ target_out w old c q (asked_out c.standing (new_group v h c i)) e

    -- what it named there it doesn't name
    pub lost_differs : holds old c.id.0 ≡ false → is_target_in old (target_of v c e) ≡ true → differs v w c e ≡ true
    lost_differs q t = in_and_out old (target_of v c e) (target_of w (now_in w c) e) t (now_out q)

    there : nat_lt (put k old c).ns (length v.namespaces) ≡ true
    there = put_same k old (λ x. nat_lt x.ns (length v.namespaces)) c refl ∙ (known_parts v c (all-In (is_known_cell v) v.cells h.ready.cells c i)).ns

    -- what is firm in the machine with cells put aside is what the entry names with the new cells
    goes_on : (t : Target) → firm_target v c e ≡ Some t → firm_target side (put k old c) e ≡ Some t → differs v w c e ≡ false
    goes_on t f x = not_other (target_of v c e) (target_of w (now_in w c) e) t (firm_is v c e t f)
        (ap (λ (z : Cell). target_of w z e) (now_is sources sound v h asked good g gathering w placing covered c i)
        ∙ firm_is w (put k old c) e t (firm_grown side w (grows sources sound v h asked good g gathering w placing) (put k old c) there e t x))

    pub own_firm_stays : holds old c.id.0 ≡ true → (t : Target) → firm_target v c e ≡ Some t → differs v w c e ≡ false
    own_firm_stays q t f = goes_on t f (firm_own v (named v h) k old (new_group v h) (set_attached sources sound v h asked good g gathering w placing) c i q e ∙ f)

    pub firm_stays : holds old c.id.0 ≡ false → (t : Target) → firm_target v c e ≡ Some t → is_target_in old (Some t) ≡ false → differs v w c e ≡ false
    firm_stays q t f o = goes_on t f (firm_kept v (named v h) k old (new_group v h) (set_attached sources sound v h asked good g gathering w placing) c i q e t f o)

    pub firm_anywhere : (t : Target) → firm_target v c e ≡ Some t → is_target_in old (Some t) ≡ false → differs v w c e ≡ false
    firm_anywhere t f o = go (holds old c.id.0) refl
      where
        go : (b : Bool) → holds old c.id.0 ≡ b → differs v w c e ≡ false
        go true q = own_firm_stays q t f
        go false q = firm_stays q t f o
