-- A strict change is accepted exactly where nobody keeps an old cell.
use Rattle.std.proofs.Common.{◌≡◌, refl, sym, ◌∙◌, ap, subst, arith, ℕ, suc, ◌<◌, inl, inr, ◌⊎◌, Bool, true, false, cond, List, map, true≢false, Option, None, Ok, ◌↔◌}
use Rattle.std.specs.Prelude.{All, filter, nat_le}
use Rattle.std.proofs.lemmas.Bool.{leb-true, ltb-true}
use Rattle.cell_num.specs.Lists.{holds, In}
use Rattle.cell_world.specs.Placed.Place.{place_all}
use Rattle.cell_world.specs.declared.refusal.Refusal.{Refusal}
use Rattle.cell_world.specs.World.{World, Cell, is_attached}
use Rattle.cell_world.specs.Gather.{Source, fresh_cells}
use Rattle.cell_world.specs.Commands.UnloadCommand.{first_held, put_aside}
use Rattle.cell_world.specs.Kept.{IsKept, holding_of}
use Rattle.cell_world.specs.Outcome.{Outcome, ◌>>=◌, ◌>>◌, refused_by}
use Rattle.cell_world.specs.Answer.{numbers_of}
use Rattle.cell_world.specs.Coherent.{AreSound, IsCoherent, is_known_cell}
use Rattle.cell_num.proofs.Elements.{All-In, In-All, In-map, In-append, In-filtered, filter-Passes, all-In}
use Rattle.cell_lemmas.proofs.Naming.Known.{known_parts}
use Rattle.cell_lemmas.proofs.Naming.Appended.{ok_same}
use Rattle.cell_lemmas.proofs.Holding.KeptPaths.{In-holds, holds-In}
use Rattle.cell_lemmas.proofs.Holding.Holders.{first_held_exact}
use Rattle.cell_lemmas.proofs.Naming.PutAside.{put_number, put_detached}
use Rattle.cell_world.specs.Change.{Change, Made, Plan, replaced, old_of, gather, plan_of, with_sequel, first_held_old, made_by, make_change}
use Rattle.cell_change_law.specs.Sound.{IsSound}
use Rattle.cell_change_law.proofs.Placing.{behind}
use Rattle.cell_change_law.proofs.Steps.{Planned, planned, Changed, changed}
use Rattle.cell_change_law.proofs.Ending.{last_parts}

-- the cells of these numbers that are attached
abbrev attached_in : List Cell → List ℕ
attached_in cells = numbers_of (filter (λ c. is_attached c.standing) cells)

module _ (sources : List Source) (sound : AreSound sources) (v : World) (h : IsCoherent v) (asked : Change) (good : IsSound sources v asked) where
  -- with the new cells in their places, no old cell is attached any more
  module _ (g : World) (gathering : gather sources v asked ≡ Ok g) (w : World) (placing : place_all g (fresh_cells v.next_cell g) ≡ Ok w) where
    abbrev ns : List ℕ
    ns = old_of asked

    old_below : (n : ℕ) → In n ns → n < v.next_cell
    old_below n i =
        let x = In-map (λ (c : Cell). c.id.0) (replaced asked) n i in
        omega (arith, ltb-true x.0.id.0 v.next_cell (known_parts v x.0 (all-In (is_known_cell v) v.cells h.ready.cells x.0 (All-In (λ (c : Cell). In c v.cells) (replaced asked) good.present x.0 x.1))).number, x.2)

    old_apart : (n : ℕ) → In n ns → (c : Cell) → In c w.cells → n ≡ c.id.0 → is_attached c.standing ≡ false
    old_apart n i c j e = go (In-append _ _ c (subst (λ (cs : List Cell). In c cs) (behind sources sound v h asked good g gathering w placing).cells j))
      where
        go : In c (map (put_aside (suc v.swaps) ns) v.cells) ⊎ In c (fresh_cells v.next_cell w) → is_attached c.standing ≡ false
        go (inl k) =
            let d = In-map (put_aside (suc v.swaps) ns) v.cells c k in
            let number : n ≡ d.0.id.0 = e ∙ (ap (λ (x : Cell). x.id.0) d.2 ∙ put_number (suc v.swaps) ns d.0) in
            ap (λ (x : Cell). is_attached x.standing) d.2 ∙ put_detached (suc v.swaps) ns d.0 (subst (λ m. holds ns m ≡ true) number (In-holds ns n i))
        go (inr k) = absurd (omega (arith, leb-true v.next_cell c.id.0 (filter-Passes (λ (x : Cell). nat_le v.next_cell x.id.0) w.cells c k), e, old_below n i))

    old_detached : (n : ℕ) → In n ns → holds (attached_in w.cells) n ≡ false
    old_detached n i = go (holds (attached_in w.cells) n) refl
      where
        clash : (c : Cell) × In c (filter (λ (c : Cell). is_attached c.standing) w.cells) × (n ≡ c.id.0) → ⊥
        clash c =
            true≢false (sym (filter-Passes (λ (x : Cell). is_attached x.standing) w.cells c.0 c.1)
            ∙ old_apart n i c.0 (In-filtered (λ (x : Cell). is_attached x.standing) w.cells c.0 c.1) c.2)

        go : (b : Bool) → holds (attached_in w.cells) n ≡ b → b ≡ false
        go false e = refl
        go true e = absurd (clash (In-map (λ (x : Cell). x.id.0) (filter (λ (c : Cell). is_attached c.standing) w.cells) n (holds-In (attached_in w.cells) n e)))

  module _ (plan : Plan) (last : World) (e : plan_of sources v asked ≡ Ok plan) (t : with_sequel asked plan ≡ Ok last) where
    x : Planned sources v asked plan
    x = planned sources v asked plan e

    detached : (n : ℕ) → In n (old_of asked) → holds (holding_of last).attached n ≡ false
    detached =
        subst (λ (cs : List Cell). (n : ℕ) → In n (old_of asked) → holds (attached_in cs) n ≡ false) (sym (ap (λ (w : World). w.cells) (last_parts asked plan last t)))
        (subst (λ (y : Plan). (n : ℕ) → In n (old_of asked) → holds (attached_in y.linked.cells) n ≡ false) x.is (old_detached x.gathered x.gathering x.world x.placing))

    none_held : (first_held (holding_of last) (old_of asked) ≡ None) ↔ All (λ n. IsKept (holding_of last) n → ⊥) (old_of asked)
    none_held = first_held_exact (holding_of last) (old_of asked) (In-All (λ (n : ℕ). holds (holding_of last).attached n ≡ false) (old_of asked) detached)

    goes_through : first_held_old asked last ≡ None → make_change sources v asked ≡ Ok (made_by asked plan last)
    goes_through none =
        ap (λ (o : Outcome Plan). o >>= after_plan) e
        ∙ (ap (λ (o : Outcome World). o >>= after_sequel plan) t
        ∙ ap (λ (o : Option Refusal). refused_by o >> Ok (made_by asked plan last)) none)
      where
        after_sequel : Plan → World → Outcome Made
        after_sequel plan last = refused_by (first_held_old asked last) >> Ok (made_by asked plan last)

        after_plan : Plan → Outcome Made
        after_plan plan = with_sequel asked plan >>= after_sequel plan

    held_is : first_held_old asked last ≡ cond asked.strict (first_held (holding_of last) (old_of asked)) None
    held_is = refl

    unheld : (made : Made) → make_change sources v asked ≡ Ok made → first_held_old asked last ≡ None
    unheld made f =
        let s : Changed sources v asked made = changed sources v asked made f in
        let plans : s.plan ≡ plan = ok_same s.plan plan (sym s.planned ∙ e) in
        let lasts : s.last ≡ last = ok_same s.last last (sym s.run ∙ (ap (with_sequel asked) plans ∙ t)) in
        ap (first_held_old asked) (sym lasts) ∙ s.unheld

    pub made_is : (made : Made) → make_change sources v asked ≡ Ok made → made ≡ made_by asked plan last
    made_is made f = ok_same made (made_by asked plan last) (sym f ∙ goes_through (unheld made f))

    -- strict, it is accepted exactly where nobody keeps a replaced cell
    pub strict_made : asked.strict ≡ true → ((made : Made) × (make_change sources v asked ≡ Ok made)) ↔ All (λ n. IsKept (holding_of last) n → ⊥) (old_of asked)
    strict_made strict =
        let is : first_held_old asked last ≡ first_held (holding_of last) (old_of asked) = held_is ∙ ap (λ b. cond b (first_held (holding_of last) (old_of asked)) None) strict in
        (λ a. none_held.0 (sym is ∙ unheld a.0 a.1), λ none. (made_by asked plan last, goes_through (is ∙ none_held.1 none)))

    pub lenient_made : asked.strict ≡ false → make_change sources v asked ≡ Ok (made_by asked plan last)
    lenient_made lenient = goes_through (held_is ∙ ap (λ b. cond b (first_held (holding_of last) (old_of asked)) None) lenient)
