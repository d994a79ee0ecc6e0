-- What a change leaves alone in a cell that awaits no name which comes.
use Rattle.std.proofs.Common.{◌≡◌, refl, sym, ◌∙◌, ap, subst, ℕ, suc, ◌⊎◌, inl, inr, Bool, true, false, cond, List, ◌++◌, length, true≢false, Option, Some, None, Ok}
use Rattle.std.specs.Prelude.{filter, nat_lt}
use Rattle.cell_num.specs.Lists.{holds, In}
use Rattle.cell_object.specs.declared.object.Entry.{Entry}
use Rattle.cell_world.specs.declared.state.Target.{Target}
use Rattle.cell_world.specs.World.{World, Cell, Standing, is_attached}
use Rattle.cell_world.specs.declared.state.Standing.TheVariants.{Attached, Detached}
use Rattle.cell_world.specs.Names.{Provider, provider_for, provider_of, strong_provider, weak_provider}
use Rattle.cell_world.specs.Linked.Target.{provided_target, target_of}
use Rattle.cell_world.specs.Placed.Place.{place_all}
use Rattle.cell_world.specs.Gather.{Source, fresh_cells}
use Rattle.cell_world.specs.Changed.{now_in, differs}
use Rattle.cell_world.specs.Coherent.{AreSound, IsCoherent, is_known_cell}
use Rattle.cell_lemmas.specs.Targets.{is_target_in}
use Rattle.cell_object.specs.declared.object.Symbol.{Symbol}
use Rattle.cell_object.specs.Parts.{is_weak}
use Rattle.cell_lemmas.specs.Touched.{awaits, touched}
use Rattle.cell_num.proofs.Elements.{all-In, In-left, In-right, filter-In}
use Rattle.cell_lemmas.proofs.Naming.Asked.{or_else_from}
use Rattle.cell_lemmas.proofs.Naming.Attach.{Grows, provided_grown}
use Rattle.cell_lemmas.proofs.Naming.Comers.{HoldsNot, provider_still, strong_still}
use Rattle.cell_lemmas.proofs.Targeting.Detached.{put_in, put_out, other_strong, other_provider, own_none, own_strong, own_kept, provided_aside, without}
use Rattle.cell_lemmas.proofs.Links.FreshLinks.{grows}
use Rattle.cell_lemmas.proofs.Naming.Known.{known_parts, named}
use Rattle.cell_lemmas.proofs.Targeting.Targets.{weak_holder}
use Rattle.cell_lemmas.proofs.Targeting.Untouched.{IsLeftAlone, holds_left, unawaited, unyielding, nobody_holds, strong_stays, untaken_stays, target_stays}
use Rattle.cell_lemmas.proofs.Targeting.UntouchedSteps.{same_named}
use Rattle.cell_world.specs.Change.{Change, old_of, gather, first_uncovered}
use Rattle.cell_change_law.specs.Sound.{IsSound}
use Rattle.cell_change_law.proofs.Placing.{base, behind, set_attached, now_is}
use Rattle.cell_lemmas.proofs.Naming.SetAside.{new_group}

module _ (sources : List Source) (sound : AreSound sources) (v : World) (h : IsCoherent v) (asked : Change) (good : IsSound sources v asked) (g : World) (gathering : gather sources v asked ≡ Ok g) (w : World)
    (placing : place_all g (fresh_cells v.next_cell g) ≡ Ok w) (covered : first_uncovered v asked g ≡ None) where
  abbrev k : ℕ
  k = suc v.swaps

  abbrev old : List ℕ
  old = old_of asked

  abbrev pub comers : List Cell
  comers = filter (λ c. holds old c.id.0) v.cells ++ fresh_cells v.next_cell w

  abbrev numbers : List ℕ
  numbers = touched v old comers

  abbrev side : World
  side = base sources sound v h asked good g gathering w placing

  abbrev sg : Grows side w
  sg = grows side w (fresh_cells v.next_cell w) (behind sources sound v h asked good g gathering w placing)

  all_attached : (c : Cell) → In c v.cells → holds old c.id.0 ≡ true → is_attached c.standing ≡ true
  all_attached = set_attached sources sound v h asked good g gathering w placing

  module _ (c : Cell) (i : In c v.cells) (quiet : awaits comers c ≡ false) where
    inside : nat_lt c.ns (length v.namespaces) ≡ true
    inside = (known_parts v c (all-In (is_known_cell v) v.cells h.ready.cells c i)).ns

    -- the standing that it has then
    abbrev after : Bool → Standing
    after true = Detached k
    after false = c.standing

    attached_is : (t : Standing) → is_attached t ≡ true → t ≡ Attached
    attached_is Attached y = refl
    attached_is (Detached l) y = absurd (true≢false (sym y))

    -- whom the cell finds strongly it finds strongly still, once the old ones are put aside
    strong_aside : (name : List ℕ) (b : Bool) → holds old c.id.0 ≡ b → (o : Option Provider) → strong_provider v c.standing c.ns name ≡ o → ((q : Provider) → o ≡ Some q → holds old q.cell ≡ false)
        → strong_provider side (after b) c.ns name ≡ o
    strong_aside name true x o s f =
        own_strong v (named v h) k old (new_group v h) all_attached c.ns name
        ∙ (ap (λ (t : Standing). strong_provider v t c.ns name) (sym (attached_is c.standing (all_attached c i x))) ∙ s)
    strong_aside name false x o s f =
        other_strong v (named v h) k old (new_group v h) all_attached c.ns name c.standing (new_group v h c i)
        ∙ (ap (without old) s ∙ go o f)
      where
        go : (o : Option Provider) → ((q : Provider) → o ≡ Some q → holds old q.cell ≡ false) → without old o ≡ o
        go None f = refl
        go (Some q) f = ap (λ b. cond b None (Some q)) (f q refl)

    nobody_aside : (name : List ℕ) (b : Bool) → holds old c.id.0 ≡ b → provider_of v c name ≡ None → provider_for side (after b) c.ns name ≡ None
    nobody_aside name true x e =
        own_none v (named v h) k old (new_group v h) all_attached c.ns name (ap (λ (t : Standing). provider_for v t c.ns name) (sym (attached_is c.standing (all_attached c i x))) ∙ e)
    nobody_aside name false x e =
        other_provider v (named v h) k old (new_group v h) all_attached c.ns name c.standing (new_group v h c i) None e (λ r s. let n : None ≡ Some r = s in cc)

    module _ (name : List ℕ) (q : Provider) (e : provider_of v c name ≡ Some q) (o : holds numbers q.cell ≡ false) where
      not_old : holds old q.cell ≡ false
      not_old = holds_left old _ q.cell o

      by_itself : (r : Provider) → Some q ≡ Some r → holds old r.cell ≡ false
      by_itself r s = let z : q ≡ r = cc in subst (λ (x : Provider). holds old x.cell ≡ false) z not_old

      provider_side : ((n : Cell) → In n comers → HoldsNot name n) → (b : Bool) → holds old c.id.0 ≡ b → provider_for side (after b) c.ns name ≡ Some q
      provider_side f true x =
          own_kept v (named v h) k old (new_group v h) all_attached c.ns name
          (λ d j y. (f d (In-left (filter (λ (z : Cell). holds old z.id.0) v.cells) (fresh_cells v.next_cell w) d (filter-In (λ (z : Cell). holds old z.id.0) v.cells d j y))).1) q
          (ap (λ (t : Standing). provider_for v t c.ns name) (sym (attached_is c.standing (all_attached c i x))) ∙ e) not_old
      provider_side f false x = other_provider v (named v h) k old (new_group v h) all_attached c.ns name c.standing (new_group v h c i) (Some q) e by_itself

      change_kept : (b : Bool) → holds old c.id.0 ≡ b → provider_for w (after b) c.ns name ≡ Some q
      change_kept b x = go (or_else_from (strong_provider v c.standing c.ns name) (weak_provider v c.standing c.ns name) q e)
        where
          go : (strong_provider v c.standing c.ns name ≡ Some q) ⊎ ((strong_provider v c.standing c.ns name ≡ None) × (weak_provider v c.standing c.ns name ≡ Some q)) → provider_for w (after b) c.ns name ≡ Some q
          go (inl s) = strong_stays side w sg c.ns inside (after b) name q (strong_aside name b x (Some q) s by_itself)
          go (inr s) =
              let d = weak_holder v c.standing c.ns name q s.1 in
              let f = nobody_holds v old comers d.0 name q.symbol d.3 (unyielding v old comers d.0 d.1 (subst (λ n. holds numbers n ≡ false) d.2 o)) in
              untaken_stays side w sg c.ns inside (after b) name
              (λ n j. f n (In-right (filter (λ (z : Cell). holds old z.id.0) v.cells) (fresh_cells v.next_cell w) n j)) q (provider_side f b x)

    -- nobody who comes has the name of a WEAK symbol of it
    nobody_new : (s : Symbol) → In s c.object.symbols → is_weak s.bind ≡ true → (n : Cell) → In n (fresh_cells v.next_cell w) → HoldsNot s.name n
    nobody_new s j b n m = unawaited v old comers c quiet s j b n (In-right (filter (λ (z : Cell). holds old z.id.0) v.cells) (fresh_cells v.next_cell w) n m)

    still : (b : Bool) → holds old c.id.0 ≡ b → (s : Symbol) → In s c.object.symbols → is_weak s.bind ≡ true → IsLeftAlone v w c (after b) numbers s.name
    still b x s j f =
        record {
          strong = λ o e out.
              strong_still side w sg s.name (nobody_new s j f) c.ns inside (after b)
              ∙ strong_aside s.name b x o e (λ q n. holds_left old _ q.cell (out q n));
          nobody = λ e. provider_still side w sg s.name (nobody_new s j f) c.ns inside (after b) ∙ nobody_aside s.name b x e;
        }

    given_then : (q : Provider) (t : Target) → provided_target v q ≡ Some t → provided_target w q ≡ Some t
    given_then q t e = provided_grown side w sg q t (provided_aside v (named v h) k old (new_group v h) all_attached q ∙ e)

    now_after : (b : Bool) → holds old c.id.0 ≡ b → now_in w c ≡ record c { standing = after b }
    now_after true x = now_is sources sound v h asked good g gathering w placing covered c i ∙ put_in k old c x
    now_after false x = now_is sources sound v h asked good g gathering w placing covered c i ∙ put_out k old c x

    pub change_stays : (e : Entry) → In e c.object.entries → is_target_in numbers (target_of v c e) ≡ false → differs v w c e ≡ false
    change_stays = go (holds old c.id.0) refl
      where
        go : (b : Bool) → holds old c.id.0 ≡ b → (e : Entry) → In e c.object.entries → is_target_in numbers (target_of v c e) ≡ false → differs v w c e ≡ false
        go b x = same_named v w h c i numbers (λ e t y o. ap (λ (z : Cell). target_of w z e) (now_after b x)
            ∙ target_stays v w (named v h) c (after b) numbers (still b x) (λ name q f s. change_kept name q f s b x) given_then e t y o)
