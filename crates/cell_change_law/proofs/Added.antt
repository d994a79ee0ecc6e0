-- A change that replaces no cell: nobody loses a need.
use Rattle.std.proofs.Common.{◌≡◌, refl, sym, ◌∙◌, ap, subst, arith, ℕ, ◌⊎◌, inl, inr, true, false, not, true≢false, List, [], ◌∷◌, map, Option, Some, None, Ok}
use Rattle.std.specs.Prelude.{filter, is_none, is_some, nat_lt, nat_le}
use Rattle.std.specs.List.{list_all}
use Rattle.std.proofs.lemmas.Bool.{and_parts, ltb-true, leb-true}
use Rattle.cell_num.specs.Lists.{holds, first, or_else, In}
use Rattle.cell_world.specs.World.{World, Cell}
use Rattle.cell_world.specs.Names.{needs_of, provider_of}
use Rattle.cell_world.specs.Gather.{Need, Source, first_lack, fresh_cells, lacks_of}
use Rattle.cell_world.specs.Placed.Place.{place_all}
use Rattle.cell_world.specs.Coherent.{AreSound, IsCoherent, is_known_cell, is_supplied}
use Rattle.cell_num.proofs.Elements.{Has, all-In, In-all, In-append, In-filtered, filter-Passes, filter_none, some_has}
use Rattle.cell_lemmas.proofs.Naming.Known.{known_parts}
use Rattle.cell_lemmas.proofs.Naming.Attach.{provider_grown}
use Rattle.cell_lemmas.proofs.Naming.Gathered.{Extends, extends_grows}
use Rattle.cell_world.specs.Change.{Change, old_of, swapped_out, gather, is_bystander, first_uncovered}
use Rattle.cell_lemmas.specs.Grown.{HasAttached}
use Rattle.cell_change_law.specs.Sound.{IsSound}
use Rattle.cell_change_law.proofs.Gathering.{at, base_world, all_gathered}
use Rattle.cell_change_law.proofs.Placing.{behind}

nothing_lacks : (w : World) (c : Cell) → is_supplied w c ≡ true → lacks_of w c ≡ []
nothing_lacks w c e =
    ap (λ (names : List (List ℕ)). map (λ name. let n : Need = record { cell = c; name = name } in n) names)
    (filter_none (λ name. is_none (provider_of w c name)) (needs_of c.object) (λ name i. given (provider_of w c name) (all-In (λ n. is_some (provider_of w c n)) (needs_of c.object) e name i)))
  where
    given : {X : Type 0} (o : Option X) → is_some o ≡ true → is_none o ≡ false
    given None e = absurd (true≢false (sym e))
    given (Some x) e = refl

none_lack : (w : World) (cells : List Cell) → ((c : Cell) → In c cells → is_supplied w c ≡ true) → first_lack w cells ≡ None
none_lack w [] f = refl
none_lack w (c ∷ cells) f = ap (λ (xs : List Need). or_else (first xs) (first_lack w cells)) (nothing_lacks w c (f c (inl refl))) ∙ none_lack w cells (λ d i. f d (inr i))

module _ (sources : List Source) (sound : AreSound sources) (v : World) (h : IsCoherent v) (asked : Change) (good : IsSound sources v asked) (none : old_of asked ≡ []) (g : World) (gathering : gather sources v asked ≡ Ok g) where
  same_base : base_world sources sound v h asked good ≡ v
  same_base = (at sources sound v h asked good).is ∙ ap (swapped_out v) none

  extends : Extends v g
  extends = subst (λ (u : World). Extends u g) same_base (all_gathered sources sound v h asked good g gathering).0.0.1

  -- who was there has what it had
  pub adding_covered : first_uncovered v asked g ≡ None
  adding_covered = none_lack g (filter (is_bystander v asked) g.cells) (λ c i.
      supplied c (In-append v.cells extends.new c (subst (λ (u : World). In c u.cells) (sym extends.is) (In-filtered (is_bystander v asked) g.cells c i)))
      (and_parts (nat_lt c.id.0 v.next_cell) (not (holds (old_of asked) c.id.0)) (filter-Passes (is_bystander v asked) g.cells c i)).0)
    where
      still : (c : Cell) → In c v.cells → is_supplied g c ≡ true
      still c i = all_of (needs_of c.object) (λ name j.
          let had : Has (provider_of v c name) = some_has (provider_of v c name) (all-In (λ n. is_some (provider_of v c n)) (needs_of c.object) (all-In (is_supplied v) v.cells h.ready.supplied c i) name j) in
          let has : Has (provider_of g c name) = provider_grown v g (extends_grows v g extends) c.standing c.ns (known_parts v c (all-In (is_known_cell v) v.cells h.ready.cells c i)).ns name had in
          ap is_some has.1)
        where
          all_of : (names : List (List ℕ)) → ((name : List ℕ) → In name names → is_some (provider_of g c name) ≡ true) → list_all (λ name. is_some (provider_of g c name)) names ≡ true
          all_of names f = In-all (λ name. is_some (provider_of g c name)) names f

      supplied : (c : Cell) → In c v.cells ⊎ In c extends.new → nat_lt c.id.0 v.next_cell ≡ true → is_supplied g c ≡ true
      supplied c (inl i) e = still c i
      supplied c (inr i) e = absurd (omega (arith, ltb-true c.id.0 v.next_cell e, leb-true v.next_cell c.id.0 (all-In (λ (y : Cell). nat_le v.next_cell y.id.0) extends.new extends.fresh c i)))

  -- the new cells stand attached behind the others
  pub adding_attached : (w : World) → place_all g (fresh_cells v.next_cell g) ≡ Ok w → HasAttached v w (fresh_cells v.next_cell w)
  adding_attached w placing = subst (λ (u : World). HasAttached u w (fresh_cells v.next_cell w)) same_base (behind sources sound v h asked good g gathering w placing)
