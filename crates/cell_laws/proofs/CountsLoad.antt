-- New cells are appended one by one, and placing leaves their numbers.
use Rattle.std.proofs.Common.{◌≡◌, refl, sym, ◌∙◌, ap, subst, arith, ℕ, suc, List, [], ◌∷◌, length, Ok}
use Rattle.std.specs.Prelude.{nat_le, nat_lt}
use Rattle.std.proofs.lemmas.Bool.{ltb-true}
use Rattle.std.proofs.lemmas.List.{length-map, map-append}
use Rattle.cell_world.specs.World.{World, Cell}
use Rattle.cell_world.specs.Answer.{numbers_of}
use Rattle.cell_world.specs.Gather.{Source, append_cell, bring, new_cell}
use Rattle.cell_world.specs.declared.refusal.Many.TheVariants.{Cells, CellNumbers}
use Rattle.cell_world.specs.declared.refusal.Refusal.TheVariants.{TooMany}
use Rattle.cell_world.specs.Change.{Copy, append_copy, copy_of}
use Rattle.cell_world.specs.Outcome.{need}
use Rattle.cell_num.specs.Limits.{max_cell_number, max_cells}
use Rattle.cell_world.specs.Placed.Place.{place_all, place_cell}
use Rattle.cell_lemmas.proofs.Naming.Appended.{Appended, append_ok, ok_same}
use Rattle.cell_lemmas.proofs.Outcomes.{need_ok, then_ok}
use Rattle.cell_lemmas.proofs.Naming.Brought.{brought}
use Rattle.cell_lemmas.proofs.Placement.PlacedAll.{CellRuns, cell_runs, each_keeps}
use Rattle.cell_lemmas.proofs.Naming.Renamed.{bare_with_places}
use Rattle.cell_laws.proofs.Counted.{Counted, CountedIn, numbers_mapped, one_more}

module _ {from had : ℕ} where
  pub append_counted : (u : World) (f : Source) (ns : ℕ) (v : World) → append_cell u f ns ≡ Ok v → CountedIn from had u → CountedIn from had v
  append_counted u f ns v e c =
      let a : Appended u f ns v = append_ok u f ns v e in
      subst (CountedIn from had) a.is
      (subst (λ (numbers : List ℕ). Counted from had numbers (suc u.next_cell)) (sym (map-append (λ (c : Cell). c.id.0) u.cells (new_cell u ns f a.object ∷ [])))
      (one_more (numbers_of u.cells) u.next_cell (omega (arith, length-map u.cells (λ (c : Cell). c.id.0), ltb-true (length u.cells) max_cells a.room)) c))

  pub copy_counted : (u : World) (copy : Copy) (v : World) → append_copy u copy ≡ Ok v → CountedIn from had u → CountedIn from had v
  copy_counted u copy v e c =
      let a = then_ok (need (nat_lt (length u.cells) max_cells) (TooMany Cells max_cells)) _ v e in
      let b = then_ok (need (nat_le u.next_cell max_cell_number) (TooMany CellNumbers max_cell_number)) _ v a.2 in
      subst (CountedIn from had) (ok_same _ v b.2)
      (subst (λ (numbers : List ℕ). Counted from had numbers (suc u.next_cell)) (sym (map-append (λ (c : Cell). c.id.0) u.cells (copy_of u copy ∷ [])))
      (one_more (numbers_of u.cells) u.next_cell (omega (arith, length-map u.cells (λ (c : Cell). c.id.0), ltb-true (length u.cells) max_cells (need_ok _ _ a.0 a.1))) c))

  pub bring_counted : (sources : List Source) (u v : World) → bring sources from u ≡ Ok v → CountedIn from had u → CountedIn from had v
  bring_counted sources u v e c =
      (brought sources from (CountedIn from had) (λ x f ns y i there k p. append_counted x f ns y k p) (suc max_cells) u v (omega (arith, c.few, length-map u.cells (λ (c : Cell). c.id.0))) (omega arith) e c).0

  -- placing leaves the numbers
  pub placed_counted : (u : World) (cells : List Cell) (v : World) → place_all u cells ≡ Ok v → CountedIn from had u → Counted from had (numbers_of v.cells) u.next_cell
  placed_counted u cells v e c =
      subst (λ (numbers : List ℕ). Counted from had numbers u.next_cell)
      (sym (each_keeps (λ (x : World). numbers_of x.cells ≡ numbers_of u.cells) place_cell (λ x c y k same. one_placed x c y k ∙ same) cells u v e refl)) c
    where
      one_placed : (x : World) (c : Cell) (y : World) → place_cell x c ≡ Ok y → numbers_of y.cells ≡ numbers_of x.cells
      one_placed x c y k =
          let r : CellRuns x c y = cell_runs x c y k in
          ap (λ (z : World). numbers_of z.cells) (sym r.is) ∙ numbers_mapped _ (λ d. ap (λ (z : Cell). z.id.0) (bare_with_places c.id.0 _ d)) x.cells
