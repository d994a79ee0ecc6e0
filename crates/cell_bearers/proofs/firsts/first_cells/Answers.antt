use Rattle.std.proofs.Common.{◌≡◌, ◌<◌, ◌+◌, ◌-◌, ◌&&◌, ◌==◌, ◌∙◌, ap, ap₂, arith, cond, drop, get_or, length, refl, sym, Bool, ℕ, Some}
use Rattle.std.specs.Prelude.{Option}
use Rattle.cell_described.specs.declared.cell.DescribedCell.{DescribedCell}
use Rattle.cell_bearers.specs.Seeing.{first_from}
use Rattle.cell_bearers.proofs.FirstSeen.{first_more, seen_here}
use Rattle.cell_bearers.proofs.firsts.first_cells.Goals as goal

pub loop-place-preserved : goal.loop-place-preserved
loop-place-preserved c =
    let cells = c.args.cells.now in
    let p = c.loop-place.place - 1 in
    let x = get_or cells (c.loop-place.place - 1) c.index-cells-place.result in
    let here = ap (λ (d : DescribedCell). get_or cells (c.loop-place.place - 1) d) c.index-cells-place.is in
    let test = c.loop-place-test.true in
    let within = c.loop-place.auto.place in
    let lt : c.loop-place.place - 1 < length cells = omega (arith, test, within) in
    let next : c.loop-place.place ≡ c.loop-place.place - 1 + 1 = omega (arith, test) in
    record {
      len = c.put_first.ensures.len ∙ c.loop-place.invariant.len;
      first = λ test are o.
          c.put_first.ensures.first o
          ∙ (ap₂ (λ (t : Bool) (r : Option ℕ). cond (t && x.object == o) (Some (c.loop-place.place - 1)) r) (seen_here test c.args.seen.now cells are (c.loop-place.place - 1) x lt here _)
          (c.loop-place.invariant.first test are o ∙ ap (λ (n : ℕ). first_from test o n (drop n cells)) next)
          ∙ sym (first_more test cells cells refl (c.loop-place.place - 1) x lt here o));
    }
