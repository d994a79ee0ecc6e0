use Rattle.std.proofs.Common.{◌≤◌, ◌-◌, arith, get_or, length, List, subst}
use Rattle.std.proofs.lemmas.List.{get_or_default}
use Rattle.cell_world.specs.declared.state.Placed.{Placed}
use Rattle.cell_hold.proofs.Indexing.{no_place}
use Rattle.cell_hold.proofs.sections.highest_of.Goals as goal

pub returns : goal.returns
returns c = λ k d lt.
    let places : List Placed = c.args.places.now in
    let last = length places - 1 in
    subst (λ (s : Placed). s.key.cell.0 ≤ (get_or places last no_place).key.cell.0) (get_or_default places k no_place d lt)
    (c.requires k last no_place (omega (arith, lt)) (omega (arith, lt)))
