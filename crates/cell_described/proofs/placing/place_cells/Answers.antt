use Rattle.std.proofs.Common.{◌<◌, ◌++◌, ◌∙◌, List, length, map, ap}
use Rattle.std.proofs.lemmas.List.Elements.{All-rest}
use Rattle.cell_described.specs.declared.cell.DescribedCell.{DescribedCell}
use Rattle.cell_described.specs.declared.finding.FoundCell.{FoundCell}
use Rattle.cell_described.specs.Placing.{described_of}
use Rattle.cell_described.specs.Taken.{all_free}
use Rattle.cell_described.proofs.Placements.{fault_later, one_placed}
use Rattle.cell_described.proofs.placing.place_cells.Goals as goal

pub loop-one-preserved : goal.loop-one-preserved
loop-one-preserved c =
    let placed = c.in_ok-cell.ensures {u = tt} in
    let left = c.loop-one.one-iterator.rest.items in
    let rest = c.next.new.self.rest.items in
    let next = c.in-Some.ensures.steps.0 in
    record {
      fault =
          fault_later c.args.objects.now c.in-Some.one left rest c.args.found.items next c.loop-one.taken (all_free c.args.bounds.base c.args.bounds.pages) c.loop-one.invariant.fault
          c.in_ok-cell.cell c.place_cell.new.taken placed;
      so_far =
          ap (λ (cs : List DescribedCell). cs ++ map described_of rest) (c.in_ok-push.ensures {u = tt}).items
          ∙ one_placed c.in-Some.one left rest c.args.found.items next c.in_ok-cell.cell placed.is c.loop-one.cells.items c.loop-one.invariant.so_far;
      there = All-rest (λ (f : FoundCell). f.object < length c.args.objects.now) c.in-Some.one rest left next c.loop-one.invariant.there;
    }
