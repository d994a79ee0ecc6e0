use Rattle.std.proofs.Common.{◌≡◌, ◌++◌, map}
use Rattle.cell_world.specs.Gather.{source_of}
use Rattle.cell_described.proofs.Founds.{IsFinding}
use Rattle.cell_described.proofs.finding.find_objects.Given as goal

-- the cells so far have objects
abbrev pub invariant-loop-cell : goal.invariant-loop-cell
invariant-loop-cell l = record {
  so_far : map (λ f. f.cell) l.found.items ++ l.cell-iterator.rest.items ≡ l.fn.cells.items;
  finding : IsFinding (map source_of l.depot) l.objects l.found.items;
}
