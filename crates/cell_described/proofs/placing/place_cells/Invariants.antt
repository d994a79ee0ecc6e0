use Rattle.std.proofs.Common.{◌≡◌, ◌<◌, ◌++◌, length, map}
use Rattle.std.specs.Prelude.{All}
use Rattle.cell_described.specs.Faults.{cells_fault}
use Rattle.cell_described.specs.Placing.{described_of}
use Rattle.cell_described.specs.Taken.{all_free}
use Rattle.cell_described.proofs.placing.place_cells.Given as goal

-- the cells so far stand, and are taken
abbrev pub invariant-loop-one : goal.invariant-loop-one
invariant-loop-one l = record {
  fault : cells_fault l.taken l.objects l.one-iterator.rest.items ≡ cells_fault (all_free l.fn.bounds.base l.fn.bounds.pages) l.objects l.fn.found.items;
  so_far : l.cells.items ++ map described_of l.one-iterator.rest.items ≡ map described_of l.fn.found.items;
  there : All (λ f. f.object < length l.objects) l.one-iterator.rest.items;
}
