use Rattle.std.proofs.Common.{◌≡◌, ◌+◌, ◌≤◌, ◌++◌, drop, length, take}
use Rattle.cell_layout.specs.Many.{with_places}
use Rattle.cell_layout.proofs.cells.settle.Given as goal

-- those so far, and those that are left once these are in their places, are all
abbrev pub invariant-loop-places : goal.invariant-loop-places
invariant-loop-places l = record {
  within : l.next + length l.places-iterator.rest.items ≤ length l.cells;
  all : take l.next l.cells ++ with_places l.places-iterator.rest.items (drop l.next l.cells) ≡ with_places l.fn.places.items l.fn.cells;
}
