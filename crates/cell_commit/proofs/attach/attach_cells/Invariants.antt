use Rattle.std.proofs.Common.{◌≡◌, ◌≤◌, ◌+◌, ◌++◌, length, map}
use Rattle.cell_commit.specs.Cells.{AreFree, arrived, name_count}
use Rattle.cell_commit.proofs.attach.attach_cells.Given as goal

-- the cells so far, with those that are left, are as they are to be
abbrev pub invariant-loop-newcomer : goal.invariant-loop-newcomer
invariant-loop-newcomer l = record {
  cells : l.spaces.cells ++ map arrived l.newcomer-iterator.rest.items ≡ l.fn.spaces.cells ++ map arrived l.fn.newcomers.items;
  namespaces : l.spaces.namespaces ≡ l.fn.spaces.namespaces;
  free : AreFree l.spaces.namespaces l.spaces.cells l.newcomer-iterator.rest.items;
  room : length l.newcomer-iterator.rest.items ≤ l.spaces.spare_cells;
  room_for_names : length l.newcomer-iterator.rest.items + name_count l.newcomer-iterator.rest.items ≤ l.spaces.spare_names;
}
