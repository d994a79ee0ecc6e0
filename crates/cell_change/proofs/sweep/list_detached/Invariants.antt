use Rattle.std.proofs.Common.{◌≡◌, ◌≤◌, take}
use Rattle.std.specs.Prelude.{flat_map, vec_capacity, vec_len}
use Rattle.cell_machine.specs.Machine.{world_of}
use Rattle.cell_change.proofs.Arrival.StillDetached.{detached}
use Rattle.cell_change.proofs.sweep.list_detached.Given as goal

-- those of the cells so far that are put aside
abbrev pub invariant-loop-place : goal.invariant-loop-place
invariant-loop-place l = record {
  cells : l.into.items ≡ flat_map detached (take l.place (world_of l.machine).cells);
  few : vec_len l.into ≤ l.place;
  room : vec_capacity l.fn.into ≤ vec_capacity l.into;
}
