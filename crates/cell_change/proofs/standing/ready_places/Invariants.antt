use Rattle.std.proofs.Common.{◌≡◌, drop, length, map, take}
use Rattle.std.specs.Prelude.{flat_map}
use Rattle.cell_change.specs.Planning.{place_if_ready}
use Rattle.cell_change.proofs.standing.ready_places.Given as goal

-- the tasks so far, and the numbers that are left
abbrev pub invariant-loop-number : goal.invariant-loop-number
invariant-loop-number l = record {
  so_far : l.places.items ≡ flat_map place_if_ready (take (length l.yielded) l.tasks.tasks);
  left : l.number-iterator ≡ drop (length l.yielded) (map (λ t. t.number) l.tasks.tasks);
}
