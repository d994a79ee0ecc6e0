use Rattle.std.proofs.Common.{◌≡◌, ◌≤◌, filter, length, not, take, vec_capacity}
use Rattle.cell_hold.specs.Adds.{has_cell}
use Rattle.cell_hold.proofs.others.put_unfound.Given as goal

abbrev pub invariant-loop-index : goal.invariant-loop-index
invariant-loop-index l = record {
  items : l.sorted.items ≡ filter (λ s. not (has_cell l.found.items s.key.cell.0)) (take l.index l.places);
  few : length l.sorted.items ≤ l.index;
  room : vec_capacity l.fn.sorted ≤ vec_capacity l.sorted;
}
