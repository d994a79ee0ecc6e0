use Rattle.std.proofs.Common.{◌≡◌, ◌-◌, ◌≤◌, ◌++◌, length, take, drop}
use Rattle.cell_world.specs.Names.{base_name}
use Rattle.cell_space.proofs.symbol_name.base_name.Given as goal

-- no hash so far
abbrev pub invariant-loop-place : goal.invariant-loop-place
invariant-loop-place l = record {
  inside : l.place ≤ length l.name;
  text : take l.place l.name ++ base_name (drop l.place l.name) ≡ base_name l.name;
}

abbrev pub decreases-loop-place : goal.decreases-loop-place
decreases-loop-place l = length l.name - l.place
