use Rattle.std.proofs.Common.{◌≡◌, ◌-◌, ◌≤◌, length, take, drop}
use Rattle.cell_world.specs.Names.{crate_of}
use Rattle.cell_space.proofs.Crates.{crate_after}
use Rattle.cell_space.proofs.symbol_name.crate_of.Given as goal

-- there is none so far
abbrev pub invariant-loop-place : goal.invariant-loop-place
invariant-loop-place l = record {
  inside : l.place ≤ length l.name;
  text : crate_after (take l.place l.name) (drop l.place l.name) ≡ crate_of l.name;
}

abbrev pub decreases-loop-place : goal.decreases-loop-place
decreases-loop-place l = length l.name - l.place
