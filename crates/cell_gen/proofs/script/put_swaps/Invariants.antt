use Rattle.std.proofs.Common.{◌≡◌, ◌≤◌, ◌++◌}
use Rattle.std.specs.Prelude.{flat_map}
use Rattle.cell_gen.specs.Generated.{swap_text}
use Rattle.cell_gen.proofs.Crates.{crates_before}
use Rattle.cell_gen.proofs.script.put_swaps.Given as goal

-- the lines of the crates so far
abbrev pub invariant-loop-number : goal.invariant-loop-number
invariant-loop-number l = record {
  from_one : 1 ≤ l.number;
  within : l.number ≤ l.number-end;
  text : l.text.items ≡ l.initial.text.items ++ flat_map swap_text (crates_before l.number);
}
