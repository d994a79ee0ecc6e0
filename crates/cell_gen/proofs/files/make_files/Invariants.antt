use Rattle.std.proofs.Common.{◌≡◌, ◌≤◌, ◌-◌, ◌*◌}
use Rattle.std.specs.Prelude.{flat_map}
use Rattle.cell_gen.specs.Generated.{files_of_crate, state_after}
use Rattle.cell_gen.proofs.Crates.{crates_before}
use Rattle.cell_gen.proofs.files.make_files.Given as goal

-- the files of the crates so far, and three draws for each
abbrev pub invariant-loop-number : goal.invariant-loop-number
invariant-loop-number l = record {
  from_one : 1 ≤ l.number;
  within : l.number ≤ l.number-end;
  crates : l.draws.crates ≡ l.crates;
  state : l.draws.state ≡ state_after l.seed (3 * (l.number - 1));
  files : l.files.items ≡ flat_map (files_of_crate l.crates l.seed) (crates_before l.number);
}
