use Rattle.std.proofs.Common.{◌≡◌, ◌≤◌, ◌++◌, length, map, string_bytes}
use Rattle.std.specs.Prelude.{All}
use Rattle.cell_num.specs.Limits.{max_file_bytes, max_all_bytes}
use Rattle.cell_io.specs.Within.{IfTold}
use Rattle.cell_input.proofs.ObjectFiles.{prepend, taken_after, AreListed}
use Rattle.cell_input.proofs.folder.take_files.Given as goal

-- the files so far, and those of the names that are left, are what all names give
abbrev pub invariant-loop-name : goal.invariant-loop-name
invariant-loop-name g l = record {
  taken : IfTold (g.H.Host.files l.fn.host) (λ all. prepend l.files.items (taken_after l.why l.total l.dir l.name-iterator all) ≡ taken_after l.why 0 l.dir l.objects.keys all);
  listed : IfTold (g.H.Host.files l.fn.host) (λ all. AreListed l.dir l.name-iterator all);
  small : All (λ f. length f.bytes ≤ max_file_bytes) l.files.items;
  names : map (λ f. f.name) l.files.items ++ map string_bytes l.name-iterator ≡ map string_bytes l.objects.keys;
  total : l.total ≤ max_all_bytes;
  files : g.H.Host.files l.host ≡ g.H.Host.files l.fn.host;
  later : g.H.Host.faults l.fn.host ≤ g.H.Host.faults l.host;
}
