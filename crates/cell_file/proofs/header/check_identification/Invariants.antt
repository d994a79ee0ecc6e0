use Rattle.std.proofs.Common.{◌≡◌, Ok}
use Rattle.std.specs.List.{flat_map}
use Rattle.cell_object.specs.Bytes.{checked, between}
use Rattle.cell_object.specs.Header.{rule_2_at}
use Rattle.cell_file.proofs.header.check_identification.Given as goal

abbrev pub invariant-loop-i : goal.invariant-loop-i
invariant-loop-i l = checked (flat_map (rule_2_at l.bytes) (between 0 l.i)) ≡ Ok tt
