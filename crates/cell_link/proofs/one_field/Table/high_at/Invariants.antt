use Rattle.std.proofs.Common.{◌≡◌, None, take}
use Rattle.std.specs.Prelude.{find}
use Rattle.cell_link.specs.Linked.{bound_in}
use Rattle.cell_link.specs.Tables.{is_high_at}
use Rattle.cell_link.proofs.one_field.Table.high_at.Given as goal

abbrev pub invariant-loop-index : goal.invariant-loop-index
invariant-loop-index l = find (is_high_at l.label) (take l.index (bound_in l.self.cell.now l.self.targets.now)) ≡ None
