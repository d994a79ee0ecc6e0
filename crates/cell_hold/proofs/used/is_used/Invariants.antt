use Rattle.std.proofs.Common.{◌≡◌}
use Rattle.cell_hold.specs.Uses.{is_used_by}
use Rattle.cell_hold.proofs.Using.{some_used}
use Rattle.cell_hold.proofs.used.is_used.Given as goal

-- those that are left decide
abbrev pub invariant-loop-link : goal.invariant-loop-link
invariant-loop-link l = some_used l.found.items l.link-iterator ≡ is_used_by l.fn.graph.rows l.found.items l.fn.section
