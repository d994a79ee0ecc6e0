use Rattle.std.proofs.Common.{take}
use Rattle.cell_elfw.specs.Drafts.{AreTables}
use Rattle.cell_elfw.proofs.tables.fill.Given as goal

-- the entries so far are at their sections
abbrev pub invariant-loop-entry : goal.invariant-loop-entry
invariant-loop-entry l = AreTables (λ table. table.items) (take l.entry-index l.entries) l.tables
