use Rattle.std.proofs.Common.{◌≡◌, [], length}
use Rattle.cell_elfw.specs.Drafts.{AreTables}
use Rattle.cell_elfw.proofs.tables.by_section.Given as goal

-- so many tables, which are empty
abbrev pub invariant-loop : goal.invariant-loop
invariant-loop l = record {
  count : length l.tables.items ≡ l.counter;
  none : AreTables (λ table. table.items) [] l.tables.items;
}
