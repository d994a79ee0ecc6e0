use Rattle.std.proofs.Common.{◌≡◌, ℕ, Bool, drop, length, map}
use Rattle.cell_described.specs.declared.cell.DescribedCell.{DescribedCell}
use Rattle.cell_bearers.specs.Seeing.{first_at, first_from}
use Rattle.cell_bearers.proofs.firsts.first_cells.Given as goal

-- the first of those from there on
abbrev pub invariant-loop-place : goal.invariant-loop-place
invariant-loop-place l = record {
  len : length l.firsts.items ≡ l.objects;
  first : (test : DescribedCell → Bool) → l.seen ≡ map test l.cells → (o : ℕ) → first_at l.firsts.items o ≡ first_from test o l.place (drop l.place l.cells);
}
