use Rattle.std.proofs.Common.{◌≡◌, drop}
use Rattle.std.specs.Prelude.{find}
use Rattle.cell_space.specs.Index.{is_at}
use Rattle.cell_space.proofs.lookup.holder_by_walk.Given as goal

-- none so far
abbrev pub invariant-loop-cell : goal.invariant-loop-cell
invariant-loop-cell l = find (is_at l.ns l.word.kind l.word.text.now) (drop l.cell-index l.cells) ≡ find (is_at l.ns l.word.kind l.word.text.now) l.cells
