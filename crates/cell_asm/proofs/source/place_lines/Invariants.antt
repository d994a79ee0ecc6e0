use Rattle.std.specs.Prelude.{◌≡◌, ◌+◌, ◌≤◌}
use Rattle.cell_asm.proofs.Facts.{[], map, drop, Ok}
use Rattle.cell_asm.proofs.PlacingLemmas.{placed_from, IsPlaced}
use Rattle.cell_asm.proofs.source.place_lines.Given as goal

-- what the lines so far come to is kept
abbrev pub invariant-loop-text : goal.invariant-loop-text
invariant-loop-text l = record {
  placed : IsPlaced l.progress (l.number + 1) (map (λ text. text.now) (drop l.text-index l.texts)) (placed_from (Ok []) 1 (map (λ text. text.now) l.texts));
  counted : l.number ≡ l.text-index;
  made : l.progress.made ≤ l.number;
}
