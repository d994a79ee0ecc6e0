use Rattle.std.proofs.Common.{◌≡◌, map, take}
use Rattle.cell_text.specs.Text.{text_at}
use Rattle.cell_script.proofs.read.texts_at.Given as goal

-- the texts of the places so far
abbrev pub invariant-loop-span : goal.invariant-loop-span
invariant-loop-span l = map (λ text. text.now) l.texts.items ≡ map (text_at l.line) (take l.span-index l.spans)
