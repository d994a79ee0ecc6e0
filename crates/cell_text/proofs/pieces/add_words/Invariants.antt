use Rattle.std.proofs.Common.{◌≡◌, ◌≤◌, ◌-◌, ◌++◌, map, take, drop, All}
use Rattle.std.specs.Prelude.{filter}
use Rattle.cell_text.specs.Text.{pieces, separates, words_of, is_filled, is_filled_span, spans_of, text_at, places, IsInside}
use Rattle.cell_text.specs.declared.pieces.Separator.TheVariants.{Blank}
use Rattle.cell_text.proofs.Splits.{glue}
use Rattle.cell_text.proofs.pieces.add_words.Given as goal

-- the places so far, and those of the piece that is open and of the pieces of what is left, are all
abbrev pub invariant-loop-byte : goal.invariant-loop-byte
invariant-loop-byte l = record {
  spans : l.into.items ++ filter is_filled_span (places l.start (glue (take (l.end - l.start) (drop l.start l.line)) (pieces (separates Blank) (drop l.end l.line)))) ≡ spans_of l.line;
  texts : map (text_at l.line) l.into.items ++ filter is_filled (glue (take (l.end - l.start) (drop l.start l.line)) (pieces (separates Blank) (drop l.end l.line))) ≡ words_of l.line;
  inside : All (IsInside l.line) l.into.items;
  begun : l.start ≤ l.end;
  at : l.end ≡ l.byte-index;
}
