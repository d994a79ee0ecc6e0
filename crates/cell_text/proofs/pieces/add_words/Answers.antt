use Rattle.std.proofs.Common.{get_or, sym, ◌∙◌, arith}
use Rattle.cell_text.specs.Text.{separates}
use Rattle.cell_text.specs.declared.pieces.Separator.TheVariants.{Blank}
use Rattle.cell_text.proofs.Spans.{span_closes, span_grows, word_closes, word_grows, inside_more, inside_last}
use Rattle.cell_text.proofs.pieces.add_words.Goals as goal
use Rattle.cell_text.proofs.pieces.add_words.Goals.{then-is_separator+in_ok-add_filled, else-is_separator}

pub loop-byte-preserved : goal.loop-byte-preserved
loop-byte-preserved c =
    let t = c.args.line.now in
    let h = c.loop-byte.invariant in
    let start = c.loop-byte.start in
    let i = c.loop-byte.end in
    elim c.if-is_separator.branch [
      | then-is_separator+in_ok-add_filled w ↦
          let here = (λ k. separates Blank (get_or t (h.at k) 0)) ∙ sym c.is_separator.ensures ∙ w.if-is_separator.true in
          record {
            spans = rw (w.into-is, w.start-is, w.in_ok-add_filled.ensures {u = tt}) (span_closes (separates Blank) t _ _ start i (omega arith) h.begun here h.spans);
            texts = rw (w.into-is, w.start-is, w.in_ok-add_filled.ensures {u = tt}) (word_closes (separates Blank) t _ _ start i (omega arith) h.begun here h.texts);
            inside = rw (w.into-is, w.in_ok-add_filled.ensures {u = tt}) (inside_more t _ start i h.begun (omega arith) h.inside);
            begun = omega arith;
            at = omega arith;
          }
      | else-is_separator w ↦
          let plain = (λ k. separates Blank (get_or t (h.at k) 0)) ∙ sym c.is_separator.ensures ∙ w.if-is_separator.false in
          record {
            spans = rw (w.into-is, w.start-is) (span_grows (separates Blank) t _ _ start i (omega arith) h.begun plain h.spans);
            texts = rw (w.into-is, w.start-is) (word_grows (separates Blank) t _ _ start i (omega arith) h.begun plain h.texts);
            inside = rw w.into-is h.inside;
            begun = omega arith;
            at = omega arith;
          }
    ]

pub returns-clause-inside : goal.returns-clause-inside
returns-clause-inside c =
    let h = c.loop-byte.invariant in
    inside_last c.add_filled-2.result c.args.line.now c.loop-byte.into.items c.add_filled-2.new.into.items c.loop-byte.start c.loop-byte.end h.begun (omega arith) h.inside c.add_filled-2.ensures
