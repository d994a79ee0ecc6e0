use Rattle.std.proofs.Common.{List, ℕ, map, sym, ◌∙◌, ap, arith}
use Rattle.std.proofs.lemmas.List.{map-append}
use Rattle.cell_text.specs.Text.{separates}
use Rattle.cell_text.proofs.Splits.{glue-nil, closes, grows, ends}
use Rattle.cell_text.proofs.pieces.split.Goals as goal
use Rattle.cell_text.proofs.pieces.split.Goals.{then-is_separator+in_ok-push, else-is_separator}

pub loop-i-init : goal.loop-i-init
loop-i-init c = record {
  all = rw c.new-parts.ensures.items (glue-nil (separates c.args.separator) c.args.text.now);
  begun = omega arith;
}

pub loop-i-preserved : goal.loop-i-preserved
loop-i-preserved c =
    let t = c.args.text.now in
    let parts : List (List ℕ) = map (λ part. part.now) c.loop-i.parts.items in
    elim c.if-is_separator.branch [
      | then-is_separator+in_ok-push w ↦ record {
        all = rw (w.parts-is, w.start-is, w.in_ok-push.ensures.items, map-append)
            (closes (separates c.args.separator) t parts _ c.loop-i.start c.loop-i.i (omega arith) (sym c.is_separator.ensures ∙ w.if-is_separator.true) c.loop-i.invariant.all);
        begun = omega arith;
      }
      | else-is_separator w ↦ record {
        all = rw (w.parts-is, w.start-is)
            (grows (separates c.args.separator) t parts _ c.loop-i.start c.loop-i.i (omega arith) (omega arith) (sym c.is_separator.ensures ∙ w.if-is_separator.false) c.loop-i.invariant.all);
        begun = omega arith;
      }
    ]

pub returns : goal.returns
returns c =
    let t = c.args.text.now in
    let parts : List (List ℕ) = map (λ part. part.now) c.loop-i.parts.items in
    ap (λ xs. map (λ part. part.now) xs) c.in_ok-push-2.ensures.items
    ∙ map-append (λ part. part.now) c.loop-i.parts.items _
    ∙ ends (separates c.args.separator) t parts _ c.loop-i.start c.loop-i.i (omega arith) c.loop-i.invariant.all
