use Rattle.std.proofs.Common.{◌++◌, ◌∷◌, [], refl, sym, ◌∙◌, subst, arith}
use Rattle.std.proofs.lemmas.Result.{err_from_is_err_and}
use Rattle.cell_audit.specs.declared.order.Known.{Known}
use Rattle.cell_audit.specs.Reader.{IsKept}
use Rattle.cell_audit.specs.Within.{texts_of}
use Rattle.cell_audit.proofs.Keeping.{kept_nothing, kept_tells}
use Rattle.cell_audit.proofs.Rows.{goes_last, inside_there, so_far_more, stops_last, stops_there}
use Rattle.cell_audit.proofs.read.read_lines.Goals as goal

pub loop-len-init : goal.loop-len-init
loop-len-init c = record {
  so_far = record {
    rows = [];
    kept = subst (λ (known : Known). IsKept c.args.file.now [] known c.nothing-2.result) (sym c.nothing.ensures) (kept_nothing c.args.file.now c.args.lines c.nothing-2.result c.nothing-2.ensures);
    same = refl;
  };
  lines_are = c.nothing-2.ensures.lines_are;
  forward = c.requires.within.forward;
  numbers = c.requires.within.numbers;
}

pub returns-in_err-take_line-clause-unread : goal.returns-in_err-take_line-clause-unread
returns-in_err-take_line-clause-unread c =
    let p = err_from_is_err_and c.from_residual.result c.from_residual.ensures.1 in
    let i = c.loop-len.invariant in
    let file = c.args.file.now in
    let start = c.loop-len.start in
    let end = c.args.lines.end in
    rw (p.1, p.2)
    (stops_there file (texts_of file c.args.lines) c.loop-len.reader c.loop-len.number start c.in-Some.len end c.in_err-take_line.field-0.0 i.so_far
    (inside_there file start c.in-Some.len end i.forward c.in-Some.ensures.inside) (sym c.in-Some.ensures.place) (c.in_err-take_line.ensures.unread i.so_far.rows i.so_far.kept))

pub loop-len-preserved : goal.loop-len-preserved
loop-len-preserved c =
    let i = c.loop-len.invariant in
    let file = c.args.file.now in
    let start = c.loop-len.start in
    let end = c.args.lines.end in
    let inside = inside_there file start c.in-Some.len end i.forward c.in-Some.ensures.inside in
    let numbers = i.numbers in
    record {
      so_far =
          so_far_more file (texts_of file c.args.lines) c.loop-len.reader c.take_line.new.self c.loop-len.number start c.in-Some.len end i.so_far
          inside (sym c.in-Some.ensures.place) (c.in_ok-take_line.ensures.read i.so_far.rows i.so_far.kept);
      lines_are = c.in_ok-take_line.ensures.lines ∙ i.lines_are;
      forward = omega (arith, inside);
      numbers = omega (arith, numbers);
    }

pub returns-in_err-take_line-2-clause-unread : goal.returns-in_err-take_line-2-clause-unread
returns-in_err-take_line-2-clause-unread c =
    let p = err_from_is_err_and c.from_residual-in_err-take_line-2.result c.from_residual-in_err-take_line-2.ensures.1 in
    let i = c.loop-len.invariant in
    let file = c.args.file.now in
    rw (p.1, p.2)
    (stops_last file (texts_of file c.args.lines) c.loop-len.reader c.loop-len.number _ c.in_err-take_line-2.field-0.0 i.so_far (sym c.in_default.ensures.place) (c.in_err-take_line-2.ensures.unread i.so_far.rows i.so_far.kept))

pub returns-clause-read : goal.returns-clause-read
returns-clause-read c =
    let i = c.loop-len.invariant in
    let file = c.args.file.now in
    let next = c.take_line-2.new.self in
    let g = c.in_ok-take_line-2.ensures.read i.so_far.rows i.so_far.kept in (
      i.so_far.rows ++ g.row ∷ [],
      goes_last file (texts_of file c.args.lines) c.loop-len.reader next c.loop-len.number _ i.so_far (sym c.in_default.ensures.place) g,
      kept_tells file (i.so_far.rows ++ g.row ∷ []) next.known next.written g.kept,
    )
