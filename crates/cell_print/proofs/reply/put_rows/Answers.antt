use Rattle.std.proofs.Common.{◌≡◌, ◌<◌, ◌++◌, length, take, drop, sym, ap, ◌∙◌, arith, append-nil}
use Rattle.std.proofs.lemmas.Bool.Decides.{nat_tests}
use Rattle.cell_print.specs.Lines.{row}
use Rattle.cell_print.proofs.Growth.{one_row, rows_end, extends_more, take_front, drop_front}
use Rattle.cell_print.proofs.reply.put_rows.Goals as goal

pub loop-rest-preserved : goal.loop-rest-preserved
loop-rest-preserved c =
    let rest = c.loop-rest.rest.now in
    let some : 0 < length rest = grind (arith, nat_tests) in
    let said : c.as_slice.result.now ≡ row c.loop-rest.addr c.split_at.result.0.now =
    c.as_slice.ensures.value ∙ c.in_ok-put_row.ensures ∙ ap (λ v. v ++ row c.loop-rest.addr c.split_at.result.0.now) c.clear.ensures.items in
    record {
      all = one_row c.loop-rest.into.items _ _ c.as_slice.result.now c.loop-rest.addr rest c.split_at.result.0.now c.split_at.result.1.now some
          (c.split_at.ensures.front ∙ ap (λ k. take k rest) c.min.ensures ∙ take_front 16 rest)
          (c.split_at.ensures.back ∙ ap (λ k. drop k rest) c.min.ensures ∙ drop_front 16 rest)
          said c.in_ok-extend_from_slice.ensures.items c.loop-rest.invariant.all;
      extends = extends_more c.args.into.now.items c.loop-rest.into.items _ c.as_slice.result.now c.loop-rest.invariant.extends c.in_ok-extend_from_slice.ensures.items;
    }

pub returns-clause-ok : goal.returns-clause-ok
returns-clause-ok c =
    let none : length c.loop-rest.rest.now ≡ 0 = grind (arith, nat_tests) in
    sym (append-nil c.loop-rest.into.items)
    ∙ ap (λ v. c.loop-rest.into.items ++ v) (sym (rows_end c.loop-rest.addr c.loop-rest.rest.now none))
    ∙ c.loop-rest.invariant.all
