use Rattle.std.proofs.Common.{◌≡◌, ◌<◌, ◌+◌, ◌^◌, ◌∙◌, ◌++◌, ◌∷◌, [], length, length-drop, take, drop, ap, arith}
use Rattle.std.proofs.lemmas.Bool.Decides.{nat_tests}
use Rattle.cell_world.specs.declared.line.DumpLine.{DumpLine}
use Rattle.cell_world.specs.DumpLines.{content_lines}
use Rattle.cell_view.proofs.ContentLines.{drop_front, end_stays, lines_done, one_line, room_before, take_front}
use Rattle.cell_view.proofs.all_bytes.add_content.Goals as goal

pub overflow_add-addr : goal.overflow_add-addr
overflow_add-addr c =
    let rest = c.loop-rest.rest.now in
    let some : 0 < length rest = grind (arith, nat_tests) in
    let room : c.loop-rest.addr + 64 < 2 ^ 64 = room_before c.loop-rest.addr (length rest) c.args.start (length c.args.bytes.now) some c.requires.low c.requires.few c.loop-rest.invariant.ends in
    omega (arith, room)

pub loop-rest-preserved : goal.loop-rest-preserved
loop-rest-preserved c =
    let rest = c.loop-rest.rest.now in
    let some : 0 < length rest = grind (arith, nat_tests) in
    let front : c.split_at.result.0.now ≡ take 64 rest = c.split_at.ensures.front ∙ ap (λ k. take k rest) c.min.ensures ∙ take_front 64 rest in
    let later : c.split_at.result.1.now ≡ drop 64 rest = c.split_at.ensures.back ∙ ap (λ k. drop k rest) c.min.ensures ∙ drop_front 64 rest in
    record {
      all = one_line c.args.at c.loop-rest.addr rest c.split_at.result.0.now c.split_at.result.1.now c.loop-rest.lines.items _ (c.args.lines.now.items ++ content_lines c.args.at c.args.start c.args.bytes.now) some front later
          (c.in_ok-push.ensures.items ∙ ap (λ (x : DumpLine). c.loop-rest.lines.items ++ x ∷ []) c.in_ok-content_line.ensures) c.loop-rest.invariant.all;
      ends = end_stays c.loop-rest.addr (length rest) (length c.split_at.result.1.now) _ some (ap length later ∙ length-drop 64 rest) c.loop-rest.invariant.ends;
    }

pub returns : goal.returns
returns c =
    let none : length c.loop-rest.rest.now ≡ 0 = grind (arith, nat_tests) in
    lines_done c.args.at c.loop-rest.addr c.loop-rest.rest.now c.loop-rest.lines.items _ none c.loop-rest.invariant.all
