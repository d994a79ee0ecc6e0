use Rattle.std.proofs.Common.{◌∙◌, ◌∷◌, [], ◌++◌, ap, arith, map}
use Rattle.cell_num.specs.Lists.{numbered}
use Rattle.cell_world.specs.declared.line.DumpLine.{DumpLine}
use Rattle.cell_world.specs.DumpLines.{ns_line}
use Rattle.cell_view.proofs.Behind.{numbered_over}
use Rattle.cell_view.proofs.all_spaces.add_namespaces.Goals as goal

pub loop-number-preserved : goal.loop-number-preserved
loop-number-preserved c =
    numbered_over ns_line c.args.spaces.now c.loop-number.number c.index-spaces-number.result c.loop-number.lines.items _ (c.args.lines.now.items ++ map ns_line (numbered c.args.spaces.now)) (omega arith) c.index-spaces-number.is
    (c.in_ok-push.ensures.items ∙ ap (λ (x : DumpLine). c.loop-number.lines.items ++ x ∷ []) c.in_ok-ns_line.ensures) c.loop-number.invariant
