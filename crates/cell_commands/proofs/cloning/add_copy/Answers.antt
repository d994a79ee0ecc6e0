use Rattle.std.proofs.Common.{sym, ◌∙◌}
use Rattle.cell_commands.proofs.CopiedCells.{none_copied, one_copied}
use Rattle.cell_commands.proofs.cloning.add_copy.Goals as goal

pub returns-in_ok-push : goal.returns-in_ok-push
returns-in_ok-push c d i same =
    one_copied c.args.from c.args.to d c.args.cell.now same (sym (c.is_in.ensures d i same) ∙ c.if-is_in.true) c.args.copies.now.items _ c.in_ok-push.ensures.items

pub returns-else-is_in : goal.returns-else-is_in
returns-else-is_in c d i same = none_copied c.args.from c.args.to d (sym (c.is_in.ensures d i same) ∙ c.if-is_in.false) c.args.copies.now.items
