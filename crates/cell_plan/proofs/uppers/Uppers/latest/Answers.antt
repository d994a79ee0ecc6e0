use Rattle.std.proofs.Common.{sym, ◌∙◌}
use Rattle.cell_plan.proofs.Latest.{latest_in_range, none_in_range}
use Rattle.cell_plan.proofs.uppers.Uppers.latest.Goals as goal

pub returns-in_err-upper : goal.returns-in_err-upper
returns-in_err-upper c =
    c.from_residual.ensures
    ∙ sym (none_in_range c.args.low.now c.args.self.now.entries.now c.args.self.now.rows c.range.result c.args.self.now.are (rw (c.row_at-from.ensures, c.row_at-to.ensures) at (c.range.ensures.in_range tt)) c.in_err-upper.ensures.steps.0)

pub returns : goal.returns
returns c =
    rw c.from.ensures (sym (latest_in_range c.args.low.now c.args.self.now.entries.now c.args.self.now.rows c.range.result c.next_back.new.self c.in_ok-upper.upper.now c.args.self.now.are (rw (c.row_at-from.ensures, c.row_at-to.ensures) at (c.range.ensures.in_range tt)) c.in_ok-upper.ensures.steps))
