use Rattle.std.proofs.Common.{sym, ◌∙◌, ap, true, false}
use Rattle.std.specs.Prelude.{◌==◌}
use Rattle.cell_world.specs.declared.state.NewCell.{NewCell}
use Rattle.cell_commands.proofs.CopiedCells.{in_space_is}
use Rattle.cell_commands.proofs.cloning.is_in.Goals as goal

pub returns-then-is_some : goal.returns-then-is_some
returns-then-is_some c d i same = sym (in_space_is c.args.ns d c.group.result (c.group.ensures d i same) true (sym c.is_some.ensures ∙ c.if-is_some.true))

pub returns : goal.returns
returns c d i same =
    ap (λ (p : NewCell). p.ns == c.args.ns) (sym same)
    ∙ sym (in_space_is c.args.ns d c.group.result (c.group.ensures d i same) false (sym c.is_some.ensures ∙ c.if-is_some.false))
