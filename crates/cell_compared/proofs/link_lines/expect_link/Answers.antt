use Rattle.std.proofs.Common.{ap, map, [], ◌∙◌}
use Rattle.std.specs.List.{cons_option}
use Rattle.cell_world.specs.DumpLines.{link_line}
use Rattle.cell_world.specs.Linked.Relink.{link_to}
use Rattle.cell_world.specs.declared.state.Target.{Target}
use Rattle.cell_compared.specs.Left.{left}
use Rattle.cell_compared.specs.Walk.{walk}
use Rattle.cell_compared.proofs.Walking.{walk_none}
use Rattle.cell_compared.proofs.link_lines.expect_link.Goals as goal

pub returns-in-Number : goal.returns-in-Number
returns-in-Number c = λ d e user.
    ap (λ (t : Target). walk (left c.args.cursor.now) (map link_line (cons_option (link_to d c.args.entry e t) []))) c.in-Number.is ∙ walk_none (left c.args.cursor.now)
