use Rattle.std.proofs.Common.{ap, sym, [], ◌∙◌}
use Rattle.std.specs.Prelude.{Option}
use Rattle.std.specs.List.{cons_option}
use Rattle.cell_world.specs.declared.line.DumpLine.{DumpLine}
use Rattle.cell_compared.specs.Left.{left}
use Rattle.cell_compared.specs.Walk.{walk}
use Rattle.cell_compared.proofs.Walking.{walk_none}
use Rattle.cell_compared.proofs.name_lines.expect_name.Goals as goal

pub returns-in-None : goal.returns-in-None
returns-in-None c = λ symbol.
    ap (λ (o : Option DumpLine). walk (left c.args.cursor.now) (cons_option o [])) (sym c.in_ok-line.ensures ∙ c.in-None.is) ∙ walk_none (left c.args.cursor.now)
