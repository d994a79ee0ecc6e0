use Rattle.std.proofs.Common.{◌∙◌, ◌++◌, ap, List}
use Rattle.std.proofs.lemmas.Result.{on_ok_weaker}
use Rattle.cell_world.specs.World.{Cell, is_attached}
use Rattle.cell_world.specs.declared.line.DumpLine.{DumpLine}
use Rattle.cell_world.specs.DumpLines.{provider_lines}
use Rattle.cell_machine.specs.Machine.{world_of}
use Rattle.cell_view.proofs.Behind.{passed_over}
use Rattle.cell_view.proofs.all_names.add_providers.Goals as goal

pub returns : goal.returns
returns c =
    let w = world_of c.args.machine.now in
    let old = c.args.lines.now.items in
    on_ok_weaker c.add_names_of_cells.result
    (λ added. added ∙ ap (λ (ls : List DumpLine). old ++ ls) (passed_over (λ (d : Cell). is_attached d.standing) (provider_lines w) w.cells))
    c.add_names_of_cells.ensures
