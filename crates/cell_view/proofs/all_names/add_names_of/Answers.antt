use Rattle.std.proofs.Common.{◌∙◌, sym}
use Rattle.std.proofs.lemmas.Result.{on_ok_weaker}
use Rattle.cell_machine.specs.Machine.{world_of}
use Rattle.cell_view.proofs.CellLines.{names_added, none_shown}
use Rattle.cell_view.proofs.PresentCells.{can_show}
use Rattle.cell_view.proofs.all_names.add_names_of.Goals as goal

pub returns-then-is_some : goal.returns-then-is_some
returns-then-is_some c = λ d i same.
    none_shown (world_of c.args.machine.now) d c.group.result c.args.lines.now.items (c.group.ensures d i same) (sym c.is_some.ensures ∙ c.if-is_some.true)

pub add_names-requires-clause-there : goal.add_names-requires-clause-there
add_names-requires-clause-there c = (can_show c.args.machine.now c.requires.sound c.args.cell.now c.requires.there).ns

pub returns : goal.returns
returns c =
    on_ok_weaker c.add_names.result
    (λ added. λ d i same.
    names_added (world_of c.args.machine.now) d c.args.cell.now same c.group.result c.names_of.result.now c.args.lines.now.items _ (c.group.ensures d i same) (sym c.is_some.ensures ∙ c.if-is_some.false) (c.names_of.ensures d i same) added)
    c.add_names.ensures
