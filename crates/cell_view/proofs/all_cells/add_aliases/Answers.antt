use Rattle.std.proofs.Common.{◌∙◌, ap, List}
use Rattle.std.proofs.lemmas.Result.{on_ok_weaker}
use Rattle.std.specs.Prelude.{filter, length}
use Rattle.cell_object.specs.declared.object.Symbol.{Symbol}
use Rattle.cell_world.specs.Names.{is_definition}
use Rattle.cell_view.proofs.CellLines.{aliases_added}
use Rattle.cell_view.proofs.all_cells.add_aliases.Goals as goal

pub returns : goal.returns
returns c =
    on_ok_weaker c.add_names_from.result
    (λ added. λ d i same.
    aliases_added d c.args.cell.now same c.names_of-names.result.now c.definition_count-first.result c.args.lines.now.items _ (c.names_of-names.ensures d i same)
    (c.definition_count-first.ensures ∙ ap (λ (xs : List Symbol). length (filter is_definition xs)) c.as_slice.ensures) added)
    c.add_names_from.ensures
