use Rattle.std.proofs.Common.{◌∙◌, ap, sym}
use Rattle.std.specs.Prelude.{Some}
use Rattle.cell_view.proofs.PresentCells.{can_show}
use Rattle.cell_view.proofs.Showing.{shown_by_place}
use Rattle.cell_view.proofs.overview.map_cell.Goals as goal

pub ns_name-requires : goal.ns_name-requires
ns_name-requires c = (can_show c.args.machine.now c.requires.sound c.args.cell.now c.requires.there).ns

pub map_sections-requires : goal.map_sections-requires
map_sections-requires c = (can_show c.args.machine.now c.requires.sound c.args.cell.now c.requires.there).ordered

pub returns : goal.returns
returns c = λ d i same.
    shown_by_place c.args.machine.now d c.args.cell.now same _ _ _ _ _ (c.ns_name.ensures ∙ ap Some (sym c.in_ok-copy.ensures)) c.in_ok-copy-2.ensures c.in_ok-copy-3.ensures (c.group.ensures d i same) (c.from_vec.ensures ∙ c.in_ok-map_sections.ensures)
