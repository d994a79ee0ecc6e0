use Rattle.std.proofs.Common.{◌∙◌, ◌++◌, ap, List, subst}
use Rattle.std.specs.Prelude.{flat_map}
use Rattle.std.proofs.lemmas.Result.{on_ok_weaker}
use Rattle.cell_num.specs.Lists.{In}
use Rattle.cell_world.specs.declared.state.NewCell.{NewCell}
use Rattle.cell_world.specs.declared.line.DumpLine.{DumpLine}
use Rattle.cell_machine.proofs.Looked.{cell_low}
use Rattle.cell_view.specs.Whole.{content_shown}
use Rattle.cell_view.proofs.AllLines.{all_contents}
use Rattle.cell_view.proofs.all_bytes.add_contents.Goals as goal

pub add_sections_of_cells-requires : goal.add_sections_of_cells-requires
add_sections_of_cells-requires c = λ d i. cell_low c.args.machine.now c.requires d (subst (λ (cs : List NewCell). In d cs) c.deref.ensures.value i)

pub returns : goal.returns
returns c =
    let m = c.args.machine.now in
    let old = c.args.lines.now.items in
    on_ok_weaker c.add_sections_of_cells.result
    (λ added. added ∙ ap (λ (ls : List DumpLine). old ++ ls) (ap (flat_map (λ (d : NewCell). flat_map (content_shown m.memory.regions d) d.object.sections)) c.deref.ensures.value ∙ all_contents m c.requires))
    c.add_sections_of_cells.ensures
