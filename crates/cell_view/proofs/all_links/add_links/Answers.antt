use Rattle.std.proofs.Common.{◌∙◌, ◌++◌, ap, List}
use Rattle.std.specs.Prelude.{flat_map}
use Rattle.std.proofs.lemmas.Result.{on_ok_weaker}
use Rattle.cell_world.specs.declared.line.DumpLine.{DumpLine}
use Rattle.cell_view.specs.Whole.{links_shown}
use Rattle.cell_view.proofs.EachLink.{all_links}
use Rattle.cell_view.proofs.all_links.add_links.Goals as goal

pub returns : goal.returns
returns c =
    let m = c.args.machine.now in
    let old = c.args.lines.now.items in
    on_ok_weaker c.add_links_of_cells.result
    (λ added. added ∙ ap (λ (ls : List DumpLine). old ++ ls) (ap (flat_map (links_shown m.graph.rows)) c.deref.ensures.value ∙ all_links m c.requires))
    c.add_links_of_cells.ensures
