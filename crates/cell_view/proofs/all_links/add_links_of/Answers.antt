use Rattle.std.proofs.Common.{rules, ◌≡◌, ◌∙◌, ◌==◌, ◌∷◌, [], ◌++◌, List, ap, filter, map, sym}
use Rattle.cell_world.specs.declared.state.LinkRow.{LinkRow}
use Rattle.cell_world.specs.declared.line.DumpLine.{DumpLine}
use Rattle.cell_world.specs.DumpLines.{link_line}
use Rattle.cell_view.proofs.Behind.{item_over, items_end}
use Rattle.cell_view.proofs.all_links.add_links_of.Goals as goal

pub loop-link-init : goal.loop-link-init
loop-link-init c =
    let same : c.into_iter-link-iterator.result ≡ c.deps_of_cell-links.result = search rules in
    ap (λ (rows : List LinkRow). c.args.lines.now.items ++ map link_line rows) (sym (same ∙ c.deps_of_cell-links.ensures))

pub loop-link-preserved : goal.loop-link-preserved
loop-link-preserved c =
    item_over link_line (c.args.lines.now.items ++ map link_line (filter (λ r. r.user.cell.0 == c.args.cell.0) c.args.graph.now.rows)) _ _ _ _
    c.in-Some.link c.in-Some.ensures.steps (c.in_ok-push.ensures.items ∙ ap (λ (x : DumpLine). c.loop-link.lines.items ++ x ∷ []) c.link_line.ensures) c.loop-link.invariant

pub returns : goal.returns
returns c =
    items_end link_line (c.args.lines.now.items ++ map link_line (filter (λ r. r.user.cell.0 == c.args.cell.0) c.args.graph.now.rows)) _ _
    c.in-None.ensures.steps.0 c.loop-link.invariant
