use Rattle.std.proofs.Common.{rules, ◌≡◌, ◌∙◌, ◌==◌, ◌++◌, List, Option, ap, filter, filter_map, sym}
use Rattle.cell_world.specs.declared.reply.LinkLine.{LinkLine}
use Rattle.cell_world.specs.declared.state.LinkRow.{LinkRow}
use Rattle.cell_world.specs.Commands.LinkCommands.{link_line}
use Rattle.cell_machine.specs.Machine.{world_of}
use Rattle.cell_view.proofs.Gathering.{line_over, lines_end}
use Rattle.cell_view.proofs.links.deps_lines.Goals as goal

pub loop-link-init : goal.loop-link-init
loop-link-init c =
    let same : c.into_iter-link-iterator.result ≡ c.deps_of_cell-links.result = search rules in
    let f : LinkRow → Option LinkLine = link_line (world_of c.args.machine.now) in
    ap (filter_map f) (sym (same ∙ c.deps_of_cell-links.ensures)) ∙ ap (λ (lines : List LinkLine). lines ++ filter_map f c.into_iter-link-iterator.result) (sym c.new-lines.ensures.items)

pub loop-link-preserved : goal.loop-link-preserved
loop-link-preserved c =
    line_over (link_line (world_of c.args.machine.now)) (filter_map (link_line (world_of c.args.machine.now)) (filter (λ r. r.user.cell.0 == c.args.cell.0) c.args.machine.now.graph.rows)) _ _ _ _
    c.in-Some.link c.in-Some.ensures.steps c.in_ok-add_line.ensures c.loop-link.invariant

pub returns : goal.returns
returns c =
    lines_end (link_line (world_of c.args.machine.now)) (filter_map (link_line (world_of c.args.machine.now)) (filter (λ r. r.user.cell.0 == c.args.cell.0) c.args.machine.now.graph.rows)) _ _
    c.in-None.ensures.steps.0 c.loop-link.invariant
