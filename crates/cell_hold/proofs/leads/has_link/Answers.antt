use Rattle.std.proofs.Common.{rules, ◌≡◌, ◌∙◌, ap, List}
use Rattle.cell_world.specs.declared.state.LinkRow.{LinkRow}
use Rattle.cell_hold.proofs.Linking.{link_leads, link_passed, no_link, own_lead, some_leads}
use Rattle.cell_hold.proofs.leads.has_link.Goals as goal

pub loop-link-init : goal.loop-link-init
loop-link-init c =
    let same : c.into_iter-link-iterator.result ≡ c.deps_of_cell-links.result = search rules in
    ap (λ (rows : List LinkRow). some_leads rows c.args.cell.0) same ∙ own_lead c.args.graph.now c.args.from.0 c.args.cell.0 c.deps_of_cell-links.result c.deps_of_cell-links.ensures

pub returns-then-link-cell : goal.returns-then-link-cell
returns-then-link-cell c =
    link_leads c.args.graph.now c.args.from.0 c.args.cell.0 c.loop-link.link-iterator c.next.new.self c.in-Some.link (c.in-Some.ensures {u = tt}).steps c.if-link-cell.true c.loop-link.invariant

pub loop-link-preserved : goal.loop-link-preserved
loop-link-preserved c =
    link_passed c.args.graph.now c.args.from.0 c.args.cell.0 c.loop-link.link-iterator c.next.new.self c.in-Some.link (c.in-Some.ensures {u = tt}).steps c.if-link-cell.false c.loop-link.invariant

pub returns : goal.returns
returns c = no_link c.args.graph.now c.args.from.0 c.args.cell.0 c.loop-link.link-iterator (c.in-None.ensures {u = tt}).steps.0 c.loop-link.invariant
