use Rattle.std.proofs.Common.{◌∙◌, ap, filter_map, subst, sym}
use Rattle.cell_world.specs.declared.state.NewCell.{NewCell}
use Rattle.cell_world.specs.Commands.LinkCommands.{link_line}
use Rattle.cell_machine.specs.Machine.{section_keys, world_of}
use Rattle.cell_view.specs.Links.{HasSections, links_in}
use Rattle.std.specs.List.Sorted.{IsPermutation}
use Rattle.cell_view.proofs.LinksShown.{users_shown, has_sections}
use Rattle.cell_view.proofs.Showing.{here_is}
use Rattle.cell_view.proofs.links.users.Goals as goal

pub sorted_users-requires : goal.sorted_users-requires
sorted_users-requires c =
    let m = c.args.machine.now in
    let d = here_is (world_of m) c.args.cell c.in-Some.present.now (c.in-Some.ensures {u = tt}) in
    subst (λ (p : NewCell). HasSections m.graph p) (sym d.2) (has_sections m c.requires c.args.cell d.0 d.1)

pub returns : goal.returns
returns c =
    let m = c.args.machine.now in
    let d = here_is (world_of m) c.args.cell c.in-Some.present.now (c.in-Some.ensures {u = tt}) in
    users_shown m c.requires c.args.cell d.0 d.1 c.in_ok-rows.rows.items c.in_ok-rows.ensures.order c.from_vec.result
    (c.from_vec.ensures ∙ (c.in_ok-lines.ensures ∙ ap (filter_map (link_line (world_of m))) c.deref.ensures.value))
    (subst (λ (p : NewCell). IsPermutation (links_in m.graph.rows (section_keys p)) c.in_ok-rows.rows.items) d.2 c.in_ok-rows.ensures.links)
