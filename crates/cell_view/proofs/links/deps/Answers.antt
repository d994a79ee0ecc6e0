use Rattle.std.proofs.Common.{◌∙◌}
use Rattle.cell_machine.specs.Machine.{world_of}
use Rattle.cell_view.proofs.LinksShown.{deps_shown}
use Rattle.cell_view.proofs.Showing.{here_is}
use Rattle.cell_view.proofs.links.deps.Goals as goal

pub returns : goal.returns
returns c =
    let m = c.args.machine.now in
    let d = here_is (world_of m) c.args.cell c.in-Some.field-0.now (c.in-Some.ensures {u = tt}) in
    deps_shown m c.requires c.args.cell d.0 d.1 c.from_vec.result (c.from_vec.ensures ∙ c.in_ok-lines.ensures)
