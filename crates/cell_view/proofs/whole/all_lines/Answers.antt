use Rattle.std.proofs.Common.{◌∙◌}
use Rattle.cell_machine.specs.Machine.{world_of}
use Rattle.cell_view.proofs.AllLines.{whole_dump}
use Rattle.cell_view.proofs.whole.all_lines.Goals as goal

pub returns : goal.returns
returns c =
    c.from_vec.ensures
    ∙ whole_dump (world_of c.args.machine.now) _ _ _ _ _ _ _ c.new-lines.ensures.items c.in_ok-add_spaces.ensures c.in_ok-add_cells.ensures c.in_ok-add_links.ensures c.in_ok-add_providers.ensures c.in_ok-add_contents.ensures c.in_ok-push.ensures.items
