use Rattle.std.proofs.Common.{◌∙◌, ap, sym, List}
use Rattle.cell_world.specs.declared.reply.MapCell.{MapCell}
use Rattle.cell_world.specs.declared.reply.Reply.TheVariants.{Map as MapDone}
use Rattle.cell_world.specs.Answer.{done}
use Rattle.cell_machine.specs.Machine.{world_of}
use Rattle.cell_view.proofs.overview.map.Goals as goal

pub returns : goal.returns
returns c =
    let w = world_of c.args.machine.now in
    ap (λ (cells : List MapCell). done (MapDone cells) w) (sym c.in_ok-map_cells.ensures ∙ sym c.from_vec-cells.ensures)
