use Rattle.std.proofs.Common.{◌++◌, arith, filter_map, refl}
use Rattle.cell_world.specs.World.{Alias}
use Rattle.cell_world.specs.DumpLines.{provider_line}
use Rattle.cell_machine.specs.Machine.{world_of}
use Rattle.cell_view.proofs.Behind.{chosen_over, none_left}
use Rattle.cell_view.proofs.all_names.add_names.Goals as goal

pub loop-place-preserved : goal.loop-place-preserved
loop-place-preserved c =
    let w = world_of c.args.machine.now in
    let row : Alias = record { name = c.at.result.0.now; symbol = c.at.result.1 } in
    chosen_over (λ (a : Alias). provider_line w c.args.ns a.name) c.args.names.now c.loop-place.place row c.loop-place.lines.items _ (c.args.lines.now.items ++ filter_map (λ (a : Alias). provider_line w c.args.ns a.name) c.args.names.now) c.at.ensures
    c.in_ok-add_name.ensures c.loop-place.invariant

pub returns : goal.returns
returns c = none_left (filter_map (λ (a : Alias). provider_line (world_of c.args.machine.now) c.args.ns a.name)) refl c.args.names.now c.loop-place.place c.loop-place.lines.items _ (omega arith) c.loop-place.invariant
