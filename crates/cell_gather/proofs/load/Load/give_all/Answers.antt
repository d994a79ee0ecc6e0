use Rattle.std.proofs.Common.{◌+◌, drop}
use Rattle.cell_world.specs.World.{Alias}
use Rattle.cell_gather.specs.Growing.{new_of}
use Rattle.cell_gather.proofs.Handing.{name_taken}
use Rattle.cell_gather.proofs.TakenNames.{drop_at}
use Rattle.cell_gather.proofs.load.Load.give_all.Goals as goal

pub loop-place-preserved : goal.loop-place-preserved
loop-place-preserved c =
    let row : Alias = record { name = c.at.result.0.now; symbol = c.at.result.1 } in
    let given = c.in_ok-give.ensures {u = tt} in
    record {
      growing = given.growing;
      new = given.new;
      left =
          name_taken c.args.self.now.spaces.now c.args.cell.0 (new_of c.args.gathered.now) (new_of c.loop-place.gathered) (new_of c.give.new.gathered) c.args.names.now (drop c.loop-place.place c.args.names.now)
          (drop (c.loop-place.place + 1) c.args.names.now) row given.named (drop_at c.args.names.now c.loop-place.place row c.at.ensures) c.loop-place.invariant.left;
    }
