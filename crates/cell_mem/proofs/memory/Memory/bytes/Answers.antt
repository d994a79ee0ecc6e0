use Rattle.std.proofs.Common.{sym}
use Rattle.cell_world.specs.Running.Memory.{covers}
use Rattle.cell_mem.proofs.Laid.{found_passes}
use Rattle.cell_mem.proofs.memory.Memory.bytes.Goals as goal

pub part-requires : goal.part-requires
part-requires c =
    found_passes (λ r. covers r c.args.addr) c.args.self.now.regions c.in_ok-region.region.now (sym (c.in_ok-region.ensures {u = tt}).answer)
