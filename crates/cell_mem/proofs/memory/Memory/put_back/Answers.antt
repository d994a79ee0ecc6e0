use Rattle.std.proofs.Common.{ap, ◌∙◌, List, true, false}
use Rattle.cell_world.specs.World.{Region}
use Rattle.cell_mem.specs.State.{MemoryState, bytes_at}
use Rattle.cell_mem.proofs.Back.{are_there, back_gone, back_there}
use Rattle.cell_mem.proofs.memory.Memory.put_back.Goals as goal

pub returns-then-is_some : goal.returns-then-is_some
returns-then-is_some c =
    let old : MemoryState = c.args.self.now in
    c.put.ensures
    ∙ ap (λ (rs : List Region). let now : MemoryState = record old { regions = rs } in now)
    (back_there old c.args.displaced _ c.laid_out.ensures (are_there c.bytes-there.result true _ (c.bytes-there.ensures ∙ ap (bytes_at old c.args.displaced.addr) c.from.ensures) (c.if-is_some.ensures {u = tt})))

pub returns-else-is_some : goal.returns-else-is_some
returns-else-is_some c =
    let old : MemoryState = c.args.self.now in
    ap (λ (rs : List Region). let now : MemoryState = record old { regions = rs } in now)
    (back_gone old c.args.displaced _ c.laid_out.ensures (are_there c.bytes-there.result false _ (c.bytes-there.ensures ∙ ap (bytes_at old c.args.displaced.addr) c.from.ensures) (c.if-is_some.ensures {u = tt})))
