use Rattle.std.proofs.Common.{◌≡◌, ◌∙◌, ◌<◌, ap, arith, length}
use Rattle.cell_world.specs.Running.Transfer.{bytes_loaded}
use Rattle.cell_xfer.proofs.Reading.{read_all, read_fails, read_more}
use Rattle.cell_xfer.proofs.asking.read.Goals as goal

pub returns-in-None : goal.returns-in-None
returns-in-None c =
    let lt : c.loop-place.place < length c.args.into.now = omega arith in
    record { read = read_fails c.args.memory.now.regions c.args.addr c.loop-place.place (length c.args.into.now) lt (c.in-None.ensures {u = tt}) }

pub loop-place-preserved : goal.loop-place-preserved
loop-place-preserved c =
    let lt : c.loop-place.place < length c.loop-place.into = omega arith in
    read_more c.args.memory.now.regions c.args.addr c.loop-place.place c.in-Some.there c.loop-place.into lt c.loop-place.invariant (c.in-Some.ensures {u = tt})

pub returns : goal.returns
returns c =
    let size : length c.loop-place.into ≡ c.loop-place.place = omega arith in
    let all : c.loop-place.place ≡ length c.args.into.now = omega arith in
    record { read = read_all c.args.memory.now.regions c.args.addr c.loop-place.place c.loop-place.into size c.loop-place.invariant ∙ ap (λ n. bytes_loaded c.args.memory.now.regions c.args.addr n) all }
