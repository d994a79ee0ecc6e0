use Rattle.cell_image.proofs.Numbers.{byte_put}
use Rattle.cell_image.proofs.number.put_number.Goals as goal

pub loop-preserved : goal.loop-preserved
loop-preserved c =
    byte_put c.loop.into.items c.push.new.self.items _ c.args.count c.loop.counter c.loop.rest c.loop-test.true c.in_ok-push.ensures.items c.loop.invariant
