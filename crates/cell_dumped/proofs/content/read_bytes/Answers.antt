use Rattle.std.proofs.Common.{◌∙◌}
use Rattle.cell_dumped.proofs.Pairs.{read_on}
use Rattle.cell_dumped.proofs.content.read_bytes.Goals as goal

pub loop-rest-preserved : goal.loop-rest-preserved
loop-rest-preserved c =
    read_on c.loop-rest.bytes.items c.push.new.self.items c.loop-rest.rest.now c.in-Some.byte c.in-len2-up.len_at_least c.in-Some.ensures c.in_ok-push.ensures.items
    ∙ c.loop-rest.invariant
