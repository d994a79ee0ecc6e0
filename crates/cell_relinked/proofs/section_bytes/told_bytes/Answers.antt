use Rattle.std.proofs.Common.{rules, ◌+◌}
use Rattle.cell_audit.specs.Told.{byte_told}
use Rattle.cell_relinked.proofs.Counting.{one_told}
use Rattle.cell_relinked.proofs.section_bytes.told_bytes.Goals as goal

pub loop-k-preserved : goal.loop-k-preserved
loop-k-preserved c = one_told (λ k. byte_told c.args.told.now (c.args.start + k)) c.loop-k.k c.loop-k.bytes.items _ _ (search rules) c.in_ok-push.ensures.items c.loop-k.invariant
