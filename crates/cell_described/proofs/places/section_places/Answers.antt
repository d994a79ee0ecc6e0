use Rattle.std.proofs.Common.{◌∙◌, arith}
use Rattle.cell_described.proofs.Steps.{one_seen}
use Rattle.cell_described.proofs.places.section_places.Goals as goal

pub loop-index-preserved : goal.loop-index-preserved
loop-index-preserved c =
    (c.in_ok-push.ensures {u = tt}).items
    ∙ one_seen c.args.sections.now c.args.places.now c.requires c.loop-index.index c.index-sections-index.result (record { line = 0; section = 0; start = 0 }) (omega arith) c.loop-index.seen.items c.loop-index.invariant
