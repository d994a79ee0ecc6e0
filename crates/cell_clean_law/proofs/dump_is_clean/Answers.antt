use Rattle.std.proofs.Common.{ap, ◌∙◌, List, ℕ, map}
use Rattle.cell_world.specs.DumpLines.{dump_lines}
use Rattle.cell_world.specs.Gather.{source_of}
use Rattle.cell_audit.specs.Audits.{audit_of}
use Rattle.cell_clean_law.proofs.Printed.{dump_printed}
use Rattle.cell_clean_law.proofs.dump_is_clean.Goals as goal

pub returns : goal.returns
returns c = λ before n rest earlier small.
    let w = c.args.system.now.machine.world in
    let sources = map source_of c.args.system.now.files in
    let now = c.coherent.ensures in
    ap (λ (t : List ℕ). audit_of t sources) (dump_printed before n (dump_lines w) rest)
    ∙ c.coherent_is_clean.ensures.transcripts sources w now.coherent now.read now.spelled now.bytes before n rest earlier small
