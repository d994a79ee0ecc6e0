use Rattle.std.proofs.Common.{List}
use Rattle.cell_io.specs.Files.{File, folder}
use Rattle.cell_verdict.specs.Verdict.{judging, verdict_in}
use Rattle.cell_verdict.specs.declared.status.AuditStatus.TheVariants.{ReadFault, OutOfMemory}
use Rattle.cell_verdict.proofs.Cut.{nothing_written}
use Rattle.cell_verdict.proofs.top.write_verdict_on.Goals as goal

pub returns-in-Err-ReadFault-clause-transcript : goal.returns-in-Err-ReadFault-clause-transcript
returns-in-Err-ReadFault-clause-transcript g c =
    nothing_written _ (λ (files : List File). judging c.args.dump.now (verdict_in c.args.dump.now (folder c.args.dir.now files))) ReadFault _ tt

pub returns-in-Err-OutOfMemory-clause-transcript : goal.returns-in-Err-OutOfMemory-clause-transcript
returns-in-Err-OutOfMemory-clause-transcript g c =
    nothing_written _ (λ (files : List File). judging c.args.dump.now (verdict_in c.args.dump.now (folder c.args.dir.now files))) OutOfMemory _ tt
