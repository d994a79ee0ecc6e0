-- A call that was cut off before anything was written.
use Rattle.std.proofs.Common.{refl, inr, ℕ, List, [], Some, None}
use Rattle.std.specs.Prelude.{IfSome}
use Rattle.std.specs.declared.option.Option.{Option}
use Rattle.std.proofs.KnownBytes.{Appends-nil}
use Rattle.cell_io.specs.Files.{File}
use Rattle.cell_verdict.specs.declared.status.AuditStatus.{AuditStatus}
use Rattle.cell_verdict.specs.Verdict.{IsCut, Judging, Writes}

pub nothing_written : (told : Option (List File)) (said : List File → Judging) (status : AuditStatus) (written : Option (List ℕ)) → IsCut status
    → IfSome told (λ files. Writes (said files) status written written)
nothing_written None said status written cut = tt
nothing_written (Some files) said status written cut =
    inr (cut, record { part = []; rest = (said files).text; is = refl; appended = Appends-nil written })
