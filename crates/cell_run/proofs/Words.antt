-- The run of words that are read, and of words that aren't.
use Rattle.std.proofs.Common.{◌≡◌, ℕ, List, Some, None, sym, ◌∙◌}
use Rattle.std.specs.declared.option.Option.{Option}
use Rattle.std.specs.Prelude.{IfSome}
use Rattle.cell_io.specs.Files.{File as HostFile}
use Rattle.cell_arguments.specs.Arguments.{Said, arguments_of}
use Rattle.cell_run.specs.declared.status.Status.{Status}
use Rattle.cell_run.specs.Run.{WritesRun, run_in, run_of, usage_run}

pub read_words : (told : Option (List HostFile)) (words : List (List ℕ)) (said : Option Said) (status : Status) (old new : Option (List ℕ)) → arguments_of words ≡ said
    → IfSome told (λ files. WritesRun (run_in said files) status old new) → IfSome told (λ files. WritesRun (run_of words files) status old new)
read_words told words said status old new e h = rw e h

pub unread_words : (told : Option (List HostFile)) (words : List (List ℕ)) (status : Status) (old new : Option (List ℕ)) → arguments_of words ≡ None
    → WritesRun usage_run status old new → IfSome told (λ files. WritesRun (run_of words files) status old new)
unread_words (Some files) words status old new e h = rw e h
unread_words None words status old new e h = tt

-- words have one reading
pub two_readings : {A : Type 0} (words : List (List ℕ)) (said : Said) → arguments_of words ≡ Some said → arguments_of words ≡ None → A
two_readings words said e f = let both : Some said ≡ None = sym e ∙ f in cc
