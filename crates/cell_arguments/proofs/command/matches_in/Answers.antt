use Rattle.std.proofs.Common.{sym, ap, ◌∙◌, map, string_bytes}
use Rattle.clap.specs.Words.{App, fault_of, is_simple, is_simple_and_free, matches_of}
use Rattle.cell_arguments.proofs.Reading.{is_simple-command, is_free-command, has_fault}
use Rattle.cell_arguments.proofs.command.matches_in.Goals as goal

pub returns-in-Ok-try_get_matches_from-clause-taken : goal.returns-in-Ok-try_get_matches_from-clause-taken
returns-in-Ok-try_get_matches_from-clause-taken c =
    ap (λ (a : App). fault_of a (map string_bytes c.args.words.now)) (sym c.in-Ok.ensures)
    ∙ c.in-Ok-try_get_matches_from.ensures.kinds (ap is_simple_and_free c.in-Ok.ensures ∙ is_free-command)

pub returns-in-Ok-try_get_matches_from-clause-rows : goal.returns-in-Ok-try_get_matches_from-clause-rows
returns-in-Ok-try_get_matches_from-clause-rows c =
    (c.in-Ok-try_get_matches_from.ensures.matches (ap is_simple c.in-Ok.ensures ∙ is_simple-command)).0
    ∙ ap (λ (a : App). matches_of a (map string_bytes c.args.words.now)) c.in-Ok.ensures

pub returns-in-Err-clause-refused : goal.returns-in-Err-clause-refused
returns-in-Err-clause-refused c = λ usage empty.
    has_fault _ _ (c.in-Err.ensures.kinds (ap is_simple_and_free c.in-Ok.ensures ∙ is_free-command))
    (λ memory. c.cause_of.ensures usage (c.kind.ensures ∙ memory))
    (ap (λ (a : App). fault_of a (map string_bytes c.args.words.now)) c.in-Ok.ensures ∙ empty)
