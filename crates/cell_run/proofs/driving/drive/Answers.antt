use Rattle.std.proofs.Common.{rules, List, refl, sym, subst}
use Rattle.cell_lemmas.proofs.NextCoherent.{empty_coherent}
use Rattle.cell_script.specs.declared.line.Line.{Line}
use Rattle.cell_world.specs.Placed.Pages.{IsSpace}
use Rattle.cell_run.specs.declared.job.Shows.{Shows}
use Rattle.cell_run.specs.Machine.{first_state}
use Rattle.cell_run.specs.Driven.{Sums, Writes}
use Rattle.cell_run.specs.Run.{WritesRun, first_plain, run_from}
use Rattle.cell_run.proofs.Telling.{sums_run, writes_run}
use Rattle.cell_run.proofs.driving.drive.Goals as goal

pub returns-in-Transcript-clause-transcript : goal.returns-in-Transcript-clause-transcript
returns-in-Transcript-clause-transcript g c = λ tells.
    let job = c.args.job in
    let before = g.K.Sink.written c.args.out.now in
    let after = g.K.Sink.written c.write_answers.new.out in
    let begun : g.M.Machine.begun c.args.machine.now job.base job.pages job.files c.start.new.self = search rules in
    let space : IsSpace job.base job.pages = search rules in
    subst (λ (s : Shows). WritesRun (run_from s (first_plain job.base job.pages job.files) job.script) c.write_answers.result before after) (sym c.in-Transcript.is)
    (writes_run g.M.Machine.acts g.M.Machine.told (g.met.M.Machine.acts_plainly tells) c.start.new.self c.write_answers.new.machine (first_state job.base job.pages job.files) job.script c.write_answers.result before after
    (g.met.M.Machine.begins_empty tells c.args.machine.now c.start.new.self job.base job.pages job.files begun)
    (empty_coherent job.base job.pages space)
    (subst (λ (lines : List Line). Writes g.M.Machine.acts lines c.start.new.self c.write_answers.result c.write_answers.new.machine before after) c.as_slice.ensures c.write_answers.ensures.answers))

pub returns-clause-transcript : goal.returns-clause-transcript
returns-clause-transcript g c = λ tells.
    let job = c.args.job in
    let before = g.K.Sink.written c.args.out.now in
    let after = g.K.Sink.written c.write_totals.new.out in
    let begun : g.M.Machine.begun c.args.machine.now job.base job.pages job.files c.start.new.self = search rules in
    let space : IsSpace job.base job.pages = search rules in
    subst (λ (s : Shows). WritesRun (run_from s (first_plain job.base job.pages job.files) job.script) c.write_totals.result before after) (sym c.in-Totals.is)
    (sums_run g.M.Machine.acts g.M.Machine.told (g.met.M.Machine.acts_plainly tells) c.start.new.self c.write_totals.new.machine (first_state job.base job.pages job.files) job.script c.write_totals.result before after
    (g.met.M.Machine.begins_empty tells c.args.machine.now c.start.new.self job.base job.pages job.files begun)
    (empty_coherent job.base job.pages space)
    refl
    (subst (λ (lines : List Line). Sums g.M.Machine.acts lines c.start.new.self c.write_totals.result c.write_totals.new.machine before after) c.as_slice-in-Totals.ensures c.write_totals.ensures.totals))
