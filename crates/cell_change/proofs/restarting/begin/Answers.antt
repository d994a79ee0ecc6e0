use Rattle.std.proofs.Common.{◌∙◌, ap, ℕ, Option, Some, None}
use Rattle.std.specs.Prelude.{is_some}
use Rattle.std.proofs.lemmas.Bool.{false≢true}
use Rattle.cell_schedule.specs.Starts.{entry_as}
use Rattle.cell_task.specs.State.{seen_as}
use Rattle.cell_change.proofs.Arrival.Beginning.{as_begun, entry_is, known_origin, may_clear}
use Rattle.cell_change.proofs.restarting.begin.Goals as goal

pub unreachable-requires : goal.unreachable-requires
unreachable-requires c = false≢true (ap is_some ((c.in_default.ensures {u = tt}) ∙ c.requires.live))

pub find_entry-requires-clause-sound : goal.find_entry-requires-clause-sound
find_entry-requires-clause-sound c = c.requires.sound

pub find_entry-requires-clause-ns : goal.find_entry-requires-clause-ns
find_entry-requires-clause-ns c = known_origin c.requires (seen_as c.args.task c.in-Some.live.now) ((c.in-Some.ensures {u = tt}) ∙ c.requires.live)

pub unreachable-requires-in_default-find_entry : goal.unreachable-requires-in_default-find_entry
unreachable-requires-in_default-find_entry c =
    false≢true (ap is_some (entry_is c.requires (seen_as c.args.task c.in-Some.live.now) ((c.in-Some.ensures {u = tt}) ∙ c.requires.live) c.bytes.result.now c.bytes.ensures (let o : Option (ℕ × ℕ) = None in o) (c.in_default-find_entry.ensures {u = tt})))

pub restart-requires-clause-live : goal.restart-requires-clause-live
restart-requires-clause-live c = ap is_some c.requires.live

pub restart-requires-clause-stack : goal.restart-requires-clause-stack
restart-requires-clause-stack c t live = may_clear c.requires t live

pub restart-requires-clause-undo : goal.restart-requires-clause-undo
restart-requires-clause-undo c = c.requires.sound.undo

pub returns : goal.returns
returns c r =
    as_begun r (c.in-Some-find_entry.entry.cell.0, c.in-Some-find_entry.entry.addr)
    (entry_is r (seen_as c.args.task c.in-Some.live.now) ((c.in-Some.ensures {u = tt}) ∙ r.live) c.bytes.result.now c.bytes.ensures (Some (entry_as c.in-Some-find_entry.entry)) (c.in-Some-find_entry.ensures {u = tt}))
    c.restart.new.self c.restart.new.memory (c.restart.ensures.tasks r.t r.live) (c.restart.ensures.memory r.t r.live)
