use Rattle.std.proofs.Common.{ℕ, List, subst}
use Rattle.std.proofs.lemmas.Result.{err_from_is_err_and}
use Rattle.cell_lemmas.proofs.Outcomes.{found_ok}
use Rattle.cell_world.specs.declared.refusal.Refusal.TheVariants.{NoEntry}
use Rattle.cell_world.specs.Commands.SpawnCommand.{entry_named}
use Rattle.cell_machine.specs.Does.{Does, one_stack}
use Rattle.cell_machine.specs.Machine.{world_of}
use Rattle.cell_machine.proofs.Unchanged.{same_itself}
use Rattle.cell_schedule.specs.Starts.{entry_as, started}
use Rattle.cell_schedule.proofs.Entries.{entry_present}
use Rattle.cell_schedule.proofs.Spawning.{no_entry, no_room, no_space, room_left, then_started}
use Rattle.cell_schedule.proofs.starting.spawn.Goals as goal

pub returns-in_err-ns : goal.returns-in_err-ns
returns-in_err-ns c =
    let p = err_from_is_err_and c.from_residual.result c.from_residual.ensures.1 in
    rw (p.1, p.2) (no_space c.args.machine.now c.args.ns.now c.args.symbol.now c.args.arg c.in_err-ns.field-0.0 c.in_err-ns.ensures.number)

pub returns-in_err-check : goal.returns-in_err-check
returns-in_err-check c =
    let p = err_from_is_err_and c.from_residual-in_err-check.result c.from_residual-in_err-check.ensures.1 in
    rw (p.1, p.2) (no_room c.args.machine.now c.args.ns.now c.args.symbol.now c.args.arg c.in_ok-ns.ns c.in_ok-ns.ensures.number c.in_err-check.field-0.0 c.in_err-check.ensures)

pub returns-in_err-entry : goal.returns-in_err-entry
returns-in_err-entry c =
    let p = err_from_is_err_and c.from_residual-in_err-entry.result c.from_residual-in_err-entry.ensures.1 in
    rw (p.1, p.2) (no_entry c.args.machine.now c.args.ns.now c.args.symbol.now c.args.arg c.in_ok-ns.ns c.in_ok-ns.ensures.number tt c.in_ok-check.ensures c.in_err-entry.field-0.0 c.in_err-entry.ensures)

pub returns-in_err-name : goal.returns-in_err-name
returns-in_err-name c =
    let p = err_from_is_err_and c.from_residual-in_err-name.result c.from_residual-in_err-name.ensures.1 in
    rw (p.1, p.2) (same_itself c.args.machine.now)

pub start-requires-clause-few : goal.start-requires-clause-few
start-requires-clause-few c = (room_left c.args.machine.now.tasks tt c.in_ok-check.ensures).0

pub start-requires-clause-numbers : goal.start-requires-clause-numbers
start-requires-clause-numbers c = (room_left c.args.machine.now.tasks tt c.in_ok-check.ensures).1

pub start-requires-clause-present : goal.start-requires-clause-present
start-requires-clause-present c =
    let m = c.args.machine.now in
    let e = entry_as c.in_ok-entry.entry in
    entry_present (world_of m) c.requires.coherent c.in_ok-ns.ns c.args.symbol.now e (found_ok (entry_named (world_of m) c.in_ok-ns.ns c.args.symbol.now) (NoEntry c.args.symbol.now) e c.in_ok-entry.ensures)

pub returns : goal.returns
returns c =
    let m = c.args.machine.now in
    let entry = entry_as c.in_ok-entry.entry in
    then_started m c.args.ns.now c.args.symbol.now c.args.arg c.in_ok-ns.ns c.in_ok-ns.ensures.number tt c.in_ok-check.ensures entry c.in_ok-entry.ensures c.start.result c.start.new.machine
    (subst (λ (name : List ℕ). Does (started (world_of m) entry (record { ns = c.in_ok-ns.ns; name = name; arg = c.args.arg })) one_stack m c.start.result c.start.new.machine) c.in_ok-name.ensures c.start.ensures)
