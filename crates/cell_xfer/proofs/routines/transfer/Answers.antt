use Rattle.std.proofs.Common.{◌∙◌, ◌+◌, ◌-◌, ◌<◌, ◌≤◌, ap, arith, sym, length, drop, get_or, None, Some}
use Rattle.cell_hart.specs.Step.{seen_of}
use Rattle.cell_world.specs.declared.transfer.Routine.{Routine}
use Rattle.cell_world.specs.Running.Transfer.{transferred}
use Rattle.cell_xfer.specs.Ran.{tables_of}
use Rattle.cell_xfer.proofs.Answered.{answered_as}
use Rattle.cell_xfer.proofs.Running.{failed, from_next, no_routines, none_left, succeeded}
use Rattle.cell_xfer.proofs.Writing.{more_written, writes_left}
use Rattle.cell_xfer.proofs.routines.transfer.Goals as goal

pub run-ended-requires : goal.run-ended-requires
run-ended-requires c =
    let few : c.loop-routine.left ≤ c.args.budget = c.loop-routine.invariant.few in
    let le : c.args.budget - c.loop-routine.left + c.loop-routine.left ≤ c.args.budget = omega (arith, few) in
    writes_left c.args.memory.now c.loop-routine.memory (c.args.budget - c.loop-routine.left) c.loop-routine.left c.args.budget c.loop-routine.invariant.written le c.requires.undo

pub returns-then-not-is_success-clause-written : goal.returns-then-not-is_success-clause-written
returns-then-not-is_success-clause-written c =
    let few : c.loop-routine.left ≤ c.args.budget = c.loop-routine.invariant.few in
    let le : c.args.budget - c.loop-routine.left + (c.loop-routine.left - c.run-ended.result.left) ≤ c.args.budget = omega (arith, few) in
    more_written c.args.memory.now c.loop-routine.memory c.run-ended.new.memory (c.args.budget - c.loop-routine.left) (c.loop-routine.left - c.run-ended.result.left) c.args.budget
    c.loop-routine.invariant.written c.run-ended.ensures.written le

pub returns-then-not-is_success-clause-answer : goal.returns-then-not-is_success-clause-answer
returns-then-not-is_success-clause-answer c = λ old new f g.
    let none : Routine = record { name = 0; entry = 0 } in
    let lt : c.loop-routine.routine-index < length c.args.routines.now = omega arith in
    let routine : Routine = get_or c.args.routines.now c.loop-routine.routine-index none in
    answered_as c.args.budget c.args.addresses.now (seen_of c.args.memory.now) c.args.stack c.args.routines.now
    (record { regions = c.run-ended.new.memory.regions; failure = Some (record { routine = routine.name; why = c.run-ended.result.why }) })
    (failed (tables_of c.args.addresses.now) c.loop-routine.memory c.run-ended.new.memory c.begin-hart.result c.args.stack c.loop-routine.left (c.loop-routine.left - c.run-ended.result.left)
    routine (drop (c.loop-routine.routine-index + 1) c.args.routines.now) c.run-ended.result c.begin-hart.ensures.pc c.begin-hart.ensures.x c.run-ended.ensures.written c.run-ended.ensures.ended
    (sym c.is_success.ensures ∙ c.if-not-is_success.true)
    ∙ sym (ap (transferred c.loop-routine.left (tables_of c.args.addresses.now) (seen_of c.loop-routine.memory) c.args.stack) (from_next c.args.routines.now c.loop-routine.routine-index none lt))
    ∙ c.loop-routine.invariant.rest)
    old new f g

pub loop-routine-preserved : goal.loop-routine-preserved
loop-routine-preserved c =
    let none : Routine = record { name = 0; entry = 0 } in
    let lt : c.loop-routine.routine-index < length c.args.routines.now = omega arith in
    let routine : Routine = get_or c.args.routines.now c.loop-routine.routine-index none in
    let few : c.loop-routine.left ≤ c.args.budget = c.loop-routine.invariant.few in
    let less : c.run-ended.result.left ≤ c.loop-routine.left = c.run-ended.ensures.left in
    let le : c.args.budget - c.loop-routine.left + (c.loop-routine.left - c.run-ended.result.left) ≤ c.args.budget - c.run-ended.result.left = omega (arith, few, less) in
    record {
      few = omega (arith, few, less);
      written =
          more_written c.args.memory.now c.loop-routine.memory c.run-ended.new.memory (c.args.budget - c.loop-routine.left) (c.loop-routine.left - c.run-ended.result.left)
          (c.args.budget - c.run-ended.result.left) c.loop-routine.invariant.written c.run-ended.ensures.written le;
      rest =
          succeeded (tables_of c.args.addresses.now) c.loop-routine.memory c.run-ended.new.memory c.begin-hart.result c.args.stack c.loop-routine.left (c.loop-routine.left - c.run-ended.result.left)
          routine (drop (c.loop-routine.routine-index + 1) c.args.routines.now) c.run-ended.result c.begin-hart.ensures.pc c.begin-hart.ensures.x c.run-ended.ensures.written c.run-ended.ensures.ended
          (sym c.is_success.ensures ∙ c.if-not-is_success.false)
          ∙ sym (ap (transferred c.loop-routine.left (tables_of c.args.addresses.now) (seen_of c.loop-routine.memory) c.args.stack) (from_next c.args.routines.now c.loop-routine.routine-index none lt))
          ∙ c.loop-routine.invariant.rest;
    }

pub returns-clause-answer : goal.returns-clause-answer
returns-clause-answer c = λ old new f g.
    let past : length c.args.routines.now ≤ c.loop-routine.routine-index = omega arith in
    answered_as c.args.budget c.args.addresses.now (seen_of c.args.memory.now) c.args.stack c.args.routines.now
    (record { regions = c.loop-routine.memory.regions; failure = None })
    (no_routines c.loop-routine.left (tables_of c.args.addresses.now) (seen_of c.loop-routine.memory) c.args.stack (drop c.loop-routine.routine-index c.args.routines.now)
    (none_left c.args.routines.now c.loop-routine.routine-index past)
    ∙ c.loop-routine.invariant.rest)
    old new f g
