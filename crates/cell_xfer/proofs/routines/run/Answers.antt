use Rattle.std.proofs.Common.{◌≡◌, ◌∙◌, ◌+◌, ◌-◌, ◌<◌, ◌≤◌, ap, arith, ℕ, sym}
use Rattle.cell_world.specs.Running.Transfer.{Ending}
use Rattle.cell_xfer.specs.Ran.{tables_of}
use Rattle.cell_xfer.proofs.Running.{ends, goes_on}
use Rattle.cell_xfer.proofs.Writing.{more_written, writes_left}
use Rattle.cell_xfer.proofs.routines.run.Goals as goal

pub turn-state-requires : goal.turn-state-requires
turn-state-requires c =
    let le : c.loop-done.done + 1 ≤ c.args.turns = omega arith in
    writes_left c.args.memory.now c.loop-done.memory c.loop-done.done 1 c.args.turns c.loop-done.invariant.written le c.requires

pub returns-in-Some-clause-ended : goal.returns-in-Some-clause-ended
returns-in-Some-clause-ended c =
    let lt : c.loop-done.done < c.args.turns = omega arith in
    let left : c.args.turns - c.loop-done.done - 1 ≡ c.args.turns - (c.loop-done.done + 1) = omega arith in
    ap (λ (k : ℕ). let e : Ending = record { why = c.in-Some.why; regions = c.turn-state.new.memory.regions; left = k } in e) left
    ∙ ends (tables_of c.args.addresses.now) c.loop-done.memory c.turn-state.new.memory c.loop-done.hart c.turn-state.new.hart c.turn-state.result
    c.turn-state.ensures.written c.turn-state.ensures.moved c.args.turns c.loop-done.done lt c.in-Some.why (sym (c.in-Some.ensures {u = tt}))
    ∙ c.loop-done.invariant.rest

pub returns-in-Some-clause-written : goal.returns-in-Some-clause-written
returns-in-Some-clause-written c =
    let le : c.loop-done.done + 1 ≤ c.args.turns - (c.args.turns - c.loop-done.done - 1) = omega arith in
    more_written c.args.memory.now c.loop-done.memory c.turn-state.new.memory c.loop-done.done 1 (c.args.turns - (c.args.turns - c.loop-done.done - 1))
    c.loop-done.invariant.written c.turn-state.ensures.written le

pub loop-done-preserved : goal.loop-done-preserved
loop-done-preserved c =
    let lt : c.loop-done.done < c.args.turns = omega arith in
    let le : c.loop-done.done + 1 ≤ c.loop-done.done + 1 = omega arith in
    record {
      rest =
          goes_on (tables_of c.args.addresses.now) c.loop-done.memory c.turn-state.new.memory c.loop-done.hart c.turn-state.new.hart c.turn-state.result
          c.turn-state.ensures.written c.turn-state.ensures.moved c.args.turns c.loop-done.done lt (sym (c.in_default.ensures {u = tt}))
          ∙ c.loop-done.invariant.rest;
      written =
          more_written c.args.memory.now c.loop-done.memory c.turn-state.new.memory c.loop-done.done 1 (c.loop-done.done + 1)
          c.loop-done.invariant.written c.turn-state.ensures.written le;
    }
