use Rattle.std.proofs.Common.{◌∙◌, ap, map}
use Rattle.cell_world.specs.declared.state.NewCell.{NewCell}
use Rattle.cell_machine.specs.declared.staged.Staged.{Staged}
use Rattle.cell_change.specs.declared.planning.Plan.{Plan}
use Rattle.cell_change.proofs.ready.Ready.for_plan.Goals as goal

pub transfer_for-requires-clause-old : goal.transfer_for-requires-clause-old
transfer_for-requires-clause-old c = c.requires.old

pub transfer_for-requires-clause-low : goal.transfer_for-requires-clause-low
transfer_for-requires-clause-low c = c.requires.low

pub transfer_for-requires-clause-order : goal.transfer_for-requires-clause-order
transfer_for-requires-clause-order c = c.requires.order

pub transfer_for-requires-clause-names : goal.transfer_for-requires-clause-names
transfer_for-requires-clause-names c = c.requires.names

pub transfer_for-requires-clause-begins : goal.transfer_for-requires-clause-begins
transfer_for-requires-clause-begins c = c.requires.begins

pub prepare-requires-clause-named : goal.prepare-requires-clause-named
prepare-requires-clause-named c = c.requires.names

pub prepare-requires-clause-loadable : goal.prepare-requires-clause-loadable
prepare-requires-clause-loadable c = c.requires.loadable

pub returns : goal.returns
returns c =
    let prepared = c.in_ok-prepared.ensures {u = tt} in
    record {
      plan = ap (λ (s : Staged). let p : Plan = record c.args.plan { staged = s } in p) prepared.rest;
      prepared = prepared.prepared;
      lists = c.in_ok-lists.ensures {u = tt};
      fresh = (c.in_ok-fresh.ensures {u = tt}) ∙ ap (map (λ (x : NewCell). x.id)) c.deref.ensures.value;
      patched = c.in_ok-patched.ensures {u = tt};
      writes = c.in_ok-writes.ensures {u = tt};
      given = c.in_ok-transfer.ensures {u = tt};
      turned = c.in_ok-back.ensures {u = tt};
    }
