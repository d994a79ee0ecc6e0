use Rattle.std.proofs.Common.{subst}
use Rattle.cell_system.specs.State.{State}
use Rattle.std.specs.Prelude.{map}
use Rattle.cell_world.specs.Gather.{source_of}
use Rattle.cell_machine.specs.Machine.{world_of}
use Rattle.cell_system.specs.Step.{IsStep, counts_of, said_to, state_of}
use Rattle.cell_system.proofs.Steps.{does, still_kept, still_sound}
use Rattle.cell_system.proofs.system.System.do_command.Goals as goal

pub invariant_of-self : goal.invariant_of-self
invariant_of-self c =
    let files = c.self.inside.depot in
    let m = c.self.inside.machine in
    let kept = still_kept m files c.args.command.now c.answer.new.machine c.answer.result c.requires c.self.invariant.2 c.self.invariant.3 c.self.invariant.5 c.self.invariant.0 c.self.invariant.1 c.self.invariant.4 c.answer.ensures in (
      still_sound m (said_to (state_of files m) c.args.command.now) (counts_of (map source_of files) (world_of m) c.args.command.now) c.answer.result c.answer.new.machine c.self.invariant.0 c.answer.ensures,
      kept.0,
      c.self.invariant.2,
      c.self.invariant.3,
      kept.1,
      c.self.invariant.5,
    )

pub returns : goal.returns
returns c =
    let files = c.self.inside.depot in
    let m = c.self.inside.machine in
    subst (λ (old : State). IsStep old c.args.command.now c.answer.result (state_of files c.answer.new.machine)) c.self.view_is
    (does m files c.args.command.now c.answer.new.machine c.answer.result c.answer.ensures)
