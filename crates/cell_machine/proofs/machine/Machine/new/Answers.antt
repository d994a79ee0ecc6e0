use Rattle.std.proofs.Common.{refl}
use Rattle.cell_machine.proofs.Begins.{begins_sound}
use Rattle.cell_machine.proofs.machine.Machine.new.Goals as goal

pub returns-clause-sound : goal.returns-clause-sound
returns-clause-sound c =
    begins_sound c.args.base c.args.pages c.requires _ c.new.ensures.items c.new-2.ensures.items refl refl (c.in_ok-new-2.ensures {u = tt}) (c.in_ok-new.ensures {u = tt}).namespaces (c.in_ok-new.ensures {u = tt}).cells (c.in_ok-new-3.ensures {u = tt}) c.new-6.ensures.sections c.new-6.ensures.rows c.new-7.ensures
