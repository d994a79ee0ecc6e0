use Rattle.std.specs.Prelude.{map}
use Rattle.cell_world.specs.Gather.{source_of}
use Rattle.cell_machine.specs.Machine.{world_of}
use Rattle.cell_commands.proofs.ItemLemmas.{has_want}
use Rattle.cell_commands.proofs.swapping.add_item.Goals as goal

pub returns : goal.returns
returns c =
    has_want (map source_of c.args.depot.now) (world_of c.args.machine.now) c.requires.coherent c.args.item.now
    c.in_ok-old.old.now (c.in_ok-old.ensures {u = tt}) (source_of c.in_ok-file_named.field-0.now) (c.in_ok-file_named.ensures {u = tt})
    c.in_ok-want.want (c.in_ok-want.ensures {u = tt}) c.args.change.now c.push.new.change
    (c.in_ok-push.ensures {u = tt}).wants (c.in_ok-push.ensures {u = tt}).replaced (c.in_ok-push.ensures {u = tt}).copies (c.in_ok-push.ensures {u = tt}).options
