use Rattle.std.proofs.Common.{map}
use Rattle.cell_world.specs.Commands.Asked.{want_of}
use Rattle.cell_world.specs.Gather.{source_of}
use Rattle.cell_machine.specs.Machine.{world_of}
use Rattle.cell_commands.specs.Items.{options_of}
use Rattle.cell_commands.proofs.ItemLemmas.{IsAskedTo}
use Rattle.cell_commands.proofs.swapping.change_for.Given as goal

-- the items so far
abbrev pub invariant-loop-item : goal.invariant-loop-item
invariant-loop-item l = IsAskedTo (map source_of l.depot) (world_of l.machine) (options_of l.words) (want_of (map source_of l.depot) (world_of l.machine)) l.items l.item-index l.change
