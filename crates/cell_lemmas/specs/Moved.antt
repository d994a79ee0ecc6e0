-- Where a link leads after a swap.
--     entry_at w l      the entry that the link stands for, with its cell
--     moved w l         the link to the section that its entry names by now, where it names one
use Rattle.std.specs.Prelude.{Option, Some, None, option_map, option_and_then, slice_get}
use Rattle.cell_object.specs.declared.object.Entry.{Entry}
use Rattle.cell_world.specs.declared.state.LinkRow.{LinkRow}
use Rattle.cell_world.specs.declared.state.Target.{Target}
use Rattle.cell_world.specs.declared.state.Target.TheVariants.{Section, Number}
use Rattle.cell_world.specs.World.{World, Cell, cell_of}
use Rattle.cell_world.specs.Linked.Target.{target_of}

abbrev pub entry_at : World → LinkRow → Option (Cell × Entry)
entry_at w l = option_and_then (λ c. option_map (λ e. (c, e)) (slice_get c.object.entries l.entry)) (cell_of w l.user.cell.0)

abbrev pub led_to : LinkRow → Option Target → LinkRow
led_to l None = l
led_to l (Some (Section key offset addr)) = record l { target = key }
led_to l (Some (Number value)) = l

abbrev pub moved : World → LinkRow → LinkRow
moved w l = led_to l (option_and_then (λ p. target_of w p.0 p.1) (entry_at w l))
