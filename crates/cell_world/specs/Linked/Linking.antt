-- What stands in the way of linking cells that have come to a machine, when it changes others too.
--     link_refusal w placed      from w, the new cells are placed: does each of their entries fit, and each at a field that changes, and does no ready task stand inside one?
use Rattle.std.specs.Prelude.{Option, filter}
use Rattle.cell_num.specs.Lists.{or_else}
use Rattle.cell_world.specs.declared.refusal.Refusal.{Refusal}
use Rattle.cell_world.specs.World.{World, is_ready}
use Rattle.cell_world.specs.Gather.{fresh_cells}
use Rattle.cell_world.specs.Linked.Fit.{first_misfit}
use Rattle.cell_world.specs.Changed.{changed_fields, first_changed_misfit}
use Rattle.cell_world.specs.Torn.{first_torn}

abbrev pub link_refusal : World → World → Option Refusal
link_refusal w placed =
    or_else (first_misfit placed (fresh_cells w.next_cell placed))
    (or_else (first_changed_misfit w placed w.cells)
    (first_torn (changed_fields w placed) (filter is_ready w.tasks)))
