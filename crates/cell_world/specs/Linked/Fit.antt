-- The entries of new cells against the ranges of their kinds.
use Rattle.std.specs.Prelude.{List, [], ◌∷◌, Option, None, option_map}
use Rattle.cell_world.specs.declared.refusal.Refusal.{Refusal}
use Rattle.cell_world.specs.declared.refusal.Refusal.TheVariants.{Overflow}
use Rattle.cell_num.specs.Lists.{or_else}
use Rattle.cell_world.specs.World.{World, Cell}
use Rattle.cell_world.specs.Linked.Field.{Bound, misfit_of}
use Rattle.cell_world.specs.Linked.Relink.{bound_entries}

abbrev pub overflow_at : Cell → Bound → Refusal
overflow_at c b = Overflow (record { 0 = c.id.0 }) b.entry.section b.entry.offset b.entry.kind

abbrev pub misfit_in : World → Cell → Option Refusal
misfit_in w c = option_map (overflow_at c) (misfit_of c.placed (bound_entries w c))

-- the first entry that doesn't fit, by cells and then in table order
abbrev pub first_misfit : World → List Cell → Option Refusal
first_misfit w [] = None
first_misfit w (c ∷ cells) = or_else (misfit_in w c) (first_misfit w cells)
