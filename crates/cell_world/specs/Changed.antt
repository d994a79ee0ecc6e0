-- What changes in cells that stay, between two states of the machine.
--     now_in after c               the cell as it is in the later state
--     differs before after c e     the entry names something else in the later state
--     is_changed before after c f  some entry at the field does
--     changed_fields before after  the fields that change, by cells and then in table order
--     first_changed_misfit         the first entry at one of them that doesn't fit
use Rattle.std.specs.Prelude.{◌==◌, Bool, true, false, not, ◌&&◌, List, [], ◌∷◌, Option, Some, None, map, filter, flat_map, find, option_map, unwrap_or}
use Rattle.std.specs.List.{list_any}
use Rattle.cell_num.specs.declared.ids.SecKey.{SecKey}
use Rattle.cell_num.specs.Lists.{or_else}
use Rattle.cell_object.specs.declared.object.Entry.{Entry}
use Rattle.cell_world.specs.declared.refusal.Refusal.{Refusal}
use Rattle.cell_world.specs.declared.state.Target.{Target}
use Rattle.cell_world.specs.declared.state.Target.TheVariants.{Section, Number}
use Rattle.cell_world.specs.World.{World, Cell, cell_of}
use Rattle.cell_world.specs.Linked.Target.{target_of}
use Rattle.cell_world.specs.Linked.Field.{fields_of, is_at, fits}
use Rattle.cell_world.specs.Linked.Relink.{bound_entries}
use Rattle.cell_world.specs.Linked.Fit.{overflow_at}

abbrev pub is_same_key : SecKey → SecKey → Bool
is_same_key a b = a.cell.0 == b.cell.0 && a.section == b.section

-- the same section and offset, or the same number
abbrev pub is_same_target : Target → Target → Bool
is_same_target (Section key offset addr) (Section other place at) = is_same_key key other && offset == place
is_same_target (Section key offset addr) (Number other) = false
is_same_target (Number value) (Section other place at) = false
is_same_target (Number value) (Number other) = value == other

abbrev pub is_other_target : Option Target → Option Target → Bool
is_other_target None None = false
is_other_target None (Some u) = true
is_other_target (Some t) None = true
is_other_target (Some t) (Some u) = not (is_same_target t u)

-- the cell of that number, with the standing and the aliases that it has by then
abbrev pub now_in : World → Cell → Cell
now_in after c = unwrap_or (cell_of after c.id.0) c

abbrev pub differs : World → World → Cell → Entry → Bool
differs before after c e = is_other_target (target_of before c e) (target_of after (now_in after c) e)

abbrev pub is_changed : World → World → Cell → Entry → Bool
is_changed before after c f = list_any (λ e. is_at f e && differs before after c e) c.object.entries

-- a field, and the cell that it is in
pub record FieldAt : Type 0 where
  pub cell : Cell
  pub field : Entry

abbrev pub changed_in : World → World → Cell → List FieldAt
changed_in before after c =
    map (λ f. record { cell = now_in after c; field = f }) (filter (is_changed before after c) (fields_of c.object))

-- of the cells that were there before
abbrev pub changed_fields : World → World → List FieldAt
changed_fields before after = flat_map (changed_in before after) before.cells

abbrev pub changed_misfit : World → World → Cell → Option Refusal
changed_misfit before after c =
    let now = now_in after c in
    let bound = bound_entries after now in
    option_map (overflow_at now) (find (λ b. is_changed before after c b.entry && not (fits now.placed bound b)) bound)

-- by cells and then in table order
abbrev pub first_changed_misfit : World → World → List Cell → Option Refusal
first_changed_misfit before after [] = None
first_changed_misfit before after (c ∷ cells) =
    or_else (changed_misfit before after c) (first_changed_misfit before after cells)
