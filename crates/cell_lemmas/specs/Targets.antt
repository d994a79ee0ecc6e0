-- Targets that lie in some of the cells.
--     is_target_in numbers t                   it is a place in a section of one of these cells
--     without_in numbers t                     the target, where it is none in them
--     loses before after old c e               the entry named one of the old cells, and names none any more
--     replaced_fields before after old         the fields that were there of which an entry does
--     FollowsTargets before after              each entry that doesn't differ names what it named
use Rattle.std.specs.Prelude.{ℕ, ◌≡◌, Bool, false, not, ◌&&◌, List, Option, Some, None, All, map, filter, flat_map, if◌then◌else◌}
use Rattle.std.specs.List.{list_any}
use Rattle.cell_num.specs.Lists.{holds}
use Rattle.cell_object.specs.declared.object.Entry.{Entry}
use Rattle.cell_world.specs.declared.state.Target.{Target}
use Rattle.cell_world.specs.declared.state.Target.TheVariants.{Section, Number}
use Rattle.cell_world.specs.World.{World, Cell}
use Rattle.cell_world.specs.Linked.Target.{target_of}
use Rattle.cell_world.specs.Linked.Field.{is_at, fields_of}
use Rattle.cell_world.specs.Changed.{FieldAt, now_in, differs}

abbrev pub is_target_in : List ℕ → Option Target → Bool
is_target_in numbers None = false
is_target_in numbers (Some (Section key offset addr)) = holds numbers key.cell.0
is_target_in numbers (Some (Number value)) = false

abbrev pub without_in : List ℕ → Option Target → Option Target
without_in numbers t = if is_target_in numbers t then None else t

abbrev pub loses : World → World → List ℕ → Cell → Entry → Bool
loses before after old c e = is_target_in old (target_of before c e) && not (is_target_in old (target_of after (now_in after c) e))

abbrev pub is_replaced : World → World → List ℕ → Cell → Entry → Bool
is_replaced before after old c f = list_any (λ e. is_at f e && loses before after old c e) c.object.entries

abbrev pub replaced_in : World → World → List ℕ → Cell → List FieldAt
replaced_in before after old c = map (λ f. record { cell = now_in after c; field = f }) (filter (is_replaced before after old c) (fields_of c.object))

abbrev pub replaced_fields : World → World → List ℕ → List FieldAt
replaced_fields before after old = flat_map (replaced_in before after old) before.cells

abbrev pub FollowsTargets : World → World → Type 0
FollowsTargets before after =
    All (λ c. All (λ e. differs before after c e ≡ false → target_of after (now_in after c) e ≡ target_of before c e) c.object.entries) before.cells
