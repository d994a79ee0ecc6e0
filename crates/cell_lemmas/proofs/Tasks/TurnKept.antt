-- What a turn of a live task leaves as it was.
use Rattle.std.proofs.Common.{◌≡◌, sym, ◌∙◌, ap, subst, ℕ, inl, inr, Bool, false, not, List, Some}
use Rattle.std.specs.Prelude.{All, filter, ◌==◌}
use Rattle.cell_object.specs.declared.object.Entry.{Entry}
use Rattle.cell_num.specs.Kinds.{width_of}
use Rattle.cell_world.specs.declared.reply.TaskState.{TaskState}
use Rattle.cell_world.specs.declared.reply.TaskState.TheVariants.{Ready, Done, Fault as Faulted}
use Rattle.cell_world.specs.World.{World, Cell, Region, Task, task_of}
use Rattle.cell_world.specs.Running.Memory.{read}
use Rattle.cell_world.specs.Linked.Field.{fields_of, place_of}
use Rattle.cell_world.specs.Coherent.{IsCoherent, Shape, shape_of}
use Rattle.cell_world.specs.Running.Execute.{seen_in}
use Rattle.cell_world.specs.Running.Move.{Move, move}
use Rattle.cell_world.specs.Running.Turn.{hart_of, standing, task_column, turn, turned, without_region}
use Rattle.cell_num.specs.Lists.{In}
use Rattle.cell_num.proofs.Elements.{In-All, found-In}
use Rattle.cell_lemmas.specs.Kept.{KeepsCells, KeepsFields, KeepsReadOnly, KeepsShapes, regions_left}
use Rattle.cell_num.proofs.Sublists.{map_filter}
use Rattle.cell_lemmas.proofs.Tasks.Kept.{Kept, kept_tasks, kept_same, kept_then, kept_killed, kept_stored}
use Rattle.cell_lemmas.proofs.Tasks.Memory.{move_shapes, seen_memory}
use Rattle.cell_lemmas.proofs.Tasks.Turned.{stored_coherent}
use Rattle.cell_lemmas.proofs.Tasks.Executed.{Stored, GoodMove, good_move}

pub kept_by : (w : World) → IsCoherent w → (regions : List Region) → Stored (seen_in w) regions → Kept w (record w { regions = regions })
kept_by w h regions (inl e) = subst (λ rs. Kept w (record w { regions = rs })) (sym e) (kept_same w)
kept_by w h regions (inr s) = subst (λ rs. Kept w (record w { regions = rs })) (sym s.is) (kept_stored w h s.addr s.new s.free s.may)

turned_kept : (w : World) → IsCoherent w → (t : Task) → In t w.tasks → (after : Move) → GoodMove (seen_in w) (hart_of t) after → Kept w (turned w t after).world
turned_kept w h t i after g = kept_then w v (turned w t after).world (kept_by w h after.regions g.stored) (go after.state)
  where
    v : World
    v = record w { regions = after.regions }

    u : Task
    u = record t { pc = after.hart.pc; registers = after.hart.registers }

    go : (state : TaskState) → Kept v (standing v u state)
    go Ready = kept_tasks v v (kept_same v) _
    go (Done code) = kept_killed v (stored_coherent w h after.regions g.stored) t i
    go (Faulted cause pc) = kept_tasks v v (kept_same v) _

turn_kept : (w : World) (t : Task) → IsCoherent w → task_of w t.number ≡ Some t → Kept w (turn w t).world
turn_kept w t h e = turned_kept w h t (found-In (λ u. u.number == t.number) w.tasks t e).0 _ (good_move (seen_in w) (hart_of t) task_column)

pub turn_cells : (w : World) (t : Task) → IsCoherent w → task_of w t.number ≡ Some t → KeepsCells w (turn w t).world
turn_cells w t h e = (turn_kept w t h e).same

pub turn_read_only : (w : World) (t : Task) → IsCoherent w → task_of w t.number ≡ Some t → KeepsReadOnly w.regions (turn w t).world.regions
turn_read_only w t h e = In-All (λ (r : Region). r.permission.write ≡ false → In r (turn w t).world.regions) w.regions (turn_kept w t h e).read_only

pub kept_fields : (v w : World) → Kept v w → KeepsFields v w
kept_fields v w k =
    In-All (λ (c : Cell). All (λ (f : Entry). read w (place_of c.placed f) (width_of f.kind) ≡ read v (place_of c.placed f) (width_of f.kind)) (fields_of c.object)) v.cells
    (λ c i. In-All (λ (f : Entry). read w (place_of c.placed f) (width_of f.kind) ≡ read v (place_of c.placed f) (width_of f.kind)) (fields_of c.object) (k.fields c i))

pub turn_fields : (w : World) (t : Task) → IsCoherent w → task_of w t.number ≡ Some t → KeepsFields w (turn w t).world
turn_fields w t h e = kept_fields w (turn w t).world (turn_kept w t h e)

-- without the stack as with it
shapes_without : (stack : ℕ) (old new : List Region) → KeepsShapes old new → KeepsShapes (without_region stack old) (without_region stack new)
shapes_without stack old new e =
    let other : Shape → Bool = λ s. not (s.start == stack) in
    map_filter shape_of other new ∙ (ap (filter other) e ∙ sym (map_filter shape_of other old))

pub turn_shapes : (w : World) (t : Task) → IsCoherent w → KeepsShapes (regions_left w.regions t.stack (turn w t).state) (turn w t).world.regions
turn_shapes w t h = go after.state
  where
    after : Move
    after = move task_column (seen_in w) (hart_of t)

    same : KeepsShapes w.regions after.regions
    same = move_shapes task_column (seen_in w) (hart_of t) (seen_memory w h)

    go : (state : TaskState) → KeepsShapes (regions_left w.regions t.stack state) (standing (record w { regions = after.regions }) (record t { pc = after.hart.pc; registers = after.hart.registers }) state).regions
    go Ready = same
    go (Done code) = shapes_without t.stack w.regions after.regions same
    go (Faulted cause pc) = same
