-- A turn of a live task keeps the machine coherent.
use Rattle.std.proofs.Common.{◌≡◌, refl, sym, subst, inl, inr, List, Some}
use Rattle.std.specs.Prelude.{◌==◌}
use Rattle.cell_world.specs.declared.reply.TaskState.{TaskState}
use Rattle.cell_world.specs.declared.reply.TaskState.TheVariants.{Ready, Done, Fault as Faulted}
use Rattle.cell_world.specs.World.{World, Region, Task, task_of}
use Rattle.cell_world.specs.Coherent.{IsCoherent}
use Rattle.cell_world.specs.Running.Execute.{seen_in}
use Rattle.cell_world.specs.Running.Move.{Move}
use Rattle.cell_world.specs.Running.Turn.{hart_of, standing, task_column, turn, turned}
use Rattle.cell_num.specs.Lists.{In}
use Rattle.cell_num.proofs.Elements.{found-In}
use Rattle.cell_lemmas.proofs.Tasks.Killed.{kill_coherent}
use Rattle.cell_lemmas.proofs.Tasks.Changed.{TaskParts, live_parts, task_coherent}
use Rattle.cell_lemmas.proofs.Tasks.Stored.{store_coherent}
use Rattle.cell_lemmas.proofs.Tasks.Executed.{Whole, Stored, GoodMove, good_move}

pub live_whole : (w : World) → IsCoherent w → (t : Task) → In t w.tasks → Whole t.registers
live_whole w h t i = let p : TaskParts w t = live_parts w h t i in (p.registers, p.first)

pub stored_coherent : (w : World) → IsCoherent w → (regions : List Region) → Stored (seen_in w) regions → IsCoherent (record w { regions = regions })
stored_coherent w h regions (inl e) = subst (λ rs. IsCoherent (record w { regions = rs })) (sym e) h
stored_coherent w h regions (inr s) = subst (λ rs. IsCoherent (record w { regions = rs })) (sym s.is) (store_coherent w h s.addr s.new s.free s.may)

turned_coherent : (w : World) → IsCoherent w → (t : Task) → In t w.tasks → (after : Move) → GoodMove (seen_in w) (hart_of t) after → IsCoherent (turned w t after).world
turned_coherent w h t i after g = go after.state
  where
    v : World
    v = record w { regions = after.regions }

    u : Task
    u = record t { pc = after.hart.pc; registers = after.hart.registers }

    coherent : IsCoherent v
    coherent = stored_coherent w h after.regions g.stored

    whole : Whole after.hart.registers
    whole = g.whole (live_whole w h t i)

    go : (state : TaskState) → IsCoherent (standing v u state)
    go Ready = task_coherent v coherent t u i refl refl refl whole.0 whole.1 refl
    go (Done code) = kill_coherent v coherent t i
    go (Faulted cause pc) = task_coherent v coherent t (record u { fault = Some (record { cause = cause; pc = pc }) }) i refl refl refl whole.0 whole.1 refl

pub turn_coherent : (w : World) → IsCoherent w → (t : Task) → In t w.tasks → IsCoherent (turn w t).world
turn_coherent w h t i = turned_coherent w h t i _ (good_move (seen_in w) (hart_of t) task_column)

pub turn_keeps : (w : World) (t : Task) → IsCoherent w → task_of w t.number ≡ Some t → IsCoherent (turn w t).world
turn_keeps w t h e = turn_coherent w h t (found-In (λ u. u.number == t.number) w.tasks t e).0
