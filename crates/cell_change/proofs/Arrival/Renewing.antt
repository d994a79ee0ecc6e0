-- Holding begins where a task stands now.
use Rattle.std.proofs.Common.{◌≡◌, sym, ◌∙◌, ap, subst, map, Option, None, Some}
use Rattle.cell_hold.specs.declared.roots.Root.TheVariants.{Task as TaskRoot}
use Rattle.cell_hold.specs.declared.roots.TaskView.{TaskView}
use Rattle.cell_world.specs.World.{Task}
use Rattle.cell_unload.specs.declared.outlook.Outlook.{Outlook}
use Rattle.cell_unload.specs.Begun.{renewed_root, root_of_task}
use Rattle.cell_change.specs.Restarting.{Renews, view_as}

some_same : (a b : Task) → Some a ≡ Some b → a ≡ b
some_same a b e = cc

view_same : (a b : TaskView) → TaskRoot a ≡ TaskRoot b → a ≡ b
view_same a b e = cc

-- it isn't read
pub renews_none : (t : Task) (o : Option Outlook) → o ≡ None → Renews t o o
renews_none t o e = subst (λ (x : Option Outlook). Renews t x x) (sym e) tt

pub renews_some : (t u : Task) → Some u ≡ Some t → (o : Option Outlook) (old : Outlook) → o ≡ Some old → (view : TaskView) → TaskRoot view ≡ root_of_task u → (new : Outlook) → new.places ≡ old.places
    → new.roots.items ≡ map (renewed_root view) old.roots.items → Renews t o (Some new)
renews_some t u same o old is view seen new places roots =
    let as_view : view ≡ view_as t = view_same view (view_as t) (seen ∙ ap root_of_task (some_same u t same)) in
    subst (λ (x : Option Outlook). Renews t x (Some new)) (sym is) (places, roots ∙ ap (λ (v : TaskView). map (renewed_root v) old.roots.items) as_view)
