-- The machine of a scene is that of its ground.
use Rattle.std.proofs.Common.{◌≡◌, subst, ℕ, List, map}
use Rattle.cell_object.specs.declared.object.Object.{Object}
use Rattle.cell_world.specs.World.{World}
use Rattle.cell_world.specs.declared.state.Namespace.{Namespace}
use Rattle.cell_described.specs.Describes.{cell_seen}
use Rattle.cell_described.specs.declared.cell.DescribedCell.{DescribedCell}
use Rattle.cell_relinked.specs.Fit.{machine}
use Rattle.cell_relinked.specs.Linking.{world_in}
use Rattle.cell_relinked.specs.Scene.{world_of}
use Rattle.cell_relinked.specs.declared.ground.Ground.{Ground}
use Rattle.cell_relinked.specs.declared.scene.Scene.{Scene}

pub as_world : (P : World → Type 0) (s : Scene) (g : Ground) (objects : List Object) → s.file.now ≡ g.file.now → s.base ≡ g.base → s.pages ≡ g.pages → s.namespaces.now ≡ g.namespaces.now → s.cells.now ≡ g.cells.now
    → s.objects.now ≡ objects → P (world_of s) → P (world_in g objects)
as_world P s g objects file base pages namespaces cells os h =
    subst (λ (o : List Object). P (machine g.base g.pages g.namespaces.now (map (cell_seen g.file.now o) g.cells.now))) os
    (subst (λ (cs : List DescribedCell). P (machine g.base g.pages g.namespaces.now (map (cell_seen g.file.now s.objects.now) cs))) cells
    (subst (λ (ns : List Namespace). P (machine g.base g.pages ns (map (cell_seen g.file.now s.objects.now) s.cells.now))) namespaces
    (subst (λ (n : ℕ). P (machine g.base n s.namespaces.now (map (cell_seen g.file.now s.objects.now) s.cells.now))) pages
    (subst (λ (n : ℕ). P (machine n s.pages s.namespaces.now (map (cell_seen g.file.now s.objects.now) s.cells.now))) base
    (subst (λ (f : List ℕ). P (machine s.base s.pages s.namespaces.now (map (cell_seen f s.objects.now) s.cells.now))) file h)))))
