use Rattle.cell_world.specs.World.{World}
use Rattle.cell_compared.specs.Left.{left}
use Rattle.cell_compared.specs.Shown.{linked_shown}
use Rattle.cell_compared.specs.Walk.{Walks}
use Rattle.cell_compared.proofs.Scening.{as_world}
use Rattle.cell_compared.proofs.compare.compare_linked.Goals as goal

pub returns : goal.returns
returns c =
    let s = c.scene_of.ensures in
    as_world (λ (w : World). Walks (left c.args.cursor.now) (linked_shown w) (left c.compare_scene.new.cursor) c.compare_scene.result) c.scene_of.result c.args.ground.now c.args.objects.now
    s.file s.base s.pages s.namespaces s.cells s.objects c.compare_scene.ensures
