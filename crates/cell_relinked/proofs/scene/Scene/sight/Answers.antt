use Rattle.cell_relinked.proofs.Providing.{objects_there}
use Rattle.cell_relinked.proofs.scene.Scene.sight.Goals as goal

pub sight_of-requires : goal.sight_of-requires
sight_of-requires c = objects_there c.args.self.now
