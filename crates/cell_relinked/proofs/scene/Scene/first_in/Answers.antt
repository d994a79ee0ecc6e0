use Rattle.cell_bearers.specs.Asked.{first_in}
use Rattle.cell_relinked.proofs.Providing.{found_in}
use Rattle.cell_relinked.proofs.scene.Scene.first_in.Goals as goal

pub returns-clause-first : goal.returns-clause-first
returns-clause-first c = λ name are.
    found_in c.args.self.now first_in c.args.sight.now c.requires c.first_bearer.result c.args.bearers.now name are c.first_bearer.ensures.plain
