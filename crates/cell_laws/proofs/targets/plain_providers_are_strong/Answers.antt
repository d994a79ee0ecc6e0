use Rattle.std.specs.Prelude.{IsTrue}
use Rattle.cell_world.specs.World.{Cell}
use Rattle.cell_object.specs.Parts.{has_no_weak}
use Rattle.cell_num.proofs.Elements.{All-In}
use Rattle.cell_lemmas.proofs.Targeting.Plain.{strong_alone}
use Rattle.cell_laws.proofs.targets.plain_providers_are_strong.Goals as goal

pub returns : goal.returns
returns c = λ w plain. strong_alone w (All-In (λ (x : Cell). IsTrue (has_no_weak x.object)) w.cells plain)
