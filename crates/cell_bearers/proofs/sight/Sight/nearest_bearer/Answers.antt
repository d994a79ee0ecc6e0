use Rattle.std.proofs.Common.{◌∙◌, ap}
use Rattle.std.specs.Prelude.{option_map}
use Rattle.cell_bearers.specs.Asked.{provider_at}
use Rattle.cell_bearers.specs.Found.{weak_place}
use Rattle.cell_bearers.proofs.NearestLemmas.{near_some}
use Rattle.cell_bearers.proofs.Plain.{nearest_named}
use Rattle.cell_bearers.proofs.sight.Sight.nearest_bearer.Goals as goal

pub returns-clause-there : goal.returns-clause-there
returns-clause-there c = near_some c.args.self.now (weak_place c.args.objects.now c.args.name.now) c.nearest.result c.nearest.ensures

pub returns-clause-plain : goal.returns-clause-plain
returns-clause-plain c = λ file.
    let s = c.args.self.now in
    ap (option_map (provider_at s.cells.now)) c.nearest.ensures
    ∙ nearest_named file c.args.objects.now s.cells.now c.requires s.asked s.spaces.now c.args.name.now
