use Rattle.std.proofs.Common.{◌∙◌, ap}
use Rattle.std.specs.Prelude.{option_map}
use Rattle.cell_bearers.specs.Asked.{provider_at}
use Rattle.cell_bearers.proofs.Plain.{first_named}
use Rattle.cell_bearers.proofs.Stopping.{ordered}
use Rattle.cell_bearers.proofs.sight.Sight.first_bearer.Goals as goal

pub returns-clause-plain : goal.returns-clause-plain
returns-clause-plain c = λ file objects name is there.
    let s = c.args.self.now in
    ap (option_map (provider_at s.cells.now)) (c.first.ensures.first (ordered file name objects s.cells.now c.args.bearers.now is))
    ∙ first_named file objects s.cells.now there s.asked s.spaces.now name c.args.bearers.now is
