use Rattle.std.proofs.Common.{ap, Bool, List, false, ◌∙◌}
use Rattle.std.specs.Prelude.{slice_get, unwrap_or}
use Rattle.cell_bearers.proofs.FirstSeen.{marked}
use Rattle.cell_bearers.proofs.sight.Sight.sees_at.Goals as goal

pub returns : goal.returns
returns c =
    c.is_marked.ensures
    ∙ (ap (λ (marks : List Bool). unwrap_or (slice_get marks c.args.place) false) c.deref.ensures.value ∙ marked c.args.self.now c.requires c.args.place)
