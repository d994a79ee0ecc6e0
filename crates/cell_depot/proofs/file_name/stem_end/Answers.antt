use Rattle.std.proofs.Common.{◌∙◌, ap, length}
use Rattle.std.specs.Prelude.{unwrap_or, ◌==◌, ◌||◌}
use Rattle.cell_depot.proofs.NameParts.{place_or_end}
use Rattle.cell_depot.proofs.file_name.stem_end.Goals as goal

pub returns-clause-place : goal.returns-clause-place
returns-clause-place c = c.unwrap_or.ensures ∙ ap (λ o. unwrap_or o (length c.args.rest.now)) c.first_dash_or_dot.ensures ∙ place_or_end (λ b. b == 45 || b == 46) c.args.rest.now
