use Rattle.std.proofs.Common.{◌∙◌, ap, map, rules, tests}
use Rattle.std.specs.Prelude.{◌==◌, not}
use Rattle.std.specs.List.{list_any}
use Rattle.std.proofs.lemmas.Fn.{filter_same}
use Rattle.cell_num.specs.Lists.{holds}
use Rattle.cell_world.specs.declared.state.NewCell.{NewCell}
use Rattle.cell_unload.proofs.Leftovers.{filter_equal, holds_numbers}
use Rattle.cell_unload.proofs.removal.leave_others.Goals as goal

pub returns : goal.returns
returns c =
    filter_same _ (λ (x : NewCell). not (list_any (λ d. d.0 == x.id.0) c.args.cells.now)) _ (λ x b q k. (search (rules, tests), search (rules, tests))) _ _ c.retain.ensures.filtered
    ∙ filter_equal (λ (x : NewCell). not (list_any (λ d. d.0 == x.id.0) c.args.cells.now)) (λ (x : NewCell). not (holds (map (λ d. d.0) c.args.cells.now) x.id.0)) c.args.present.now.items
    (λ x i. ap not (holds_numbers c.args.cells.now x.id.0))
