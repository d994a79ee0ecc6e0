use Rattle.std.proofs.Common.{◌∙◌, ap, map, rules, tests}
use Rattle.std.specs.Prelude.{◌==◌, not}
use Rattle.std.specs.List.{list_any}
use Rattle.std.proofs.lemmas.Fn.{filter_same}
use Rattle.cell_num.specs.Lists.{holds}
use Rattle.cell_num.specs.declared.ids.CellId.{CellId}
use Rattle.cell_unload.proofs.Leftovers.{filter_equal, holds_numbers}
use Rattle.cell_unload.proofs.removal.leave_numbers.Goals as goal

pub returns : goal.returns
returns c =
    filter_same _ (λ (x : CellId). not (list_any (λ d. d.0 == x.0) c.args.cells.now)) _ (λ x b q k. (search (rules, tests), search (rules, tests))) _ _ c.retain.ensures.filtered
    ∙ filter_equal (λ (x : CellId). not (list_any (λ d. d.0 == x.0) c.args.cells.now)) (λ (x : CellId). not (holds (map (λ d. d.0) c.args.cells.now) x.0)) c.args.numbers.now.items
    (λ x i. ap not (holds_numbers c.args.cells.now x.0))
