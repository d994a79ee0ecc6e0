use Rattle.std.proofs.Common.{◌∙◌, ap, rules, tests}
use Rattle.std.specs.Prelude.{filter, not}
use Rattle.std.proofs.lemmas.Fn.{filter_same}
use Rattle.cell_graph.specs.Removal.{is_listed}
use Rattle.cell_graph.proofs.row_list.RowList.remove_listed.Goals as goal

pub returns-clause-items : goal.returns-clause-items
returns-clause-items g c =
    filter_same _ (λ r. not (is_listed c.args.cells.now r.user)) _ (λ x b q k. (search (rules, tests), search (rules, tests))) _ _ c.retain.ensures.filtered
    ∙ ap (λ v. filter (λ r. not (is_listed c.args.cells.now r.user)) v.items) c.self.view_is
