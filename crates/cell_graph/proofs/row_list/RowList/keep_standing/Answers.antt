use Rattle.std.proofs.Common.{◌∙◌, ap, rules, tests}
use Rattle.std.specs.Prelude.{is_some}
use Rattle.std.proofs.lemmas.Fn.{filter_same}
use Rattle.slab.specs.Slab.{get}
use Rattle.cell_graph.specs.declared.order.RowPlace.{RowPlace}
use Rattle.cell_graph.specs.Standing.{standing}
use Rattle.cell_graph.proofs.row_list.RowList.keep_standing.Goals as goal

pub returns-clause-items : goal.returns-clause-items
returns-clause-items g c =
    filter_same _ (λ (r : RowPlace). is_some (get c.args.rows.now r.place)) _ (λ x b q k. (search (rules, tests), search (rules, tests))) _ _ c.retain.ensures.filtered
    ∙ ap (λ v. standing (get c.args.rows.now) v.items) c.self.view_is
