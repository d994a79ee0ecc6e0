use Rattle.std.proofs.Common.{◌∙◌, ap, rules, tests}
use Rattle.std.specs.Prelude.{filter, not}
use Rattle.std.proofs.lemmas.Fn.{filter_same}
use Rattle.cell_graph.specs.Removal.{is_listed}
use Rattle.cell_graph.proofs.section_list.SectionList.remove_listed.Goals as goal

pub returns-clause-items : goal.returns-clause-items
returns-clause-items g c =
    filter_same _ (λ s. not (is_listed c.args.cells.now s.key)) _ (λ x b q k. (search (rules, tests), search (rules, tests))) _ _ c.retain.ensures.filtered
    ∙ ap (λ v. filter (λ s. not (is_listed c.args.cells.now s.key)) v.items) c.self.view_is
