use Rattle.std.proofs.Common.{◌∙◌, ap, List}
use Rattle.std.specs.Prelude.{◌==◌}
use Rattle.std.specs.List.{list_any}
use Rattle.cell_num.specs.declared.ids.CellId.{CellId}
use Rattle.cell_unload.proofs.Aside.{listed_numbers}
use Rattle.cell_unload.proofs.survey.Survey.keeps.Goals as goal

pub returns : goal.returns
returns c =
    c.contains.ensures.value
    ∙ (ap (λ (cells : List CellId). list_any (λ (x : CellId). x.0 == c.args.cell.0) cells) c.deref.ensures.value ∙ listed_numbers c.args.self.now.kept.items c.args.cell.0)
