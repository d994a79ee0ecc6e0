use Rattle.std.proofs.Common.{◌∙◌, ap, sym, ℕ}
use Rattle.std.specs.Prelude.{Option, Some}
use Rattle.cell_view.proofs.all_cells.group_of.Goals as goal

pub returns-in-Some : goal.returns-in-Some
returns-in-Some c = λ d i same. ap (λ n. let o : Option ℕ = Some n in o) c.from.ensures ∙ (sym c.in-Some.is ∙ c.group.ensures d i same)

pub returns-in-None : goal.returns-in-None
returns-in-None c = λ d i same. sym c.in-None.is ∙ c.group.ensures d i same
