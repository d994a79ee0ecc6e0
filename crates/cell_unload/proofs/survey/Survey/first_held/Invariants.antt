use Rattle.std.proofs.Common.{◌≡◌, drop, List}
use Rattle.cell_num.specs.declared.ids.CellId.{CellId}
use Rattle.cell_unload.specs.Sweep.{IsSurvey, holding_in}
use Rattle.cell_unload.proofs.Firsts.{held_in}
use Rattle.cell_unload.proofs.survey.Survey.first_held.Given as goal

-- the cells that are left decide
abbrev pub invariant-loop-cell : goal.invariant-loop-cell
invariant-loop-cell l = (aside : List CellId) → IsSurvey l.machine aside l.self → held_in (holding_in l.machine aside) l.cells ≡ held_in (holding_in l.machine aside) (drop l.cell-index l.cells)
