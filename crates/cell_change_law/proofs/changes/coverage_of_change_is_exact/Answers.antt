use Rattle.std.proofs.Common.{◌≡◌, true, subst, ◌↔◌}
use Rattle.std.specs.Prelude.{is_none}
use Rattle.cell_world.specs.Change.{old_of}
use Rattle.cell_world.specs.Gather.{fresh_cells}
use Rattle.cell_world.specs.Names.{provider_of}
use Rattle.cell_world.specs.World.{World}
use Rattle.cell_lemmas.specs.Lost.{IsLost}
use Rattle.cell_change_law.proofs.Gathering.{at}
use Rattle.cell_change_law.proofs.Uncovered.{lost_exactly}
use Rattle.cell_change_law.proofs.changes.coverage_of_change_is_exact.Goals as goal

pub returns : goal.returns
returns k = λ sources v c g sound h good gathering d i out name j.
    subst (λ (u : World). (is_none (provider_of g d name) ≡ true) ↔ IsLost v u (old_of c) (fresh_cells v.next_cell g) d name) (at sources sound v h c good).is
    (lost_exactly sources sound v h c good g gathering d i out name j)
