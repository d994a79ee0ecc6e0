use Rattle.std.proofs.Common.{◌≡◌, false}
use Rattle.std.specs.Prelude.{All}
use Rattle.cell_object.specs.declared.object.Entry.{Entry}
use Rattle.cell_world.specs.Change.{old_of, new_since}
use Rattle.cell_world.specs.Changed.{differs}
use Rattle.cell_world.specs.Linked.Target.{target_of}
use Rattle.cell_world.specs.World.{Cell}
use Rattle.cell_num.proofs.Elements.{In-All}
use Rattle.cell_lemmas.specs.Targets.{is_target_in}
use Rattle.cell_lemmas.specs.Touched.{awaits, swap_comers, touched}
use Rattle.cell_change_law.proofs.Untouched.{change_stays}
use Rattle.cell_change_law.proofs.finding.untouched_cells_stay_in_change.Goals as goal

pub returns : goal.returns
returns k = λ sources v c w sound h good p.
    In-All (λ (d : Cell). awaits (swap_comers v (old_of c) (new_since v w)) d ≡ false → All (λ (e : Entry). is_target_in (touched v (old_of c) (swap_comers v (old_of c) (new_since v w))) (target_of v d e) ≡ false → differs v w d e ≡ false) d.object.entries) v.cells
    (λ d i quiet. In-All (λ (e : Entry). is_target_in (touched v (old_of c) (swap_comers v (old_of c) (new_since v w))) (target_of v d e) ≡ false → differs v w d e ≡ false) d.object.entries
    (change_stays sources sound v h c good p.gathered p.gathering w p.placing p.covered d i quiet))
