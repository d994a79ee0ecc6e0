use Rattle.std.proofs.Common.{◌≡◌, false, true, Some}
use Rattle.std.specs.Prelude.{All, IsTrue}
use Rattle.cell_num.specs.Lists.{holds}
use Rattle.cell_object.specs.declared.object.Entry.{Entry}
use Rattle.cell_world.specs.declared.state.Target.{Target}
use Rattle.cell_world.specs.Changed.{differs}
use Rattle.cell_world.specs.Linked.Target.{target_of}
use Rattle.cell_world.specs.World.{Cell}
use Rattle.cell_num.proofs.Elements.{In-All}
use Rattle.cell_lemmas.specs.Firm.{firm_target}
use Rattle.cell_lemmas.specs.Targets.{is_target_in}
use Rattle.cell_world.specs.Change.{old_of}
use Rattle.cell_change_law.proofs.Lost.{firm_anywhere, lost_differs, own_firm_stays}
use Rattle.cell_change_law.proofs.changes.change_loses_targets.Goals as goal

pub returns-clause-lost : goal.returns-clause-lost
returns-clause-lost k = λ sources v c w sound h good x.
    In-All (λ (d : Cell). All (λ (e : Entry). holds (old_of c) d.id.0 ≡ false → is_target_in (old_of c) (target_of v d e) ≡ true → differs v w d e ≡ true) d.object.entries) v.cells
    (λ d i. In-All (λ (e : Entry). holds (old_of c) d.id.0 ≡ false → is_target_in (old_of c) (target_of v d e) ≡ true → differs v w d e ≡ true) d.object.entries
    (λ e j. lost_differs sources sound v h c good x.gathered x.gathering w x.placing x.covered d i e))

pub returns-clause-firm : goal.returns-clause-firm
returns-clause-firm k = λ sources v c w sound h good x.
    In-All (λ (d : Cell). All (λ (e : Entry). (t : Target) → firm_target v d e ≡ Some t → is_target_in (old_of c) (Some t) ≡ false → differs v w d e ≡ false) d.object.entries) v.cells
    (λ d i. In-All (λ (e : Entry). (t : Target) → firm_target v d e ≡ Some t → is_target_in (old_of c) (Some t) ≡ false → differs v w d e ≡ false) d.object.entries
    (λ e j. firm_anywhere sources sound v h c good x.gathered x.gathering w x.placing x.covered d i e))

pub returns-clause-own : goal.returns-clause-own
returns-clause-own k = λ sources v c w sound h good x.
    In-All (λ (d : Cell). IsTrue (holds (old_of c) d.id.0) → All (λ (e : Entry). (t : Target) → firm_target v d e ≡ Some t → differs v w d e ≡ false) d.object.entries) v.cells
    (λ d i q. In-All (λ (e : Entry). (t : Target) → firm_target v d e ≡ Some t → differs v w d e ≡ false) d.object.entries
    (λ e j. own_firm_stays sources sound v h c good x.gathered x.gathering w x.placing x.covered d i e q))
