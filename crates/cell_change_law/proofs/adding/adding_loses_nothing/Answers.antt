use Rattle.std.proofs.Common.{◌≡◌, refl, ◌∙◌, ap, subst, false, List, [], ℕ, Some}
use Rattle.std.specs.Prelude.{All}
use Rattle.cell_object.specs.declared.object.Entry.{Entry}
use Rattle.cell_world.specs.declared.state.Target.{Target}
use Rattle.cell_world.specs.declared.state.Target.TheVariants.{Section, Number}
use Rattle.cell_world.specs.Changed.{differs}
use Rattle.cell_world.specs.World.{Cell}
use Rattle.cell_num.proofs.Elements.{In-All}
use Rattle.cell_lemmas.specs.Firm.{ChangesSoft, firm_target}
use Rattle.cell_lemmas.specs.Targets.{is_target_in}
use Rattle.cell_world.specs.Change.{Plan}
use Rattle.cell_change_law.proofs.Added.{adding_attached, adding_covered}
use Rattle.cell_change_law.proofs.Lost.{firm_anywhere}
use Rattle.cell_change_law.proofs.Steps.{Planned, planned}
use Rattle.cell_change_law.proofs.adding.adding_loses_nothing.Goals as goal

pub returns-clause-covered : goal.returns-clause-covered
returns-clause-covered k = λ sources v c g sound h good none gathering. adding_covered sources sound v h c good none g gathering

pub returns-clause-attached : goal.returns-clause-attached
returns-clause-attached k = λ sources v c w sound h good none p. adding_attached sources sound v h c good none p.gathered p.gathering w p.placing

in_none : (t : Target) → is_target_in [] (Some t) ≡ false
in_none (Section key offset addr) = refl
in_none (Number value) = refl

pub returns-clause-soft : goal.returns-clause-soft
returns-clause-soft k = λ sources v c plan sound h good none a.
    let x : Planned sources v c plan = planned sources v c plan a in
    subst (λ (y : Plan). ChangesSoft v y.linked) x.is
    (In-All (λ (d : Cell). All (λ (e : Entry). (t : Target) → firm_target v d e ≡ Some t → differs v x.world d e ≡ false) d.object.entries) v.cells
    (λ d i. In-All (λ (e : Entry). (t : Target) → firm_target v d e ≡ Some t → differs v x.world d e ≡ false) d.object.entries
    (λ e j t f. firm_anywhere sources sound v h c good x.gathered x.gathering x.world x.placing x.covered d i e t f (ap (λ (ns : List ℕ). is_target_in ns (Some t)) none ∙ in_none t))))
