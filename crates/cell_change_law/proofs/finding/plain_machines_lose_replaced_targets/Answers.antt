use Rattle.std.proofs.Common.{◌≡◌, not, ◌&&◌}
use Rattle.std.specs.Prelude.{All, IsTrue}
use Rattle.cell_num.specs.Lists.{holds}
use Rattle.cell_object.specs.declared.object.Entry.{Entry}
use Rattle.cell_world.specs.Change.{old_of}
use Rattle.cell_world.specs.Changed.{differs}
use Rattle.cell_world.specs.Linked.Target.{target_of}
use Rattle.cell_world.specs.World.{Cell}
use Rattle.cell_lemmas.specs.Targets.{is_target_in}
use Rattle.cell_object.specs.Parts.{has_no_weak}
use Rattle.cell_num.proofs.Elements.{All-In, In-All}
use Rattle.cell_change_law.proofs.Plain.{lost_alone, new_alone, nothing_changes}
use Rattle.cell_change_law.proofs.finding.plain_machines_lose_replaced_targets.Goals as goal

pub returns-clause-lost : goal.returns-clause-lost
returns-clause-lost k = λ sources v c w sound h good p plain.
    In-All (λ (d : Cell). All (λ (e : Entry). differs v w d e ≡ (not (holds (old_of c) d.id.0) && is_target_in (old_of c) (target_of v d e))) d.object.entries) v.cells
    (λ d i. In-All (λ (e : Entry). differs v w d e ≡ (not (holds (old_of c) d.id.0) && is_target_in (old_of c) (target_of v d e))) d.object.entries
    (lost_alone sources sound v h c good p.gathered p.gathering w p.placing p.covered (All-In (λ (x : Cell). IsTrue (has_no_weak x.object)) v.cells plain) d i))

pub returns-clause-fields : goal.returns-clause-fields
returns-clause-fields k = λ sources v c w sound h good p plain none. nothing_changes sources sound v h c good p.gathered p.gathering w p.placing p.covered (All-In (λ (x : Cell). IsTrue (has_no_weak x.object)) v.cells plain) none

pub returns-clause-refusal : goal.returns-clause-refusal
returns-clause-refusal k = λ sources v c w sound h good p plain none. new_alone sources sound v h c good p.gathered p.gathering w p.placing p.covered (All-In (λ (x : Cell). IsTrue (has_no_weak x.object)) v.cells plain) none
