use Rattle.std.proofs.Common.{◌≡◌, ap, suc, ◌∙◌, subst, List, map}
use Rattle.cell_num.specs.declared.ids.CellId.{CellId}
use Rattle.cell_world.specs.Commands.UnloadCommand.{garbage_of}
use Rattle.cell_machine.specs.Machine.{world_of}
use Rattle.cell_unload.specs.Removed.{IsRemoved}
use Rattle.cell_unload.specs.Sweep.{aside_in}
use Rattle.cell_unload.proofs.Aside.{garbage_present, garbage_rises, garbage_unused}
use Rattle.cell_unload.proofs.sweep.remove_unkept.Goals as goal

pub remove-requires-clause-rising : goal.remove-requires-clause-rising
remove-requires-clause-rising c =
    let m = c.args.machine.now in
    let aside = c.requires.survey.aside in
    let are : map (λ (x : CellId). x.0) c.deref.result.now ≡ garbage_of (aside_in m aside) = ap (map (λ (x : CellId). x.0)) c.deref.ensures.value ∙ c.list_unkept.ensures aside c.requires.survey.is in
    garbage_rises (world_of m) (suc (world_of m).swaps) (map (λ (x : CellId). x.0) aside) c.requires.sound.coherent c.deref.result.now are

pub remove-requires-clause-present : goal.remove-requires-clause-present
remove-requires-clause-present c =
    let m = c.args.machine.now in
    let aside = c.requires.survey.aside in
    let are : map (λ (x : CellId). x.0) c.deref.result.now ≡ garbage_of (aside_in m aside) = ap (map (λ (x : CellId). x.0)) c.deref.ensures.value ∙ c.list_unkept.ensures aside c.requires.survey.is in
    garbage_present (world_of m) (suc (world_of m).swaps) (map (λ (x : CellId). x.0) aside) c.requires.sound.coherent c.deref.result.now are

pub remove-requires-clause-unused : goal.remove-requires-clause-unused
remove-requires-clause-unused c =
    let m = c.args.machine.now in
    let aside = c.requires.survey.aside in
    let are : map (λ (x : CellId). x.0) c.deref.result.now ≡ garbage_of (aside_in m aside) = ap (map (λ (x : CellId). x.0)) c.deref.ensures.value ∙ c.list_unkept.ensures aside c.requires.survey.is in
    garbage_unused (world_of m) (suc (world_of m).swaps) (map (λ (x : CellId). x.0) aside) c.requires.sound.coherent c.deref.result.now are

pub returns : goal.returns
returns c = λ aside survey. (
  c.list_unkept.ensures aside survey,
  subst (λ (cells : List CellId). IsRemoved c.args.machine.now cells c.remove.new.machine) c.deref.ensures.value c.remove.ensures,
)
