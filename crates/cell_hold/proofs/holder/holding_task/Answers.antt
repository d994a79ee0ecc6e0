use Rattle.std.proofs.Common.{◌∙◌, ap, sym}
use Rattle.cell_hold.specs.declared.roots.Root.{Root}
use Rattle.cell_hold.specs.Reached.{claimant}
use Rattle.cell_hold.proofs.Claiming.{root_holding, root_passed, no_root}
use Rattle.cell_hold.proofs.holder.holding_task.Goals as goal

pub returns-in-Some : goal.returns-in-Some
returns-in-Some c =
    let here = ap (λ (root : Root). claimant c.args.memory.now c.args.places.now root c.args.cell.0) (sym c.root-item.is) ∙ sym (c.in-Some.ensures {u = tt}) in
    root_holding c.args.memory.now c.args.places.now c.args.cell.0 c.args.roots.now c.loop-root.root-index c.root-item.result c.in-Some.task c.loop-root-test.true here c.loop-root.invariant

pub loop-root-preserved : goal.loop-root-preserved
loop-root-preserved c =
    let none = ap (λ (root : Root). claimant c.args.memory.now c.args.places.now root c.args.cell.0) (sym c.root-item.is) ∙ sym (c.in-None.ensures {u = tt}) in
    root_passed c.args.memory.now c.args.places.now c.args.cell.0 c.args.roots.now c.loop-root.root-index c.root-item.result c.loop-root-test.true none c.loop-root.invariant

pub returns : goal.returns
returns c = no_root c.args.memory.now c.args.places.now c.args.cell.0 c.args.roots.now c.loop-root.root-index c.loop-root-test.false c.loop-root.invariant
