use Rattle.std.proofs.Common.{ℕ, Bool, ◌∙◌, subst}
use Rattle.cell_hold.specs.declared.roots.Root.{Root}
use Rattle.cell_hold.specs.Adds.{Adds}
use Rattle.cell_hold.specs.Reached.{root_holds}
use Rattle.cell_hold.proofs.Adding.{added_next}
use Rattle.cell_hold.proofs.Rooting.{roots_added}
use Rattle.cell_hold.proofs.direct.add_held.Goals as goal

pub loop-root-preserved : goal.loop-root-preserved
loop-root-preserved c =
    let f : Root → ℕ → Bool = λ root. root_holds c.args.memory.now c.args.others.now.items root in
    record {
      added =
          added_next (λ (root : Root). λ (k : ℕ). f root k) c.args.roots.now c.loop-root.root-index c.root-item.result _ _ _ _ _ c.loop-root-test.true c.loop-root.invariant.room c.loop-root.invariant.added
          (subst (λ (root : Root). Adds (λ k. f root k) c.loop-root.into.room c.loop-root.into.items c.add_root.new.into.items) c.root-item.is c.add_root.ensures.added);
      room = c.add_root.ensures.room ∙ c.loop-root.invariant.room;
    }

pub returns-clause-added : goal.returns-clause-added
returns-clause-added c = roots_added c.args.memory.now c.args.others.now.items c.args.roots.now c.loop-root.root-index _ _ _ c.loop-root-test.false c.loop-root.invariant.added
