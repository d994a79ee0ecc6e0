use Rattle.std.proofs.Common.{ℕ, ◌∙◌, subst}
use Rattle.cell_hold.specs.declared.roots.Root.{Root}
use Rattle.cell_hold.specs.Adds.{Adds}
use Rattle.cell_hold.specs.Roots.{is_attached}
use Rattle.cell_hold.proofs.Adding.{added_all, added_next}
use Rattle.cell_hold.proofs.direct.add_attached.Goals as goal

pub loop-root-preserved : goal.loop-root-preserved
loop-root-preserved c = record {
  added =
      added_next (λ (root : Root) (k : ℕ). is_attached root k) c.args.roots.now c.loop-root.root-index c.root-item.result _ _ _ _ _ c.loop-root-test.true c.loop-root.invariant.room c.loop-root.invariant.added
      (subst (λ (root : Root). Adds (is_attached root) c.loop-root.into.room c.loop-root.into.items c.add_if_attached.new.into.items) c.root-item.is c.add_if_attached.ensures.added);
  room = c.add_if_attached.ensures.room ∙ c.loop-root.invariant.room;
}

pub returns-clause-added : goal.returns-clause-added
returns-clause-added c = added_all (λ (root : Root) (k : ℕ). is_attached root k) c.args.roots.now c.loop-root.root-index _ _ _ c.loop-root-test.false c.loop-root.invariant.added
