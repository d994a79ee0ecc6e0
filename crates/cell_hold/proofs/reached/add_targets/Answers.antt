use Rattle.std.proofs.Common.{rules, ◌≡◌, ◌∙◌, refl, subst, sym, List}
use Rattle.cell_world.specs.declared.state.LinkRow.{LinkRow}
use Rattle.cell_hold.proofs.Linking.{TargetsSoFar, targets_begun, targets_more, targets_done}
use Rattle.cell_hold.proofs.reached.add_targets.Goals as goal

pub loop-link-init : goal.loop-link-init
loop-link-init c =
    let same : c.into_iter-link-iterator.result ≡ c.deps_of_cell_near-links.result.0 = search rules in
    record {
      added =
          subst (λ (rows : List LinkRow). TargetsSoFar c.args.graph.now c.args.cell.0 rows c.args.into.now.room c.args.into.now.items c.args.into.now.items) (sym same)
          (targets_begun c.args.graph.now c.args.cell.0 _ _ c.deps_of_cell_near-links.result.0 c.deps_of_cell_near-links.ensures);
      room = refl;
    }

pub loop-link-preserved : goal.loop-link-preserved
loop-link-preserved c = record {
  added = targets_more _ _ _ _ _ _ _ _ _ _ (c.in-Some.ensures {u = tt}).steps c.loop-link.invariant.room c.loop-link.invariant.added c.add.ensures.added;
  room = c.add.ensures.room ∙ c.loop-link.invariant.room;
}

pub returns-clause-added : goal.returns-clause-added
returns-clause-added c = targets_done _ _ _ _ _ _ (c.in-None.ensures {u = tt}).steps.0 c.loop-link.invariant.added
