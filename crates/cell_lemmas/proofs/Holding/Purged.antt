-- What a purge leaves of a coherent machine.
use Rattle.std.proofs.Common.{◌≡◌, refl, subst, false, ◌↔◌}
use Rattle.std.specs.Prelude.{All}
use Rattle.cell_num.specs.Lists.{holds, In}
use Rattle.cell_world.specs.declared.reply.Reply.TheVariants.{Purge as PurgeDone}
use Rattle.cell_world.specs.World.{World, Cell}
use Rattle.cell_world.specs.Commands.UnloadCommand.{garbage_of, purged}
use Rattle.cell_world.specs.Kept.{IsKept, holding_of}
use Rattle.cell_world.specs.Answer.{Done, ids, numbers_of}
use Rattle.cell_world.specs.Coherent.{IsCoherent}
use Rattle.cell_lemmas.specs.Left.{IsFree, IsUnreached, LeavesTargets, LeavesFields}
use Rattle.cell_lemmas.proofs.Holding.AllKept.{purge_keeps, purge_unreached}
use Rattle.cell_lemmas.proofs.Holding.Removals.{removed_targets, removed_fields, purge_removed, purge_leaves}

-- a purge of any machine
abbrev purge_of : World → Done
purge_of w = record { reply = PurgeDone (ids (garbage_of w)); world = purged w }

module _ (w u : World) (h : IsCoherent w) (is : purged w ≡ u) where
  pub purged_left : (c : Cell) → In c u.cells ↔ (In c w.cells × (IsFree w c → ⊥))
  purged_left = subst (λ (u : World). (c : Cell) → In c u.cells ↔ (In c w.cells × (IsFree w c → ⊥))) is (purge_leaves w (purge_of w) h refl)

  pub purged_unreached : All (λ c. holds (numbers_of u.cells) c.id.0 ≡ false → IsUnreached w u c) w.cells
  purged_unreached = subst (λ (u : World). All (λ c. holds (numbers_of u.cells) c.id.0 ≡ false → IsUnreached w u c) w.cells) is (purge_unreached w (purge_of w) h refl)

  pub purged_targets : LeavesTargets w u
  purged_targets = subst (LeavesTargets w) is (removed_targets w (purged w) h (purge_removed w (purge_of w) h refl))

  pub purged_fields : LeavesFields w u
  purged_fields = subst (LeavesFields w) is (removed_fields w (purged w) h (purge_removed w (purge_of w) h refl))

  pub purged_kept : All (λ c. IsKept (holding_of u) c.id.0) u.cells
  purged_kept = subst (λ (u : World). All (λ c. IsKept (holding_of u) c.id.0) u.cells) is (purge_keeps w (purge_of w) h refl)
