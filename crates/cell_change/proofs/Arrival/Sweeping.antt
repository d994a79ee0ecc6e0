-- What a sweep leaves is what a purge leaves.
use Rattle.std.proofs.Common.{◌≡◌, refl, sym, ap, arith, ℕ, ◌≤◌, List, [], length}
use Rattle.std.specs.Prelude.{not}
use Rattle.std.proofs.lemmas.List.{length-map}
use Rattle.cell_num.specs.Lists.{holds}
use Rattle.cell_num.specs.declared.ids.CellId.{CellId}
use Rattle.cell_num.proofs.Sublists.{length-filter_le}
use Rattle.cell_world.specs.Commands.UnloadCommand.{detached_of, garbage_of, next_purge, purged}
use Rattle.cell_world.specs.World.{World, Cell}
use Rattle.cell_world.specs.declared.reply.Reply.{Reply}
use Rattle.cell_world.specs.declared.reply.Reply.TheVariants.{Purge as PurgeDone}
use Rattle.cell_world.specs.Answer.{Done, ids}
use Rattle.cell_lemmas.proofs.Naming.Appended.{ok_same}
use Rattle.cell_space.specs.Joined.{placed_of}
use Rattle.cell_machine.specs.declared.machine.Machine.{Machine}
use Rattle.cell_machine.specs.Does.{HasDone, answer_in}
use Rattle.cell_machine.specs.Machine.{IsSound, world_of}
use Rattle.cell_unload.specs.declared.survey.Survey.{Survey}
use Rattle.cell_unload.specs.Sweep.{IsSurvey, IsSwept, Removes}
use Rattle.cell_unload.proofs.Swept.{purge_done}
use Rattle.cell_change.specs.Sweeping.{AreSweptBy}

abbrev removed_by : Reply → List CellId
removed_by (PurgeDone removed) = removed
removed_by _ = []

module _ (n : Machine) (sound : IsSound n) (survey : Survey) (read : IsSurvey n [] survey) (removed : List CellId) (l : Machine) (removes : Removes n survey removed l) where
  swept : IsSwept n [] removed l
  swept = let both = removes [] read in record { free = refl; are = both.0; left = both.1 }

  gone : HasDone (next_purge (world_of n)) 0 n (PurgeDone removed) l
  gone = purge_done n sound removed l swept

  purge_is : answer_in (purged (world_of n)) (PurgeDone (ids (garbage_of (world_of n)))) ≡ answer_in (world_of l) (PurgeDone removed)
  purge_is = ok_same (answer_in (purged (world_of n)) (PurgeDone (ids (garbage_of (world_of n))))) (answer_in (world_of l) (PurgeDone removed)) gone.is.step

  left : world_of l ≡ purged (world_of n)
  left = sym (ap (λ (d : Done). d.world) purge_is)

  removed_are : removed ≡ ids (garbage_of (world_of n))
  removed_are = sym (ap (λ (d : Done). removed_by d.reply) purge_is)

  pub sound_left : IsSound l
  sound_left = gone.sound

  pub left_fit : (room : ℕ) → length n.cells.items ≤ room → length l.cells.items ≤ room
  left_fit room fits =
      let here = ap length sound_left.joined.placed in
      let there = ap length sound.joined.placed in
      let mapped = length-map (world_of l).cells placed_of in
      let mapped_there = length-map (world_of n).cells placed_of in
      let fewer = length-filter_le (λ (c : Cell). not (holds (garbage_of (world_of n)) c.id.0)) (world_of n).cells in
      let same = ap (λ (w : World). length w.cells) left in
      omega (arith, here, there, mapped, mapped_there, fewer, same, fits)

  pub are_swept : (aside : List CellId) → aside ≡ ids (detached_of (world_of l)) → AreSweptBy n removed aside l
  are_swept aside out = record {
    sound = sound_left;
    gone = removed_are;
    left = left;
    aside_are = out;
    patches = swept.left.patches;
    maps = swept.left.maps;
  }
