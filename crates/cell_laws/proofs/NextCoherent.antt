-- Each command keeps the machine coherent.
use Rattle.std.proofs.Common.{◌≡◌, subst, ap, ℕ, List, Ok}
use Rattle.cell_world.specs.declared.command.Command.{Command}
use Rattle.cell_world.specs.declared.command.Command.TheVariants.{Ns, Load, Spawn, Step, Run, Kill, Swap, Unload, Purge, Tasks, Find, Deps, Users, Map, Dump, DumpAll, Recover, Rebuild, Clone}
use Rattle.cell_world.specs.World.{World}
use Rattle.cell_world.specs.Gather.{Source}
use Rattle.cell_world.specs.Answer.{Done, present_cell}
use Rattle.cell_world.specs.Commands.Asked.{next_clone}
use Rattle.cell_world.specs.Commands.LinkCommands.{next_deps, next_users}
use Rattle.cell_world.specs.Next.{outcome_of, next}
use Rattle.cell_world.specs.Coherent.{AreSound, IsCoherent}
use Rattle.cell_lemmas.proofs.Naming.Appended.{ok_same}
use Rattle.cell_lemmas.proofs.Naming.NamespaceAdded.{ns_coherent}
use Rattle.cell_lemmas.proofs.NextCoherent.{answered, dump_same, find_same, map_same}
use Rattle.cell_lemmas.proofs.Outcomes.{bind_ok}
use Rattle.cell_lemmas.proofs.Tasks.Spawned.{spawn_keeps}
use Rattle.cell_lemmas.proofs.Tasks.Commands.{step_keeps, run_keeps, kill_keeps, tasks_keeps}
use Rattle.cell_lemmas.proofs.Holding.Removals.{removed_coherent, purge_removed, unload_removed}
use Rattle.cell_change_law.specs.Sound.{HasMade}
use Rattle.cell_change_law.proofs.Asking.{base_coherent, clone_base, clone_made, cloned, load_made, rebuild_made, recover_made, swap_made}
use Rattle.cell_change_law.proofs.Ending.{made_coherent}

pub deps_same : (w : World) (cell : ℕ) (d : Done) → next_deps w cell ≡ Ok d → w ≡ d.world
deps_same w cell d h = let a = bind_ok (present_cell w cell) _ d h in ap (λ (x : Done). x.world) (ok_same _ d a.2)

pub users_same : (w : World) (cell : ℕ) (d : Done) → next_users w cell ≡ Ok d → w ≡ d.world
users_same w cell d h = let a = bind_ok (present_cell w cell) _ d h in ap (λ (x : Done). x.world) (ok_same _ d a.2)

-- what a sound change has made
pub made_coherent_by : (sources : List Source) (w : World) → AreSound sources → IsCoherent w → (d : Done) → HasMade sources w d → IsCoherent d.world
made_coherent_by sources w sound c d m = subst IsCoherent m.world (made_coherent sources sound w c m.change m.sound m.made m.making)

pub clone_coherent : (sources : List Source) (w : World) (name sibling : List ℕ) → AreSound sources → IsCoherent w → (d : Done) → next_clone sources w name sibling ≡ Ok d → IsCoherent d.world
clone_coherent sources w name sibling sound c d h =
    let k = cloned sources w name sibling d h in
    made_coherent_by sources (clone_base sources w c sibling k.may) sound (base_coherent sources w c sibling k.may) d (clone_made sources w c name sibling d k)

pub outcome_coherent : (sources : List Source) (w : World) (command : Command) → AreSound sources → IsCoherent w → (d : Done) → outcome_of sources w command ≡ Ok d → IsCoherent d.world
outcome_coherent sources w (Ns name parent) sound c d h = ns_coherent w name parent d c h
outcome_coherent sources w (Load name stem) sound c d h = made_coherent_by sources w sound c d (load_made sources sound w c name stem d h)
outcome_coherent sources w (Find name symbol) sound c d h = subst IsCoherent (find_same w name symbol d h) c
outcome_coherent sources w (Spawn name symbol arg) sound c d h = spawn_keeps w name symbol arg d c h
outcome_coherent sources w (Step task n) sound c d h = step_keeps w task n d c h
outcome_coherent sources w (Run n) sound c d h = run_keeps w n d c h
outcome_coherent sources w (Kill task) sound c d h = kill_keeps w task d c h
outcome_coherent sources w (Swap items reexport strict routines budget) sound c d h = made_coherent_by sources w sound c d (swap_made sources w c items reexport strict routines budget d h)
outcome_coherent sources w (Unload cells) sound c d h = removed_coherent w d.world c (unload_removed w cells d c h)
outcome_coherent sources w Purge sound c d h = removed_coherent w d.world c (purge_removed w d c h)
outcome_coherent sources w Tasks sound c d h = tasks_keeps w d c h
outcome_coherent sources w (Deps cell) sound c d h = subst IsCoherent (deps_same w cell d h) c
outcome_coherent sources w (Users cell) sound c d h = subst IsCoherent (users_same w cell d h) c
outcome_coherent sources w Map sound c d h = subst IsCoherent (map_same w d h) c
outcome_coherent sources w (Dump cell section) sound c d h = subst IsCoherent (dump_same w cell section d h) c
outcome_coherent sources w DumpAll sound c d h = subst IsCoherent (ap (λ (x : Done). x.world) (ok_same _ d h)) c
outcome_coherent sources w (Recover task) sound c d h = made_coherent_by sources w sound c d (recover_made sources w c task d h)
outcome_coherent sources w (Rebuild task) sound c d h = made_coherent_by sources w sound c d (rebuild_made sources w c task d h)
outcome_coherent sources w (Clone name sibling) sound c d h = clone_coherent sources w name sibling sound c d h

pub next_coherent : (sources : List Source) (w : World) (command : Command) → AreSound sources → IsCoherent w → IsCoherent (next sources w command).world
next_coherent sources w command sound c = answered w (outcome_of sources w command) c (outcome_coherent sources w command sound c)
