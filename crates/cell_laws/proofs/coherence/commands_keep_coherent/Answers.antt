use Rattle.cell_lemmas.proofs.Naming.NamespaceAdded.{ns_coherent}
use Rattle.cell_lemmas.proofs.Tasks.Spawned.{spawn_keeps}
use Rattle.cell_lemmas.proofs.Tasks.Commands.{step_keeps, run_keeps, kill_keeps}
use Rattle.cell_lemmas.proofs.Holding.Removals.{purge_removed, removed_coherent, unload_removed}
use Rattle.cell_change_law.proofs.Asking.{load_made, rebuild_made, recover_made, swap_made}
use Rattle.cell_laws.proofs.NextCoherent.{clone_coherent, made_coherent_by}
use Rattle.cell_laws.proofs.coherence.commands_keep_coherent.Goals as goal

pub returns-clause-ns : goal.returns-clause-ns
returns-clause-ns c = ns_coherent

pub returns-clause-load : goal.returns-clause-load
returns-clause-load c sources w name stem d sound h e = made_coherent_by sources w sound h d (load_made sources sound w h name stem d e)

pub returns-clause-spawn : goal.returns-clause-spawn
returns-clause-spawn c = spawn_keeps

pub returns-clause-step : goal.returns-clause-step
returns-clause-step c = step_keeps

pub returns-clause-run : goal.returns-clause-run
returns-clause-run c = run_keeps

pub returns-clause-kill : goal.returns-clause-kill
returns-clause-kill c = kill_keeps

pub returns-clause-unload : goal.returns-clause-unload
returns-clause-unload c w names d h e = removed_coherent w d.world h (unload_removed w names d h e)

pub returns-clause-purge : goal.returns-clause-purge
returns-clause-purge c w d h e = removed_coherent w d.world h (purge_removed w d h e)

pub returns-clause-swap : goal.returns-clause-swap
returns-clause-swap c sources w items reexport strict words budget d sound h e = made_coherent_by sources w sound h d (swap_made sources w h items reexport strict words budget d e)

pub returns-clause-recover : goal.returns-clause-recover
returns-clause-recover c sources w task d sound h e = made_coherent_by sources w sound h d (recover_made sources w h task d e)

pub returns-clause-rebuild : goal.returns-clause-rebuild
returns-clause-rebuild c sources w task d sound h e = made_coherent_by sources w sound h d (rebuild_made sources w h task d e)

pub returns-clause-clone : goal.returns-clause-clone
returns-clause-clone c sources w name sibling d sound h e = clone_coherent sources w name sibling sound h d e
