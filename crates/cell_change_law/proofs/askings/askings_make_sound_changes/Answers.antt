use Rattle.cell_change_law.proofs.Asking.{base_coherent, clone_made, cloned, load_made, rebuild_made, recover_made, swap_made}
use Rattle.cell_change_law.proofs.askings.askings_make_sound_changes.Goals as goal

pub returns-clause-load : goal.returns-clause-load
returns-clause-load k = λ sources w ns stem d sound h e. load_made sources sound w h ns stem d e

pub returns-clause-swap : goal.returns-clause-swap
returns-clause-swap k = λ sources w items reexport strict words budget d h e. swap_made sources w h items reexport strict words budget d e

pub returns-clause-recover : goal.returns-clause-recover
returns-clause-recover k = λ sources w task d h e. recover_made sources w h task d e

pub returns-clause-rebuild : goal.returns-clause-rebuild
returns-clause-rebuild k = λ sources w task d h e. rebuild_made sources w h task d e

pub returns-clause-clone : goal.returns-clause-clone
returns-clause-clone k = λ sources w name sibling d h e.
    let c = cloned sources w name sibling d e in
    (c.parent, base_coherent sources w h sibling c.may, clone_made sources w h name sibling d c)
