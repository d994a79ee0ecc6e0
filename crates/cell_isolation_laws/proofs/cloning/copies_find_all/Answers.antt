use Rattle.std.proofs.Common.{refl}
use Rattle.cell_change_law.proofs.Added.{adding_covered}
use Rattle.cell_change_law.proofs.Asking.{base_coherent, clone_base, clone_change, clone_has_copied, clone_room, clone_sound}
use Rattle.cell_isolation_laws.proofs.cloning.copies_find_all.Goals as goal

pub returns-clause-room : goal.returns-clause-room
returns-clause-room c sources w sibling h k r e = clone_room sources w h sibling k r e

pub returns-clause-named : goal.returns-clause-named
returns-clause-named c sources w sibling h k g e = clone_has_copied sources w h sibling k g e

pub returns-clause-covered : goal.returns-clause-covered
returns-clause-covered c sources w sibling sound h k g e =
    adding_covered sources sound (clone_base sources w h sibling k) (base_coherent sources w h sibling k) (clone_change sources w h sibling k) (clone_sound sources w h sibling k) refl g e
