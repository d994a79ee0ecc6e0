use Rattle.std.proofs.Common.{Option, subst, sym}
use Rattle.std.specs.Prelude.{vec_capacity}
use Rattle.cell_unload.specs.declared.survey.Survey.{Survey}
use Rattle.cell_change.specs.Sweeping.{AreSwept, CanSweep}
use Rattle.cell_change.proofs.Arrival.Sweeping.{are_swept, left_fit, sound_left}
use Rattle.cell_change.proofs.sweep.sweep.Goals as goal

pub list_detached-requires-clause-sound : goal.list_detached-requires-clause-sound
list_detached-requires-clause-sound c =
    let can = subst (λ (s : Option Survey). CanSweep c.args.machine.now s (vec_capacity c.args.removed.now) (vec_capacity c.args.aside.now)) c.in-Some.is c.requires.can in
    sound_left _ can.sound _ can.read _ _ c.remove_unkept.ensures

pub list_detached-requires-clause-room : goal.list_detached-requires-clause-room
list_detached-requires-clause-room c =
    let can = subst (λ (s : Option Survey). CanSweep c.args.machine.now s (vec_capacity c.args.removed.now) (vec_capacity c.args.aside.now)) c.in-Some.is c.requires.can in
    left_fit _ can.sound _ can.read _ _ c.remove_unkept.ensures _ can.aside_room

pub returns-in-Some : goal.returns-in-Some
returns-in-Some c =
    let can = subst (λ (s : Option Survey). CanSweep c.args.machine.now s (vec_capacity c.args.removed.now) (vec_capacity c.args.aside.now)) c.in-Some.is c.requires.can in
    subst (λ (s : Option Survey). AreSwept c.args.machine.now s c.remove_unkept.new.removed.items c.list_detached.new.into.items c.remove_unkept.new.machine) (sym c.in-Some.is)
    (are_swept _ can.sound _ can.read _ _ c.remove_unkept.ensures _ c.list_detached.ensures)
