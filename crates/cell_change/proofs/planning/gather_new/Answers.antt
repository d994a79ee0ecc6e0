use Rattle.std.proofs.Common.{◌≡◌, List, subst, Ok, Err}
use Rattle.std.proofs.lemmas.Result.{err_from_is_err_and}
use Rattle.cell_world.specs.Gather.{grown}
use Rattle.cell_world.specs.Outcome.{each}
use Rattle.cell_world.specs.World.{World}
use Rattle.cell_gather.specs.declared.copies.Original.{Original}
use Rattle.cell_gather.specs.declared.want.Want.{Want}
use Rattle.cell_gather.specs.Copying.{append_original}
use Rattle.cell_gather.specs.Gathering.{Gathers, IsOf}
use Rattle.cell_gather.specs.Growing.{Ends, new_of}
use Rattle.cell_change.specs.Copying.{AreOriginals}
use Rattle.cell_change.specs.declared.request.CellCopy.{CellCopy}
use Rattle.cell_change.proofs.Decision.GatheredFor.{all_gathered, copies_refused, wants_refused}
use Rattle.cell_change.proofs.Decision.Began.{numbers_given, olds_aside, spaces_there}
use Rattle.cell_change.proofs.Decision.Originals.{originals_known, originals_present}
use Rattle.cell_change.proofs.planning.gather_new.Goals as goal

pub invariant_of-room-clause-given : goal.invariant_of-room-clause-given
invariant_of-room-clause-given c = numbers_given c.args.depot.now c.args.asked.now c.args.machine.now c.requires

pub gather-requires-clause-given : goal.gather-requires-clause-given
gather-requires-clause-given c = numbers_given c.args.depot.now c.args.asked.now c.args.machine.now c.requires

pub gather-requires-clause-there : goal.gather-requires-clause-there
gather-requires-clause-there c = rw c.deref.ensures.value (spaces_there c.args.depot.now c.args.asked.now c.args.machine.now c.requires)

pub gather-requires-clause-old : goal.gather-requires-clause-old
gather-requires-clause-old c = rw c.deref.ensures.value (olds_aside c.args.depot.now c.args.asked.now c.args.machine.now c.requires)

pub originals-requires : goal.originals-requires
originals-requires c = rw c.deref-2.ensures.value (originals_present c.args.depot.now c.args.asked.now c.args.machine.now c.requires)

pub append_copies-requires-clause-known : goal.append_copies-requires-clause-known
append_copies-requires-clause-known c =
    rw c.deref-3.ensures.value
    (originals_known c.args.depot.now c.args.asked.now c.args.machine.now c.requires c.in_ok-originals.originals.items
    (subst (λ (copies : List CellCopy). AreOriginals c.args.machine.now copies c.in_ok-originals.originals.items) c.deref-2.ensures.value c.in_ok-originals.ensures))

pub returns : goal.returns
returns c = λ b.
    let m = c.args.machine.now in
    let first = c.in_ok-gathered.gathered in
    let g = c.append_copies.new.gathered in
    let all = c.in_ok-originals.originals.items in
    all_gathered c.args.depot.now c.args.asked.now m b first
    (subst (λ (wants : List Want). Gathers c.args.depot.now m.spaces m.next wants c.args.asked.now.options.reexport (Ok first)) c.deref.ensures.value c.in_ok-gathered.ensures.gathered)
    all (subst (λ (copies : List CellCopy). AreOriginals m copies all) c.deref-2.ensures.value c.in_ok-originals.ensures)
    g c.in_ok-append_copies.ensures.growing
    (subst (λ (os : List Original). (w : World) → IsOf m.spaces m.next w → each append_original (grown w (new_of first)) os ≡ Ok (grown w (new_of g))) c.deref-3.ensures.value c.in_ok-append_copies.ensures.ends)

pub returns-in_err-gathered : goal.returns-in_err-gathered
returns-in_err-gathered c = λ b.
    let m = c.args.machine.now in
    let p = err_from_is_err_and c.from_residual.result c.from_residual.ensures.1 in
    rw (p.1, p.2)
    (wants_refused c.args.depot.now c.args.asked.now m b c.in_err-gathered.field-0.0
    (subst (λ (wants : List Want). Gathers c.args.depot.now m.spaces m.next wants c.args.asked.now.options.reexport (Err c.in_err-gathered.field-0.0)) c.deref.ensures.value c.in_err-gathered.ensures.gathered))

pub returns-in_err-append_copies : goal.returns-in_err-append_copies
returns-in_err-append_copies c = λ b.
    let m = c.args.machine.now in
    let first = c.in_ok-gathered.gathered in
    let all = c.in_ok-originals.originals.items in
    let fail = c.in_err-append_copies.field-0.0 in
    let new = c.append_copies.new.gathered in
    let p = err_from_is_err_and c.from_residual-in_err-append_copies.result c.from_residual-in_err-append_copies.ensures.1 in
    rw (p.1, p.2)
    (copies_refused c.args.depot.now c.args.asked.now m b first
    (subst (λ (wants : List Want). Gathers c.args.depot.now m.spaces m.next wants c.args.asked.now.options.reexport (Ok first)) c.deref.ensures.value c.in_ok-gathered.ensures.gathered)
    all (subst (λ (copies : List CellCopy). AreOriginals m copies all) c.deref-2.ensures.value c.in_ok-originals.ensures)
    fail (new_of new)
    (subst (λ (os : List Original). Ends m.spaces m.next (λ w. each append_original (grown w (new_of first)) os) (Err fail) (new_of new)) c.deref-3.ensures.value c.in_err-append_copies.ensures.ends))
