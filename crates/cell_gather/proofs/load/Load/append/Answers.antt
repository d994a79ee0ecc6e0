use Rattle.cell_world.specs.World.{attached}
use Rattle.std.proofs.Common.{refl, ℕ, ◌+◌, ◌<◌, subst, sym, length}
use Rattle.std.proofs.lemmas.Result.{err_from_is_err_and}
use Rattle.cell_gather.specs.Growing.{new_of, with_new}
use Rattle.cell_gather.proofs.Accepted.{accepted}
use Rattle.cell_gather.proofs.Appends.{append_done, append_refused}
use Rattle.cell_gather.proofs.load.Load.append.Goals as goal

pub add-requires-clause-there : goal.add-requires-clause-there
add-requires-clause-there c =
    let cells = (new_of c.args.gathered.now) in
    let a = accepted (with_new c.args.self.now.spaces.now cells) (length c.args.self.now.spaces.now.cells + length cells) (c.args.self.now.next + length cells) c.args.ns c.args.file.now c.in_ok-fresh.fresh.cell c.in_ok-fresh.ensures in
    subst (λ (n : ℕ). n < length c.args.self.now.spaces.now.namespaces) (sym a.ns_is) c.requires.there

pub add-requires-clause-number : goal.add-requires-clause-number
add-requires-clause-number c =
    let cells = (new_of c.args.gathered.now) in
    (accepted (with_new c.args.self.now.spaces.now cells) (length c.args.self.now.spaces.now.cells + length cells) (c.args.self.now.next + length cells) c.args.ns c.args.file.now c.in_ok-fresh.fresh.cell c.in_ok-fresh.ensures).number

pub add-requires-clause-room : goal.add-requires-clause-room
add-requires-clause-room c =
    let cells = (new_of c.args.gathered.now) in
    (accepted (with_new c.args.self.now.spaces.now cells) (length c.args.self.now.spaces.now.cells + length cells) (c.args.self.now.next + length cells) c.args.ns c.args.file.now c.in_ok-fresh.fresh.cell c.in_ok-fresh.ensures).room

pub returns-clause-one : goal.returns-clause-one
returns-clause-one c = record { cell = attached c.in_ok-fresh.fresh.cell; is = c.in_ok-add.ensures.added; plain = refl }

pub returns-clause-ends : goal.returns-clause-ends
returns-clause-ends c =
    append_done c.args.self.now.spaces.now c.args.self.now.next (new_of c.args.gathered.now) c.args.file.now c.args.ns c.in_ok-fresh.fresh.cell (new_of c.add.new.gathered) c.in_ok-fresh.ensures (c.in_ok-add.ensures.added)

pub returns-in_err-fresh-clause-ends : goal.returns-in_err-fresh-clause-ends
returns-in_err-fresh-clause-ends c =
    let p = err_from_is_err_and c.from_residual.result c.from_residual.ensures.1 in
    rw (p.1, p.2)
    (append_refused c.args.self.now.spaces.now c.args.self.now.next (new_of c.args.gathered.now) c.args.file.now c.args.ns c.in_err-fresh.field-0.0 (new_of c.args.gathered.now) c.in_err-fresh.ensures)
