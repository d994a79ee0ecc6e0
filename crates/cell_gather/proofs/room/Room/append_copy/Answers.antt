use Rattle.std.proofs.Common.{◌≡◌, ◌∙◌, ◌++◌, ◌∷◌, [], ◌+◌, Ok, ℕ, ap, subst, length}
use Rattle.std.proofs.lemmas.Result.{err_from_is_err_and}
use Rattle.cell_world.specs.Following.{FailsAs}
use Rattle.cell_world.specs.declared.state.NewCell.{NewCell}
use Rattle.cell_gather.specs.Appending.{room_now}
use Rattle.cell_gather.specs.Copying.{as_copy, cell_as}
use Rattle.cell_gather.specs.Growing.{new_of}
use Rattle.cell_gather.proofs.Copied.{copy_done, copy_refused}
use Rattle.cell_gather.proofs.Growths.{as_many}
use Rattle.cell_gather.proofs.room.Room.append_copy.Goals as goal

pub returns-in_err-check-clause-ends : goal.returns-in_err-check-clause-ends
returns-in_err-check-clause-ends c =
    let spaces = c.args.self.now.spaces.now in
    let next = c.args.self.now.next in
    let counted = c.len-count.ensures ∙ c.args.gathered.now.cells.ok.0 ∙ as_many spaces next c.args.gathered.now c.requires.growing in
    let p = err_from_is_err_and c.from_residual.result c.from_residual.ensures.1 in
    rw (p.1, p.2)
    (copy_refused spaces next (new_of c.args.gathered.now) c.args.original.now c.in_err-check.field-0.0 (new_of c.args.gathered.now)
    (subst (λ (k : ℕ). FailsAs c.in_err-check.field-0.0 (room_now (length spaces.cells + k) (next + k))) counted c.in_err-check.ensures))

pub returns-clause-ends : goal.returns-clause-ends
returns-clause-ends c =
    let spaces = c.args.self.now.spaces.now in
    let next = c.args.self.now.next in
    let old = new_of c.args.gathered.now in
    let counted = c.len-count.ensures ∙ c.args.gathered.now.cells.ok.0 ∙ as_many spaces next c.args.gathered.now c.requires.growing in
    copy_done spaces next old c.args.original.now (new_of c.add_copy.new.gathered)
    (subst (λ (k : ℕ). room_now (length spaces.cells + k) (next + k) ≡ Ok tt) counted c.in_ok-check.ensures)
    (c.in_ok-add_copy.ensures.added
    ∙ ap (λ (x : NewCell). old ++ as_copy x c.args.original.now.names.now ∷ []) (c.in_ok-cell.ensures {u = tt} ∙ ap (λ (k : ℕ). cell_as (next + k) c.args.original.now) counted))
