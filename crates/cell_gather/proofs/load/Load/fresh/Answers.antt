use Rattle.std.proofs.Common.{◌≡◌, ◌∙◌, Ok, ℕ, ap, length, subst}
use Rattle.std.proofs.lemmas.Result.{err_from_is_err_and}
use Rattle.cell_world.specs.Gather.{stem_of_file}
use Rattle.cell_world.specs.Following.{FailsAs}
use Rattle.cell_gather.specs.Appending.{names_free}
use Rattle.cell_gather.specs.Growing.{new_of, with_new}
use Rattle.cell_gather.proofs.Growths.{as_many}
use Rattle.cell_gather.proofs.NewSteps.{not_free, is_new}
use Rattle.cell_gather.proofs.load.Load.fresh.Goals as goal

pub returns-in_err-check_names : goal.returns-in_err-check_names
returns-in_err-check_names c =
    let p = err_from_is_err_and c.from_residual-in_err-check_names.result c.from_residual-in_err-check_names.ensures.1 in
    rw (p.1, p.2)
    (not_free (with_new c.args.self.now.spaces.now (new_of c.args.gathered.now)) (length c.args.self.now.spaces.now.cells) c.args.self.now.next c.len-count.result (length (new_of c.args.gathered.now)) (c.len-count.ensures ∙ c.args.gathered.now.cells.ok.0 ∙ as_many c.args.self.now.spaces.now c.args.self.now.next c.args.gathered.now c.requires.growing) c.args.file.now c.args.ns
    c.in_ok-check_room.ensures c.in_ok-object.object c.in_ok-object.ensures.object c.args.gathered.now.ahead.spaces c.requires.growing.namespaces c.requires.growing.cells
    c.stem_of-stem.result.now (c.stem_of-stem.ensures ∙ ap stem_of_file c.bytes.ensures) c.in_ok-names.names (c.in_ok-names.ensures) c.in_err-check_names.field-0.0
    (subst (λ (n : ℕ). FailsAs c.in_err-check_names.field-0.0 (names_free c.args.gathered.now.ahead.spaces n c.stem_of-stem.result.now c.in_ok-names.names)) c.in_ok-path.ensures.ns c.in_err-check_names.ensures))

pub returns : goal.returns
returns c =
    is_new (with_new c.args.self.now.spaces.now (new_of c.args.gathered.now)) (length c.args.self.now.spaces.now.cells) c.args.self.now.next c.len-count.result (length (new_of c.args.gathered.now)) (c.len-count.ensures ∙ c.args.gathered.now.cells.ok.0 ∙ as_many c.args.self.now.spaces.now c.args.self.now.next c.args.gathered.now c.requires.growing) c.args.file.now c.args.ns
    c.in_ok-check_room.ensures c.in_ok-object.object c.in_ok-object.ensures.object c.args.gathered.now.ahead.spaces c.requires.growing.namespaces c.requires.growing.cells
    c.stem_of-stem.result.now (c.stem_of-stem.ensures ∙ ap stem_of_file c.bytes.ensures) c.in_ok-names.names (c.in_ok-names.ensures) c.in_ok-cell.cell
    (subst (λ (n : ℕ). names_free c.args.gathered.now.ahead.spaces n c.stem_of-stem.result.now c.in_ok-names.names ≡ Ok tt) c.in_ok-path.ensures.ns c.in_ok-check_names.ensures) (c.in_ok-cell.ensures)
