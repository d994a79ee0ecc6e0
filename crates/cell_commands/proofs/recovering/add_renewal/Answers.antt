use Rattle.std.proofs.Common.{◌≡◌, ◌++◌, ◌∷◌, [], sym, subst, map, Ok, Some, List}
use Rattle.std.proofs.lemmas.Result.{err_from_is_err_and}
use Rattle.cell_world.specs.declared.refusal.Refusal.TheVariants.{Unknown}
use Rattle.cell_world.specs.declared.state.NewCell.{NewCell}
use Rattle.cell_world.specs.Following.{FailsAs}
use Rattle.cell_world.specs.Gather.{Source, file_named, source_of}
use Rattle.cell_world.specs.Outcome.{found}
use Rattle.cell_gather.specs.declared.want.Want.{Want}
use Rattle.cell_commands.proofs.Renewing.{has_renewal, renewal_failed}
use Rattle.cell_commands.proofs.recovering.add_renewal.Goals as goal

pub returns-in_err-file_named : goal.returns-in_err-file_named
returns-in_err-file_named c =
    let p = err_from_is_err_and c.from_residual.result c.from_residual.ensures.1 in
    let sources : List Source = map source_of c.args.depot.now in
    rw (p.1, p.2)
    (λ w d i at.
    renewal_failed sources w d c.in_err-file_named.field-0.0
    (subst (λ (q : NewCell). FailsAs c.in_err-file_named.field-0.0 (found (file_named sources q.file) (Unknown q.file))) (sym at.is) c.in_err-file_named.ensures))

pub returns : goal.returns
returns c w d i at =
    let sources : List Source = map source_of c.args.depot.now in
    has_renewal sources w d i at.known at.attached (source_of c.in_ok-file_named.field-0.now)
    (subst (λ (q : NewCell). found (file_named sources q.file) (Unknown q.file) ≡ Ok (source_of c.in_ok-file_named.field-0.now)) (sym at.is) (c.in_ok-file_named.ensures {u = tt}))
    c.in_ok-want.want (subst (λ (q : NewCell). c.in_ok-want.want ≡ (let x : Want = record { ns = q.ns; file = q.file; replaces = Some q.id } in x)) (sym at.is) (c.in_ok-want.ensures {u = tt})) c.args.change.now c.push.new.change
    (c.in_ok-push.ensures {u = tt}).wants (subst (λ (q : NewCell). c.push.new.change.replaced.items ≡ c.args.change.now.replaced.items ++ q.id ∷ []) (sym at.is) (c.in_ok-push.ensures {u = tt}).replaced) (c.in_ok-push.ensures {u = tt}).copies (c.in_ok-push.ensures {u = tt}).options
