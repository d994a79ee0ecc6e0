use Rattle.std.proofs.lemmas.Result.{err_from_is_err_and}
use Rattle.cell_io.proofs.Binds.{stops_first, goes_on, gives_same}
use Rattle.cell_input.specs.Taking.{listing, objects_among}
use Rattle.cell_input.proofs.folder.list_objects.Goals as goal

pub returns-in_err-names-clause-objects : goal.returns-in_err-names-clause-objects
unfolding listing
returns-in_err-names-clause-objects g c =
    let p = err_from_is_err_and c.from_residual.result c.from_residual.ensures.1 in
    rw (p.1, p.2) (λ all told. stops_first c.in_err-names.field-0.0 _ (objects_among c.args.why.now c.args.name.now) (c.in_err-names.ensures.names all told))

pub returns-clause-objects : goal.returns-clause-objects
unfolding listing
returns-clause-objects g c = λ all told.
    gives_same _ c.choose_objects.result _ _ (goes_on _ _ (objects_among c.args.why.now c.args.name.now) (c.in_ok-names.ensures.names all told))
    (rw c.as_slice.ensures.value at c.choose_objects.ensures.objects)
