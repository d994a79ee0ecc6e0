use Rattle.std.proofs.lemmas.Result.{err_from_is_err_and}
use Rattle.cell_io.specs.Files.{folder}
use Rattle.cell_io.proofs.Binds.{stops_first, goes_on, gives_same}
use Rattle.cell_assemble.specs.Assembling.{source_in, object_of, object_in}
use Rattle.cell_assemble.proofs.make.object_in.Goals as goal

pub returns-in_err-text-clause-object : goal.returns-in_err-text-clause-object
unfolding object_in
returns-in_err-text-clause-object g c =
    let p = err_from_is_err_and c.from_residual.result c.from_residual.ensures.1 in
    rw (p.1, p.2) (λ all told. stops_first c.in_err-text.field-0.0 (source_in c.args.source.now (folder c.args.dir.now all)) object_of (c.in_err-text.ensures.bytes all told))

pub returns-clause-object : goal.returns-clause-object
unfolding object_in
returns-clause-object g c = λ all told.
    gives_same _ c.object_of.result _ _ (goes_on _ (source_in c.args.source.now (folder c.args.dir.now all)) object_of (c.in_ok-text.ensures.bytes all told))
    (rw c.as_slice.ensures.value at c.object_of.ensures.object)
