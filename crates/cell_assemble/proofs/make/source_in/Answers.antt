use Rattle.std.proofs.Common.{◌≡◌, ◌∙◌, false, true, cond, Err, map, sym, ap, string_bytes}
use Rattle.std.specs.Prelude.{bytes_eq}
use Rattle.std.specs.List.{list_any}
use Rattle.std.proofs.lemmas.Result.{err_from_is_err_and}
use Rattle.cell_io.specs.Files.{folder, names_in, bytes_in}
use Rattle.cell_io.specs.Within.{within}
use Rattle.cell_io.proofs.Binds.{stops_first, goes_on, gives_same, is_whole, listed}
use Rattle.cell_assemble.specs.declared.status.Refusal.TheVariants.{TooManyNames, NoSource, TooLong}
use Rattle.cell_assemble.specs.Assembling.{source_in, source_among}
use Rattle.cell_assemble.proofs.make.source_in.Goals as goal

pub returns-in_err-names-clause-bytes : goal.returns-in_err-names-clause-bytes
unfolding source_in
returns-in_err-names-clause-bytes g c =
    let p = err_from_is_err_and c.from_residual.result c.from_residual.ensures.1 in
    rw (p.1, p.2) (λ all told. stops_first c.in_err-names.field-0.0 _ (source_among c.args.source.now (folder c.args.dir.now all)) (c.in_err-names.ensures.names all told))

pub returns-then-not-is_listed-clause-bytes : goal.returns-then-not-is_listed-clause-bytes
unfolding source_in
returns-then-not-is_listed-clause-bytes g c = λ all told.
    let none : list_any (bytes_eq c.args.source.now) (map string_bytes c.in_ok-names.names.items) ≡ false = cc in
    goes_on _ _ (source_among c.args.source.now (folder c.args.dir.now all)) (c.in_ok-names.ensures.names all told)
    ∙ ap (λ b. cond b (within 1048576 TooLong (bytes_in c.args.dir.now c.args.source.now all)) (Err NoSource)) none

pub read_within-requires : goal.read_within-requires
read_within-requires g c = λ all told.
    let there : list_any (bytes_eq c.args.source.now) (map string_bytes c.in_ok-names.names.items) ≡ true = cc in
    let whole = is_whole 65536 TooManyNames (names_in c.args.dir.now all) _ (c.in_ok-names.ensures.names all (sym c.in_ok-names.ensures.files ∙ told)) in
    listed c.args.source.now (names_in c.args.dir.now all) (ap (list_any (bytes_eq c.args.source.now)) whole ∙ there)

pub returns-clause-bytes : goal.returns-clause-bytes
unfolding source_in
returns-clause-bytes g c = λ all told.
    let there : list_any (bytes_eq c.args.source.now) (map string_bytes c.in_ok-names.names.items) ≡ true = cc in
    gives_same _ c.read_within.result _ _
    (goes_on _ _ (source_among c.args.source.now (folder c.args.dir.now all)) (c.in_ok-names.ensures.names all told)
    ∙ ap (λ b. cond b (within 1048576 TooLong (bytes_in c.args.dir.now c.args.source.now all)) (Err NoSource)) there)
    (c.read_within.ensures.bytes all (c.in_ok-names.ensures.files ∙ told))
