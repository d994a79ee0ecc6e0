use Rattle.std.proofs.Common.{sym, ap, ◌∙◌, List, ℕ, Ok}
use Rattle.std.proofs.lemmas.Result.{err_from_is_err_and}
use Rattle.cell_io.specs.Files.{folder, names_in}
use Rattle.cell_input.proofs.Intake.{name_listed, objects_listed, no_listing, no_text, no_files, all_steps}
use Rattle.cell_input.proofs.OrderedNames.{object_files}
use Rattle.cell_input.proofs.folder.take_folder.Goals as goal

pub returns-in_err-objects-clause-folder : goal.returns-in_err-objects-clause-folder
returns-in_err-objects-clause-folder g c =
    let p = err_from_is_err_and c.from_residual.result c.from_residual.ensures.1 in
    rw (p.1, p.2) (λ all told. no_listing c.args.why.now c.args.beside.now.limit c.args.beside.now.name.now (folder c.args.dir.now all) c.in_err-objects.field-0.0 (c.in_err-objects.ensures.objects all told))

pub read_within-requires : goal.read_within-requires
read_within-requires g c = λ all told.
    name_listed c.args.why.now c.args.beside.now.name.now (names_in c.args.dir.now all) _ (c.in_ok-objects.ensures.objects all (sym c.in_ok-objects.ensures.files ∙ told))

pub returns-in_err-text-clause-folder : goal.returns-in_err-text-clause-folder
returns-in_err-text-clause-folder g c =
    let p = err_from_is_err_and c.from_residual-in_err-text.result c.from_residual-in_err-text.ensures.1 in
    rw (p.1, p.2) (λ all told.
    no_text c.args.why.now c.args.beside.now.limit c.args.beside.now.name.now (folder c.args.dir.now all) _ c.in_err-text.field-0.0 (c.in_ok-objects.ensures.objects all told) (c.in_err-text.ensures.bytes all (c.in_ok-objects.ensures.files ∙ told)))

pub take_files-requires : goal.take_files-requires
take_files-requires g c = λ all told.
    objects_listed c.args.why.now c.args.beside.now.name.now (names_in c.args.dir.now all) _ (c.in_ok-objects.ensures.objects all (sym c.in_ok-objects.ensures.files ∙ sym c.in_ok-text.ensures.files ∙ told))

pub returns-in_err-files-clause-folder : goal.returns-in_err-files-clause-folder
returns-in_err-files-clause-folder g c =
    let p = err_from_is_err_and c.from_residual-in_err-files.result c.from_residual-in_err-files.ensures.1 in
    rw (p.1, p.2) (λ all told.
    let told' = c.in_ok-objects.ensures.files ∙ told in
    no_files c.args.why.now c.args.beside.now.limit c.args.beside.now.name.now (folder c.args.dir.now all) _ _ c.in_err-files.field-0.0 (c.in_ok-objects.ensures.objects all told) (c.in_ok-text.ensures.bytes all told')
    (c.in_err-files.ensures.taken all (c.in_ok-text.ensures.files ∙ told')))

pub returns-clause-folder : goal.returns-clause-folder
returns-clause-folder g c = λ all told.
    let told' = c.in_ok-objects.ensures.files ∙ told in
    all_steps c.args.why.now c.args.beside.now.limit c.args.beside.now.name.now (folder c.args.dir.now all) _ _ _ (c.in_ok-objects.ensures.objects all told) (c.in_ok-text.ensures.bytes all told')
    (c.in_ok-files.ensures.taken all (c.in_ok-text.ensures.files ∙ told'))
    ∙ ap (λ (text : List ℕ). Ok (record { text = text; files = c.in_ok-files.files })) (sym c.from_vec.ensures)

pub returns-clause-files : goal.returns-clause-files
returns-clause-files g c = object_files _ c.in_ok-files.files c.in_ok-objects.ensures.chosen c.in_ok-files.ensures.names c.in_ok-files.ensures.small
