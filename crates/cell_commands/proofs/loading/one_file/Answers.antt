use Rattle.std.proofs.Common.{◌∙◌, ap, sym}
use Rattle.std.specs.Prelude.{Err}
use Rattle.cell_world.specs.declared.refusal.Refusal.{Refusal}
use Rattle.cell_world.specs.declared.refusal.Refusal.TheVariants.{NoObject as NoFile}
use Rattle.cell_gather.proofs.Depots.{first_inside, second_inside}
use Rattle.cell_commands.proofs.Files.{none_found, one_found, several_found}
use Rattle.cell_commands.proofs.loading.one_file.Goals as goal

pub at-requires : goal.at-requires
at-requires c =
    first_inside c.args.depot.now _ c.in-Err-Ambiguous.one c.in-Err-Ambiguous.two (rw c.in-Err-Ambiguous.field-0-is at c.in-Err-Ambiguous.ensures)

pub at-requires-in-Err-Ambiguous : goal.at-requires-in-Err-Ambiguous
at-requires-in-Err-Ambiguous c =
    second_inside c.args.depot.now _ c.in-Err-Ambiguous.one c.in-Err-Ambiguous.two (rw c.in-Err-Ambiguous.field-0-is at c.in-Err-Ambiguous.ensures)

pub returns-in-Ok-clause-file : goal.returns-in-Ok-clause-file
returns-in-Ok-clause-file c = one_found c.args.depot.now _ (NoFile c.args.stem.now) c.in-Ok.file.now c.in-Ok.ensures

pub returns-in_ok-no_object-in-Err-NoObject-clause-file :
    goal.returns-in_ok-no_object-in-Err-NoObject-clause-file
returns-in_ok-no_object-in-Err-NoObject-clause-file c =
    let none = rw c.in-Err-NoObject.field-0-is at c.in-Err-NoObject.ensures in
    none_found c.args.depot.now _ (NoFile c.args.stem.now) none
    ∙ ap (λ (r : Refusal). Err r) (sym c.in_ok-no_object-in-Err-NoObject.ensures)

pub returns-in_ok-refusal-in-Err-Ambiguous-clause-file :
    goal.returns-in_ok-refusal-in-Err-Ambiguous-clause-file
returns-in_ok-refusal-in-Err-Ambiguous-clause-file c =
    let are = rw c.in-Err-Ambiguous.field-0-is at c.in-Err-Ambiguous.ensures in
    several_found c.args.depot.now _ (NoFile c.args.stem.now) c.in-Err-Ambiguous.one c.in-Err-Ambiguous.two are c.at.result.now c.at-in-Err-Ambiguous.result.now c.at.ensures c.at-in-Err-Ambiguous.ensures
    ∙ ap (λ (r : Refusal). Err r) (sym c.in_ok-refusal-in-Err-Ambiguous.ensures)
