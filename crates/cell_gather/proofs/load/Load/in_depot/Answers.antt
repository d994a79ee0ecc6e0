use Rattle.std.proofs.Common.{ℕ, ◌≤◌, ◌∙◌, ap, sym, List, length}
use Rattle.std.specs.Prelude.{Some, Err}
use Rattle.cell_world.specs.declared.file.File.{File}
use Rattle.cell_world.specs.declared.refusal.Refusal.{Refusal}
use Rattle.cell_gather.proofs.Depots.{first_inside, second_inside, no_file, only_file, several_files, file_at}
use Rattle.cell_gather.proofs.load.Load.in_depot.Goals as goal

pub at-requires : goal.at-requires
at-requires c =
    first_inside c.args.self.now.depot.now _ c.in-Err-Ambiguous.one c.in-Err-Ambiguous.two (rw c.in-Err-Ambiguous.field-0-is at c.in-Err-Ambiguous.ensures)

pub at-requires-in-Err-Ambiguous : goal.at-requires-in-Err-Ambiguous
at-requires-in-Err-Ambiguous c =
    second_inside c.args.self.now.depot.now _ c.in-Err-Ambiguous.one c.in-Err-Ambiguous.two (rw c.in-Err-Ambiguous.field-0-is at c.in-Err-Ambiguous.ensures)

pub returns-in-Ok-clause-small : goal.returns-in-Ok-clause-small
returns-in-Ok-clause-small c =
    file_at (λ (f : File). length f.bytes ≤ 1048576) c.args.self.now.depot.now c.in-Ok.ensures.place c.in-Ok.file.now c.args.self.now.small c.in-Ok.ensures.at

pub returns-in-Ok-clause-file : goal.returns-in-Ok-clause-file
returns-in-Ok-clause-file c =
    only_file c.args.self.now.depot.now c.args.self.now.spaces.now.namespaces c.args.ns c.bytes.result.now c.args.stem.now (c.ns_name.ensures ∙ ap (λ (n : List ℕ). Some n) (sym c.bytes.ensures)) c.in-Ok.file.now c.in-Ok.ensures

pub returns-in-Err-NoObject-clause-file : goal.returns-in-Err-NoObject-clause-file
returns-in-Err-NoObject-clause-file c =
    no_file c.args.self.now.depot.now c.args.self.now.spaces.now.namespaces c.args.ns c.bytes.result.now c.args.stem.now (c.ns_name.ensures ∙ ap (λ (n : List ℕ). Some n) (sym c.bytes.ensures)) (rw c.in-Err-NoObject.field-0-is at c.in-Err-NoObject.ensures)

pub returns-in_ok-refusal-in-Err-Ambiguous-clause-file : goal.returns-in_ok-refusal-in-Err-Ambiguous-clause-file
returns-in_ok-refusal-in-Err-Ambiguous-clause-file c =
    several_files c.args.self.now.depot.now c.args.self.now.spaces.now.namespaces c.args.ns c.bytes.result.now c.args.stem.now (c.ns_name.ensures ∙ ap (λ (n : List ℕ). Some n) (sym c.bytes.ensures))
    c.in-Err-Ambiguous.one c.in-Err-Ambiguous.two c.at.result.now c.at-in-Err-Ambiguous.result.now (rw c.in-Err-Ambiguous.field-0-is at c.in-Err-Ambiguous.ensures) c.at.ensures c.at-in-Err-Ambiguous.ensures
    ∙ ap (λ (r : Refusal). Err r) (sym c.in_ok-refusal-in-Err-Ambiguous.ensures)
