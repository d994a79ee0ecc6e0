use Rattle.std.proofs.Common.{ap, filter, ◌∙◌}
use Rattle.cell_bearers.specs.Namings.{is_called}
use Rattle.cell_bearers.proofs.Indexing.{indexed, still_faithful, still_room}
use Rattle.cell_bearers.proofs.index.index_of.Goals as goal

pub add_rows-requires-clause-faithful : goal.add_rows-requires-clause-faithful
add_rows-requires-clause-faithful c =
    still_faithful c.args.file.now c.args.objects.now c.args.cells.now c.deref.result.now
    (λ name. ap (filter (is_called name)) c.deref.ensures.value ∙ (c.sort_by_name.ensures.stable name ∙ ap (filter (is_called name)) c.in_ok-namings.ensures))

pub add_rows-requires-clause-there : goal.add_rows-requires-clause-there
add_rows-requires-clause-there c =
    still_room c.args.file.now c.args.objects.now c.args.cells.now c.deref.result.now
    (λ name. ap (filter (is_called name)) c.deref.ensures.value ∙ (c.sort_by_name.ensures.stable name ∙ ap (filter (is_called name)) c.in_ok-namings.ensures))
    c.in_ok-empty.field-0 c.in_ok-empty.ensures.symbols c.in_ok-empty.ensures.aliases

pub returns : goal.returns
returns c =
    indexed c.args.file.now c.args.objects.now c.args.cells.now c.deref.result.now
    (λ name. ap (filter (is_called name)) c.deref.ensures.value ∙ (c.sort_by_name.ensures.stable name ∙ ap (filter (is_called name)) c.in_ok-namings.ensures))
    c.add_rows.new.self c.in_ok-add_rows.ensures
