use Rattle.std.proofs.Common.{arith, ap, subst, sym, length, List, [], ◌<◌, ◌∙◌}
use Rattle.std.specs.Prelude.{slice_set}
use Rattle.std.proofs.lemmas.List.{get_or_read}
use Rattle.cell_bearers.specs.Rows.{row_at, width}
use Rattle.cell_bearers.specs.declared.rows.Row.{Row}
use Rattle.cell_bearers.proofs.Rowing.{list_there, put_rows, put_widths}
use Rattle.cell_bearers.proofs.rows.put_row.Goals as goal

pub index_mut-requires : goal.index_mut-requires
index_mut-requires c = let lt = list_there c.args.table.now.items c.args.list c.args.place c.requires in let size = c.args.table.now.ok.0 in omega (arith, lt, size)

pub set-requires : goal.set-requires
set-requires c =
    let table = c.args.table.now.items in
    let lt = list_there table c.args.list c.args.place c.requires in
    subst (λ (rows : List Row). c.args.place < length rows) (sym (get_or_read table c.args.list c.index_mut.result.now lt c.index_mut.ensures.value [])) c.requires

pub returns-clause-widths : goal.returns-clause-widths
returns-clause-widths c = λ i.
    let table = c.args.table.now.items in
    let lt = list_there table c.args.list c.args.place c.requires in
    let here = get_or_read table c.args.list c.index_mut.result.now lt c.index_mut.ensures.value [] in
    ap (λ (rows : List Row). width (slice_set table c.args.list rows) i) c.set.ensures ∙ put_widths table c.args.list c.args.place c.args.row c.index_mut.result.now c.requires here i

pub returns-clause-rows : goal.returns-clause-rows
returns-clause-rows c = λ i k.
    let table = c.args.table.now.items in
    let lt = list_there table c.args.list c.args.place c.requires in
    let here = get_or_read table c.args.list c.index_mut.result.now lt c.index_mut.ensures.value [] in
    ap (λ (rows : List Row). row_at (slice_set table c.args.list rows) i k) c.set.ensures ∙ put_rows table c.args.list c.args.place c.args.row c.index_mut.result.now c.requires here i k
