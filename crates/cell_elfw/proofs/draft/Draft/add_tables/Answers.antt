use Rattle.std.proofs.Common.{◌≡◌, ◌+◌, ◌<◌, length, ap, sym, subst, ◌∙◌, refl, get_or, take, arith}
use Rattle.cell_elfw.specs.declared.draft.Draft.{Draft}
use Rattle.cell_object.specs.ImageParts.{relocated, entries_for}
use Rattle.cell_elfw.specs.Drafts.{HoldsTables}
use Rattle.cell_elfw.proofs.Stages.{table_more, table_same}
use Rattle.cell_elfw.proofs.draft.Draft.add_tables.Goals as goal
use Rattle.cell_elfw.proofs.draft.Draft.add_tables.Goals.{then-not-is_empty+in_ok-add_table, else-not-is_empty}

pub loop-index-init : goal.loop-index-init
unfolding relocated
loop-index-init c = record { all = c.requires.none; own = refl }

pub loop-index-preserved : goal.loop-index-preserved
loop-index-preserved c =
    let object = c.args.object.now in
    let i = c.loop-index.index in
    let was = c.loop-index.self in
    let lt : i < length object.sections = omega (arith, c.loop-index-test.true, ap length c.as_slice-sections.ensures) in
    let s = c.index-sections-index.result in
    let here = c.index-sections-index.is ∙ ap (λ v. get_or v i s) c.as_slice-sections.ensures in
    let entries : c.as_slice-entries.result.now ≡ entries_for object.entries (i + 1) =
    c.as_slice-entries.ensures.value ∙ ap (λ t. t.items) c.index-tables-index.is ∙ c.requires.tables c.index-tables-index.result i (omega (arith, lt, c.requires.count)) in
    let Held : Draft → Type 0 = λ d. HoldsTables d.file.items d.names.items d.table_rows.items object (relocated (take (i + 1) object.sections) object.entries) in
    elim c.if-not-is_empty.branch [
      | then-not-is_empty+in_ok-add_table w ↦
          let put = w.in_ok-add_table.ensures in
          let now = w.add_table.new.self in
          record {
            all = subst Held (sym w.self-is)
                (table_more was.file.items was.names.items was.table_rows.items now.file.items now.names.items now.table_rows.items object i s (length c.as_slice-sections.result.now + 1) c.as_slice-entries.result.now lt here entries
                (sym c.is_empty.ensures ∙ w.if-not-is_empty.true) c.loop-index.invariant.all (ap (λ v. length v + 1) c.as_slice-sections.ensures) put.file put.names put.rows);
            own = ap (λ d. d.own_rows.items) w.self-is ∙ put.own ∙ c.loop-index.invariant.own;
          }
      | else-not-is_empty w ↦
          record {
            all = subst Held (sym w.self-is)
                (table_same was.file.items was.names.items was.table_rows.items object i s c.as_slice-entries.result.now lt entries (sym c.is_empty.ensures ∙ w.if-not-is_empty.false) c.loop-index.invariant.all);
            own = ap (λ d. d.own_rows.items) w.self-is ∙ c.loop-index.invariant.own;
          }
    ]
