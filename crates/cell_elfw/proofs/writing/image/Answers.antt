use Rattle.std.proofs.Common.{ℕ, ◌+◌, ◌++◌, List, length, ap, sym, subst, refl, ◌∙◌}
use Rattle.cell_object.specs.ImageParts.{padded, parts}
use Rattle.cell_elfw.specs.Drafts.{HoldsSections, HoldsSymbols}
use Rattle.cell_elfw.proofs.Whole.{Stages, tables_none, fourth_is, has_room, image_is, ok_along}
use Rattle.cell_elfw.proofs.writing.image.Goals as goal

pub add_tables-requires-clause-none : goal.add_tables-requires-clause-none
add_tables-requires-clause-none c =
    let draft = c.in_ok-draft.draft in
    let symbols = c.in_ok-symbols.symbols in
    let symtab : ℕ = length c.as_slice-sections.result.now + 1 in
    tables_none draft.file.items draft.names.items draft.own_rows.items symbols.symbols.items symbols.strings.items c.put_part.new.file.items c.put.new.names.items draft.table_rows.items c.args.object.now symtab
    (subst (HoldsSections draft.file.items draft.names.items draft.own_rows.items) c.as_slice-sections.ensures c.in_ok-draft.ensures.sections)
    c.in_ok-draft.ensures.tables
    (subst (HoldsSymbols symbols.symbols.items symbols.strings.items symtab) c.as_slice.ensures c.in_ok-symbols.ensures)
    (ap (λ v. length v + 1) c.as_slice-sections.ensures)
    c.in_ok-names.ensures.names
    (c.in_ok-symtab_offset.ensures.file ∙ ap (λ v. draft.file.items ++ padded v) c.deref.ensures.value)

pub finished-requires : goal.finished-requires
finished-requires c =
    let draft = c.in_ok-draft.draft in
    let symbols = c.in_ok-symbols.symbols in
    let later = c.add_tables.new.self in
    let symtab : ℕ = length c.as_slice-sections.result.now + 1 in
    let sections = subst (HoldsSections draft.file.items draft.names.items draft.own_rows.items) c.as_slice-sections.ensures c.in_ok-draft.ensures.sections in
    let owned : List ℕ → Type 0 = λ v. HoldsSections draft.file.items draft.names.items v c.args.object.now.sections in
    let stages : Stages c.args.object.now symtab draft.file.items draft.names.items later.own_rows.items symbols.symbols.items symbols.strings.items later.file.items later.names.items later.table_rows.items c.put_part-2.new.file.items c.put_part-3.new.file.items = record {
      sections = subst owned (sym c.in_ok-add_tables.ensures.own) sections;
      symbols = subst (HoldsSymbols symbols.symbols.items symbols.strings.items symtab) c.as_slice.ensures c.in_ok-symbols.ensures;
      number = ap (λ v. length v + 1) c.as_slice-sections.ensures;
      tables = c.in_ok-add_tables.ensures.all;
      third = c.in_ok-strtab_offset.ensures.file ∙ ap (λ v. later.file.items ++ padded v) c.deref-3.ensures.value;
      fourth = c.in_ok-shstrtab_offset.ensures.file ∙ ap (λ v. c.put_part-2.new.file.items ++ padded v) c.deref-4.ensures.value;
    } in
    has_room c.put_part-3.new.file.items (parts c.args.object.now) (fourth_is _ _ _ _ _ _ _ _ _ _ _ _ stages)

pub returns : goal.returns
returns c =
    let draft = c.in_ok-draft.draft in
    let symbols = c.in_ok-symbols.symbols in
    let later = c.add_tables.new.self in
    let symtab : ℕ = length c.as_slice-sections.result.now + 1 in
    let sections = subst (HoldsSections draft.file.items draft.names.items draft.own_rows.items) c.as_slice-sections.ensures c.in_ok-draft.ensures.sections in
    let owned : List ℕ → Type 0 = λ v. HoldsSections draft.file.items draft.names.items v c.args.object.now.sections in
    let stages : Stages c.args.object.now symtab draft.file.items draft.names.items later.own_rows.items symbols.symbols.items symbols.strings.items later.file.items later.names.items later.table_rows.items c.put_part-2.new.file.items c.put_part-3.new.file.items = record {
      sections = subst owned (sym c.in_ok-add_tables.ensures.own) sections;
      symbols = subst (HoldsSymbols symbols.symbols.items symbols.strings.items symtab) c.as_slice.ensures c.in_ok-symbols.ensures;
      number = ap (λ v. length v + 1) c.as_slice-sections.ensures;
      tables = c.in_ok-add_tables.ensures.all;
      third = c.in_ok-strtab_offset.ensures.file ∙ ap (λ v. later.file.items ++ padded v) c.deref-3.ensures.value;
      fourth = c.in_ok-shstrtab_offset.ensures.file ∙ ap (λ v. c.put_part-2.new.file.items ++ padded v) c.deref-4.ensures.value;
    } in
    let places = c.in_ok-names.ensures in
    ok_along c.finished.result
    (λ file e. image_is _ _ _ _ _ _ _ _ _ _ _ _ c.deref-5.result.now file.items _ _ _
    c.in_ok-names.names.symtab c.in_ok-symtab_offset.symtab_offset c.len.result
    c.in_ok-names.names.strtab c.in_ok-strtab_offset.strtab_offset c.len-2.result
    c.in_ok-names.names.shstrtab c.in_ok-shstrtab_offset.shstrtab_offset c.len-3.result
    stages places.symtab places.strtab places.shstrtab
    c.in_ok-symtab_offset.ensures.offset c.in_ok-strtab_offset.ensures.offset c.in_ok-shstrtab_offset.ensures.offset
    (c.len.ensures ∙ sym c.deref.ensures.len ∙ ap length c.deref.ensures.value) (c.len-2.ensures ∙ sym c.deref-3.ensures.len ∙ ap length c.deref-3.ensures.value) (c.len-3.ensures ∙ sym c.deref-4.ensures.len ∙ ap length c.deref-4.ensures.value)
    refl refl refl
    (c.deref-5.ensures.value ∙ c.in_ok-headers.ensures)
    e)
    c.finished.ensures
