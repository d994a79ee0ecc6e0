use Rattle.std.proofs.Common.{◌≡◌, ◌++◌, false, true, List, sym, ap, subst, ◌∙◌}
use Rattle.std.specs.Prelude.{OnOk}
use Rattle.std.specs.Ordering.{nat_cmp}
use Rattle.std.specs.BTreeSet.{contains}
use Rattle.cell_object.specs.declared.headers.SectionHeader.{SectionHeader}
use Rattle.cell_object.specs.Bytes.{Broken, checked}
use Rattle.cell_object.specs.Header.{section_header}
use Rattle.cell_object.specs.Sections.{is_alloc}
use Rattle.cell_object.specs.declared.object.Entry.{Entry}
use Rattle.cell_object.specs.Relocations.{is_rela, is_for_loaded, entries_below, entry_count, section_entries}
use Rattle.cell_file.specs.Kept.{Adds}
use Rattle.cell_file.specs.Outcome.{Passes}
use Rattle.cell_elf.proofs.Tables.{relocated_more, on_ok, section_entries_loaded}
use Rattle.cell_elf.proofs.LastPass.{pairs_added, table_pairs, unrelated, unloaded}
use Rattle.cell_elf.proofs.SlotPass.{table_slots}
use Rattle.cell_elf.proofs.Keeping.{adds_none}
use Rattle.cell_elf.proofs.relocations.Found.pass_section.Goals as goal

pub returns-then-not-is_rela-clause-kept : goal.returns-then-not-is_rela-clause-kept
returns-then-not-is_rela-clause-kept g c =
    let kind : is_rela (section_header c.args.known.now.file.bytes.now c.args.number) ≡ false = ap is_rela (sym c.section-header.ensures) ∙ sym c.is_rela.ensures ∙ c.if-not-is_rela.true in
    adds_none (g.K.Keep.holds c.args.entries.now) _ (unrelated c.args.known.now.file.bytes.now c.args.number kind).0

pub returns-then-not-is_rela-clause-pairs : goal.returns-then-not-is_rela-clause-pairs
returns-then-not-is_rela-clause-pairs g c = λ before held.
    let kind : is_rela (section_header c.args.known.now.file.bytes.now c.args.number) ≡ false = ap is_rela (sym c.section-header.ensures) ∙ sym c.is_rela.ensures ∙ c.if-not-is_rela.true in
    pairs_added c.args.self.now.last.pairs before _ (unrelated c.args.known.now.file.bytes.now c.args.number kind).1 held

pub returns-then-not-is_rela-clause-slots : goal.returns-then-not-is_rela-clause-slots
returns-then-not-is_rela-clause-slots g c = λ before held.
    let kind : is_rela (section_header c.args.known.now.file.bytes.now c.args.number) ≡ false = ap is_rela (sym c.section-header.ensures) ∙ sym c.is_rela.ensures ∙ c.if-not-is_rela.true in
    pairs_added c.args.self.now.last.slots before _ (unrelated c.args.known.now.file.bytes.now c.args.number kind).2 held

pub returns-then-not-is_alloc-clause-kept : goal.returns-then-not-is_alloc-clause-kept
returns-then-not-is_alloc-clause-kept g c =
    let file = c.args.known.now.file.bytes.now in
    let loaded : is_for_loaded file (section_header file c.args.number) ≡ false =
    ap (λ (h : SectionHeader). is_for_loaded file h) (sym c.section-header.ensures) ∙ ap is_alloc (sym c.section.ensures) ∙ sym c.is_alloc.ensures ∙ c.if-not-is_alloc.true in
    adds_none (g.K.Keep.holds c.args.entries.now) _ (unloaded file c.args.number loaded).0

pub returns-then-not-is_alloc-clause-pairs : goal.returns-then-not-is_alloc-clause-pairs
returns-then-not-is_alloc-clause-pairs g c = λ before held.
    let file = c.args.known.now.file.bytes.now in
    let loaded : is_for_loaded file (section_header file c.args.number) ≡ false =
    ap (λ (h : SectionHeader). is_for_loaded file h) (sym c.section-header.ensures) ∙ ap is_alloc (sym c.section.ensures) ∙ sym c.is_alloc.ensures ∙ c.if-not-is_alloc.true in
    pairs_added c.args.self.now.last.pairs before _ (unloaded file c.args.number loaded).1 held

pub returns-then-not-is_alloc-clause-slots : goal.returns-then-not-is_alloc-clause-slots
returns-then-not-is_alloc-clause-slots g c = λ before held.
    let file = c.args.known.now.file.bytes.now in
    let loaded : is_for_loaded file (section_header file c.args.number) ≡ false =
    ap (λ (h : SectionHeader). is_for_loaded file h) (sym c.section-header.ensures) ∙ ap is_alloc (sym c.section.ensures) ∙ sym c.is_alloc.ensures ∙ c.if-not-is_alloc.true in
    pairs_added c.args.self.now.last.slots before _ (unloaded file c.args.number loaded).2 held

pub returns-then-not-is_alloc-clause-targets : goal.returns-then-not-is_alloc-clause-targets
returns-then-not-is_alloc-clause-targets g c =
    relocated_more c.args.known.now.file.bytes.now c.args.number c.section-header.result (contains nat_cmp c.args.self.now.targets) (contains nat_cmp c.insert.new.self) c.requires.from c.section-header.ensures (sym c.is_rela.ensures ∙ c.if-not-is_rela.false) c.requires.targets c.in_ok-insert.ensures.updates.0

pub returns-clause-pairs : goal.returns-clause-pairs
returns-clause-pairs g c =
    let file = c.args.known.now.file.bytes.now in
    let n = c.args.number in
    let kind : is_rela (section_header file n) ≡ true = ap is_rela (sym c.section-header.ensures) ∙ sym c.is_rela.ensures ∙ c.if-not-is_rela.false in
    let loaded : is_for_loaded file (section_header file n) ≡ true =
    ap (λ (h : SectionHeader). is_for_loaded file h) (sym c.section-header.ensures) ∙ ap is_alloc (sym c.section.ensures) ∙ sym c.is_alloc.ensures ∙ c.if-not-is_alloc.false in
    let all = table_pairs file c.open-table.result.file.bytes.now n c.open-table.result.header c.open-table.ensures.file (c.open-table.ensures.header ∙ c.section-header.ensures) kind loaded in
    subst (λ (pairs : List Broken). OnOk c.pass_table.result ((before : List Broken) → Passes c.args.self.now.last.pairs (checked before) → Passes c.pass_table.new.self.last.pairs (checked (before ++ pairs)))) all c.pass_table.ensures.pairs

pub returns-clause-slots : goal.returns-clause-slots
returns-clause-slots g c =
    let file = c.args.known.now.file.bytes.now in
    let n = c.args.number in
    let kind : is_rela (section_header file n) ≡ true = ap is_rela (sym c.section-header.ensures) ∙ sym c.is_rela.ensures ∙ c.if-not-is_rela.false in
    let loaded : is_for_loaded file (section_header file n) ≡ true =
    ap (λ (h : SectionHeader). is_for_loaded file h) (sym c.section-header.ensures) ∙ ap is_alloc (sym c.section.ensures) ∙ sym c.is_alloc.ensures ∙ c.if-not-is_alloc.false in
    let all = table_slots file c.open-table.result.file.bytes.now n c.open-table.result.header c.open-table.ensures.file (c.open-table.ensures.header ∙ c.section-header.ensures) kind loaded in
    subst (λ (pairs : List Broken). OnOk c.pass_table.result ((before : List Broken) → Passes c.args.self.now.last.slots (checked before) → Passes c.pass_table.new.self.last.slots (checked (before ++ pairs)))) all c.pass_table.ensures.slots

pub returns-clause-targets : goal.returns-clause-targets
returns-clause-targets g c =
    on_ok c.pass_table.result (relocated_more c.args.known.now.file.bytes.now c.args.number c.section-header.result (contains nat_cmp c.args.self.now.targets) (contains nat_cmp c.pass_table.new.self.targets) c.requires.from c.section-header.ensures (sym c.is_rela.ensures ∙ c.if-not-is_rela.false) c.requires.targets
    (rw c.pass_table.ensures.targets c.in_ok-insert.ensures.updates.0))

pub returns-clause-kept : goal.returns-clause-kept
returns-clause-kept g c =
    let file = c.args.known.now.file.bytes.now in
    let n = c.args.number in
    let kind : is_rela (section_header file n) ≡ true = ap is_rela (sym c.section-header.ensures) ∙ sym c.is_rela.ensures ∙ c.if-not-is_rela.false in
    let loaded : is_for_loaded file (section_header file n) ≡ true =
    ap (λ (h : SectionHeader). is_for_loaded file h) (sym c.section-header.ensures) ∙ ap is_alloc (sym c.section.ensures) ∙ sym c.is_alloc.ensures ∙ c.if-not-is_alloc.false in
    let whole : c.open-table.result.file.bytes.now ≡ file = c.open-table.ensures.file in
    let own : c.open-table.result.header ≡ section_header file n = c.open-table.ensures.header ∙ c.section-header.ensures in
    let all : entries_below c.open-table.result.file.bytes.now c.open-table.result.header (entry_count c.open-table.result.header) ≡ section_entries file n =
    (λ i. entries_below (whole i) (own i) (entry_count (own i))) ∙ sym (section_entries_loaded file n kind loaded) in
    subst (λ (es : List Entry). OnOk c.pass_table.result (Adds (g.K.Keep.holds c.args.entries.now) (g.K.Keep.holds c.pass_table.new.entries) es)) all c.pass_table.ensures.kept
