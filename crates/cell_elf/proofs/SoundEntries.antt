-- What the rules leave true of the entries of an object.
use Rattle.std.proofs.Common.{◌≡◌, ℕ, zero, suc, ◌+◌, ◌-◌, ◌<◌, ◌≤◌, refl, sym, ◌∙◌, arith, inl, inr, Bool, true, false, not, ◌||◌, ◌&&◌, List, Option, Some, None, Ok}
use Rattle.std.specs.Prelude.{◌==◌, ◌%◌, nat_lt, nat_le, pos, is_some, unwrap_or, option_map, slice_get, if◌then◌else◌}
use Rattle.std.specs.Ordering.{int_eq}
use Rattle.std.specs.List.{list_any, list_all}
use Rattle.std.proofs.lemmas.Bool.{and_parts}
use Rattle.std.proofs.lemmas.Bool.Decides.{nat_tests}
use Rattle.cell_num.specs.Kinds.{width_of, is_instruction, is_pcrel_lo12, is_got_hi20, is_upper_pcrel}
use Rattle.cell_object.specs.declared.headers.SectionHeader.{SectionHeader}
use Rattle.cell_object.specs.declared.object.Object.{Object}
use Rattle.cell_object.specs.declared.object.Symbol.{Symbol}
use Rattle.cell_object.specs.declared.object.Entry.{Entry}
use Rattle.cell_object.specs.declared.object.Home.{Home}
use Rattle.cell_object.specs.declared.object.Home.TheVariants.{Undef, Abs, Inside, Elsewhere}
use Rattle.cell_object.specs.declared.object.Fill.TheVariants.{Prog, Note}
use Rattle.cell_object.specs.Bytes.{checked, between}
use Rattle.cell_object.specs.Header.{file_header, section_header}
use Rattle.cell_object.specs.Sections.{is_alloc, is_nobits, is_note, has_flag}
use Rattle.cell_object.specs.Symbols.{symbols_of}
use Rattle.cell_object.specs.Relocations.{entry_count, entry_of, entries_below, is_unplaced, is_unusable, is_unusable_symbol, symbol_total, relocations_rules, entries_of, is_label, is_label_symbol, has_label, is_unpaired, pairs_rules, slots_rules}
use Rattle.cell_object.specs.Parts.{is_local, section_of, symbol_at, label_of}
use Rattle.cell_object.specs.Reads.{object_of, fill_of}
use Rattle.cell_object.specs.Sound.{is_zero, is_sound_home, is_sound_symbol, is_nameable, is_sound_entry_in}
use Rattle.cell_object.specs.Readable.{is_bare}
use Rattle.cell_object.proofs.Plain.{upper_of, is_readable_entry}
use Rattle.cell_num.specs.Lists.{In}
use Rattle.cell_num.proofs.Elements.{In-all, all-In, any-Has, find_there, get-In}
use Rattle.cell_num.proofs.Ranges.{In-range}
use Rattle.cell_elf.proofs.SoundSections.{yes_or_no, and_three, section_found}
use Rattle.cell_elf.proofs.EntryFacts.{IsTable, IsRow, one_entry, entry_at, entry_there, entry_kind, table_fit, entry_fit, entry_paired, entry_bare}

not_zero : (h : SectionHeader) → is_nobits h ≡ false → not (is_zero (fill_of h)) ≡ true
not_zero h e = rw e (go (is_note h))
  where
    go : (b : Bool) → not (is_zero (if b then Note else Prog)) ≡ true
    go true = refl
    go false = refl

field_of : (size end : ℕ) (instruction exec whole : Bool) → (nat_lt size end || instruction && (not exec || not whole)) ≡ false
    → (nat_le end size && (not instruction || exec && whole)) ≡ true
field_of size end true true true e = grind (arith, nat_tests)
field_of size end true true false e = absurd (grind (arith, nat_tests))
field_of size end true false whole e = absurd (grind (arith, nat_tests))
field_of size end false exec whole e = grind (arith, nat_tests)

and_grouped : (a b c : Bool) → a ≡ true → (b && c) ≡ true → (a && b && c) ≡ true
and_grouped a b c h k = rw h k

-- the field of an entry is in its section
in_section : (file : List ℕ) (e : Entry) → 1 ≤ e.section → e.section < (file_header file).e_shnum → is_alloc (section_header file e.section) ≡ true → is_nobits (section_header file e.section) ≡ false
    → (nat_lt (section_header file e.section).sh_size (e.offset + width_of e.kind) || is_instruction e.kind && (not (has_flag 4 (section_header file e.section)) || not (e.offset % 4 == 0))) ≡ false
    → unwrap_or (option_map (is_sound_entry_in e) (section_of (object_of file) e.section)) false ≡ true
in_section file e from there loaded kept field =
    let h = section_header file e.section in
    rw (section_found file e.section from there loaded)
    (and_grouped (not (is_zero (fill_of h))) (nat_le (e.offset + width_of e.kind) h.sh_size) (not (is_instruction e.kind) || has_flag 4 h && (e.offset % 4 == 0)) (not_zero h kept) (field_of h.sh_size (e.offset + width_of e.kind) (is_instruction e.kind) (has_flag 4 h) (e.offset % 4 == 0) field))

unlocal : (local : Bool) → (local && true) ≡ false → not local ≡ true
unlocal true placed = absurd cc
unlocal false placed = refl

-- a sound symbol that entries can use is one that they may name
nameable : (object : Object) (s : Symbol) (home : Home) → is_sound_home object s home ≡ true → (is_local s.bind && is_unplaced home) ≡ false → is_nameable s home ≡ true
nameable object s Undef sound placed = unlocal (is_local s.bind) placed
nameable object s Abs sound placed = refl
nameable object s (Inside n) sound placed = refl
nameable object s Elsewhere sound placed = absurd (clash (is_local s.bind) sound (unlocal (is_local s.bind) placed))
  where
    clash : (b : Bool) → b ≡ true → not b ≡ true → ⊥
    clash true g n = cc
    clash false g n = cc

usable_of : (past : Bool) (unusable : Bool) → (past || unusable) ≡ false → unusable ≡ false
usable_of true unusable e = absurd cc
usable_of false unusable e = e

more : (n : ℕ) → (suc n == 0) ≡ false
more n = grind (arith, nat_tests)

-- what an entry names may be named
named : (object : Object) (j : ℕ) → list_all (is_sound_symbol object) object.symbols ≡ true → is_unusable object.symbols j ≡ false
    → (j == 0 || unwrap_or (option_map (λ s. is_nameable s s.home) (symbol_at object j)) false) ≡ true
named object zero sound usable = refl
named object (suc n) sound usable =
    let one : suc n - 1 ≡ n = omega arith in
    rw (more n) (go (slice_get object.symbols n) refl (rw (one, more n) at usable))
  where
    go : (o : Option Symbol) → slice_get object.symbols n ≡ o → is_unusable_symbol o ≡ false → unwrap_or (option_map (λ s. is_nameable s s.home) o) false ≡ true
    go None is usable = absurd cc
    go (Some s) is usable =
        let one = all-In (is_sound_symbol object) object.symbols sound s (get-In object.symbols n s is) in
        nameable object s s.home (and_parts (is_sound_home object s s.home) _ one).0 usable

-- the label of an entry, in a section
pub record IsLabel (object : Object) (section j : ℕ) (entries : List Entry) : Type 0 where
  pub symbol : Symbol
  pub number : ℕ
  pub is : symbol_at object j ≡ Some symbol
  pub home : symbol.home ≡ Inside number
  pub here : number ≡ section
  pub high : list_any (λ (e : Entry). is_upper_pcrel e.kind && e.offset == symbol.value) entries ≡ true

same_number : (m n : ℕ) → (m == n) ≡ true → m ≡ n
same_number m n e = grind (arith, nat_tests)

label_is : (object : Object) (section j : ℕ) (entries : List Entry) → has_label section entries object.symbols j ≡ true → IsLabel object section j entries
label_is object section zero entries e = absurd cc
label_is object section (suc n) entries e =
    let one : suc n - 1 ≡ n = omega arith in
    go (slice_get object.symbols n) refl (rw (one, more n) at e)
  where
    inside : (s : Symbol) (home : Home) → slice_get object.symbols n ≡ Some s → s.home ≡ home → is_label section entries home s.value ≡ true → IsLabel object section (suc n) entries
    inside s (Inside m) is home e =
        let both = and_parts (m == section) (list_any (λ (e : Entry). is_upper_pcrel e.kind && e.offset == s.value) entries) e in
        record { symbol = s; number = m; is = is; home = home; here = same_number m section both.0; high = both.1 }
    inside s Undef is home e = absurd cc
    inside s Abs is home e = absurd cc
    inside s Elsewhere is home e = absurd cc

    go : (o : Option Symbol) → slice_get object.symbols n ≡ o → is_label_symbol section entries o ≡ true → IsLabel object section (suc n) entries
    go None is e = absurd cc
    go (Some s) is e = inside s s.home is refl e

high_here : (hi : Bool) (a b c d : ℕ) → (hi && c == d) ≡ true → a ≡ b → (hi && a == b && c == d) ≡ true
high_here true a b c d e same = grind (arith, nat_tests)
high_here false a b c d e same = absurd cc

-- an entry with a label has the entry of its upper part there
label_sound : (object : Object) (e : Entry) (entries : List Entry) → ((h : Entry) → In h entries → In h object.entries × (h.section ≡ e.section)) → IsLabel object e.section e.symbol entries
    → (is_some (upper_of object e) ≡ true) × (unwrap_or (option_map (λ label. label.0 == e.section) (label_of object e)) false ≡ true)
label_sound object e entries among label =
    let s = label.symbol in
    let high = any-Has (λ (h : Entry). is_upper_pcrel h.kind && h.offset == s.value) entries label.high in
    let there = among high.0 high.1 in
    let found = find_there (λ (h : Entry). is_upper_pcrel h.kind && h.section == label.number && h.offset == s.value) object.entries high.0 there.0 (high_here (is_upper_pcrel high.0.kind) high.0.section label.number high.0.offset s.value high.2 (there.1 ∙ sym label.here)) in
    (rw (label.is, label.home, found.1) refl, rw (label.is, label.home) (same_true label.number e.section label.here))
  where
    same_true : (m n : ℕ) → m ≡ n → (m == n) ≡ true
    same_true m n e = grind (arith, nat_tests)

unpaired_of : (lo added labelled : Bool) → (lo && (not added || not labelled)) ≡ false → lo ≡ true → (added ≡ true) × (labelled ≡ true)
unpaired_of true true true e l = (refl, refl)
unpaired_of true true false e l = absurd cc
unpaired_of true false labelled e l = absurd cc
unpaired_of false added labelled e l = absurd cc

-- a PCREL_LO12 entry is paired
paired : (object : Object) (e : Entry) (entries : List Entry) → ((h : Entry) → In h entries → In h object.entries × (h.section ≡ e.section)) → is_unpaired object.symbols entries e.section e.kind e.addend e.symbol ≡ false
    → (not (is_pcrel_lo12 e.kind) || int_eq e.addend (pos 0) && is_some (upper_of object e) && unwrap_or (option_map (λ label. label.0 == e.section) (label_of object e)) false) ≡ true
paired object e entries among unpaired = elim (yes_or_no (is_pcrel_lo12 e.kind)) [
  | inl lo ↦
      let tests = unpaired_of (is_pcrel_lo12 e.kind) (int_eq e.addend (pos 0)) (has_label e.section entries object.symbols e.symbol) unpaired lo in
      let label = label_sound object e entries among (label_is object e.section e.symbol entries tests.1) in
      rw lo (and_three (int_eq e.addend (pos 0)) (is_some (upper_of object e)) (unwrap_or (option_map (λ label. label.0 == e.section) (label_of object e)) false) tests.0 label.0 label.1)
  | inr other ↦ rw other refl
]

-- each entry of a table is in its section
table_section : (file : List ℕ) (n : ℕ) (e : Entry) → In e (entries_below file (section_header file n) (entry_count (section_header file n))) → e.section ≡ (section_header file n).sh_info
unfolding between
table_section file n e i =
    let h = section_header file n in
    let at = In-range (entry_of file h) (entry_count h - 0) 0 e i in
    (entry_kind file h at.0 e (one_entry file h at.0 e at.3)).1

entry_sound : (file : List ℕ) (n k : ℕ) (e : Entry) → list_all (is_sound_symbol (object_of file)) (symbols_of file) ≡ true → IsTable file n → IsRow file n k e
    → checked (relocations_rules file) ≡ Ok tt → checked (pairs_rules file) ≡ Ok tt → is_readable_entry (object_of file) e ≡ true
entry_sound file n k e symbols t r related passed =
    let h = section_header file n in
    let object : Object = object_of file in
    let form = table_fit file n t related in
    let fits = entry_fit file n k e t r related in
    let kind = entry_kind file h k e r.is in
    let home = kind.1 in
    let from : 1 ≤ e.section = rw home form.from in
    let there : e.section < (file_header file).e_shnum = rw home form.there in
    let loaded : is_alloc (section_header file e.section) ≡ true = rw home t.loaded in
    let kept : is_nobits (section_header file e.section) ≡ false = rw home form.kept in
    and_three (unwrap_or (option_map (is_sound_entry_in e) (section_of object e.section)) false)
    (e.symbol == 0 || unwrap_or (option_map (λ s. is_nameable s s.home) (symbol_at object e.symbol)) false)
    (not (is_pcrel_lo12 e.kind) || int_eq e.addend (pos 0) && is_some (upper_of object e) && unwrap_or (option_map (λ label. label.0 == e.section) (label_of object e)) false)
    (in_section file e from there loaded kept fits.field)
    (named object e.symbol symbols (usable_of (nat_le (symbol_total file) e.symbol) (is_unusable (symbols_of file) e.symbol) fits.symbol))
    (paired object e (entries_below file h (entry_count h)) (λ other i. (entry_there file n other t i, table_section file n other i ∙ sym home)) (entry_paired file n k e t r passed))

-- each entry is sound
pub entries_sound : (file : List ℕ) → list_all (is_sound_symbol (object_of file)) (symbols_of file) ≡ true → checked (relocations_rules file) ≡ Ok tt → checked (pairs_rules file) ≡ Ok tt
    → list_all (is_readable_entry (object_of file)) (entries_of file) ≡ true
entries_sound file symbols related passed =
    In-all (is_readable_entry (object_of file)) (entries_of file) (λ e i.
    let at = entry_at file e i in entry_sound file at.0 at.2.0 e symbols at.1 at.2.1 related passed)

unslotted : (got none : Bool) → (got && not none) ≡ false → (not got || none) ≡ true
unslotted true true e = refl
unslotted true false e = absurd cc
unslotted false none e = refl

-- each entry that asks for a slot has no addend
pub entries_bare : (file : List ℕ) → checked (slots_rules file) ≡ Ok tt → list_all is_bare (entries_of file) ≡ true
entries_bare file passed =
    In-all is_bare (entries_of file) (λ e i.
    let at = entry_at file e i in unslotted (is_got_hi20 e.kind) (int_eq e.addend (pos 0)) (entry_bare file at.0 at.2.0 e at.1 at.2.1 passed))
