-- What is read is sound.
use Rattle.std.proofs.Common.{◌≡◌, ℕ, ◌+◌, ◌-◌, ◌<◌, ◌≤◌, refl, sym, subst, arith, Bool, true, false, ◌||◌, ◌&&◌, inl, inr, List, ◌++◌, length, Option, Some, None, Ok, Err}
use Rattle.std.specs.Prelude.{◌==◌, ◌*◌, ◌/◌, ◌^◌, nat_lt, Result, IfOk}
use Rattle.std.proofs.lemmas.Bool.{and_parts, eqb-true}
use Rattle.std.proofs.lemmas.Bool.Decides.{nat_tests}
use Rattle.cell_object.specs.declared.object.Object.{Object}
use Rattle.cell_object.specs.declared.object.Section.{Section}
use Rattle.cell_object.specs.declared.object.Symbol.{Symbol}
use Rattle.cell_object.specs.declared.object.Entry.{Entry}
use Rattle.cell_num.specs.declared.kinds.RelKind.{RelKind}
use Rattle.cell_num.specs.Kinds.{kind_of}
use Rattle.cell_object.specs.declared.headers.SectionHeader.{SectionHeader}
use Rattle.cell_object.specs.declared.headers.RelaRow.{RelaRow}
use Rattle.cell_object.specs.Bytes.{checked, broken_where, between}
use Rattle.cell_object.specs.Header.{file_header, section_header, header_rules, rule_1, rule_2, rule_3, rule_4, rule_5, rule_6, rule_7}
use Rattle.cell_object.specs.Sections.{sections_rules}
use Rattle.cell_object.specs.Symbols.{symtab_rules, symbols_rules, symbols_of}
use Rattle.cell_object.specs.Relocations.{is_rela, is_for_loaded, rela_row, entry_count, entry_of_kind, entry_of, entries_below, relocations_rules, section_entries, entries_of, pairs_rules, slots_rules}
use Rattle.cell_object.specs.Reads.{broken, loaded_sections, object_of}
use Rattle.cell_object.specs.Readable.{IsReadable}
use Rattle.cell_object.proofs.Plain.{readable_by}
use Rattle.cell_file.specs.declared.fail.ReadFail.{ReadFail}
use Rattle.cell_file.specs.Outcome.{Passes}
use Rattle.cell_elf.proofs.Loads.{checked-both, not_broken, section_inside}
use Rattle.cell_num.proofs.Ranges.{length-range}
use Rattle.cell_file.proofs.Passing.{gives_object}
use Rattle.cell_elf.proofs.Tables.{section_entries_loaded, section_entries_other}
use Rattle.cell_elf.proofs.SoundSections.{yes_or_no, in_range, numbers_rise, sections_sound}
use Rattle.cell_elf.proofs.SoundSymbols.{symbols_sound, names_sound}
use Rattle.cell_elf.proofs.SoundEntries.{entries_sound, entries_bare}
use Rattle.cell_elf.proofs.SoundApart.{entries_apart}

few_of : (count : ℕ) (none : Bool) → (none || nat_lt 65279 count) ≡ false → count ≤ 65279
few_of count true h = absurd cc
few_of count false h = grind (arith, nat_tests)

-- there are fewer sections than SHN_LORESERVE
pub few_sections : (file : List ℕ) → checked (header_rules file) ≡ Ok tt → (file_header file).e_shnum ≤ 65279
few_sections file passed =
    let h = file_header file in
    let p1 = checked-both (rule_1 file) (rule_2 file ++ (rule_3 h ++ (rule_4 h ++ (rule_5 h ++ (rule_6 file h ++ rule_7 file h))))) passed in
    let p2 = checked-both (rule_2 file) (rule_3 h ++ (rule_4 h ++ (rule_5 h ++ (rule_6 file h ++ rule_7 file h)))) p1.1 in
    let p3 = checked-both (rule_3 h) (rule_4 h ++ (rule_5 h ++ (rule_6 file h ++ rule_7 file h))) p2.1 in
    let p4 = checked-both (rule_4 h) (rule_5 h ++ (rule_6 file h ++ rule_7 file h)) p3.1 in
    let p5 = checked-both (rule_5 h) (rule_6 file h ++ rule_7 file h) p4.1 in
    let counts = checked-both (broken_where _ 5 56 ++ broken_where _ 5 58) (broken_where (h.e_shnum == 0 || nat_lt 65279 h.e_shnum) 5 60) p5.0 in
    few_of h.e_shnum (h.e_shnum == 0) (not_broken _ _ _ counts.1)

-- the object of a file that breaks no rule is readable
pub object_readable : (file : List ℕ) → checked (broken file) ≡ Ok tt → IsReadable (object_of file)
object_readable file passed =
    let header = checked-both (header_rules file) (sections_rules file ++ (symtab_rules file ++ (symbols_rules file ++ (relocations_rules file ++ (pairs_rules file ++ slots_rules file))))) passed in
    let sections = checked-both (sections_rules file) (symtab_rules file ++ (symbols_rules file ++ (relocations_rules file ++ (pairs_rules file ++ slots_rules file)))) header.1 in
    let symtab = checked-both (symtab_rules file) (symbols_rules file ++ (relocations_rules file ++ (pairs_rules file ++ slots_rules file))) sections.1 in
    let symbols = checked-both (symbols_rules file) (relocations_rules file ++ (pairs_rules file ++ slots_rules file)) symtab.1 in
    let relocations = checked-both (relocations_rules file) (pairs_rules file ++ slots_rules file) symbols.1 in
    let pairs = checked-both (pairs_rules file) (slots_rules file) relocations.1 in
    let rows = symbols_sound file (few_sections file header.0) symbols.0 in
    readable_by (object_of file) (record {
      numbers = numbers_rise file;
      sections = sections_sound file sections.0;
      symbols = rows;
      names = names_sound file symbols.0;
      entries = entries_sound file rows relocations.0 pairs.0;
      apart = entries_apart file relocations.0;
      bare = entries_bare file pairs.1;
    })

entry_short : (h : SectionHeader) (r : RelaRow) (o : Option RelKind) → length (entry_of_kind h r o) ≤ 1
entry_short h r None = omega arith
entry_short h r (Some kind) = omega arith

one_short : (file : List ℕ) (h : SectionHeader) (k : ℕ) → length (entry_of file h k) ≤ 1
unfolding entry_of
one_short file h k = entry_short h (rela_row file h k) (kind_of (rela_row file h k).r_type)

count_of : (from size end entries : ℕ) → from + size ≤ end → end ≤ 1048576 → entries ≤ (size / 24 - 0) * 1 → entries ≤ 43690
count_of from size end entries h k l = omega arith

table_short : (file : List ℕ) (n : ℕ) → checked (sections_rules file) ≡ Ok tt → length file ≤ 1048576 → 1 ≤ n → n < (file_header file).e_shnum → length (section_entries file n) ≤ 43690
unfolding between
table_short file n passed small from there = elim (yes_or_no (is_rela (section_header file n) && is_for_loaded file (section_header file n))) [
  | inl a ↦
      let h = section_header file n in
      let both = and_parts (is_rela h) (is_for_loaded file h) a in
      let kind : h.sh_type ≡ 4 = eqb-true h.sh_type 4 both.0 in
      let inside = section_inside file n (file_header file).e_shnum h passed refl refl from there (omega arith) (omega arith) in
      rw (section_entries_loaded file n both.0 both.1)
      (count_of h.sh_offset h.sh_size (length file) (length (entries_below file h (entry_count h))) inside small (length-range (entry_of file h) 1 (entry_count h - 0) 0 (λ k low high. one_short file h k)))
  | inr b ↦ rw (section_entries_other file n b) (omega arith)
]

few_of_counts : (count entries : ℕ) → count ≤ 65279 → entries ≤ (count - 1) * 43690 → entries + 2 ^ 20 < 2 ^ 32
few_of_counts count entries h k = omega arith

-- an object of at most a mebibyte has far fewer than 2 ^ 32 entries
pub few_entries : (file : List ℕ) → checked (broken file) ≡ Ok tt → length file ≤ 1048576 → length (entries_of file) + 2 ^ 20 < 2 ^ 32
unfolding between
few_entries file passed small =
    let count = (file_header file).e_shnum in
    let header = checked-both (header_rules file) (sections_rules file ++ (symtab_rules file ++ (symbols_rules file ++ (relocations_rules file ++ (pairs_rules file ++ slots_rules file))))) passed in
    let sections = checked-both (sections_rules file) (symtab_rules file ++ (symbols_rules file ++ (relocations_rules file ++ (pairs_rules file ++ slots_rules file)))) header.1 in
    few_of_counts count (length (entries_of file)) (few_sections file header.0)
    (length-range (section_entries file) 43690 (count - 1) 1 (λ n low high. table_short file n sections.0 small low (in_range count n low high)))

-- the object of these parts
pub parts_same : (file : List ℕ) (ss : List Section) (ys : List Symbol) (es : List Entry) → ss ≡ loaded_sections file → ys ≡ symbols_of file → es ≡ entries_of file
    → record { sections = ss; symbols = ys; entries = es } ≡ object_of file
parts_same file ss ys es s y e = λ i. record { sections = s i; symbols = y i; entries = e i }

-- what a reader that passed over the rules gives is readable
pub result_readable : (file : List ℕ) (r : Result Object ReadFail) → Passes r (checked (broken file)) → IfOk r (λ o. o ≡ object_of file) → IfOk r IsReadable
result_readable file (Ok o) passed is = subst IsReadable (sym is) (object_readable file passed)
result_readable file (Err e) failed is = tt

pub ruleset reads_soundly = (gives_object, result_readable)
