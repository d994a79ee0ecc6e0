-- An image breaks no rule on relocations.
use Rattle.std.proofs.Common.{◌≡◌, ℕ, suc, ◌+◌, ◌-◌, ◌/◌, ◌%◌, ◌<◌, ◌≤◌, Bool, true, false, not, true≢false, ◌&&◌, ◌||◌, List, [], ◌∷◌, ◌++◌, length, take, get_or, sym, ap, subst, ◌∙◌, refl, arith, if◌then◌else◌, inl, inr}
use Rattle.std.specs.Prelude.{◌==◌, nat_lt, nat_le, is_none}
use Rattle.std.specs.List.{flat_map, list_any}
use Rattle.std.proofs.lemmas.Bool.{le-ltb, lt-leb, eq-eqb, ne_eqb, cases_lt}
use Rattle.std.proofs.lemmas.List.{length-take-le, get_or-take}
use Rattle.cell_num.specs.Kinds.{is_passed_over, width_of, is_instruction}
use Rattle.cell_object.specs.declared.object.Object.{Object}
use Rattle.cell_object.specs.declared.object.Section.{Section}
use Rattle.cell_object.specs.declared.object.Entry.{Entry}
use Rattle.cell_object.specs.declared.headers.SectionHeader.{SectionHeader}
use Rattle.cell_object.specs.Bytes.{Broken, broken_where, between}
use Rattle.cell_object.specs.Header.{section_header, section_place, is_section_number}
use Rattle.cell_object.specs.Sections.{is_nobits, has_flag}
use Rattle.cell_object.specs.Symbols.{symtab, symbols_of, symbol_count}
use Rattle.cell_object.specs.Relocations.{is_rela, is_number, is_relocated_below, is_for_loaded, is_ill_formed, rule_19, rela_row, entry_count, entry_place, entry_of, entries_below, rule_20, is_unusable, symbol_total, symbol_total_of, rule_21, rule_22, is_clash, rule_23, field_rules, entry_rules}
use Rattle.cell_object.specs.Relocations.{relocation_rules, relocations_rules, is_unpaired, rule_24, pair_rules, section_pairs, pairs_rules, is_past_slot, rule_25, slot_rules, section_slots, slots_rules}
use Rattle.cell_object.specs.Rows.{kind_number}
use Rattle.cell_object.specs.ImageParts.{symtab_number, symbols_part, has_entries, entries_for, table}
use Rattle.cell_object.specs.Image.{fill_type, section_rows, image}
use Rattle.cell_image.proofs.Headers.{FitsImage, tables, rows_count, own_header, symtab_header, table_header, header_of_image, read_header}
use Rattle.cell_image.proofs.Gather.{gather_all, gather_none, any_none}
use Rattle.cell_image.proofs.OwnSections.{flags_exec}
use Rattle.cell_image.proofs.HeaderRules.{unbroken, is_numbered}
use Rattle.cell_image.proofs.SectionRules.{and_false}
use Rattle.cell_image.proofs.LastRules.{symtab_is}
use Rattle.cell_image.proofs.Tables.{table_is, tables_rise}
use Rattle.cell_image.proofs.Symbols.{symbols_length}
use Rattle.cell_image.proofs.Entries.{ArePlain, table_at, entries_at, head_at, entry_for, entry_row_is, entry_is, entries_length, count_is, plain_at, table_entries, table_loaded, others, kind_back}

-- an entry for a section breaks no rule, after those before it and among all for the section
pub record IsSoundEntry (object : Object) (s : Section) (before all : List Entry) (e : Entry) : Type 0 where
  pub filled : (fill_type s.fill == 8) ≡ false
  pub symbol : e.symbol ≤ length object.symbols
  pub usable : is_unusable object.symbols e.symbol ≡ false
  pub inside : e.offset + width_of e.kind ≤ s.size
  pub code : (is_instruction e.kind && (not s.exec || not (e.offset % 4 == 0))) ≡ false
  pub apart : list_any (is_clash e) before ≡ false
  pub paired : is_unpaired object.symbols all e.section e.kind e.addend e.symbol ≡ false
  pub bare : is_past_slot e.kind e.addend ≡ false

-- each entry is plain and sound
pub record AreEntries (object : Object) (d : Section) (z : Entry) : Type 0 where
  pub plain : ArePlain object.entries z
  pub sound : (n k : ℕ) → n < length object.sections → k < length (entries_for object.entries (1 + n))
      → IsSoundEntry object (get_or object.sections n d) (take k (entries_for object.entries (1 + n))) (entries_for object.entries (1 + n)) (get_or (entries_for object.entries (1 + n)) k z)

-- the same, of the entries of a table
pub record IsSoundAt (object : Object) (j k : ℕ) (d : Section) (z : Entry) : Type 0 where
  pub place : ℕ
  pub low : place < length object.sections
  pub number : (table_at object j d).0 ≡ 1 + place
  pub sound : IsSoundEntry object (get_or object.sections place d) (take k (entries_at object j d)) (entries_at object j d) (get_or (entries_at object j d) k z)

sound_at : (object : Object) (j k : ℕ) (d : Section) (z : Entry) → AreEntries object d z → j < length (tables object) → k < length (entries_at object j d) → IsSoundAt object j k d z
sound_at object j k d z all lt inside =
    let t = table_is object.sections object.entries j d lt in
    let n : (table_at object j d).0 ≡ 1 + t.place = ap (λ v. v.0) t.is in
    let Sound : ℕ → Type 0 = λ m. IsSoundEntry object (get_or object.sections t.place d) (take k (entries_for object.entries m)) (entries_for object.entries m) (get_or (entries_for object.entries m) k z) in
    let here : k < length (entries_for object.entries (1 + t.place)) = subst (λ (m : ℕ). k < length (entries_for object.entries m)) n inside in
    record { place = t.place; low = t.inside; number = n; sound = subst Sound (sym n) (all.sound t.place k t.inside here) }

target_size : (object : Object) (d : Section) (n : ℕ) → FitsImage object → n < length object.sections → (section_header (image object) (1 + n)).sh_size ≡ (get_or object.sections n d).size
target_size object d n f lt = let e : 1 + n ≡ suc n = omega arith in ap (λ k. (section_header (image object) k).sh_size) e ∙ ap (λ r. r.sh_size) (own_header object n d f lt)

target_exec : (object : Object) (d : Section) (n : ℕ) → FitsImage object → n < length object.sections → has_flag 4 (section_header (image object) (1 + n)) ≡ (get_or object.sections n d).exec
target_exec object d n f lt =
    let s : Section = get_or object.sections n d in
    let e : 1 + n ≡ suc n = omega arith in
    ap (λ k. has_flag 4 (section_header (image object) k)) e ∙ ap (has_flag 4) (own_header object n d f lt) ∙ flags_exec s.write s.exec

target_filled : (object : Object) (d : Section) (n : ℕ) → FitsImage object → n < length object.sections → (fill_type (get_or object.sections n d).fill == 8) ≡ false → is_nobits (section_header (image object) (1 + n)) ≡ false
target_filled object d n f lt h = let e : 1 + n ≡ suc n = omega arith in ap (λ k. is_nobits (section_header (image object) k)) e ∙ ap is_nobits (own_header object n d f lt) ∙ h

total_is : (object : Object) (d : Section) → FitsImage object → symbol_total (image object) ≡ 1 + length object.symbols
total_is object d f =
    let count : length (symbols_part object) / 24 ≡ 1 + length object.symbols = omega (arith, symbols_length object) in
    ap (symbol_total_of (image object)) (symtab_is object d f) ∙ ap symbol_count (symtab_header object f) ∙ count

before_are : (object : Object) (j k : ℕ) (d : Section) (z : Entry) → FitsImage object → j < length (tables object) → AreEntries object d z → k < length (entries_at object j d)
    → entries_below (image object) (head_at object j d) k ≡ take k (entries_at object j d)
before_are object j k d z f lt all inside =
    let es : List Entry = entries_at object j d in
    let long : length (take k es) ≡ k = length-take-le k es (omega (arith, inside)) in
    let sum : 0 + length (take k es) ≡ k = omega (arith, long) in
    gather_all (entry_of (image object) (head_at object j d)) (take k es) 0 k z sum
    (λ i here.
    let n : 0 + i ≡ i = omega arith in
    let low : i < k = omega (arith, here, long) in
    let within : i < length es = omega (arith, low, inside) in
    ap (entry_of (image object) (head_at object j d)) n ∙ entry_is object j i d z f lt within (plain_at object j i d z all.plain within) ∙ ap (λ v. v ∷ []) (sym (get_or-take k es i z low)))

entry_rules_hold : (object : Object) (j k : ℕ) (d : Section) (z : Entry) → FitsImage object → symbols_of (image object) ≡ object.symbols → j < length (tables object) → AreEntries object d z → k < length (entries_at object j d)
    → entry_rules (image object) (head_at object j d) k ≡ []
unfolding entry_rules field_rules
entry_rules_hold object j k d z f symbols lt all inside =
    let file : List ℕ = image object in
    let h : SectionHeader = head_at object j d in
    let at : ℕ = entry_place h k in
    let es : List Entry = entries_at object j d in
    let e : Entry = get_or es k z in
    let p = plain_at object j k d z all.plain inside in
    let q = sound_at object j k d z all lt inside in
    let s : Section = get_or object.sections q.place d in
    let for = entry_for object.entries (table_at object j d).0 k z inside in
    let home : e.section ≡ 1 + q.place = for.section ∙ q.number in
    let twenty : rule_20 at (rela_row file h k) ≡ [] =
    ap (rule_20 at) (entry_row_is object j k d z f lt inside p)
    ∙ ap (λ v. broken_where (not (is_passed_over (kind_number e.kind)) && is_none v) 20 (at + 8)) (kind_back e.kind)
    ∙ unbroken _ 20 (at + 8) (and_false (not (is_passed_over (kind_number e.kind))) false refl) in
    let past : nat_le (1 + length object.symbols) e.symbol ≡ false = lt-leb (1 + length object.symbols) e.symbol (omega (arith, q.sound.symbol)) in
    let twenty_one : rule_21 (symbol_total file) (symbols_of file) at e.symbol ≡ [] =
    (λ i. broken_where (nat_le (total_is object d f i) e.symbol || is_unusable (symbols i) e.symbol) 21 (at + 12))
    ∙ (λ i. broken_where (past i || q.sound.usable i) 21 (at + 12)) in
    let size : (section_header file e.section).sh_size ≡ s.size = ap (λ n. (section_header file n).sh_size) home ∙ target_size object d q.place f q.low in
    let exec : has_flag 4 (section_header file e.section) ≡ s.exec = ap (λ n. has_flag 4 (section_header file n)) home ∙ target_exec object d q.place f q.low in
    let within : nat_lt s.size (e.offset + width_of e.kind) ≡ false = le-ltb s.size (e.offset + width_of e.kind) q.sound.inside in
    let twenty_two : rule_22 (section_header file e.section) at e.offset e.kind ≡ [] =
    (λ i. broken_where (nat_lt (size i) (e.offset + width_of e.kind) || is_instruction e.kind && (not (exec i) || not (e.offset % 4 == 0))) 22 at)
    ∙ (λ i. broken_where (within i || q.sound.code i) 22 at) in
    let twenty_three : rule_23 (entries_below file h k) at e ≡ [] =
    ap (λ v. rule_23 v at e) (before_are object j k d z f lt all inside) ∙ unbroken _ 23 at q.sound.apart in
    let rules : field_rules file (entries_below file h k) at e ≡ [] = λ i. twenty_one i ++ (twenty_two i ++ twenty_three i) in
    ap (λ v. rule_20 at (rela_row file h k) ++ flat_map (field_rules file (entries_below file h k) at) v) (entry_is object j k d z f lt inside p)
    ∙ (λ i. twenty i ++ (rules i ++ []))

-- no earlier section has relocations for the same section
no_earlier : (object : Object) (j : ℕ) (d : Section) → FitsImage object → j < length (tables object) → is_relocated_below (image object) (length object.sections + 4 + j) (table_at object j d).0 ≡ false
unfolding is_relocated_below
no_earlier object j d f lt =
    let file : List ℕ = image object in
    let m : ℕ = length object.sections in
    let target : ℕ = (table_at object j d).0 in
    any_none (λ i. is_rela (section_header file i) && (section_header file i).sh_info == target) 1 (m + 4 + j)
    (λ i low high. elim (cases_lt i (m + 4)) [
      | inl early ↦ ap (λ v. v && (section_header file i).sh_info == target) (others object i d f low early)
      | inr late ↦
          let n : ℕ = i - (m + 4) in
          let e : i ≡ m + 4 + n = omega (arith, late) in
          let less : n < j = omega (arith, e, high) in
          let rise = tables_rise object.sections object.entries n j d less lt in
          let apart : ((table_at object n d).0 == target) ≡ false = ne_eqb (table_at object n d).0 target (λ q. omega (arith, q, rise)) in
          ap (λ k. is_rela (section_header file k) && (section_header file k).sh_info == target) e
          ∙ ap (λ r. is_rela r && r.sh_info == target) (table_header object n (0, d) f (omega (arith, less, lt)))
          ∙ apart
    ])

has_some : (es : List Entry) → not (length es == 0) ≡ true → 0 < length es
has_some [] h = absurd (true≢false (sym h))
has_some (e ∷ es) h = omega arith

or_false : (a b : Bool) → a ≡ false → b ≡ false → (a || b) ≡ false
or_false a b x y = λ i. x i || y i

some_entry : (object : Object) (j : ℕ) (d : Section) → j < length (tables object) → 0 < length (entries_at object j d)
some_entry object j d lt =
    let t = table_is object.sections object.entries j d lt in
    let n : (table_at object j d).0 ≡ 1 + t.place = ap (λ v. v.0) t.is in
    has_some (entries_at object j d) (ap (has_entries object.entries) n ∙ t.some)

nineteen : (object : Object) (j : ℕ) (d : Section) (z : Entry) → FitsImage object → j < length (tables object) → AreEntries object d z
    → rule_19 (image object) (length object.sections + 4 + j) (section_place (image object) (length object.sections + 4 + j)) (head_at object j d) ≡ []
nineteen object j d z f lt all =
    let file : List ℕ = image object in
    let n : ℕ = length object.sections + 4 + j in
    let h : SectionHeader = head_at object j d in
    let row : ℕ × Section = table_at object j d in
    let count = rows_count object in
    let q = sound_at object j 0 d z all lt (some_entry object j d lt) in
    let number : is_section_number file row.0 ≡ true = is_numbered object row.0 f (omega (arith, q.number)) (omega (arith, q.number, q.low, count)) in
    let size : ℕ = length (table object.entries row) in
    let whole : (size % 24 == 0) ≡ true = eq-eqb (size % 24) 0 (omega (arith, entries_length object j d)) in
    let link : is_number (symtab file) (symtab_number object) ≡ true = ap (λ v. is_number v (symtab_number object)) (symtab_is object d f) ∙ eq-eqb (symtab_number object) (symtab_number object) refl in
    let filled : is_nobits (section_header file row.0) ≡ false = ap (λ k. is_nobits (section_header file k)) q.number ∙ target_filled object d q.place f q.low q.sound.filled in
    let ill : is_ill_formed file n h ≡ false = λ i. not true || not (whole i) || not (link i) || filled i || no_earlier object j d f lt i in
    unbroken _ 19 (section_place file n) (or_false (not (is_section_number file row.0)) (is_for_loaded file h && is_ill_formed file n h) (ap not number) (and_false (is_for_loaded file h) (is_ill_formed file n h) ill))

table_holds : (object : Object) (j : ℕ) (d : Section) (z : Entry) → FitsImage object → symbols_of (image object) ≡ object.symbols → j < length (tables object) → AreEntries object d z
    → relocation_rules (image object) (length object.sections + 4 + j) ≡ []
unfolding relocation_rules
table_holds object j d z f symbols lt all =
    let file : List ℕ = image object in
    let n : ℕ = length object.sections + 4 + j in
    let at : ℕ = section_place file n in
    let h : SectionHeader = head_at object j d in
    let rules : List Broken = flat_map (entry_rules file h) (between 0 (entry_count h)) in
    let none : rules ≡ [] = gather_none (entry_rules file h) 0 (entry_count h) (λ k low high. entry_rules_hold object j k d z f symbols lt all (omega (arith, high, count_is object j d))) in
    ap (λ r. if is_rela r then rule_19 file n at r ++ (if is_for_loaded file r then flat_map (entry_rules file r) (between 0 (entry_count r)) else []) else []) (table_header object j (0, d) f lt)
    ∙ (λ i. nineteen object j d z f lt all i ++ (if table_loaded object j d f lt i then rules else []))
    ∙ none

other_holds : (object : Object) (n : ℕ) (d : Section) → FitsImage object → 1 ≤ n → n < length object.sections + 4 → relocation_rules (image object) n ≡ []
unfolding relocation_rules
other_holds object n d f low high =
    let file : List ℕ = image object in
    let h : SectionHeader = section_header file n in
    ap (λ v. if v then rule_19 file n (section_place file n) h ++ (if is_for_loaded file h then flat_map (entry_rules file h) (between 0 (entry_count h)) else []) else []) (others object n d f low high)

pub relocations_rules_hold : (object : Object) (d : Section) (z : Entry) → FitsImage object → symbols_of (image object) ≡ object.symbols → AreEntries object d z → relocations_rules (image object) ≡ []
unfolding read_header
relocations_rules_hold object d z f symbols all =
    let file : List ℕ = image object in
    let m : ℕ = length object.sections in
    let n : ℕ = length (section_rows object) in
    let count = rows_count object in
    ap (λ h. flat_map (relocation_rules file) (between 1 h.e_shnum)) (header_of_image object f)
    ∙ gather_none (relocation_rules file) 1 n
    (λ i low high. elim (cases_lt i (m + 4)) [
      | inl early ↦ other_holds object i d f low early
      | inr late ↦
          let e : i ≡ m + 4 + (i - (m + 4)) = omega (arith, late) in
          ap (relocation_rules file) e ∙ table_holds object (i - (m + 4)) d z f symbols (omega (arith, late, high, count)) all
    ])

pair_holds : (object : Object) (j k : ℕ) (d : Section) (z : Entry) → FitsImage object → symbols_of (image object) ≡ object.symbols → j < length (tables object) → AreEntries object d z → k < length (entries_at object j d)
    → pair_rules (image object) (head_at object j d) k ≡ []
unfolding pair_rules
pair_holds object j k d z f symbols lt all inside =
    let file : List ℕ = image object in
    let h : SectionHeader = head_at object j d in
    let at : ℕ = entry_place h k in
    let es : List Entry = entries_at object j d in
    let e : Entry = get_or es k z in
    let q = sound_at object j k d z all lt inside in
    let whole = table_entries object j (entry_count h) d z f lt all.plain (count_is object j d) in
    let rule : rule_24 (symbols_of file) (entries_below file h (entry_count h)) at e ≡ [] = (λ i. rule_24 (symbols i) (whole i) at e) ∙ unbroken _ 24 at q.sound.paired in
    ap (flat_map (rule_24 (symbols_of file) (entries_below file h (entry_count h)) at)) (entry_is object j k d z f lt inside (plain_at object j k d z all.plain inside))
    ∙ (λ i. rule i ++ [])

table_pairs : (object : Object) (j : ℕ) (d : Section) (z : Entry) → FitsImage object → symbols_of (image object) ≡ object.symbols → j < length (tables object) → AreEntries object d z
    → section_pairs (image object) (length object.sections + 4 + j) ≡ []
unfolding section_pairs
table_pairs object j d z f symbols lt all =
    let file : List ℕ = image object in
    let h : SectionHeader = head_at object j d in
    ap (λ r. if is_rela r && is_for_loaded file r then flat_map (pair_rules file r) (between 0 (entry_count r)) else []) (table_header object j (0, d) f lt)
    ∙ ap (λ v. if v then flat_map (pair_rules file h) (between 0 (entry_count h)) else []) (table_loaded object j d f lt)
    ∙ gather_none (pair_rules file h) 0 (entry_count h) (λ k low high. pair_holds object j k d z f symbols lt all (omega (arith, high, count_is object j d)))

other_pairs : (object : Object) (n : ℕ) (d : Section) → FitsImage object → 1 ≤ n → n < length object.sections + 4 → section_pairs (image object) n ≡ []
unfolding section_pairs
other_pairs object n d f low high =
    let file : List ℕ = image object in
    let h : SectionHeader = section_header file n in
    ap (λ v. if v && is_for_loaded file h then flat_map (pair_rules file h) (between 0 (entry_count h)) else []) (others object n d f low high)

pub pairs_rules_hold : (object : Object) (d : Section) (z : Entry) → FitsImage object → symbols_of (image object) ≡ object.symbols → AreEntries object d z → pairs_rules (image object) ≡ []
unfolding read_header
pairs_rules_hold object d z f symbols all =
    let file : List ℕ = image object in
    let m : ℕ = length object.sections in
    let n : ℕ = length (section_rows object) in
    let count = rows_count object in
    ap (λ h. flat_map (section_pairs file) (between 1 h.e_shnum)) (header_of_image object f)
    ∙ gather_none (section_pairs file) 1 n
    (λ i low high. elim (cases_lt i (m + 4)) [
      | inl early ↦ other_pairs object i d f low early
      | inr late ↦
          let e : i ≡ m + 4 + (i - (m + 4)) = omega (arith, late) in
          ap (section_pairs file) e ∙ table_pairs object (i - (m + 4)) d z f symbols (omega (arith, late, high, count)) all
    ])

slot_holds : (object : Object) (j k : ℕ) (d : Section) (z : Entry) → FitsImage object → j < length (tables object) → AreEntries object d z → k < length (entries_at object j d)
    → slot_rules (image object) (head_at object j d) k ≡ []
unfolding slot_rules
slot_holds object j k d z f lt all inside =
    let file : List ℕ = image object in
    let h : SectionHeader = head_at object j d in
    let at : ℕ = entry_place h k in
    let es : List Entry = entries_at object j d in
    let e : Entry = get_or es k z in
    let q = sound_at object j k d z all lt inside in
    let rule : rule_25 at e ≡ [] = unbroken _ 25 at q.sound.bare in
    ap (flat_map (rule_25 at)) (entry_is object j k d z f lt inside (plain_at object j k d z all.plain inside))
    ∙ (λ i. rule i ++ [])

table_slots : (object : Object) (j : ℕ) (d : Section) (z : Entry) → FitsImage object → j < length (tables object) → AreEntries object d z
    → section_slots (image object) (length object.sections + 4 + j) ≡ []
unfolding section_slots
table_slots object j d z f lt all =
    let file : List ℕ = image object in
    let h : SectionHeader = head_at object j d in
    ap (λ r. if is_rela r && is_for_loaded file r then flat_map (slot_rules file r) (between 0 (entry_count r)) else []) (table_header object j (0, d) f lt)
    ∙ ap (λ v. if v then flat_map (slot_rules file h) (between 0 (entry_count h)) else []) (table_loaded object j d f lt)
    ∙ gather_none (slot_rules file h) 0 (entry_count h) (λ k low high. slot_holds object j k d z f lt all (omega (arith, high, count_is object j d)))

other_slots : (object : Object) (n : ℕ) (d : Section) → FitsImage object → 1 ≤ n → n < length object.sections + 4 → section_slots (image object) n ≡ []
unfolding section_slots
other_slots object n d f low high =
    let file : List ℕ = image object in
    let h : SectionHeader = section_header file n in
    ap (λ v. if v && is_for_loaded file h then flat_map (slot_rules file h) (between 0 (entry_count h)) else []) (others object n d f low high)

pub slots_rules_hold : (object : Object) (d : Section) (z : Entry) → FitsImage object → AreEntries object d z → slots_rules (image object) ≡ []
unfolding read_header
slots_rules_hold object d z f all =
    let file : List ℕ = image object in
    let m : ℕ = length object.sections in
    let n : ℕ = length (section_rows object) in
    let count = rows_count object in
    ap (λ h. flat_map (section_slots file) (between 1 h.e_shnum)) (header_of_image object f)
    ∙ gather_none (section_slots file) 1 n
    (λ i low high. elim (cases_lt i (m + 4)) [
      | inl early ↦ other_slots object i d f low early
      | inr late ↦
          let e : i ≡ m + 4 + (i - (m + 4)) = omega (arith, late) in
          ap (section_slots file) e ∙ table_slots object (i - (m + 4)) d z f (omega (arith, late, high, count)) all
    ])
