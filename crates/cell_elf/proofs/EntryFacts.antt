-- Where an entry of an object stands in the file, and the rules that it has passed there.
use Rattle.std.proofs.Common.{◌≡◌, ℕ, ◌+◌, ◌-◌, ◌<◌, ◌≤◌, refl, sym, ap, ◌∙◌, subst, arith, inl, inr, Bool, true, false, not, ◌||◌, ◌&&◌, List, [], ◌∷◌, ◌++◌, Option, Some, None, Ok}
use Rattle.std.specs.Prelude.{◌==◌, ◌%◌, nat_lt, nat_le}
use Rattle.std.specs.List.{list_any, flat_map}
use Rattle.std.proofs.lemmas.Bool.{and_parts}
use Rattle.std.proofs.lemmas.Bool.Decides.{nat_tests}
use Rattle.cell_num.specs.declared.kinds.RelKind.{RelKind}
use Rattle.cell_num.specs.Kinds.{kind_of, width_of, is_instruction}
use Rattle.cell_object.specs.declared.headers.SectionHeader.{SectionHeader}
use Rattle.cell_object.specs.declared.headers.RelaRow.{RelaRow}
use Rattle.cell_object.specs.declared.object.Entry.{Entry}
use Rattle.cell_object.specs.Bytes.{checked, between}
use Rattle.cell_object.specs.Header.{file_header, section_place, section_header}
use Rattle.cell_object.specs.Sections.{is_nobits, has_flag}
use Rattle.cell_object.specs.Symbols.{symtab, symbols_of}
use Rattle.cell_object.specs.Relocations.{is_rela, is_number, is_relocated_below, is_for_loaded, rule_19, rela_row, entry_count, entry_place, entry_from, entry_of_kind, entry_of, entries_below, rule_20, is_unusable, symbol_total, rule_21, rule_22, is_clash, rule_23, field_rules, entry_rules}
use Rattle.cell_object.specs.Relocations.{relocation_rules, relocations_rules, section_entries, entries_of, is_unpaired, rule_24, pair_rules, section_pairs, pairs_rules, is_past_slot, rule_25, slot_rules, section_slots, slots_rules}
use Rattle.cell_num.specs.Lists.{In}
use Rattle.cell_num.proofs.Ranges.{In-range, range-In}
use Rattle.cell_elf.proofs.Loads.{checked-both, not_broken, round_passed}
use Rattle.cell_elf.proofs.LastPass.{section_pairs_loaded}
use Rattle.cell_elf.proofs.SlotPass.{section_slots_loaded}
use Rattle.cell_elf.proofs.Tables.{relocation_rules_loaded, section_entries_loaded, section_entries_other}
use Rattle.cell_elf.proofs.SoundSections.{yes_or_no, in_range, range_in}

-- a section of relocations for a loaded section
pub record IsTable (file : List ℕ) (n : ℕ) : Type 0 where
  pub from : 1 ≤ n
  pub there : n < (file_header file).e_shnum
  pub kind : is_rela (section_header file n) ≡ true
  pub loaded : is_for_loaded file (section_header file n) ≡ true

-- an entry, at its number in its table
pub record IsRow (file : List ℕ) (n k : ℕ) (e : Entry) : Type 0 where
  pub below : k < entry_count (section_header file n)
  pub is : entry_of file (section_header file n) k ≡ e ∷ []

one_of : (h : SectionHeader) (r : RelaRow) (o : Option RelKind) (e : Entry) → In e (entry_of_kind h r o) → entry_of_kind h r o ≡ e ∷ []
one_of h r None e i = absurd i
one_of h r (Some kind) e (inl is) = ap (λ (v : Entry). v ∷ []) (sym is)
one_of h r (Some kind) e (inr k) = absurd k

pub one_entry : (file : List ℕ) (h : SectionHeader) (k : ℕ) (e : Entry) → In e (entry_of file h k) → entry_of file h k ≡ e ∷ []
unfolding entry_of
one_entry file h k e i = one_of h (rela_row file h k) (kind_of (rela_row file h k).r_type) e i

from_zero : (count k : ℕ) → k < 0 + (count - 0) → k < count
from_zero count k h = omega arith

-- an entry of a section is one of its table
pub entry_in : (file : List ℕ) (n : ℕ) (e : Entry) → 1 ≤ n → n < (file_header file).e_shnum → In e (section_entries file n) → IsTable file n × ((k : ℕ) × IsRow file n k e)
unfolding between
entry_in file n e from there i = elim (yes_or_no (is_rela (section_header file n) && is_for_loaded file (section_header file n))) [
  | inl a ↦
      let h = section_header file n in
      let both = and_parts (is_rela h) (is_for_loaded file h) a in
      let at = In-range (entry_of file h) (entry_count h - 0) 0 e (subst (λ (xs : List Entry). In e xs) (section_entries_loaded file n both.0 both.1) i) in
      (record { from = from; there = there; kind = both.0; loaded = both.1 }, (at.0, record { below = from_zero (entry_count h) at.0 at.2; is = one_entry file h at.0 e at.3 }))
  | inr b ↦ absurd (subst (λ (xs : List Entry). In e xs) (section_entries_other file n b) i)
]

-- an entry of an object is one of a table
pub entry_at : (file : List ℕ) (e : Entry) → In e (entries_of file) → (n : ℕ) × IsTable file n × ((k : ℕ) × IsRow file n k e)
unfolding between
entry_at file e i =
    let count = (file_header file).e_shnum in
    let at = In-range (section_entries file) (count - 1) 1 e i in
    let found = entry_in file at.0 e at.1 (in_range count at.0 at.1 at.2) at.3 in
    (at.0, found.0, found.1)

-- an entry of a table is one of the object
pub entry_there : (file : List ℕ) (n : ℕ) (e : Entry) → IsTable file n → In e (entries_below file (section_header file n) (entry_count (section_header file n))) → In e (entries_of file)
unfolding between
entry_there file n e t i =
    range-In (section_entries file) ((file_header file).e_shnum - 1) 1 n e t.from (range_in (file_header file).e_shnum n t.from t.there)
    (subst (λ (xs : List Entry). In e xs) (sym (section_entries_loaded file n t.kind t.loaded)) i)

of_kind : (h : SectionHeader) (r : RelaRow) (o : Option RelKind) (e : Entry) → entry_of_kind h r o ≡ e ∷ [] → (o ≡ Some e.kind) × (e.section ≡ h.sh_info)
of_kind h r None e is = absurd cc
of_kind h r (Some kind) e is =
    let same : entry_from h r kind ≡ e = cc in (ap (λ (v : Entry). Some v.kind) same, sym (ap (λ (v : Entry). v.section) same))

-- the kind of an entry and the section that it is in
pub entry_kind : (file : List ℕ) (h : SectionHeader) (k : ℕ) (e : Entry) → entry_of file h k ≡ e ∷ [] → (kind_of (rela_row file h k).r_type ≡ Some e.kind) × (e.section ≡ h.sh_info)
unfolding entry_of
entry_kind file h k e is = of_kind h (rela_row file h k) (kind_of (rela_row file h k).r_type) e is

-- the rules of a table
pub record IsFitTable (file : List ℕ) (h : SectionHeader) (n : ℕ) : Type 0 where
  pub from : 1 ≤ h.sh_info
  pub there : h.sh_info < (file_header file).e_shnum
  pub kept : is_nobits (section_header file h.sh_info) ≡ false
  pub alone : is_relocated_below file n h.sh_info ≡ false

-- the rules of an entry of a table
pub record IsFitEntry (file : List ℕ) (h : SectionHeader) (k : ℕ) (e : Entry) : Type 0 where
  pub symbol : (nat_le (symbol_total file) e.symbol || is_unusable (symbols_of file) e.symbol) ≡ false
  pub field : (nat_lt (section_header file e.section).sh_size (e.offset + width_of e.kind) || is_instruction e.kind && (not (has_flag 4 (section_header file e.section)) || not (e.offset % 4 == 0))) ≡ false
  pub apart : list_any (is_clash e) (entries_below file h k) ≡ false

form_of : (from there loaded a b c nobits again : Bool) → (not (from && there) || loaded && (a || b || c || nobits || again)) ≡ false → loaded ≡ true
    → (from ≡ true) × (there ≡ true) × (nobits ≡ false) × (again ≡ false)
form_of true true true false false false false again e l = (refl, refl, refl, e)
form_of true true true true b c nobits again e l = absurd cc
form_of true true true false true c nobits again e l = absurd cc
form_of true true true false false true nobits again e l = absurd cc
form_of true true true false false false true again e l = absurd cc
form_of true true false a b c nobits again e l = absurd cc
form_of true false loaded a b c nobits again e l = absurd cc
form_of false there loaded a b c nobits again e l = absurd cc

le_of : (m n : ℕ) → nat_le m n ≡ true → m ≤ n
le_of m n h = grind (arith, nat_tests)

lt_of : (m n : ℕ) → nat_lt m n ≡ true → m < n
lt_of m n h = grind (arith, nat_tests)

-- both parts of a table's rules pass
table_rules : (file : List ℕ) (n : ℕ) → IsTable file n → checked (relocations_rules file) ≡ Ok tt
    → (checked (rule_19 file n (section_place file n) (section_header file n)) ≡ Ok tt) × (checked (flat_map (entry_rules file (section_header file n)) (between 0 (entry_count (section_header file n)))) ≡ Ok tt)
table_rules file n t passed =
    let h = section_header file n in
    let one : checked (relocation_rules file n) ≡ Ok tt = round_passed (relocation_rules file) 1 n (file_header file).e_shnum passed t.from t.there in
    checked-both (rule_19 file n (section_place file n) h) (flat_map (entry_rules file h) (between 0 (entry_count h))) (ap checked (sym (relocation_rules_loaded file n t.kind t.loaded)) ∙ one)

pub table_fit : (file : List ℕ) (n : ℕ) → IsTable file n → checked (relocations_rules file) ≡ Ok tt → IsFitTable file (section_header file n) n
table_fit file n t passed =
    let h = section_header file n in
    let count = (file_header file).e_shnum in
    let tests = form_of (nat_le 1 h.sh_info) (nat_lt h.sh_info count) (is_for_loaded file h) (not (h.sh_entsize == 24)) (not (h.sh_size % 24 == 0)) (not (is_number (symtab file) h.sh_link)) (is_nobits (section_header file h.sh_info)) (is_relocated_below file n h.sh_info) (not_broken _ _ _ (table_rules file n t passed).0) t.loaded in
    record {
      from = le_of 1 h.sh_info tests.0;
      there = lt_of h.sh_info count tests.1;
      kept = tests.2;
      alone = tests.3;
    }

entry_fields : (file : List ℕ) (h : SectionHeader) (k : ℕ) (e : Entry) → entry_of file h k ≡ e ∷ [] → checked (entry_rules file h k) ≡ Ok tt → checked (field_rules file (entries_below file h k) (entry_place h k) e ++ []) ≡ Ok tt
unfolding entry_rules
entry_fields file h k e is passed =
    let at = entry_place h k in
    let both = checked-both (rule_20 at (rela_row file h k)) (flat_map (field_rules file (entries_below file h k) at) (entry_of file h k)) passed in
    ap (λ (xs : List Entry). checked (flat_map (field_rules file (entries_below file h k) at) xs)) (sym is) ∙ both.1

fields_fit : (file : List ℕ) (h : SectionHeader) (k at : ℕ) (e : Entry) → checked (field_rules file (entries_below file h k) at e ++ []) ≡ Ok tt → IsFitEntry file h k e
unfolding field_rules
fields_fit file h k at e passed =
    let before = entries_below file h k in
    let all = checked-both (rule_21 (symbol_total file) (symbols_of file) at e.symbol ++ (rule_22 (section_header file e.section) at e.offset e.kind ++ rule_23 before at e)) [] passed in
    let p21 = checked-both (rule_21 (symbol_total file) (symbols_of file) at e.symbol) (rule_22 (section_header file e.section) at e.offset e.kind ++ rule_23 before at e) all.0 in
    let p22 = checked-both (rule_22 (section_header file e.section) at e.offset e.kind) (rule_23 before at e) p21.1 in
    record {
      symbol = not_broken _ _ _ p21.0;
      field = not_broken _ _ _ p22.0;
      apart = not_broken _ _ _ p22.1;
    }

-- an entry of a table has passed its rules
pub entry_fit : (file : List ℕ) (n k : ℕ) (e : Entry) → IsTable file n → IsRow file n k e → checked (relocations_rules file) ≡ Ok tt → IsFitEntry file (section_header file n) k e
entry_fit file n k e t r passed =
    let h = section_header file n in
    let low : 0 ≤ k = omega arith in
    let rules = round_passed (entry_rules file h) 0 k (entry_count h) (table_rules file n t passed).1 low r.below in
    fields_fit file h k (entry_place h k) e (entry_fields file h k e r.is rules)

pair_passed : (file : List ℕ) (h : SectionHeader) (k : ℕ) (e : Entry) → entry_of file h k ≡ e ∷ [] → checked (pair_rules file h k) ≡ Ok tt
    → is_unpaired (symbols_of file) (entries_below file h (entry_count h)) e.section e.kind e.addend e.symbol ≡ false
unfolding pair_rules
pair_passed file h k e is passed =
    let entries = entries_below file h (entry_count h) in
    let at = entry_place h k in
    let one : checked (rule_24 (symbols_of file) entries at e ++ []) ≡ Ok tt = ap (λ (xs : List Entry). checked (flat_map (rule_24 (symbols_of file) entries at) xs)) (sym is) ∙ passed in
    not_broken _ _ _ (checked-both (rule_24 (symbols_of file) entries at e) [] one).0

-- an entry of a table has its pair
pub entry_paired : (file : List ℕ) (n k : ℕ) (e : Entry) → IsTable file n → IsRow file n k e → checked (pairs_rules file) ≡ Ok tt
    → is_unpaired (symbols_of file) (entries_below file (section_header file n) (entry_count (section_header file n))) e.section e.kind e.addend e.symbol ≡ false
entry_paired file n k e t r passed =
    let h = section_header file n in
    let low : 0 ≤ k = omega arith in
    let one : checked (section_pairs file n) ≡ Ok tt = round_passed (section_pairs file) 1 n (file_header file).e_shnum passed t.from t.there in
    let all : checked (flat_map (pair_rules file h) (between 0 (entry_count h))) ≡ Ok tt = ap checked (sym (section_pairs_loaded file n t.kind t.loaded)) ∙ one in
    pair_passed file h k e r.is (round_passed (pair_rules file h) 0 k (entry_count h) all low r.below)

slot_passed : (file : List ℕ) (h : SectionHeader) (k : ℕ) (e : Entry) → entry_of file h k ≡ e ∷ [] → checked (slot_rules file h k) ≡ Ok tt → is_past_slot e.kind e.addend ≡ false
unfolding slot_rules
slot_passed file h k e is passed =
    let at = entry_place h k in
    let one : checked (rule_25 at e ++ []) ≡ Ok tt = ap (λ (xs : List Entry). checked (flat_map (rule_25 at) xs)) (sym is) ∙ passed in
    not_broken _ _ _ (checked-both (rule_25 at e) [] one).0

-- an entry of a table that asks for a slot has no addend
pub entry_bare : (file : List ℕ) (n k : ℕ) (e : Entry) → IsTable file n → IsRow file n k e → checked (slots_rules file) ≡ Ok tt → is_past_slot e.kind e.addend ≡ false
entry_bare file n k e t r passed =
    let h = section_header file n in
    let low : 0 ≤ k = omega arith in
    let one : checked (section_slots file n) ≡ Ok tt = round_passed (section_slots file) 1 n (file_header file).e_shnum passed t.from t.there in
    let all : checked (flat_map (slot_rules file h) (between 0 (entry_count h))) ≡ Ok tt = ap checked (sym (section_slots_loaded file n t.kind t.loaded)) ∙ one in
    slot_passed file h k e r.is (round_passed (slot_rules file h) 0 k (entry_count h) all low r.below)
