-- The last pass.
use Rattle.std.proofs.Common.{◌≡◌, ℕ, ◌&&◌, Bool, true, false, Some, None, List, [], refl, sym}
use Rattle.std.specs.List.{flat_map}
use Rattle.std.proofs.lemmas.List.{append-nil}
use Rattle.cell_object.specs.declared.headers.SectionHeader.{SectionHeader}
use Rattle.cell_object.specs.declared.headers.RelaRow.{RelaRow}
use Rattle.cell_num.specs.declared.kinds.RelKind.{RelKind}
use Rattle.cell_num.specs.Kinds.{kind_of}
use Rattle.cell_object.specs.Bytes.{broken_where, between}
use Rattle.cell_object.specs.Header.{section_header}
use Rattle.cell_object.specs.Relocations.{is_rela, is_for_loaded, rela_row, entry_place, entry_count, entry_from, entry_of, is_past_slot, rule_25, slot_rules, section_slots}

pub slot_rules_none : (file : List ℕ) (h : SectionHeader) (k : ℕ) → kind_of (rela_row file h k).r_type ≡ None → slot_rules file h k ≡ []
unfolding slot_rules entry_of
slot_rules_none file h k e = rw e refl

pub slot_rules_known : (file : List ℕ) (h : SectionHeader) (k : ℕ) (kind : RelKind) → kind_of (rela_row file h k).r_type ≡ Some kind
    → slot_rules file h k ≡ rule_25 (entry_place h k) (entry_from h (rela_row file h k) kind)
unfolding slot_rules entry_of
slot_rules_known file h k kind e = rw e (append-nil _)

-- the same, at the values that the code has
pub slot_rules_is : (file : List ℕ) (h : SectionHeader) (k : ℕ) (kind : RelKind) (row : RelaRow) (at : ℕ) (broken : Bool)
    → row ≡ rela_row file h k → Some kind ≡ kind_of row.r_type → at ≡ entry_place h k → broken ≡ is_past_slot kind row.r_addend → slot_rules file h k ≡ broken_where broken 25 at
slot_rules_is file h k kind row at broken row_is kind_is at_is broken_is =
    let known : kind_of (rela_row file h k).r_type ≡ Some kind = rw (← row_is) (sym kind_is) in
    rw (broken_is, at_is, row_is) (slot_rules_known file h k kind known)

pub ruleset slot_step = (slot_rules_none)

pub section_slots_loaded : (file : List ℕ) (n : ℕ) → is_rela (section_header file n) ≡ true → is_for_loaded file (section_header file n) ≡ true → section_slots file n ≡ flat_map (slot_rules file (section_header file n)) (between 0 (entry_count (section_header file n)))
unfolding section_slots
section_slots_loaded file n e f = rw (e, f) refl

pub section_slots_other : (file : List ℕ) (n : ℕ) → (is_rela (section_header file n) && is_for_loaded file (section_header file n)) ≡ false → section_slots file n ≡ []
unfolding section_slots
section_slots_other file n e = rw e refl

-- the pass over a table, from that over the section that it stands in
pub table_slots : (file bytes : List ℕ) (n : ℕ) (h : SectionHeader) → bytes ≡ file → h ≡ section_header file n → is_rela (section_header file n) ≡ true → is_for_loaded file (section_header file n) ≡ true
    → flat_map (slot_rules bytes h) (between 0 (entry_count h)) ≡ section_slots file n
table_slots file bytes n h same is kind loaded = rw (same, is) (sym (section_slots_loaded file n kind loaded))
