-- What is read from a file of at most a mebibyte has few parts.
use Rattle.std.proofs.Common.{◌≡◌, ℕ, ◌+◌, ◌-◌, ◌<◌, ◌≤◌, refl, sym, subst, arith, List, [], ◌∷◌, ◌++◌, length, Option, Some, None, Ok, Err}
use Rattle.std.specs.Prelude.{◌/◌, ◌^◌, Result, IfOk}
use Rattle.std.proofs.lemmas.Bool.{eqb-true}
use Rattle.std.proofs.lemmas.List.FromFn.{length-map-range_with_len}
use Rattle.cell_object.specs.declared.object.Object.{Object}
use Rattle.cell_object.specs.Bytes.{Broken, checked, between}
use Rattle.cell_object.specs.Header.{file_header, section_header, header_rules}
use Rattle.cell_object.specs.Sections.{sections_rules}
use Rattle.cell_object.specs.Symbols.{symtab, symtab_rules, symbols_rules, symbol_count, symbol_of, symbols_below, symbols_of, symbols_of_table}
use Rattle.cell_object.specs.Relocations.{relocations_rules, pairs_rules, slots_rules}
use Rattle.cell_object.specs.Reads.{broken, object_of, object_unless, reads}
use Rattle.cell_elf.proofs.Loads.{checked-both, section_inside}
use Rattle.cell_elf.proofs.Tables.{symtab_found}
use Rattle.cell_elf.proofs.SoundSections.{numbers_below}
use Rattle.cell_elf.proofs.Soundness.{few_entries, few_sections, object_readable}
use Rattle.cell_file.specs.declared.fail.ReadFail.{ReadFail}
use Rattle.cell_file.specs.Outcome.{Passes}
use Rattle.cell_object.specs.Readable.{HasRoomForSlots, IsFromFile}

-- a symbol takes 24 bytes of the file
few_in : (from size end symbols : ℕ) → from + size ≤ end → end ≤ 1048576 → symbols ≡ size / 24 - 1 → symbols < 2 ^ 20
few_in from size end symbols h k e = omega arith

few_of_table : (file : List ℕ) (table : Option ℕ) → symtab file ≡ table → checked (sections_rules file) ≡ Ok tt → length file ≤ 1048576 → length (symbols_of_table file table) < 2 ^ 20
unfolding between
few_of_table file None is passed small = omega arith
few_of_table file (Some n) is passed small =
    let h = section_header file n in
    let at = symtab_found file (file_header file).e_shnum n is in
    let kind : h.sh_type ≡ 2 = eqb-true h.sh_type 2 at.2 in
    let inside = section_inside file n (file_header file).e_shnum h passed refl refl at.0 at.1 (omega arith) (omega arith) in
    few_in h.sh_offset h.sh_size (length file) (length (symbols_below file h (symbol_count h))) inside small (length-map-range_with_len (symbol_of file h) 1 (symbol_count h - 1))

-- an object of at most a mebibyte has fewer than 2 ^ 20 symbols
pub few_symbols : (file : List ℕ) → checked (broken file) ≡ Ok tt → length file ≤ 1048576 → length (symbols_of file) < 2 ^ 20
few_symbols file passed small =
    let header = checked-both (header_rules file) (sections_rules file ++ (symtab_rules file ++ (symbols_rules file ++ (relocations_rules file ++ (pairs_rules file ++ slots_rules file))))) passed in
    let sections = checked-both (sections_rules file) (symtab_rules file ++ (symbols_rules file ++ (relocations_rules file ++ (pairs_rules file ++ slots_rules file)))) header.1 in
    few_of_table file (symtab file) refl sections.0 small

passed_by : (rules : List Broken) (object o : Object) → object_unless rules object ≡ Ok o → (checked rules ≡ Ok tt) × (object ≡ o)
passed_by [] object o e = (refl, cc)
passed_by (b ∷ rules) object o e = absurd cc

-- what a file is read as is its object, and the file breaks no rule
pub reads_passed : (file : List ℕ) (o : Object) → reads file ≡ Ok o → (checked (broken file) ≡ Ok tt) × (object_of file ≡ o)
reads_passed file o e = passed_by (broken file) (object_of file) o e

-- the object of a file of at most a mebibyte has room for its slots
pub room_for_slots : (file : List ℕ) → checked (broken file) ≡ Ok tt → length file ≤ 1048576 → HasRoomForSlots (object_of file)
room_for_slots file passed small =
    let header = checked-both (header_rules file) (sections_rules file ++ (symtab_rules file ++ (symbols_rules file ++ (relocations_rules file ++ (pairs_rules file ++ slots_rules file))))) passed in
    record {
      numbers = numbers_below file (few_sections file header.0);
      symbols = few_symbols file passed small;
      entries = few_entries file passed small;
    }

-- what is read from a file of at most a mebibyte
from_file : (file : List ℕ) → checked (broken file) ≡ Ok tt → length file ≤ 1048576 → IsFromFile (object_of file)
from_file file passed small = record {
  readable = object_readable file passed;
  room = room_for_slots file passed small;
}

pub result_from_file : (file : List ℕ) (r : Result Object ReadFail) → Passes r (checked (broken file)) → IfOk r (λ o. o ≡ object_of file) → length file ≤ 1048576 → IfOk r IsFromFile
result_from_file file (Ok o) passed is small = subst IsFromFile (sym is) (from_file file passed small)
result_from_file file (Err e) failed is small = tt

pub what_is_read : (file : List ℕ) → length file ≤ 1048576 → (o : Object) → reads file ≡ Ok o → IsFromFile o
what_is_read file small o e = let p = reads_passed file o e in subst IsFromFile p.1 (from_file file p.0 small)
