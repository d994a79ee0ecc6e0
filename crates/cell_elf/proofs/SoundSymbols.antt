-- What the rules leave true of the symbols of an object.
use Rattle.std.proofs.Common.{◌≡◌, ℕ, ◌-◌, ◌<◌, ◌≤◌, refl, sym, ◌∙◌, ap, subst, arith, true≢false, ◌⊎◌, inl, inr, Bool, true, false, not, ◌||◌, ◌&&◌, List, [], ◌∷◌, ◌++◌, Option, Some, None, Ok}
use Rattle.std.specs.Prelude.{◌==◌, ◌%◌, nat_lt, nat_le}
use Rattle.std.specs.List.{list_all, flat_map}
use Rattle.std.specs.Str.{bytes_eq}
use Rattle.std.proofs.lemmas.Bool.{and_from}
use Rattle.std.proofs.Math.Bool.{or-true}
use Rattle.std.proofs.lemmas.Bool.Decides.{nat_tests}
use Rattle.cell_num.specs.Lists.{each_pair, In}
use Rattle.cell_object.specs.declared.headers.SectionHeader.{SectionHeader}
use Rattle.cell_object.specs.declared.headers.SymbolRow.{SymbolRow}
use Rattle.cell_object.specs.declared.object.Symbol.{Symbol}
use Rattle.cell_object.specs.Bytes.{checked, between}
use Rattle.cell_object.specs.Header.{file_header, section_header, is_section_number}
use Rattle.cell_object.specs.Sections.{is_alloc}
use Rattle.cell_object.specs.Symbols.{symtab, symbol_count, symbol_place, symbol_row, symbol_name, is_local, is_global, is_weak, is_external, is_section_type, is_file_type, home_of, is_past_end, bind_of, sort_of, symbol_from, symbol_of, symbols_below, symbols_of, symbols_of_table, symbol_rules, symbols_rules, symbols_rules_of, rule_14, rule_15, rule_16, rule_17, rule_18, is_global_name, defines}
use Rattle.cell_object.specs.Parts.{is_external as is_external_bind, is_local as is_local_bind}
use Rattle.cell_object.specs.Reads.{object_of}
use Rattle.cell_object.specs.Sound.{is_sound_symbol, is_sound_home, is_plain_sort, may_both_be}
use Rattle.cell_num.proofs.Ranges.{In-one, In-range, range-In, pairs-range, map-flat_map}
use Rattle.cell_num.proofs.Elements.{In-all, none-In}
use Rattle.cell_elf.proofs.Loads.{checked-both, not_broken, round_passed}
use Rattle.cell_file.proofs.NameLemmas.{external_is}
use Rattle.cell_elf.proofs.SoundSections.{yes_or_no, section_found, in_range, range_in}

-- the rules 15 to 18, as tests that a symbol passes
pub record IsFit (file : List ℕ) (h : SectionHeader) (j : ℕ) (s : SymbolRow) : Type 0 where
  pub info : (nat_lt j h.sh_info && not (is_local s) || nat_le h.sh_info j && not (is_global s || is_weak s) || nat_lt 4 (s.st_info % 16) || is_external s && (is_section_type s || is_file_type s)) ≡ false
  pub home : (not (s.st_shndx == 0 || is_section_number file s.st_shndx || s.st_shndx == 0xFFF1 && is_local s) || is_external s && is_section_number file s.st_shndx && not (is_alloc (section_header file s.st_shndx))) ≡ false
  pub value : is_past_end file (home_of file s) s.st_value ≡ false
  pub name : (is_external s && (not (is_global_name (symbol_name file h s)) || defines (symbols_below file h j) (symbol_name file h s))) ≡ false

pub fit : (file : List ℕ) (h : SectionHeader) (j : ℕ) → checked (symbol_rules file h j) ≡ Ok tt → IsFit file h j (symbol_row file h j)
unfolding symbol_rules
fit file h j e =
    let at = symbol_place h j in
    let s = symbol_row file h j in
    let p14 = checked-both (rule_14 file at h s) (rule_15 at h j s ++ (rule_16 file at s ++ (rule_17 file at s ++ rule_18 file at h j s))) e in
    let p15 = checked-both (rule_15 at h j s) (rule_16 file at s ++ (rule_17 file at s ++ rule_18 file at h j s)) p14.1 in
    let p16 = checked-both (rule_16 file at s) (rule_17 file at s ++ rule_18 file at h j s) p15.1 in
    let p17 = checked-both (rule_17 file at s) (rule_18 file at h j s) p16.1 in
    record {
      info = not_broken _ _ _ p15.0;
      home = not_broken _ _ _ p16.0;
      value = not_broken _ _ _ p17.0;
      name = not_broken _ _ _ p17.1;
    }

not_false : (b : Bool) → not b ≡ false → b ≡ true
not_false true e = refl
not_false false e = absurd (true≢false e)

-- a symbol that no other object can name is LOCAL
bound : (s : SymbolRow) → is_external s ≡ false → is_local s ≡ true
bound s = not_false (is_local s)

file_local : (a b c global section : Bool) → (a || b || c || global && (section || true)) ≡ false → global ≡ false
file_local a b c true section e = absurd (grind arith)
file_local a b c false section e = refl

absolute_local : (index count : ℕ) (local more : Bool) → count ≤ 65279 → (index == 0xFFF1) ≡ true
    → (not (index == 0 || nat_le 1 index && nat_lt index count || index == 0xFFF1 && local) || more) ≡ false → local ≡ true
absolute_local index count true more bound a e = refl
absolute_local index count false more bound a e = absurd (grind (arith, nat_tests))

or_true : (a b : Bool) → (a || b) ≡ true → (a ≡ true) ⊎ (b ≡ true)
or_true true b e = inl refl
or_true false b e = inr e

-- an absolute symbol is LOCAL
absolute : (file : List ℕ) (h : SectionHeader) (j : ℕ) (s : SymbolRow) → (file_header file).e_shnum ≤ 65279 → IsFit file h j s → (is_file_type s || s.st_shndx == 0xFFF1) ≡ true → is_external s ≡ false
absolute file h j s bound fits a = elim (or_true (is_file_type s) (s.st_shndx == 0xFFF1) a) [
  | inl f ↦ file_local (nat_lt j h.sh_info && not (is_local s)) (nat_le h.sh_info j && not (is_global s || is_weak s)) (nat_lt 4 (s.st_info % 16)) (is_external s) (is_section_type s) (rw f at fits.info)
  | inr k ↦ ap not (absolute_local s.st_shndx (file_header file).e_shnum (is_local s) _ bound k fits.home)
]

section_known : (index count : ℕ) (is_file local more : Bool) → (is_file || index == 0xFFF1) ≡ false → (index == 0) ≡ false
    → (not (index == 0 || nat_le 1 index && nat_lt index count || index == 0xFFF1 && local) || more) ≡ false → (1 ≤ index) × (index < count)
section_known index count is_file local more a z e = (grind (arith, nat_tests), grind (arith, nat_tests))

unloaded_local : (there global : Bool) (others : Bool) → there ≡ true → (others || global && there && not false) ≡ false → global ≡ false
unloaded_local there true others t e = absurd (grind arith)
unloaded_local there false others t e = refl

section_true : (index count : ℕ) → 1 ≤ index → index < count → (nat_le 1 index && nat_lt index count) ≡ true
section_true index count h k = grind (arith, nat_tests)

le_not : (size value : ℕ) → nat_lt size value ≡ false → nat_le value size ≡ true
le_not size value e = grind (arith, nat_tests)

-- a symbol is where the rules let one be
home_sound : (file : List ℕ) (h : SectionHeader) (j : ℕ) (s : SymbolRow) (name : List ℕ) → (file_header file).e_shnum ≤ 65279 → IsFit file h j s
    → is_sound_home (object_of file) (symbol_from s name (home_of file s)) (home_of file s) ≡ true
home_sound file h j s name few fits = elim (yes_or_no (is_file_type s || s.st_shndx == 0xFFF1)) [
  | inl a ↦ rw a (local (absolute file h j s few fits a))
  | inr na ↦ elim (yes_or_no (s.st_shndx == 0)) [
    | inl z ↦ rw (na, z) refl
    | inr nz ↦
        let number = section_known s.st_shndx (file_header file).e_shnum (is_file_type s) (is_local s) _ na nz fits.home in
        elim (yes_or_no (is_alloc (section_header file s.st_shndx))) [
          | inl l ↦ rw (na, nz, l, section_found file s.st_shndx number.0 number.1 l) (le_not (section_header file s.st_shndx).sh_size s.st_value (rw (na, nz, l) at fits.value))
          | inr u ↦ rw (na, nz, u) (local (unloaded_local _ (is_external s) _ (section_true s.st_shndx (file_header file).e_shnum number.0 number.1) (rw u at fits.home)))
        ]
  ]
]
  where
    local : is_external s ≡ false → is_local_bind (bind_of s) ≡ true
    local e = rw (bound s e) refl

plain_of : (kind : ℕ) → (kind == 3 || kind == 4) ≡ false → nat_lt 4 kind ≡ false → (kind == 0) ≡ false → (kind == 1) ≡ false → (kind == 2) ≡ false → ⊥
plain_of kind a b c d e = grind (arith, nat_tests)

plain_sort : (s : SymbolRow) → (is_section_type s || is_file_type s) ≡ false → nat_lt 4 (s.st_info % 16) ≡ false → is_plain_sort (sort_of s) ≡ true
plain_sort s a b = elim (yes_or_no (s.st_info % 16 == 0)) [
  | inl z ↦ rw z refl
  | inr nz ↦ elim (yes_or_no (s.st_info % 16 == 1)) [
    | inl o ↦ rw (nz, o) refl
    | inr nu ↦ elim (yes_or_no (s.st_info % 16 == 2)) [
      | inl t ↦ rw (nz, nu, t) refl
      | inr nt ↦ absurd (plain_of (s.st_info % 16) a b nz nu nt)
    ]
  ]
]

global_kind : (a b c global kind : Bool) → (a || b || c || global && kind) ≡ false → global ≡ true → (kind ≡ false) × (c ≡ false)
global_kind a b c true kind e g = (grind arith, grind arith)
global_kind a b c false kind e g = absurd cc

global_named : (global good taken : Bool) → (global && (not good || taken)) ≡ false → global ≡ true → (good ≡ true) × (taken ≡ false)
global_named true true taken e g = (refl, e)
global_named true false taken e g = absurd cc
global_named false good taken e g = absurd cc

-- a GLOBAL or WEAK has a name, and a type of its own
named : (file : List ℕ) (h : SectionHeader) (j : ℕ) (s : SymbolRow) → IsFit file h j s
    → (is_local_bind (bind_of s) || is_global_name (symbol_name file h s) && is_plain_sort (sort_of s)) ≡ true
named file h j s fits = elim (yes_or_no (is_external s)) [
  | inl g ↦
      let kind = global_kind (nat_lt j h.sh_info && not (is_local s)) (nat_le h.sh_info j && not (is_global s || is_weak s)) (nat_lt 4 (s.st_info % 16)) (is_external s) (is_section_type s || is_file_type s) fits.info g in
      let good = global_named (is_external s) (is_global_name (symbol_name file h s)) _ fits.name g in
      rw (good.0, plain_sort s kind.0 kind.1) (or-true (is_local_bind (bind_of s)))
  | inr l ↦ rw (bound s l) refl
]

symbol_is : (file : List ℕ) (h : SectionHeader) (j : ℕ) → symbol_of file h j ≡ symbol_from (symbol_row file h j) (symbol_name file h (symbol_row file h j)) (home_of file (symbol_row file h j))
unfolding symbol_of
symbol_is file h j = refl

row_sound : (file : List ℕ) (h : SectionHeader) (j : ℕ) (s : SymbolRow) → (file_header file).e_shnum ≤ 65279 → IsFit file h j s
    → is_sound_symbol (object_of file) (symbol_from s (symbol_name file h s) (home_of file s)) ≡ true
row_sound file h j s few fits =
    and_from (is_sound_home (object_of file) (symbol_from s (symbol_name file h s) (home_of file s)) (home_of file s)) _ (home_sound file h j s (symbol_name file h s) few fits) (named file h j s fits)

-- each symbol of a table that keeps its rules
rows_sound : (file : List ℕ) (h : SectionHeader) → (file_header file).e_shnum ≤ 65279 → checked (flat_map (symbol_rules file h) (between 1 (symbol_count h))) ≡ Ok tt
    → list_all (is_sound_symbol (object_of file)) (symbols_below file h (symbol_count h)) ≡ true
unfolding between
rows_sound file h bound passed =
    let count = symbol_count h in
    rw (map-flat_map (symbol_of file h) (between 1 count)) (In-all (is_sound_symbol (object_of file)) (flat_map (λ j. symbol_of file h j ∷ []) (between 1 count)) (λ s i.
    let at = In-range (λ j. symbol_of file h j ∷ []) (count - 1) 1 s i in
    let rules = round_passed (symbol_rules file h) 1 at.0 count passed at.1 (in_range count at.0 at.1 at.2) in
    subst (λ (v : Symbol). is_sound_symbol (object_of file) v ≡ true) (sym (In-one s (symbol_of file h at.0) at.3 ∙ symbol_is file h at.0)) (row_sound file h at.0 (symbol_row file h at.0) bound (fit file h at.0 rules))))

-- each symbol is sound
pub symbols_sound : (file : List ℕ) → (file_header file).e_shnum ≤ 65279 → checked (symbols_rules file) ≡ Ok tt → list_all (is_sound_symbol (object_of file)) (symbols_of file) ≡ true
symbols_sound file bound = go (symtab file)
  where
    go : (o : Option ℕ) → checked (symbols_rules_of file o) ≡ Ok tt → list_all (is_sound_symbol (object_of file)) (symbols_of_table file o) ≡ true
    go None passed = refl
    go (Some n) passed = rows_sound file (section_header file n) bound passed

not_both : (local other same : Bool) → (local ≡ false → other ≡ false → same ≡ false) → (local || other || not same) ≡ true
not_both true other same f = refl
not_both false true same f = refl
not_both false false same f = rw (f refl refl) refl

and_left_true : (a b : Bool) → (a && b) ≡ false → a ≡ true → b ≡ false
and_left_true true b e h = e
and_left_true false b e h = absurd cc

-- a symbol that isn't LOCAL can be named by others
unlocal : (s : SymbolRow) → is_local_bind (bind_of s) ≡ false → is_external s ≡ true
unlocal s e = sym (external_is s) ∙ ap not e

names_apart : (file : List ℕ) (h : SectionHeader) (m n : ℕ) → 1 ≤ m → m < n → IsFit file h n (symbol_row file h n)
    → may_both_be (symbol_of file h m) (symbol_from (symbol_row file h n) (symbol_name file h (symbol_row file h n)) (home_of file (symbol_row file h n))) ≡ true
unfolding between
names_apart file h m n from less fits =
    let r = symbol_row file h n in
    not_both (is_local_bind (symbol_of file h m).bind) (is_local_bind (bind_of r)) (bytes_eq (symbol_of file h m).name (symbol_name file h r)) (λ one two.
    let taken = global_named (is_external r) (is_global_name (symbol_name file h r)) (defines (symbols_below file h n) (symbol_name file h r)) fits.name (unlocal r two) in
    let before : In (symbol_of file h m) (symbols_below file h n) =
    rw (map-flat_map (symbol_of file h) (between 1 n)) (range-In (λ j. symbol_of file h j ∷ []) (n - 1) 1 m (symbol_of file h m) from (range_in n m from less) (inl refl)) in
    and_left_true (is_external_bind (symbol_of file h m).bind) (bytes_eq (symbol_of file h m).name (symbol_name file h r))
    (none-In (λ s. is_external_bind s.bind && bytes_eq s.name (symbol_name file h r)) (symbols_below file h n) taken.1 (symbol_of file h m) before) (ap not one))

rows_apart : (file : List ℕ) (h : SectionHeader) → checked (flat_map (symbol_rules file h) (between 1 (symbol_count h))) ≡ Ok tt
    → each_pair may_both_be (symbols_below file h (symbol_count h)) ≡ true
unfolding between
rows_apart file h passed =
    let count = symbol_count h in
    rw (map-flat_map (symbol_of file h) (between 1 count)) (pairs-range may_both_be (λ j. symbol_of file h j ∷ []) (count - 1) 1 (λ n low high. refl) (λ m n x y low less high i j.
    let from : 1 ≤ n = omega arith in
    let rules = round_passed (symbol_rules file h) 1 n count passed from (in_range count n from high) in
    rw (In-one x (symbol_of file h m) i, In-one y (symbol_of file h n) j ∙ symbol_is file h n) (names_apart file h m n low less (fit file h n rules))))

-- no two symbols that others can name have one name
pub names_sound : (file : List ℕ) → checked (symbols_rules file) ≡ Ok tt → each_pair may_both_be (symbols_of file) ≡ true
names_sound file = go (symtab file)
  where
    go : (o : Option ℕ) → checked (symbols_rules_of file o) ≡ Ok tt → each_pair may_both_be (symbols_of_table file o) ≡ true
    go None passed = refl
    go (Some n) passed = rows_apart file (section_header file n) passed
