-- An image breaks no rule on symbols.
use Rattle.std.proofs.Common.{◌≡◌, ℕ, suc, ◌+◌, ◌-◌, ◌/◌, ◌%◌, ◌^◌, ◌<◌, ◌≤◌, Bool, true, false, cond, not, ◌&&◌, ◌||◌, List, [], ◌∷◌, ◌++◌, length, take, get_or, sym, ap, ◌∙◌, refl, arith, filter, inl, inr}
use Rattle.std.specs.Prelude.{◌==◌, nat_lt, nat_le, is_none, unwrap_or}
use Rattle.std.proofs.lemmas.List.{length-take-le, get_or-take}
use Rattle.std.specs.List.{flat_map}
use Rattle.std.proofs.lemmas.Bool.{le-leb, lt-leb, le-ltb, eq-eqb, cases_lt}
use Rattle.cell_object.specs.declared.object.Object.{Object}
use Rattle.cell_object.specs.declared.object.Section.{Section}
use Rattle.cell_object.specs.declared.object.Symbol.{Symbol}
use Rattle.cell_object.specs.declared.object.Bind.{Bind}
use Rattle.cell_object.specs.declared.object.Bind.TheVariants.{Local, Global, Weak}
use Rattle.cell_object.specs.declared.object.Sort.{Sort}
use Rattle.cell_object.specs.declared.object.Sort.TheVariants as sorts
use Rattle.cell_object.specs.declared.object.Home.{Home}
use Rattle.cell_object.specs.declared.object.Home.TheVariants.{Undef, Abs, Inside, Elsewhere}
use Rattle.cell_object.specs.declared.headers.SectionHeader.{SectionHeader}
use Rattle.cell_object.specs.declared.headers.SymbolRow.{SymbolRow}
use Rattle.cell_object.specs.Parts.{is_local, is_external}
use Rattle.cell_object.specs.Bytes.{broken_where, between}
use Rattle.cell_object.specs.Header.{section_header, section_place, is_section_number}
use Rattle.cell_object.specs.Sections.{is_alloc}
use Rattle.cell_object.specs.Symbols.{symbol_of, symbol_place, symbols_below, symbol_name, is_global_name, defines, is_past_end, rule_13, rule_14, rule_15, rule_16, rule_17, rule_18, symbol_rules, symbols_rules, symbols_rules_of, symtab_rules, symtab_rules_of}
use Rattle.cell_object.specs.Strings.{name_place}
use Rattle.cell_object.specs.Rows.{home_number}
use Rattle.cell_object.specs.ImageParts.{symtab_number, strtab_number, symbols_part}
use Rattle.cell_object.specs.Image.{symtab_row, section_rows, image, local_count}
use Rattle.cell_object.specs.Writable.{is_file}
use Rattle.cell_image.proofs.Ruled.{is_section}
use Rattle.cell_image.proofs.Rows.{read_symbol}
use Rattle.cell_image.proofs.Headers.{FitsImage, rows_count, own_header, symtab_header, strtab_header, header_of_image, read_header}
use Rattle.cell_image.proofs.Gather.{gather_map, gather_none}
use Rattle.cell_image.proofs.HeaderRules.{unbroken, is_numbered}
use Rattle.cell_image.proofs.SectionRules.{and_false}
use Rattle.cell_image.proofs.LastRules.{symtab_is}
use Rattle.cell_image.proofs.Symbols.{info, file_bit, home_back, own_alloc, IsHome, IsPlainSymbol, names_before, symbol_row_is, symbol_text, symbol_is, symbols_length}

local_bit : (b : Bind) (t : Sort) → (info b t / 16 == 0) ≡ is_local b
local_bit Local sorts.NoType = refl
local_bit Local sorts.Object = refl
local_bit Local sorts.Func = refl
local_bit Local sorts.Section = refl
local_bit Local sorts.File = refl
local_bit Global sorts.NoType = refl
local_bit Global sorts.Object = refl
local_bit Global sorts.Func = refl
local_bit Global sorts.Section = refl
local_bit Global sorts.File = refl
local_bit Weak sorts.NoType = refl
local_bit Weak sorts.Object = refl
local_bit Weak sorts.Func = refl
local_bit Weak sorts.Section = refl
local_bit Weak sorts.File = refl

bound_bit : (b : Bind) (t : Sort) → (info b t / 16 == 1 || info b t / 16 == 2) ≡ is_external b
bound_bit Local sorts.NoType = refl
bound_bit Local sorts.Object = refl
bound_bit Local sorts.Func = refl
bound_bit Local sorts.Section = refl
bound_bit Local sorts.File = refl
bound_bit Global sorts.NoType = refl
bound_bit Global sorts.Object = refl
bound_bit Global sorts.Func = refl
bound_bit Global sorts.Section = refl
bound_bit Global sorts.File = refl
bound_bit Weak sorts.NoType = refl
bound_bit Weak sorts.Object = refl
bound_bit Weak sorts.Func = refl
bound_bit Weak sorts.Section = refl
bound_bit Weak sorts.File = refl

external_bit : (b : Bind) (t : Sort) → not (info b t / 16 == 0) ≡ is_external b
external_bit b t = ap not (local_bit b t)

section_bit : (b : Bind) (t : Sort) → (info b t % 16 == 3) ≡ is_section t
section_bit Local sorts.NoType = refl
section_bit Local sorts.Object = refl
section_bit Local sorts.Func = refl
section_bit Local sorts.Section = refl
section_bit Local sorts.File = refl
section_bit Global sorts.NoType = refl
section_bit Global sorts.Object = refl
section_bit Global sorts.Func = refl
section_bit Global sorts.Section = refl
section_bit Global sorts.File = refl
section_bit Weak sorts.NoType = refl
section_bit Weak sorts.Object = refl
section_bit Weak sorts.Func = refl
section_bit Weak sorts.Section = refl
section_bit Weak sorts.File = refl

few_sorts : (b : Bind) (t : Sort) → nat_lt 4 (info b t % 16) ≡ false
few_sorts Local sorts.NoType = refl
few_sorts Local sorts.Object = refl
few_sorts Local sorts.Func = refl
few_sorts Local sorts.Section = refl
few_sorts Local sorts.File = refl
few_sorts Global sorts.NoType = refl
few_sorts Global sorts.Object = refl
few_sorts Global sorts.Func = refl
few_sorts Global sorts.Section = refl
few_sorts Global sorts.File = refl
few_sorts Weak sorts.NoType = refl
few_sorts Weak sorts.Object = refl
few_sorts Weak sorts.Func = refl
few_sorts Weak sorts.Section = refl
few_sorts Weak sorts.File = refl

-- where a symbol may be: an absolute one and one elsewhere is LOCAL, and a value is in its section
abbrev pub IsRightHome : List Section → Section → Bind → ℕ → Home → Type 0
IsRightHome sections d b value Undef = Unit {0}
IsRightHome sections d b value Abs = (is_local b ≡ true) × (is_external b ≡ false)
IsRightHome sections d b value (Inside n) = value ≤ (get_or sections (n - 1) d).size
IsRightHome sections d b value Elsewhere = is_external b ≡ false

-- the symbol k + 1 breaks no rule
pub record IsSoundSymbol (object : Object) (d : Section) (k : ℕ) (s : Symbol) : Type 0 where
  pub first : k < local_count object → is_local s.bind ≡ true
  pub last : local_count object ≤ k → is_external s.bind ≡ true
  pub sort : (is_external s.bind && (is_section s.sort || is_file s.sort)) ≡ false
  pub home : IsRightHome object.sections d s.bind s.value s.home
  pub named : (is_external s.bind && (not (is_global_name s.name) || defines (take k object.symbols) s.name)) ≡ false

or_false : (a b : Bool) → a ≡ false → b ≡ false → (a || b) ≡ false
or_false a b x y = λ i. x i || y i

or_true_right : (a b : Bool) → b ≡ true → (a || b) ≡ true
or_true_right true b h = refl
or_true_right false b h = h

order_before : (j n : ℕ) (b : Bool) → (j < n → b ≡ true) → (nat_lt j n && not b) ≡ false
order_before j n b h = elim (cases_lt j n) [
  | inl lt ↦ and_false (nat_lt j n) (not b) (ap not (h lt))
  | inr le ↦ ap (λ v. v && not b) (le-ltb j n le)
]

order_after : (n j : ℕ) (b : Bool) → (n ≤ j → b ≡ true) → (nat_le n j && not b) ≡ false
order_after n j b h = elim (cases_lt j n) [
  | inl lt ↦ ap (λ v. v && not b) (lt-leb n j lt)
  | inr le ↦ and_false (nat_le n j) (not b) (ap not (h le))
]

fifteen_test : (k n : ℕ) (b : Bind) (t : Sort) → (k < n → is_local b ≡ true) → (n ≤ k → is_external b ≡ true) → (is_external b && (is_section t || is_file t)) ≡ false
    → (nat_lt (suc k) (n + 1) && not (info b t / 16 == 0) || nat_le (n + 1) (suc k) && not (info b t / 16 == 1 || info b t / 16 == 2) || nat_lt 4 (info b t % 16) || not (info b t / 16 == 0) && ((info b t % 16 == 3) || (info b t % 16 == 4))) ≡ false
fifteen_test k n b t first last sort =
    let one : (nat_lt (suc k) (n + 1) && not (info b t / 16 == 0)) ≡ false = order_before (suc k) (n + 1) (info b t / 16 == 0) (λ lt. local_bit b t ∙ first (omega (arith, lt))) in
    let two : (nat_le (n + 1) (suc k) && not (info b t / 16 == 1 || info b t / 16 == 2)) ≡ false = order_after (n + 1) (suc k) (info b t / 16 == 1 || info b t / 16 == 2) (λ le. bound_bit b t ∙ last (omega (arith, le))) in
    let four : (not (info b t / 16 == 0) && ((info b t % 16 == 3) || (info b t % 16 == 4))) ≡ false = (λ i. external_bit b t i && (section_bit b t i || file_bit b t i)) ∙ sort in
    λ i. one i || two i || few_sorts b t i || four i

no_number_zero : (object : Object) → is_section_number (image object) 0 ≡ false
no_number_zero object = refl

no_number_large : (object : Object) → FitsImage object → length (section_rows object) < 65280 → is_section_number (image object) 0xFFF1 ≡ false
unfolding read_header
no_number_large object f few =
    ap (λ h. nat_le 1 0xFFF1 && nat_lt 0xFFF1 h.e_shnum) (header_of_image object f) ∙ le-ltb 0xFFF1 (length (section_rows object)) (omega (arith, few))

sixteen_test : (object : Object) (d : Section) (b : Bind) (t : Sort) (value : ℕ) (h : Home) → FitsImage object → length (section_rows object) < 65280 → IsHome (length object.sections) h → IsRightHome object.sections d b value h
    → (not (home_number (symtab_number object) h == 0 || is_section_number (image object) (home_number (symtab_number object) h) || home_number (symtab_number object) h == 0xFFF1 && info b t / 16 == 0)
    || not (info b t / 16 == 0) && is_section_number (image object) (home_number (symtab_number object) h) && not (is_alloc (section_header (image object) (home_number (symtab_number object) h)))) ≡ false
sixteen_test object d b t value Undef f few home right =
    ap (λ v. v && not (is_alloc (section_header (image object) 0))) (and_false (not (info b t / 16 == 0)) false refl)
sixteen_test object d b t value Abs f few home right =
    let number = no_number_large object f few in
    let local : (info b t / 16 == 0) ≡ true = local_bit b t ∙ right.0 in
    let external : not (info b t / 16 == 0) ≡ false = external_bit b t ∙ right.1 in
    λ i. not (number i || local i) || external i && is_section_number (image object) 0xFFF1 && not (is_alloc (section_header (image object) 0xFFF1))
sixteen_test object d b t value (Inside n) f few home right =
    let count = rows_count object in
    let number : is_section_number (image object) n ≡ true = is_numbered object n f home.0 (omega (arith, home.1, count)) in
    let alloc : is_alloc (section_header (image object) n) ≡ true = own_alloc object d n f home.0 home.1 in
    let one : (n == 0 || is_section_number (image object) n || n == 0xFFF1 && info b t / 16 == 0) ≡ true = ap (λ v. v || n == 0xFFF1 && info b t / 16 == 0) (or_true_right (n == 0) (is_section_number (image object) n) number) in
    or_false _ _ (ap not one) (and_false (not (info b t / 16 == 0) && is_section_number (image object) n) (not (is_alloc (section_header (image object) n))) (ap not alloc))
sixteen_test object d b t value Elsewhere f few home right =
    let n : ℕ = symtab_number object in
    let count = rows_count object in
    let number : is_section_number (image object) n ≡ true = is_numbered object n f (omega arith) (omega (arith, count)) in
    let external : not (info b t / 16 == 0) ≡ false = external_bit b t ∙ right in
    let one : (n == 0 || is_section_number (image object) n || n == 0xFFF1 && info b t / 16 == 0) ≡ true = ap (λ v. v || n == 0xFFF1 && info b t / 16 == 0) (or_true_right (n == 0) (is_section_number (image object) n) number) in
    or_false _ _ (ap not one) (ap (λ v. v && is_section_number (image object) n && not (is_alloc (section_header (image object) n))) external)

seventeen_test : (object : Object) (d : Section) (b : Bind) (value : ℕ) (h : Home) → FitsImage object → IsHome (length object.sections) h → IsRightHome object.sections d b value h → is_past_end (image object) h value ≡ false
seventeen_test object d b value Undef f home right = refl
seventeen_test object d b value Abs f home right = refl
seventeen_test object d b value (Inside n) f home right =
    let e : n ≡ suc (n - 1) = omega (arith, home.0) in
    ap (λ k. nat_lt (section_header (image object) k).sh_size value) e
    ∙ ap (λ r. nat_lt r.sh_size value) (own_header object (n - 1) d f (omega (arith, home.0, home.1)))
    ∙ le-ltb (get_or object.sections (n - 1) d).size value right
seventeen_test object d b value Elsewhere f home right = refl

-- each symbol is plain, its name's place fits, and it is sound
pub record AreSymbols (object : Object) (d : Symbol) (e : Section) : Type 0 where
  pub plain : (k : ℕ) → k < length object.symbols → IsPlainSymbol object (get_or object.symbols k d)
  pub fits : (k : ℕ) → k < length object.symbols → name_place (names_before object k) (get_or object.symbols k d).name < 256 ^ 4
  pub sound : (k : ℕ) → k < length object.symbols → IsSoundSymbol object e k (get_or object.symbols k d)

below_are : (object : Object) (k : ℕ) (d : Symbol) (e : Section) → FitsImage object → length (section_rows object) < 65280 → AreSymbols object d e → k < length object.symbols
    → symbols_below (image object) ((symtab_row object)) (suc k) ≡ take k object.symbols
below_are object k d e f few all lt =
    let file : List ℕ = image object in
    let h : SectionHeader = (symtab_row object) in
    let long : length (take k object.symbols) ≡ k = length-take-le k object.symbols (omega (arith, lt)) in
    let sum : 1 + length (take k object.symbols) ≡ suc k = omega (arith, long) in
    gather_map (symbol_of file h) (take k object.symbols) 1 (suc k) d sum
    (λ i inside.
    let here : i < k = omega (arith, inside, long) in
    let low : i < length object.symbols = omega (arith, here, lt) in
    let n : 1 + i ≡ suc i = omega arith in
    ap (symbol_of file h) n ∙ symbol_is object i d e f few low (all.plain i low) (all.fits i low) ∙ sym (get_or-take k object.symbols i d here))

symbol_rules_hold : (object : Object) (k : ℕ) (d : Symbol) (e : Section) → FitsImage object → length (section_rows object) < 65280 → AreSymbols object d e → k < length object.symbols
    → symbol_rules (image object) ((symtab_row object)) (suc k) ≡ []
unfolding symbol_rules
symbol_rules_hold object k d e f few all lt =
    let file : List ℕ = image object in
    let h : SectionHeader = (symtab_row object) in
    let at : ℕ = symbol_place h (suc k) in
    let s : Symbol = get_or object.symbols k d in
    let place : ℕ = name_place (names_before object k) s.name in
    let r : SymbolRow = read_symbol (symtab_number object) place s in
    let p = all.plain k lt in
    let q = all.sound k lt in
    let text = symbol_text object k d f lt p.name in
    let name : symbol_name file h r ≡ s.name = ap (λ v. unwrap_or v []) text in
    let fourteen : rule_14 file at h r ≡ [] = ap (λ v. broken_where (is_none v) 14 at) text in
    let fifteen : rule_15 at h (suc k) r ≡ [] = unbroken _ 15 (at + 4) (fifteen_test k (local_count object) s.bind s.sort q.first q.last q.sort) in
    let sixteen : rule_16 file at r ≡ [] = unbroken _ 16 (at + 6) (sixteen_test object e s.bind s.sort s.value s.home f few p.home q.home) in
    let seventeen : rule_17 file at r ≡ [] = ap (λ v. broken_where (is_past_end file v s.value) 17 (at + 8)) (home_back object e s.bind s.sort s.home f few p.filed p.home) ∙ unbroken _ 17 (at + 8) (seventeen_test object e s.bind s.value s.home f p.home q.home) in
    let below = below_are object k d e f few all lt in
    let eighteen : rule_18 file at h (suc k) r ≡ [] =
    (λ i. broken_where (external_bit s.bind s.sort i && (not (is_global_name (name i)) || defines (below i) (name i))) 18 at) ∙ unbroken _ 18 at q.named in
    ap (λ v. rule_14 file at h v ++ (rule_15 at h (suc k) v ++ (rule_16 file at v ++ (rule_17 file at v ++ rule_18 file at h (suc k) v)))) (symbol_row_is object k d f lt p (all.fits k lt))
    ∙ (λ i. fourteen i ++ (fifteen i ++ (sixteen i ++ (seventeen i ++ eighteen i))))

pub symbols_rules_hold : (object : Object) (d : Symbol) (e : Section) → FitsImage object → length (section_rows object) < 65280 → AreSymbols object d e → symbols_rules (image object) ≡ []
symbols_rules_hold object d e f few all =
    let file : List ℕ = image object in
    let h : SectionHeader = (symtab_row object) in
    let count : length (symbols_part object) / 24 ≡ 1 + length object.symbols = omega (arith, symbols_length object) in
    ap (symbols_rules_of file) (symtab_is object e f)
    ∙ ap (λ r. flat_map (symbol_rules file r) (between 1 (r.sh_size / 24))) (symtab_header object f)
    ∙ ap (λ n. flat_map (symbol_rules file h) (between 1 n)) count
    ∙ gather_none (symbol_rules file h) 1 (1 + length object.symbols)
    (λ i low high. let n : i ≡ suc (i - 1) = omega (arith, low) in ap (symbol_rules file h) n ∙ symbol_rules_hold object (i - 1) d e f few all (omega (arith, low, high)))

filter_step_length : {X : Type 0} (p : X → Bool) (x : X) (xs : List X) (b : Bool) → length (filter p xs) ≤ length xs → length (cond b (x ∷ filter p xs) (filter p xs)) ≤ suc (length xs)
filter_step_length p x xs true h = omega (arith, h)
filter_step_length p x xs false h = omega (arith, h)

filter_length : {X : Type 0} (p : X → Bool) (xs : List X) → length (filter p xs) ≤ length xs
filter_length p [] = omega arith
filter_length p (x ∷ xs) = filter_step_length p x xs (p x) (filter_length p xs)

-- the symbol table is well formed
pub table_rules_hold : (object : Object) (e : Section) → FitsImage object → symtab_rules (image object) ≡ []
unfolding read_header
table_rules_hold object e f =
    let file : List ℕ = image object in
    let n : ℕ = symtab_number object in
    let h : SectionHeader = (symtab_row object) in
    let at : ℕ = section_place file n in
    let count = rows_count object in
    let size : ℕ = length (symbols_part object) in
    let long = symbols_length object in
    let locals = filter_length (λ s. is_local s.bind) object.symbols in
    let whole : (size % 24 == 0) ≡ true = eq-eqb (size % 24) 0 (omega (arith, long)) in
    let number : is_section_number file (strtab_number object) ≡ true = is_numbered object (strtab_number object) f (omega arith) (omega (arith, count)) in
    let kind : ((section_header file (strtab_number object)).sh_type == 3) ≡ true = ap (λ r. r.sh_type == 3) (strtab_header object f) in
    let first : nat_le (local_count object + 1) (size / 24) ≡ true = le-leb (local_count object + 1) (size / 24) (omega (arith, long, locals)) in
    ap (symtab_rules_of file) (symtab_is object e f)
    ∙ ap (rule_13 file at) (symtab_header object f)
    ∙ (λ i. broken_where (not (true && whole i && number i && kind i && first i)) 13 at)
