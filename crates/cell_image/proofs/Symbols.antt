-- The symbols, read from the image.
use Rattle.std.proofs.Common.{◌≡◌, ℕ, suc, ◌+◌, ◌-◌, ◌*◌, ◌/◌, ◌%◌, ◌^◌, ◌<◌, ◌≤◌, Bool, true, false, ◌||◌, List, [], ◌∷◌, ◌++◌, length, take, drop, get_or, ap, ◌∙◌, refl, arith, length-append, map, replicate, if◌then◌else◌, lit<, subst}
use Rattle.std.specs.Prelude.{◌==◌, Some, unwrap_or}
use Rattle.std.specs.List.{flat_map}
use Rattle.std.proofs.lemmas.Bool.{ne_eqb}
use Rattle.std.proofs.lemmas.List.{map-append, length-replicate}
use Rattle.cell_object.specs.declared.object.Object.{Object}
use Rattle.cell_object.specs.declared.object.Section.{Section}
use Rattle.cell_object.specs.declared.object.Symbol.{Symbol}
use Rattle.cell_object.specs.declared.object.Bind.{Bind}
use Rattle.cell_object.specs.declared.object.Bind.TheVariants.{Local, Global, Weak}
use Rattle.cell_object.specs.declared.object.Sort.{Sort}
use Rattle.cell_object.specs.declared.object.Sort.TheVariants as sorts
use Rattle.cell_object.specs.declared.object.Home.{Home}
use Rattle.cell_object.specs.declared.object.Home.TheVariants.{Undef, Abs, Inside, Elsewhere}
use Rattle.cell_object.specs.declared.headers.SectionHeader.{SectionHeader}
use Rattle.cell_object.specs.Bytes.{string_at, between}
use Rattle.cell_object.specs.Header.{section_header}
use Rattle.cell_object.specs.Sections.{is_alloc}
use Rattle.cell_object.specs.Symbols as symbols
use Rattle.cell_object.specs.Symbols.{symbol_row_at, home_of, symbol_of, symbols_of, symbols_of_table, symbol_from, symbol_name}
use Rattle.cell_object.specs.Before.{with_before}
use Rattle.cell_object.specs.Strings.{string_table, name_place}
use Rattle.cell_object.specs.Rows.{bind_number, sort_number, home_number, symbol_bytes}
use Rattle.cell_object.specs.ImageParts.{offset_after, contents, table, symtab_number, symbols_part, symbol_strings, symbol_part_bytes}
use Rattle.cell_object.specs.Image.{symtab_row, section_rows, image}
use Rattle.cell_object.specs.Writable.{is_file}
use Rattle.cell_image.proofs.Rows.{FitsSymbol, read_symbol}
use Rattle.cell_image.proofs.Places.{split_at, even_length}
use Rattle.cell_image.proofs.Texts.{IsPlain, name_is_read}
use Rattle.cell_image.proofs.Headers.{FitsImage, tables, last_parts, rows_count, own_header, symtab_header, strtab_bytes, symtab_split, get_before, length_before}
use Rattle.cell_image.proofs.Gather.{gather_map}
use Rattle.cell_image.proofs.OwnSections.{flags_alloc}
use Rattle.cell_image.proofs.LastRules.{symtab_is}
use Rattle.cell_image.proofs.Stands.{Stands, part_stands, element_stands, symbol_stands, symbol_length}

abbrev pub info : Bind → Sort → ℕ
info b t = 16 * bind_number b + sort_number t

pub file_bit : (b : Bind) (t : Sort) → (info b t % 16 == 4) ≡ is_file t
file_bit Local sorts.NoType = refl
file_bit Local sorts.Object = refl
file_bit Local sorts.Func = refl
file_bit Local sorts.Section = refl
file_bit Local sorts.File = refl
file_bit Global sorts.NoType = refl
file_bit Global sorts.Object = refl
file_bit Global sorts.Func = refl
file_bit Global sorts.Section = refl
file_bit Global sorts.File = refl
file_bit Weak sorts.NoType = refl
file_bit Weak sorts.Object = refl
file_bit Weak sorts.Func = refl
file_bit Weak sorts.Section = refl
file_bit Weak sorts.File = refl

bind_back : (b : Bind) (t : Sort) → (if info b t / 16 == 0 then Local else if info b t / 16 == 1 then Global else Weak) ≡ b
bind_back Local sorts.NoType = refl
bind_back Local sorts.Object = refl
bind_back Local sorts.Func = refl
bind_back Local sorts.Section = refl
bind_back Local sorts.File = refl
bind_back Global sorts.NoType = refl
bind_back Global sorts.Object = refl
bind_back Global sorts.Func = refl
bind_back Global sorts.Section = refl
bind_back Global sorts.File = refl
bind_back Weak sorts.NoType = refl
bind_back Weak sorts.Object = refl
bind_back Weak sorts.Func = refl
bind_back Weak sorts.Section = refl
bind_back Weak sorts.File = refl

sort_back : (b : Bind) (t : Sort)
    → (if info b t % 16 == 0 then sorts.NoType else if info b t % 16 == 1 then sorts.Object else if info b t % 16 == 2 then sorts.Func else if info b t % 16 == 3 then sorts.Section else sorts.File) ≡ t
sort_back Local sorts.NoType = refl
sort_back Local sorts.Object = refl
sort_back Local sorts.Func = refl
sort_back Local sorts.Section = refl
sort_back Local sorts.File = refl
sort_back Global sorts.NoType = refl
sort_back Global sorts.Object = refl
sort_back Global sorts.Func = refl
sort_back Global sorts.Section = refl
sort_back Global sorts.File = refl
sort_back Weak sorts.NoType = refl
sort_back Weak sorts.Object = refl
sort_back Weak sorts.Func = refl
sort_back Weak sorts.Section = refl
sort_back Weak sorts.File = refl

-- a section that a symbol is in is one of the first m
abbrev pub IsHome : ℕ → Home → Type 0
IsHome m (Inside n) = (1 ≤ n) × (n ≤ m)
IsHome m _ = Unit {0}

-- a FILE symbol is absolute
abbrev pub IsFiled : Sort → Home → Type 0
IsFiled t h = is_file t ≡ true → h ≡ Abs

or_true : (a : Bool) → (a || true) ≡ true
or_true true = refl
or_true false = refl

no_file : (b : Bool) (h : Home) → (b ≡ true → h ≡ Abs) → (h ≡ Abs → ⊥) → b ≡ false
no_file true h f n = absurd (n (f refl))
no_file false h f n = refl

pub own_alloc : (object : Object) (d : Section) (n : ℕ) → FitsImage object → 1 ≤ n → n ≤ length object.sections → is_alloc (section_header (image object) n) ≡ true
own_alloc object d n f low high =
    let e : n ≡ suc (n - 1) = omega (arith, low) in
    let s : Section = get_or object.sections (n - 1) d in
    ap (λ k. is_alloc (section_header (image object) k)) e ∙ ap is_alloc (own_header object (n - 1) d f (omega (arith, low, high))) ∙ flags_alloc s.write s.exec

pub home_back : (object : Object) (d : Section) (b : Bind) (t : Sort) (h : Home) → FitsImage object → length (section_rows object) < 65280 → IsFiled t h → IsHome (length object.sections) h
    → (if info b t % 16 == 4 || home_number (symtab_number object) h == 0xFFF1 then Abs else if home_number (symtab_number object) h == 0 then Undef else if is_alloc (section_header (image object) (home_number (symtab_number object) h)) then Inside (home_number (symtab_number object) h) else Elsewhere) ≡ h
home_back object d b t Undef f few filed home =
    let no : (info b t % 16 == 4) ≡ false = file_bit b t ∙ no_file (is_file t) Undef filed (λ e. cc) in
    ap (λ v. if v || false then Abs else Undef) no
home_back object d b t Abs f few filed home =
    ap (λ v. if v then Abs else if is_alloc (section_header (image object) 0xFFF1) then Inside 0xFFF1 else Elsewhere) (or_true (info b t % 16 == 4))
home_back object d b t (Inside n) f few filed home =
    let no : (info b t % 16 == 4) ≡ false = file_bit b t ∙ no_file (is_file t) (Inside n) filed (λ e. cc) in
    let count = rows_count object in
    let abs : (n == 0xFFF1) ≡ false = ne_eqb n 0xFFF1 (λ e. omega (arith, e, few, count, home.1)) in
    let undef : (n == 0) ≡ false = ne_eqb n 0 (λ e. omega (arith, e, home.0)) in
    λ i. if (no i || abs i) then Abs else if undef i then Undef else if own_alloc object d n f home.0 home.1 i then Inside n else Elsewhere
home_back object d b t Elsewhere f few filed home =
    let n : ℕ = symtab_number object in
    let no : (info b t % 16 == 4) ≡ false = file_bit b t ∙ no_file (is_file t) Elsewhere filed (λ e. cc) in
    let count = rows_count object in
    let abs : (n == 0xFFF1) ≡ false = ne_eqb n 0xFFF1 (λ e. omega (arith, e, few, count)) in
    let undef : (n == 0) ≡ false = ne_eqb n 0 (λ e. omega (arith, e)) in
    λ i. if (no i || abs i) then Abs else if undef i then Undef else if is_alloc (symtab_header object f i) then Inside n else Elsewhere

-- a symbol that is read as it was
pub record IsPlainSymbol (object : Object) (s : Symbol) : Type 0 where
  pub name : IsPlain s.name
  pub filed : IsFiled s.sort s.home
  pub home : IsHome (length object.sections) s.home
  pub value : s.value < 256 ^ 8
  pub size : s.size < 256 ^ 8

sort_few : (t : Sort) → sort_number t < 5
sort_few sorts.NoType = lit< tt
sort_few sorts.Object = lit< tt
sort_few sorts.Func = lit< tt
sort_few sorts.Section = lit< tt
sort_few sorts.File = lit< tt

info_fits : (b : Bind) (t : Sort) → info b t < 256 ^ 1
info_fits Local t = omega (arith, sort_few t)
info_fits Global t = omega (arith, sort_few t)
info_fits Weak t = omega (arith, sort_few t)

home_fits : (symtab : ℕ) (m : ℕ) (h : Home) → symtab < 256 ^ 2 → m < symtab → IsHome m h → home_number symtab h < 256 ^ 2
home_fits symtab m Undef a b home = lit< tt
home_fits symtab m Abs a b home = lit< tt
home_fits symtab m (Inside n) a b home = omega (arith, a, b, home.1)
home_fits symtab m Elsewhere a b home = a

abbrev pub symtab_place : Object → ℕ
symtab_place object = offset_after (contents object.sections)

abbrev pub names_before : Object → ℕ → List (List ℕ)
names_before object k = map (λ x. x.name) (take k object.symbols)

symbols_part_is : (object : Object) → symbols_part object ≡ replicate 24 0 ++ flat_map (symbol_part_bytes (symtab_number object)) (with_before object.symbols)
unfolding symbols_part
symbols_part_is object = refl

-- the row of the symbol k + 1
pub symbol_row_is : (object : Object) (k : ℕ) (d : Symbol) → FitsImage object → k < length object.symbols → IsPlainSymbol object (get_or object.symbols k d) → name_place (names_before object k) (get_or object.symbols k d).name < 256 ^ 4
    → symbol_row_at (symtab_place object + 24 * suc k) (image object) ≡ read_symbol (symtab_number object) (name_place (names_before object k) (get_or object.symbols k d).name) (get_or object.symbols k d)
symbol_row_is object k d f lt p fits =
    let file : List ℕ = image object in
    let symtab : ℕ = symtab_number object in
    let s : Symbol = get_or object.symbols k d in
    let place : ℕ = name_place (names_before object k) s.name in
    let rows = with_before object.symbols in
    let at : ℕ = symtab_place object in
    let count = rows_count object in
    let table = part_stands object (contents object.sections) (map (table object.entries) (tables object) ++ last_parts object) (symbols_part object) (symtab_split object) in
    let e : at + 24 * suc k ≡ at + (length (replicate {A = ℕ} 24 0) + 24 * k) = omega (arith, length-replicate {A = ℕ} 24 0) in
    let here = element_stands file at (symbols_part object) (replicate 24 0) (symbol_part_bytes symtab) 24 rows k ([], d) (λ x. symbol_length symtab (name_place (map (λ b. b.name) x.0) x.1.name) x.1) (omega (arith, lt, length_before object.symbols)) table (symbols_part_is object) in
    let Standing : List Symbol × Symbol → Type 0 = λ x. Stands file (at + (length (replicate {A = ℕ} 24 0) + 24 * k)) (symbol_part_bytes symtab x) in
    let stands : Stands file (at + (length (replicate {A = ℕ} 24 0) + 24 * k)) (symbol_bytes symtab place s) = subst Standing (get_before object.symbols k ([], d) d lt) here in
    let fit : FitsSymbol symtab place s = record {
      place = fits;
      info = info_fits s.bind s.sort;
      home = home_fits symtab (length object.sections) s.home (omega (arith, count, f.count)) (omega arith) p.home;
      value = p.value;
      size = p.size;
    } in
    ap (λ n. symbol_row_at n file) e ∙ symbol_stands file (at + (length (replicate {A = ℕ} 24 0) + 24 * k)) symtab place s stands fit

-- its name
pub symbol_text : (object : Object) (k : ℕ) (d : Symbol) → FitsImage object → k < length object.symbols → IsPlain (get_or object.symbols k d).name
    → string_at (name_place (names_before object k) (get_or object.symbols k d).name) (symbols.symbol_strings (image object) ((symtab_row object))) ≡ Some (get_or object.symbols k d).name
unfolding symbol_strings
symbol_text object k d f lt p =
    let s : Symbol = get_or object.symbols k d in
    let before : List (List ℕ) = names_before object k in
    let after : List (List ℕ) = map (λ x. x.name) (drop (suc k) object.symbols) in
    ap (string_at (name_place before s.name)) (strtab_bytes object f)
    ∙ ap (λ v. string_at (name_place before s.name) (string_table v)) (ap (map (λ x. x.name)) (split_at object.symbols k d lt) ∙ map-append (λ x. x.name) (take k object.symbols) (s ∷ drop (suc k) object.symbols))
    ∙ name_is_read before after s.name p

-- the symbol k + 1
pub symbol_is : (object : Object) (k : ℕ) (d : Symbol) (e : Section) → FitsImage object → length (section_rows object) < 65280 → k < length object.symbols → IsPlainSymbol object (get_or object.symbols k d) → name_place (names_before object k) (get_or object.symbols k d).name < 256 ^ 4
    → symbol_of (image object) ((symtab_row object)) (suc k) ≡ get_or object.symbols k d
unfolding symbol_of
symbol_is object k d e f few lt p fits =
    let file : List ℕ = image object in
    let h : SectionHeader = (symtab_row object) in
    let s : Symbol = get_or object.symbols k d in
    let place : ℕ = name_place (names_before object k) s.name in
    let name : unwrap_or (string_at place (symbols.symbol_strings file h)) [] ≡ s.name = ap (λ v. unwrap_or v []) (symbol_text object k d f lt p.name) in
    ap (λ r. symbol_from r (symbol_name file h r) (home_of file r)) (symbol_row_is object k d f lt p fits)
    ∙ (λ i. record {
      name = name i;
      bind = bind_back s.bind s.sort i;
      sort = sort_back s.bind s.sort i;
      home = home_back object e s.bind s.sort s.home f few p.filed p.home i;
      value = s.value;
      size = s.size;
    })

pub symbols_length : (object : Object) → length (symbols_part object) ≡ 24 + 24 * length object.symbols
symbols_length object =
    let symtab : ℕ = symtab_number object in
    let rows = with_before object.symbols in
    let long = even_length (symbol_part_bytes symtab) 24 (λ x. symbol_length symtab (name_place (map (λ b. b.name) x.0) x.1.name) x.1) rows in
    let both = length-append (replicate {A = ℕ} 24 0) (flat_map (symbol_part_bytes symtab) rows) in
    let all = ap length (symbols_part_is object) in
    omega (arith, long, both, all, length-replicate {A = ℕ} 24 0, length_before object.symbols)

pub symbols_are_read : (object : Object) (d : Symbol) (e : Section) → FitsImage object → length (section_rows object) < 65280
    → ((k : ℕ) → k < length object.symbols → IsPlainSymbol object (get_or object.symbols k d))
    → ((k : ℕ) → k < length object.symbols → name_place (names_before object k) (get_or object.symbols k d).name < 256 ^ 4)
    → symbols_of (image object) ≡ object.symbols
symbols_are_read object d e f few plain fits =
    let file : List ℕ = image object in
    let count : length (symbols_part object) / 24 ≡ 1 + length object.symbols = omega (arith, symbols_length object) in
    ap (symbols_of_table file) (symtab_is object e f)
    ∙ ap (λ h. map (symbol_of file h) (between 1 (h.sh_size / 24))) (symtab_header object f)
    ∙ ap (λ n. map (symbol_of file ((symtab_row object))) (between 1 n)) count
    ∙ gather_map (symbol_of file ((symtab_row object))) object.symbols 1 (1 + length object.symbols) d refl
    (λ k lt. let n : 1 + k ≡ suc k = omega arith in ap (symbol_of file ((symtab_row object))) n ∙ symbol_is object k d e f few lt (plain k lt) (fits k lt))
