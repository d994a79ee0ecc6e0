-- The whole image, of its parts.
use Rattle.std.proofs.Common.{◌≡◌, ℕ, ◌+◌, ◌*◌, ◌/◌, ◌≤◌, suc, List, [], ◌∷◌, ◌++◌, length, take, drop, sym, ap, ◌∙◌, refl, arith, append_assoc, append-nil, map, replicate, length-append}
use Rattle.std.specs.Prelude.{codes, Result, Ok, Err, IfOk}
use Rattle.std.specs.List.{flat_map}
use Rattle.std.proofs.Math.Seq.{drop-append_seam}
use Rattle.std.proofs.lemmas.List.{length-replicate, drop-append-le, drop_all, take_all}
use Rattle.std.proofs.lemmas.List.Folds.{flat_map-map}
use Rattle.std.proofs.lemmas.Grind.{flat_map-append}
use Rattle.cell_object.specs.declared.object.Object.{Object}
use Rattle.cell_object.specs.declared.headers.SectionHeader.{SectionHeader}
use Rattle.cell_object.specs.Before.{with_before}
use Rattle.cell_object.specs.Strings.{string, string_table, place_in, name_place}
use Rattle.cell_object.specs.Rows.{stored, fields, header_bytes, section_row_bytes}
use Rattle.cell_object.specs.ImageParts.{padded, offset_after, contents, own_names, symtab_number, shstrtab_number, relocated, table, names_before_tables, parts_before_tables, parts_before_strings, parts_before_names, parts, symbols_part, symbol_strings, section_strings, symbol_part_bytes}
use Rattle.cell_object.specs.Image.{null_row, own_row, symtab_row_at, symtab_row, strings_row, strtab_row, shstrtab_row, table_row, section_rows, image_header, image}
use Rattle.cell_elfw.specs.Drafts.{file_of, HoldsSections, HoldsSymbols, HoldsTables}
use Rattle.cell_elfw.proofs.Growth.{part_put, file_length, name_put, place_is}

pub header_length : (a b c : ℕ) → length (header_bytes a b c) ≡ 64
unfolding header_bytes fields stored
header_length a b c = refl

row_length : (h : SectionHeader) → length (section_row_bytes h) ≡ 64
unfolding section_row_bytes fields stored
row_length h = refl

rows_length : (rows : List SectionHeader) → length (flat_map section_row_bytes rows) ≡ 64 * length rows
rows_length [] = refl
rows_length (r ∷ rows) =
    let e : 64 + 64 * length rows ≡ 64 * suc (length rows) = omega arith in
    length-append (section_row_bytes r) (flat_map section_row_bytes rows)
    ∙ ap (λ n. n + length (flat_map section_row_bytes rows)) (row_length r)
    ∙ ap (λ n. 64 + n) (rows_length rows) ∙ e

rows_count : (rows : List SectionHeader) → length (flat_map section_row_bytes rows) / 64 ≡ length rows
rows_count rows = let e = rows_length rows in omega (arith, e)

drop_room : (xs : List ℕ) → drop 64 (replicate 64 0 ++ xs) ≡ xs
drop_room xs = ap (λ n. drop n (replicate 64 0 ++ xs)) (sym (length-replicate {A = ℕ} 64 0)) ∙ drop-append_seam (replicate 64 0) xs

pub has_room : (file : List ℕ) (texts : List (List ℕ)) → file ≡ file_of texts → 64 ≤ length file
has_room file texts e = let n = file_length file texts e in omega (arith, n)

whole_is : (file headers whole : List ℕ) (object : Object) (symtab : ℕ) → file ≡ file_of (parts object) → headers ≡ flat_map section_row_bytes (section_rows object) → symtab ≡ symtab_number object
    → whole ≡ header_bytes (length file) (length headers / 64) (symtab + 2) ++ (drop 64 file ++ headers) → whole ≡ image object
unfolding image
whole_is file headers whole object symtab f h s w =
    let n : symtab + 2 ≡ shstrtab_number object = omega (arith, s) in
    let rows : List ℕ = flat_map section_row_bytes (section_rows object) in
    let body : List ℕ = drop 64 (file_of (parts object)) ++ rows in
    w
    ∙ ap (λ v. header_bytes (length v) (length headers / 64) (symtab + 2) ++ (drop 64 v ++ headers)) f
    ∙ ap (λ v. header_bytes (length (file_of (parts object))) (length v / 64) (symtab + 2) ++ (drop 64 (file_of (parts object)) ++ v)) h
    ∙ ap (λ k. header_bytes k (length rows / 64) (symtab + 2) ++ body) (file_length (file_of (parts object)) (parts object) refl)
    ∙ ap (λ k. header_bytes (offset_after (parts object)) k (symtab + 2) ++ body) (rows_count (section_rows object))
    ∙ ap (λ k. header_bytes (offset_after (parts object)) (length (section_rows object)) k ++ body) n
    ∙ ap (λ v. image_header object ++ (v ++ rows)) (drop_room (flat_map padded (parts object)))

headers_are : (own tables headers : List ℕ) (object : Object) (a b c : SectionHeader)
    → own ≡ flat_map (λ row. section_row_bytes (own_row row)) (with_before object.sections)
    → tables ≡ flat_map (λ row. section_row_bytes (table_row object row)) (with_before (relocated object.sections object.entries))
    → a ≡ symtab_row object → b ≡ strtab_row object → c ≡ shstrtab_row object
    → headers ≡ section_row_bytes null_row ++ (own ++ (section_row_bytes a ++ (section_row_bytes b ++ (section_row_bytes c ++ tables))))
    → headers ≡ flat_map section_row_bytes (section_rows object)
headers_are own tables headers object a b c o t x y z h =
    let firsts = with_before object.sections in
    let lasts = with_before (relocated object.sections object.entries) in
    let null : List ℕ = section_row_bytes null_row in
    h
    ∙ ap (λ v. null ++ (v ++ (section_row_bytes a ++ (section_row_bytes b ++ (section_row_bytes c ++ tables))))) (o ∙ sym (flat_map-map section_row_bytes own_row firsts))
    ∙ ap (λ v. null ++ (flat_map section_row_bytes (map own_row firsts) ++ (section_row_bytes v ++ (section_row_bytes b ++ (section_row_bytes c ++ tables))))) x
    ∙ ap (λ v. null ++ (flat_map section_row_bytes (map own_row firsts) ++ (section_row_bytes (symtab_row object) ++ (section_row_bytes v ++ (section_row_bytes c ++ tables))))) y
    ∙ ap (λ v. null ++ (flat_map section_row_bytes (map own_row firsts) ++ (section_row_bytes (symtab_row object) ++ (section_row_bytes (strtab_row object) ++ (section_row_bytes v ++ tables))))) z
    ∙ ap (λ v. null ++ (flat_map section_row_bytes (map own_row firsts) ++ (section_row_bytes (symtab_row object) ++ (section_row_bytes (strtab_row object) ++ (section_row_bytes (shstrtab_row object) ++ v))))) (t ∙ sym (flat_map-map section_row_bytes (table_row object) lasts))
    ∙ ap (λ v. null ++ v) (sym (flat_map-append section_row_bytes (map own_row firsts) (symtab_row object ∷ strtab_row object ∷ shstrtab_row object ∷ map (table_row object) lasts)))

-- a header by what its name and its part are
row_is : (row : ℕ → ℕ → ℕ → SectionHeader) (names : List (List ℕ)) (name : List ℕ) (before : List (List ℕ)) (part table file bytes : List ℕ) (place offset size : ℕ)
    → table ≡ string_table names → place ≡ place_in (length table) name → file ≡ file_of before → offset ≡ length file → bytes ≡ part → size ≡ length bytes
    → row place offset size ≡ row (name_place names name) (offset_after before) (length part)
row_is row names name before part table file bytes place offset size t p f o b s =
    ap (λ k. row k offset size) (place_is table name names place t p)
    ∙ ap (λ k. row (name_place names name) k size) (o ∙ file_length file before f)
    ∙ ap (λ k. row (name_place names name) (offset_after before) k) (s ∙ ap length b)

symbols_are : (rows strings : List ℕ) (object : Object) (symtab : ℕ) → HoldsSymbols rows strings symtab object.symbols → symtab ≡ symtab_number object → rows ≡ symbols_part object
unfolding symbols_part
symbols_are rows strings object symtab h s = h.rows ∙ ap (λ k. replicate 24 0 ++ flat_map (symbol_part_bytes k) (with_before object.symbols)) s

strings_are : (rows strings : List ℕ) (object : Object) (symtab : ℕ) → HoldsSymbols rows strings symtab object.symbols → strings ≡ symbol_strings object
unfolding symbol_strings
strings_are rows strings object symtab h = h.strings

names_are : (file names rows : List ℕ) (object : Object) → HoldsTables file names rows object (relocated object.sections object.entries) → names ≡ section_strings object
unfolding section_strings
names_are file names rows object h = h.names

two_names : (table : List ℕ) (names : List (List ℕ)) (a b : List ℕ) → table ≡ string_table names → (table ++ string a) ++ string b ≡ string_table (names ++ (a ∷ b ∷ []))
two_names table names a b e =
    name_put (table ++ string a) _ b (names ++ (a ∷ [])) (name_put table _ a names e refl) refl ∙ ap string_table (append_assoc names (a ∷ []) (b ∷ []))

three_names : (table new : List ℕ) (names : List (List ℕ)) (a b c : List ℕ) → table ≡ string_table names → new ≡ ((table ++ string a) ++ string b) ++ string c → new ≡ string_table (names ++ (a ∷ b ∷ c ∷ []))
three_names table new names a b c e n =
    name_put ((table ++ string a) ++ string b) new c (names ++ (a ∷ b ∷ [])) (two_names table names a b e) n ∙ ap string_table (append_assoc names (a ∷ b ∷ []) (c ∷ []))

-- before the relocations
pub tables_none : (file names own rows strings file2 names2 tables : List ℕ) (object : Object) (symtab : ℕ)
    → HoldsSections file names own object.sections → tables ≡ [] → HoldsSymbols rows strings symtab object.symbols → symtab ≡ symtab_number object
    → names2 ≡ ((names ++ string (codes ".symtab")) ++ string (codes ".strtab")) ++ string (codes ".shstrtab") → file2 ≡ file ++ padded rows
    → HoldsTables file2 names2 tables object []
unfolding with_before
tables_none file names own rows strings file2 names2 tables object symtab h t y s n f = record {
  file = part_put file file2 (symbols_part object) (contents object.sections) h.file (f ∙ ap (λ v. file ++ padded v) (symbols_are rows strings object symtab y s))
      ∙ ap file_of (sym (append-nil (parts_before_tables object)));
  names = three_names names names2 (own_names object.sections) (codes ".symtab") (codes ".strtab") (codes ".shstrtab") h.names n ∙ ap string_table (sym (append-nil (names_before_tables object)));
  rows = t;
}

-- What the stages of writing leave, and that it is the image.
pub record Stages (object : Object) (symtab : ℕ) (file names own rows strings file2 names2 last file3 file4 : List ℕ) : Type 0 where
  pub sections : HoldsSections file names own object.sections
  pub symbols : HoldsSymbols rows strings symtab object.symbols
  pub number : symtab ≡ symtab_number object
  pub tables : HoldsTables file2 names2 last object (relocated object.sections object.entries)
  pub third : file3 ≡ file2 ++ padded strings
  pub fourth : file4 ≡ file3 ++ padded names2

third_is : (object : Object) (symtab : ℕ) (file names own rows strings file2 names2 tables file3 file4 : List ℕ) → Stages object symtab file names own rows strings file2 names2 tables file3 file4
    → file3 ≡ file_of (parts_before_names object)
third_is object symtab file names own rows strings file2 names2 tables file3 file4 s =
    part_put file2 file3 (symbol_strings object) (parts_before_strings object) s.tables.file (s.third ∙ ap (λ v. file2 ++ padded v) (strings_are rows strings object symtab s.symbols))

pub fourth_is : (object : Object) (symtab : ℕ) (file names own rows strings file2 names2 tables file3 file4 : List ℕ) → Stages object symtab file names own rows strings file2 names2 tables file3 file4
    → file4 ≡ file_of (parts object)
fourth_is object symtab file names own rows strings file2 names2 tables file3 file4 s =
    part_put file3 file4 (section_strings object) (parts_before_names object) (third_is object symtab file names own rows strings file2 names2 tables file3 file4 s)
    (s.fourth ∙ ap (λ v. file3 ++ padded v) (names_are file2 names2 tables object s.tables))

pub image_is : (object : Object) (symtab : ℕ) (file names own rows strings file2 names2 tables file3 file4 headers whole : List ℕ) (a b c : SectionHeader) (an ao az bn bo bz cn co cz : ℕ)
    → Stages object symtab file names own rows strings file2 names2 tables file3 file4
    → an ≡ place_in (length names) (codes ".symtab") → bn ≡ place_in (length (names ++ string (codes ".symtab"))) (codes ".strtab") → cn ≡ place_in (length ((names ++ string (codes ".symtab")) ++ string (codes ".strtab"))) (codes ".shstrtab")
    → ao ≡ length file → bo ≡ length file2 → co ≡ length file3
    → az ≡ length rows → bz ≡ length strings → cz ≡ length names2
    → a ≡ symtab_row_at object an ao az → b ≡ strings_row bn bo bz → c ≡ strings_row cn co cz
    → headers ≡ section_row_bytes null_row ++ (own ++ (section_row_bytes a ++ (section_row_bytes b ++ (section_row_bytes c ++ tables))))
    → whole ≡ header_bytes (length file4) (length headers / 64) (symtab + 2) ++ (drop 64 file4 ++ headers)
    → whole ≡ image object
image_is object symtab file names own rows strings file2 names2 tables file3 file4 headers whole a b c an ao az bn bo bz cn co cz s pa pb pc oa ob oc za zb zc ra rb rc h w =
    let owns : List (List ℕ) = own_names object.sections in
    let third = third_is object symtab file names own rows strings file2 names2 tables file3 file4 s in
    let fourth = fourth_is object symtab file names own rows strings file2 names2 tables file3 file4 s in
    let isa : a ≡ symtab_row object =
    ra ∙ row_is (symtab_row_at object) owns (codes ".symtab") (contents object.sections) (symbols_part object) names file rows an ao az s.sections.names pa s.sections.file oa (symbols_are rows strings object symtab s.symbols s.number) za in
    let isb : b ≡ strtab_row object =
    rb ∙ row_is strings_row (owns ++ (codes ".symtab" ∷ [])) (codes ".strtab") (parts_before_strings object) (symbol_strings object) (names ++ string (codes ".symtab")) file2 strings bn bo bz
    (name_put names _ (codes ".symtab") owns s.sections.names refl) pb s.tables.file ob (strings_are rows strings object symtab s.symbols) zb in
    let isc : c ≡ shstrtab_row object =
    rc ∙ row_is strings_row (owns ++ (codes ".symtab" ∷ codes ".strtab" ∷ [])) (codes ".shstrtab") (parts_before_names object) (section_strings object) ((names ++ string (codes ".symtab")) ++ string (codes ".strtab")) file3 names2 cn co cz
    (two_names names owns (codes ".symtab") (codes ".strtab") s.sections.names) pc third oc (names_are file2 names2 tables object s.tables) zc in
    whole_is file4 headers whole object symtab fourth (headers_are own tables headers object a b c s.sections.rows s.tables.rows isa isb isc h) s.number w

pub header_put : (file headers mid header new : List ℕ) → mid ≡ file ++ headers → length header ≡ 64 → 64 ≤ length file → new ≡ header ++ drop (length header) mid → new ≡ header ++ (drop 64 file ++ headers)
header_put file headers mid header new m l h n =
    n ∙ ap (λ k. header ++ drop k mid) l ∙ ap (λ v. header ++ drop 64 v) m ∙ ap (λ v. header ++ v) (drop-append-le 64 file headers h)

pub ok_along : {X E : Type 0} {P Q : X → Type 0} (r : Result X E) → ((x : X) → P x → Q x) → IfOk r P → IfOk r Q
ok_along (Ok x) f h = f x h
ok_along (Err e) f h = h

-- a slice that is handed back to its vector
pub write_back : (len : ℕ) (items new : List ℕ) → length new ≡ length items → length items ≡ len → take len (new ++ drop (length new) items) ≡ new
write_back len items new a b =
    ap (λ v. take len (new ++ v)) (drop_all (length new) items (omega (arith, a))) ∙ ap (take len) (append-nil new) ∙ take_all len new (omega (arith, a, b))

pub front_fits : (front file mid headers : List ℕ) (a b c : ℕ) → front ≡ header_bytes a b c → mid ≡ file ++ headers → 64 ≤ length file → length front ≤ length mid
front_fits front file mid headers a b c f m h =
    let x : length front ≡ 64 = ap length f ∙ header_length a b c in
    let y : length mid ≡ length file + length headers = ap length m ∙ length-append file headers in
    omega (arith, x, y, h)
