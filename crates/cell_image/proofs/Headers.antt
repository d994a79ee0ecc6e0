-- The headers and the parts of an image, read where they stand.
use Rattle.std.proofs.Common.{◌≡◌, ℕ, zero, suc, ◌+◌, ◌*◌, ◌^◌, ◌<◌, ◌≤◌, List, [], ◌∷◌, ◌++◌, length, take, drop, get_or, sym, ap, ◌∙◌, refl, arith, append_assoc, append-nil, length-append, map, slice_range, replicate}
use Rattle.std.proofs.lemmas.Grind.{flat_map-append}
use Rattle.std.specs.List.{flat_map}
use Rattle.std.proofs.lemmas.List.{length-map, get_or-map, get_or_append_left, get_or-append-add, map-append}
use Rattle.cell_object.specs.declared.object.Object.{Object}
use Rattle.cell_object.specs.declared.object.Section.{Section}
use Rattle.cell_object.specs.declared.headers.FileHeader.{FileHeader}
use Rattle.cell_object.specs.Header.{file_header, section_header, section_header_at}
use Rattle.cell_object.specs.Sections.{section_bytes, section_names}
use Rattle.cell_object.specs.declared.headers.SectionHeader.{SectionHeader}
use Rattle.cell_object.specs.Before.{with_before, with_before_from}
use Rattle.cell_object.specs.Rows.{stored, fields, header_bytes, section_row_bytes}
use Rattle.cell_object.specs.ImageParts.{padding, padded, offset_after, contents, content, symtab_number, strtab_number, shstrtab_number, relocated, table, parts_before_tables, parts_before_strings, parts_before_names, parts, symbols_part, symbol_strings, section_strings}
use Rattle.cell_object.specs.Image.{null_row, own_row, symtab_row, strtab_row, shstrtab_row, table_row, section_rows, image_header, image}
use Rattle.cell_image.proofs.Rows.{FitsRow, header_is_read}
use Rattle.cell_image.proofs.Places.{row_at, row_length, even_length, part_is_read, split_at}

-- the numbers of the headers fit
pub record FitsImage (object : Object) : Type 0 where
  pub size : offset_after (parts object) < 256 ^ 8
  pub count : length (section_rows object) < 256 ^ 2
  pub rows : (k : ℕ) → k < length (section_rows object) → FitsRow (get_or (section_rows object) k null_row)

length_from : {X : Type 0} (before xs : List X) → length (with_before_from before xs) ≡ length xs
length_from before [] = refl
length_from before (x ∷ xs) = ap suc (length_from (before ++ (x ∷ [])) xs)

pub length_before : {X : Type 0} (xs : List X) → length (with_before xs) ≡ length xs
unfolding with_before
length_before xs = length_from [] xs

get_from : {X : Type 0} (before xs : List X) (k : ℕ) (d : List X × X) (e : X) → k < length xs → get_or (with_before_from before xs) k d ≡ (before ++ take k xs, get_or xs k e)
get_from before [] k d e lt = absurd (omega (arith, lt))
get_from before (x ∷ xs) zero d e lt = ap (λ v. (v, x)) (sym (append-nil before))
get_from before (x ∷ xs) (suc k) d e lt =
    get_from (before ++ (x ∷ [])) xs k d e (omega (arith, lt)) ∙ ap (λ v. (v, get_or xs k e)) (append_assoc before (x ∷ []) (take k xs))

pub get_before : {X : Type 0} (xs : List X) (k : ℕ) (d : List X × X) (e : X) → k < length xs → get_or (with_before xs) k d ≡ (take k xs, get_or xs k e)
unfolding with_before
get_before xs k d e lt = get_from [] xs k d e lt

abbrev pub tables : Object → List (ℕ × Section)
tables object = relocated object.sections object.entries

-- the headers behind those of the object's sections
abbrev pub last_rows : Object → List SectionHeader
last_rows object = symtab_row object ∷ strtab_row object ∷ shstrtab_row object ∷ map (table_row object) (with_before (tables object))

abbrev pub own_rows : Object → List SectionHeader
own_rows object = map own_row (with_before object.sections)

pub own_count : (object : Object) → length (own_rows object) ≡ length object.sections
own_count object = length-map (with_before object.sections) own_row ∙ length_before object.sections

pub rows_count : (object : Object) → length (section_rows object) ≡ length object.sections + 4 + length (tables object)
rows_count object =
    let own = own_count object in
    let last = length-map (with_before (tables object)) (table_row object) ∙ length_before (tables object) in
    let sum = length-append (own_rows object) (last_rows object) in
    omega (arith, own, last, sum)

pub header_length : (a b c : ℕ) → length (header_bytes a b c) ≡ 64
unfolding header_bytes fields stored
header_length a b c = refl

abbrev pub front : Object → List ℕ
front object = image_header object ++ flat_map padded (parts object)

front_length : (object : Object) → length (front object) ≡ offset_after (parts object)
front_length object =
    length-append (image_header object) (flat_map padded (parts object))
    ∙ ap (λ n. n + length (flat_map padded (parts object))) (header_length (offset_after (parts object)) (length (section_rows object)) (shstrtab_number object))

image_split : (object : Object) → image object ≡ front object ++ flat_map section_row_bytes (section_rows object)
unfolding image
image_split object = sym (append_assoc (image_header object) (flat_map padded (parts object)) (flat_map section_row_bytes (section_rows object)))

unfoldable pub read_header : Object → FileHeader
read_header object = record {
  e_type = 1;
  e_machine = 243;
  e_version = 1;
  e_shoff = offset_after (parts object);
  e_flags = 0;
  e_phnum = 0;
  e_shentsize = 64;
  e_shnum = length (section_rows object);
  e_shstrndx = shstrtab_number object;
}

pub header_of_image : (object : Object) → FitsImage object → file_header (image object) ≡ read_header object
unfolding image read_header
header_of_image object f =
    let n = rows_count object in
    header_is_read (offset_after (parts object)) (length (section_rows object)) (shstrtab_number object) (flat_map padded (parts object) ++ flat_map section_row_bytes (section_rows object)) f.size f.count (omega (arith, n, f.count))

-- the k-th section header
pub header_k : (object : Object) (k : ℕ) → FitsImage object → k < length (section_rows object) → section_header (image object) k ≡ (get_or (section_rows object) k null_row)
unfolding read_header
header_k object k f lt =
    ap (λ h. section_header_at (h.e_shoff + 64 * k) (image object)) (header_of_image object f)
    ∙ ap (λ v. section_header_at (offset_after (parts object) + 64 * k) v) (image_split object)
    ∙ ap (λ n. section_header_at (n + 64 * k) (front object ++ flat_map section_row_bytes (section_rows object))) (sym (front_length object))
    ∙ row_at (front object) (section_rows object) k null_row lt (f.rows k lt)

-- the header of the object's section with a number from 1
pub own_header : (object : Object) (k : ℕ) (d : Section) → FitsImage object → k < length object.sections → section_header (image object) (suc k) ≡ (own_row (take k object.sections, get_or object.sections k d))
own_header object k d f lt =
    let n = rows_count object in
    let own = own_count object in
    header_k object (suc k) f (omega (arith, n, lt))
    ∙ (get_or_append_left (own_rows object) (last_rows object) null_row k (omega (arith, own, lt))
    ∙ get_or-map own_row (with_before object.sections) k ([], d) null_row (omega (arith, lt, length_before object.sections))
    ∙ ap own_row (get_before object.sections k ([], d) d lt))

-- the headers behind them
pub last_header : (object : Object) (j : ℕ) → FitsImage object → length object.sections + 1 + j < length (section_rows object) → section_header (image object) (length object.sections + 1 + j) ≡ (get_or (last_rows object) j null_row)
last_header object j f lt =
    let own = own_count object in
    let e : length object.sections + 1 + j ≡ suc (length (own_rows object) + j) = omega (arith, own) in
    header_k object (length object.sections + 1 + j) f lt
    ∙ ap (λ i. get_or (section_rows object) i null_row) e
    ∙ (get_or-append-add (own_rows object) (last_rows object) j null_row)

pub symtab_header : (object : Object) → FitsImage object → section_header (image object) (symtab_number object) ≡ (symtab_row object)
symtab_header object f =
    let n = rows_count object in
    let e : symtab_number object ≡ length object.sections + 1 + 0 = omega arith in
    ap (section_header (image object)) e ∙ last_header object 0 f (omega (arith, n))

pub strtab_header : (object : Object) → FitsImage object → section_header (image object) (strtab_number object) ≡ (strtab_row object)
strtab_header object f =
    let n = rows_count object in
    let e : strtab_number object ≡ length object.sections + 1 + 1 = omega arith in
    ap (section_header (image object)) e ∙ last_header object 1 f (omega (arith, n))

pub shstrtab_header : (object : Object) → FitsImage object → section_header (image object) (shstrtab_number object) ≡ (shstrtab_row object)
shstrtab_header object f =
    let n = rows_count object in
    let e : shstrtab_number object ≡ length object.sections + 1 + 2 = omega arith in
    ap (section_header (image object)) e ∙ last_header object 2 f (omega (arith, n))

pub table_header : (object : Object) (j : ℕ) (d : ℕ × Section) → FitsImage object → j < length (tables object)
    → section_header (image object) (length object.sections + 4 + j) ≡ (table_row object (take j (tables object), get_or (tables object) j d))
table_header object j d f lt =
    let n = rows_count object in
    let e : length object.sections + 4 + j ≡ length object.sections + 1 + suc (suc (suc j)) = omega arith in
    ap (section_header (image object)) e
    ∙ last_header object (suc (suc (suc j))) f (omega (arith, n, lt))
    ∙ (get_or-map (table_row object) (with_before (tables object)) j ([], d) null_row (omega (arith, lt, length_before (tables object)))
    ∙ ap (table_row object) (get_before (tables object) j ([], d) d lt))

-- a part, where its header says that it stands
pub part_of_image : (object : Object) (before after : List (List ℕ)) (part : List ℕ) → parts object ≡ before ++ (part ∷ after)
    → slice_range (image object) (offset_after before) (offset_after before + length part) ≡ part
unfolding image
part_of_image object before after part e =
    let rows : List ℕ = flat_map section_row_bytes (section_rows object) in
    let head : length (image_header object) ≡ 64 = header_length (offset_after (parts object)) (length (section_rows object)) (shstrtab_number object) in
    ap (λ v. slice_range (image_header object ++ (flat_map padded v ++ rows)) (offset_after before) (offset_after before + length part)) e
    ∙ part_is_read (image_header object) rows before after part head

-- the parts behind the relocations
abbrev pub last_parts : Object → List (List ℕ)
last_parts object = symbol_strings object ∷ section_strings object ∷ []

parts_at_tables : (object : Object) → parts object ≡ parts_before_tables object ++ (map (table object.entries) (tables object) ++ last_parts object)
parts_at_tables object =
    append_assoc (parts_before_strings object) (symbol_strings object ∷ []) (section_strings object ∷ [])
    ∙ append_assoc (parts_before_tables object) (map (table object.entries) (tables object)) (last_parts object)

parts_at_contents : (object : Object) → parts object ≡ contents object.sections ++ (symbols_part object ∷ (map (table object.entries) (tables object) ++ last_parts object))
parts_at_contents object =
    parts_at_tables object ∙ append_assoc (contents object.sections) (symbols_part object ∷ []) (map (table object.entries) (tables object) ++ last_parts object)

pub symtab_split : (object : Object) → parts object ≡ contents object.sections ++ (symbols_part object ∷ (map (table object.entries) (tables object) ++ last_parts object))
symtab_split object = parts_at_contents object

pub strtab_split : (object : Object) → parts object ≡ parts_before_strings object ++ (symbol_strings object ∷ section_strings object ∷ [])
strtab_split object = append_assoc (parts_before_strings object) (symbol_strings object ∷ []) (section_strings object ∷ [])

pub content_split : (object : Object) (k : ℕ) (d : Section) → k < length object.sections
    → parts object ≡ contents (take k object.sections) ++ (content (get_or object.sections k d) ∷ (contents (drop (suc k) object.sections) ++ (symbols_part object ∷ (map (table object.entries) (tables object) ++ last_parts object))))
content_split object k d lt =
    let s : Section = get_or object.sections k d in
    let before : List (List ℕ) = contents (take k object.sections) in
    let after : List (List ℕ) = contents (drop (suc k) object.sections) in
    let later : List (List ℕ) = symbols_part object ∷ (map (table object.entries) (tables object) ++ last_parts object) in
    parts_at_contents object
    ∙ ap (λ v. contents v ++ later) (split_at object.sections k d lt)
    ∙ ap (λ v. v ++ later) (map-append content (take k object.sections) (s ∷ drop (suc k) object.sections))
    ∙ append_assoc before (content s ∷ after) later

pub table_split : (object : Object) (j : ℕ) (d : ℕ × Section) → j < length (tables object)
    → parts object ≡ (parts_before_tables object ++ map (table object.entries) (take j (tables object))) ++ (table object.entries (get_or (tables object) j d) ∷ (map (table object.entries) (drop (suc j) (tables object)) ++ last_parts object))
table_split object j d lt =
    let t : List ℕ = table object.entries (get_or (tables object) j d) in
    let first : List (List ℕ) = map (table object.entries) (take j (tables object)) in
    let after : List (List ℕ) = map (table object.entries) (drop (suc j) (tables object)) in
    parts_at_tables object
    ∙ ap (λ v. parts_before_tables object ++ (map (table object.entries) v ++ last_parts object)) (split_at (tables object) j d lt)
    ∙ ap (λ v. parts_before_tables object ++ (v ++ last_parts object)) (map-append (table object.entries) (take j (tables object)) (get_or (tables object) j d ∷ drop (suc j) (tables object)))
    ∙ ap (λ v. parts_before_tables object ++ v) (append_assoc first (t ∷ after) (last_parts object))
    ∙ sym (append_assoc (parts_before_tables object) first (t ∷ (after ++ last_parts object)))

pub strtab_bytes : (object : Object) → FitsImage object → section_bytes (image object) (section_header (image object) (strtab_number object)) ≡ symbol_strings object
strtab_bytes object f =
    ap (section_bytes (image object)) (strtab_header object f)
    ∙ part_of_image object (parts_before_strings object) (section_strings object ∷ []) (symbol_strings object) (append_assoc (parts_before_strings object) (symbol_strings object ∷ []) (section_strings object ∷ []))

pub names_of_image : (object : Object) → FitsImage object → section_names (image object) ≡ section_strings object
unfolding read_header
names_of_image object f =
    ap (λ h. section_bytes (image object) (section_header (image object) h.e_shstrndx)) (header_of_image object f)
    ∙ ap (section_bytes (image object)) (shstrtab_header object f)
    ∙ part_of_image object (parts_before_names object) [] (section_strings object) refl

pub symtab_bytes : (object : Object) → FitsImage object → section_bytes (image object) (section_header (image object) (symtab_number object)) ≡ symbols_part object
symtab_bytes object f =
    ap (section_bytes (image object)) (symtab_header object f)
    ∙ part_of_image object (contents object.sections) (map (table object.entries) (tables object) ++ last_parts object) (symbols_part object) (parts_at_contents object)

-- the contents of the object's sections
pub content_of_image : (object : Object) (k : ℕ) (d : Section) → k < length object.sections
    → slice_range (image object) (offset_after (contents (take k object.sections))) (offset_after (contents (take k object.sections)) + length (content (get_or object.sections k d))) ≡ content (get_or object.sections k d)
content_of_image object k d lt =
    part_of_image object (contents (take k object.sections)) (contents (drop (suc k) object.sections) ++ (symbols_part object ∷ (map (table object.entries) (tables object) ++ last_parts object))) (content (get_or object.sections k d)) (content_split object k d lt)

-- the bytes of a table of relocations
pub table_of_image : (object : Object) (j : ℕ) (d : ℕ × Section) → j < length (tables object)
    → slice_range (image object) (offset_after (parts_before_tables object ++ map (table object.entries) (take j (tables object)))) (offset_after (parts_before_tables object ++ map (table object.entries) (take j (tables object))) + length (table object.entries (get_or (tables object) j d))) ≡ table object.entries (get_or (tables object) j d)
table_of_image object j d lt =
    part_of_image object (parts_before_tables object ++ map (table object.entries) (take j (tables object))) (map (table object.entries) (drop (suc j) (tables object)) ++ last_parts object) (table object.entries (get_or (tables object) j d)) (table_split object j d lt)

length_file : (object : Object) → length (image object) ≡ offset_after (parts object) + 64 * length (section_rows object)
length_file object =
    ap length (image_split object)
    ∙ length-append (front object) (flat_map section_row_bytes (section_rows object))
    ∙ ap (λ n. n + length (flat_map section_row_bytes (section_rows object))) (front_length object)
    ∙ ap (λ n. offset_after (parts object) + n) (even_length section_row_bytes 64 row_length (section_rows object))

-- the headers are in the file
pub rows_inside : (object : Object) → offset_after (parts object) + 64 * length (section_rows object) ≤ length (image object)
rows_inside object = let e = length_file object in omega (arith, e)

-- a part is in the file
pub part_inside : (object : Object) (before after : List (List ℕ)) (part : List ℕ) → parts object ≡ before ++ (part ∷ after) → offset_after before + length part ≤ length (image object)
unfolding padded
part_inside object before after part e =
    let file = length_file object in
    let whole : length (flat_map padded (parts object)) ≡ length (flat_map padded before) + length (padded part ++ flat_map padded after) =
    ap (λ v. length (flat_map padded v)) e ∙ ap length (flat_map-append padded before (part ∷ after)) ∙ length-append (flat_map padded before) (padded part ++ flat_map padded after) in
    let one = length-append (padded part) (flat_map padded after) in
    let two = length-append part (replicate (padding (length part)) 0) in
    omega (arith, file, whole, one, two)
