-- The numbers of an image's headers fit their fields.
use Rattle.std.proofs.Common.{◌≡◌, ℕ, zero, suc, ◌+◌, ◌-◌, ◌^◌, ◌<◌, ◌≤◌, Bool, true, false, List, [], ◌∷◌, ◌++◌, length, take, drop, get_or, sym, ap, subst, ◌∙◌, refl, arith, append_assoc, length-append, map, lit<, inl, inr, replicate}
use Rattle.std.specs.Prelude.{codes}
use Rattle.std.specs.List.{flat_map}
use Rattle.std.proofs.lemmas.Bool.{cases_lt}
use Rattle.std.proofs.lemmas.List.{map-append, get_or_append_left, get_or-append-add, get_or-map}
use Rattle.std.proofs.lemmas.Grind.{flat_map-append}
use Rattle.cell_object.specs.declared.object.Object.{Object}
use Rattle.cell_object.specs.declared.object.Section.{Section}
use Rattle.cell_object.specs.declared.object.Fill.{Fill}
use Rattle.cell_object.specs.declared.object.Fill.TheVariants.{Prog, Note, Zero}
use Rattle.cell_object.specs.Before.{with_before}
use Rattle.cell_object.specs.Strings.{string, string_table, name_place}
use Rattle.cell_object.specs.ImageParts.{padding, padded, offset_after, contents, content, own_names, names_before_tables, table_name, table, parts, parts_before_tables, parts_before_strings, parts_before_names, symbols_part, symbol_strings, section_strings}
use Rattle.cell_object.specs.Image.{null_row, own_row, fill_type, flag, symtab_row, strtab_row, shstrtab_row, table_row, section_rows, local_count}
use Rattle.cell_image.proofs.Rows.{FitsRow}
use Rattle.cell_image.proofs.Places.{split_at}
use Rattle.cell_image.proofs.Headers.{FitsImage, tables, own_rows, last_rows, own_count, rows_count, symtab_split, strtab_split, content_split, table_split, get_before, length_before}
use Rattle.cell_image.proofs.Tables.{table_is}

-- a name stands in its table
pub name_inside : (before after : List (List ℕ)) (name : List ℕ) → name_place before name < length (string_table (before ++ (name ∷ after)))
unfolding string_table
name_inside before after [] = omega arith
name_inside before after (b ∷ bs) =
    let name : List ℕ = b ∷ bs in
    let whole : length (flat_map string (before ++ (name ∷ after))) ≡ length (flat_map string before) + length (string name ++ flat_map string after) =
    ap length (flat_map-append string before (name ∷ after)) ∙ length-append (flat_map string before) (string name ++ flat_map string after) in
    let one = length-append (string name) (flat_map string after) in
    let two = length-append name (0 ∷ []) in
    omega (arith, whole, one, two)

-- a part stands before the headers
part_below : (before after all : List (List ℕ)) (part : List ℕ) → all ≡ before ++ (part ∷ after) → offset_after before + length part ≤ offset_after all
unfolding padded
part_below before after all part e =
    let whole : length (flat_map padded all) ≡ length (flat_map padded before) + length (padded part ++ flat_map padded after) =
    ap (λ v. length (flat_map padded v)) e ∙ ap length (flat_map-append padded before (part ∷ after)) ∙ length-append (flat_map padded before) (padded part ++ flat_map padded after) in
    let one = length-append (padded part) (flat_map padded after) in
    let two = length-append part (replicate (padding (length part)) 0) in
    omega (arith, whole, one, two)

kind_fits : (f : Fill) → fill_type f < 256 ^ 4
kind_fits Prog = lit< tt
kind_fits Note = lit< tt
kind_fits Zero = lit< tt

flags_fit : (w x : Bool) → 2 + flag w 1 + flag x 4 < 256 ^ 8
flags_fit true true = lit< tt
flags_fit true false = lit< tt
flags_fit false true = lit< tt
flags_fit false false = lit< tt

-- what is asked of the sizes
pub record IsSmall (object : Object) (d : Section) : Type 0 where
  pub headers : length (section_rows object) < 65280
  pub locals : local_count object + 1 < 256 ^ 4
  pub names : length (section_strings object) < 256 ^ 4
  pub size : offset_after (parts object) < 256 ^ 8
  pub sections : (k : ℕ) → k < length object.sections → ((get_or object.sections k d).size ≤ 16777216) × ((get_or object.sections k d).align ≤ 4096)

-- a name among those of the sections
name_fits : (object : Object) (d : Section) (before after : List (List ℕ)) (name : List ℕ) → IsSmall object d → names_before_tables object ++ map table_name (tables object) ≡ before ++ (name ∷ after) → name_place before name < 256 ^ 4
unfolding section_strings
name_fits object d before after name h e =
    let inside = name_inside before after name in
    let all : length (section_strings object) ≡ length (string_table (before ++ (name ∷ after))) = ap (λ v. length (string_table v)) e in
    omega (arith, inside, all, h.names)

own_fits : (object : Object) (d : Section) (k : ℕ) → IsSmall object d → k < length object.sections → FitsRow (own_row (take k object.sections, get_or object.sections k d))
own_fits object d k h lt =
    let s : Section = get_or object.sections k d in
    let before : List (List ℕ) = own_names (take k object.sections) in
    let after : List (List ℕ) = own_names (drop (suc k) object.sections) in
    let more : List (List ℕ) = (codes ".symtab" ∷ codes ".strtab" ∷ codes ".shstrtab" ∷ []) ++ map table_name (tables object) in
    let e : names_before_tables object ++ map table_name (tables object) ≡ before ++ (s.name ∷ (after ++ more)) =
    append_assoc (own_names object.sections) (codes ".symtab" ∷ codes ".strtab" ∷ codes ".shstrtab" ∷ []) (map table_name (tables object))
    ∙ ap (λ v. own_names v ++ more) (split_at object.sections k d lt)
    ∙ ap (λ v. v ++ more) (map-append (λ x. x.name) (take k object.sections) (s ∷ drop (suc k) object.sections))
    ∙ append_assoc before (s.name ∷ after) more in
    let below = part_below (contents (take k object.sections)) _ (parts object) (content s) (content_split object k d lt) in
    let few = h.sections k lt in
    record {
      name = name_fits object d before (after ++ more) s.name h e;
      kind = kind_fits s.fill;
      flags = flags_fit s.write s.exec;
      offset = omega (arith, below, h.size);
      size = omega (arith, few.0);
      link = lit< tt;
      info = lit< tt;
      align = omega (arith, few.1);
      entry = lit< tt;
    }

symtab_fits : (object : Object) (d : Section) → IsSmall object d → FitsRow (symtab_row object)
symtab_fits object d h =
    let below = part_below (contents object.sections) _ (parts object) (symbols_part object) (symtab_split object) in
    let count = rows_count object in
    record {
      name = name_fits object d (own_names object.sections) (codes ".strtab" ∷ codes ".shstrtab" ∷ map table_name (tables object)) (codes ".symtab") h
          (append_assoc (own_names object.sections) (codes ".symtab" ∷ codes ".strtab" ∷ codes ".shstrtab" ∷ []) (map table_name (tables object)));
      kind = lit< tt;
      flags = lit< tt;
      offset = omega (arith, below, h.size);
      size = omega (arith, below, h.size);
      link = omega (arith, count, h.headers);
      info = h.locals;
      align = lit< tt;
      entry = lit< tt;
    }

strtab_fits : (object : Object) (d : Section) → IsSmall object d → FitsRow (strtab_row object)
strtab_fits object d h =
    let below = part_below (parts_before_strings object) _ (parts object) (symbol_strings object) (strtab_split object) in
    record {
      name = name_fits object d (own_names object.sections ++ (codes ".symtab" ∷ [])) (codes ".shstrtab" ∷ map table_name (tables object)) (codes ".strtab") h
          (append_assoc (own_names object.sections) (codes ".symtab" ∷ codes ".strtab" ∷ codes ".shstrtab" ∷ []) (map table_name (tables object))
          ∙ sym (append_assoc (own_names object.sections) (codes ".symtab" ∷ []) (codes ".strtab" ∷ codes ".shstrtab" ∷ map table_name (tables object))));
      kind = lit< tt;
      flags = lit< tt;
      offset = omega (arith, below, h.size);
      size = omega (arith, below, h.size);
      link = lit< tt;
      info = lit< tt;
      align = lit< tt;
      entry = lit< tt;
    }

shstrtab_fits : (object : Object) (d : Section) → IsSmall object d → FitsRow (shstrtab_row object)
shstrtab_fits object d h =
    let below = part_below (parts_before_names object) [] (parts object) (section_strings object) refl in
    record {
      name = name_fits object d (own_names object.sections ++ (codes ".symtab" ∷ codes ".strtab" ∷ [])) (map table_name (tables object)) (codes ".shstrtab") h
          (append_assoc (own_names object.sections) (codes ".symtab" ∷ codes ".strtab" ∷ codes ".shstrtab" ∷ []) (map table_name (tables object))
          ∙ sym (append_assoc (own_names object.sections) (codes ".symtab" ∷ codes ".strtab" ∷ []) (codes ".shstrtab" ∷ map table_name (tables object))));
      kind = lit< tt;
      flags = lit< tt;
      offset = omega (arith, below, h.size);
      size = omega (arith, below, h.size);
      link = lit< tt;
      info = lit< tt;
      align = lit< tt;
      entry = lit< tt;
    }

table_fits : (object : Object) (d : Section) (j : ℕ) → IsSmall object d → j < length (tables object) → FitsRow (table_row object (take j (tables object), get_or (tables object) j (0, d)))
table_fits object d j h lt =
    let row : ℕ × Section = get_or (tables object) j (0, d) in
    let before : List (List ℕ) = map table_name (take j (tables object)) in
    let after : List (List ℕ) = map table_name (drop (suc j) (tables object)) in
    let below = part_below (parts_before_tables object ++ map (table object.entries) (take j (tables object))) _ (parts object) (table object.entries row) (table_split object j (0, d) lt) in
    let count = rows_count object in
    let t = table_is object.sections object.entries j d lt in
    let number : row.0 ≡ 1 + t.place = ap (λ v. v.0) t.is in
    record {
      name = name_fits object d (names_before_tables object ++ before) after (table_name row) h
          (ap (λ v. names_before_tables object ++ map table_name v) (split_at (tables object) j (0, d) lt)
          ∙ ap (λ v. names_before_tables object ++ v) (map-append table_name (take j (tables object)) (row ∷ drop (suc j) (tables object)))
          ∙ sym (append_assoc (names_before_tables object) before (table_name row ∷ after)));
      kind = lit< tt;
      flags = lit< tt;
      offset = omega (arith, below, h.size);
      size = omega (arith, below, h.size);
      link = omega (arith, count, h.headers);
      info = omega (arith, number, t.inside, count, h.headers);
      align = lit< tt;
      entry = lit< tt;
    }

null_fits : FitsRow null_row
null_fits = record {
  name = lit< tt;
  kind = lit< tt;
  flags = lit< tt;
  offset = lit< tt;
  size = lit< tt;
  link = lit< tt;
  info = lit< tt;
  align = lit< tt;
  entry = lit< tt;
}

last_fits : (object : Object) (d : Section) (j : ℕ) → IsSmall object d → j < length (tables object) + 3 → FitsRow (get_or (last_rows object) j null_row)
last_fits object d zero h lt = symtab_fits object d h
last_fits object d (suc zero) h lt = strtab_fits object d h
last_fits object d (suc (suc zero)) h lt = shstrtab_fits object d h
last_fits object d (suc (suc (suc j))) h lt =
    let here : j < length (tables object) = omega (arith, lt) in
    let e : get_or (map (table_row object) (with_before (tables object))) j null_row ≡ table_row object (take j (tables object), get_or (tables object) j (0, d)) =
    get_or-map (table_row object) (with_before (tables object)) j ([], (0, d)) null_row (omega (arith, here, length_before (tables object))) ∙ ap (table_row object) (get_before (tables object) j ([], (0, d)) (0, d) here) in
    subst FitsRow (sym e) (table_fits object d j h here)

row_fits : (object : Object) (d : Section) (k : ℕ) → IsSmall object d → k < length (section_rows object) → FitsRow (get_or (section_rows object) k null_row)
row_fits object d zero h lt = null_fits
row_fits object d (suc k) h lt =
    let own = own_count object in
    let count = rows_count object in
    elim (cases_lt k (length object.sections)) [
      | inl low ↦
          let e : get_or (own_rows object ++ last_rows object) k null_row ≡ own_row (take k object.sections, get_or object.sections k d) =
          get_or_append_left (own_rows object) (last_rows object) null_row k (omega (arith, own, low))
          ∙ get_or-map own_row (with_before object.sections) k ([], d) null_row (omega (arith, low, length_before object.sections))
          ∙ ap own_row (get_before object.sections k ([], d) d low) in
          subst FitsRow (sym e) (own_fits object d k h low)
      | inr high ↦
          let j : ℕ = k - length object.sections in
          let n : k ≡ length (own_rows object) + j = omega (arith, own, high) in
          let e : get_or (own_rows object ++ last_rows object) k null_row ≡ get_or (last_rows object) j null_row =
          ap (λ i. get_or (own_rows object ++ last_rows object) i null_row) n ∙ get_or-append-add (own_rows object) (last_rows object) j null_row in
          subst FitsRow (sym e) (last_fits object d j h (omega (arith, n, own, lt, count)))
    ]

pub image_fits : (object : Object) (d : Section) → IsSmall object d → FitsImage object
image_fits object d h = record { size = h.size; count = omega (arith, h.headers); rows = λ k lt. row_fits object d k h lt }
