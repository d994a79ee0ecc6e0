-- What a draft holds, one section, one table or one symbol later.
use Rattle.std.proofs.Common.{◌≡◌, ℕ, ◌+◌, ◌<◌, true, false, not, List, [], ◌∷◌, ◌++◌, length, take, sym, ap, subst, ◌∙◌, refl, append_assoc, append-nil, map, replicate, get_or}
use Rattle.std.specs.Prelude.{◌==◌}
use Rattle.std.specs.List.{flat_map}
use Rattle.std.proofs.lemmas.List.{take_more, map-append}
use Rattle.cell_object.specs.declared.object.Object.{Object}
use Rattle.cell_object.specs.declared.object.Section.{Section}
use Rattle.cell_object.specs.declared.object.Symbol.{Symbol}
use Rattle.cell_object.specs.declared.object.Entry.{Entry}
use Rattle.cell_object.specs.Before.{with_before}
use Rattle.cell_object.specs.Strings.{string, string_table, place_in, name_place}
use Rattle.cell_object.specs.Rows.{section_row_bytes, symbol_bytes, entry_bytes}
use Rattle.cell_object.specs.ImageParts.{padded, offset_after, content, contents, own_names, symtab_number, table, table_name, names_before_tables, parts_before_tables, symbol_part_bytes, entries_for, has_entries, relocated}
use Rattle.cell_object.specs.Image.{own_row, section_row, table_row, rela_row}
use Rattle.cell_elfw.specs.Drafts.{file_of, HoldsSections, HoldsTables, HoldsSymbols}
use Rattle.cell_elfw.proofs.Growth.{part_put, file_length, name_put, row_put, flat_map_push, with_before_push}
use Rattle.cell_elfw.proofs.Grouped.{relocated_more}

pub sections_none : HoldsSections (replicate 64 0) (0 ∷ []) [] []
unfolding with_before string_table
sections_none = record { file = sym (append-nil (replicate 64 0)); names = refl; rows = refl }

section_put : (file names rows file2 names2 rows2 : List ℕ) (sections : List Section) (s : Section) → HoldsSections file names rows sections
    → file2 ≡ file ++ padded (content s) → names2 ≡ names ++ string s.name
    → rows2 ≡ rows ++ section_row_bytes (section_row (place_in (length names) s.name) (length file) s)
    → HoldsSections file2 names2 rows2 (sections ++ (s ∷ []))
section_put file names rows file2 names2 rows2 sections s h f n r = record {
  file = part_put file file2 (content s) (contents sections) h.file f ∙ ap file_of (sym (map-append content sections (s ∷ [])));
  names = name_put names names2 s.name (own_names sections) h.names n ∙ ap string_table (sym (map-append (λ x. x.name) sections (s ∷ [])));
  rows = row_put (λ row. section_row_bytes (own_row row)) rows rows2 sections s h.rows
      (r ∙ ap (λ v. rows ++ section_row_bytes (section_row (place_in (length v) s.name) (length file) s)) h.names
      ∙ ap (λ k. rows ++ section_row_bytes (section_row (name_place (own_names sections) s.name) k s)) (file_length file (contents sections) h.file));
}

pub section_more : (file names rows file2 names2 rows2 : List ℕ) (sections : List Section) (i : ℕ) (d : Section) → i < length sections → HoldsSections file names rows (take i sections)
    → file2 ≡ file ++ padded (content (get_or sections i d)) → names2 ≡ names ++ string (get_or sections i d).name
    → rows2 ≡ rows ++ section_row_bytes (section_row (place_in (length names) (get_or sections i d).name) (length file) (get_or sections i d))
    → HoldsSections file2 names2 rows2 (take (i + 1) sections)
section_more file names rows file2 names2 rows2 sections i d lt h f n r =
    subst (HoldsSections file2 names2 rows2) (sym (take_more sections i d lt)) (section_put file names rows file2 names2 rows2 (take i sections) (get_or sections i d) h f n r)

table_put : (file names rows file2 names2 rows2 part : List ℕ) (object : Object) (before : List (ℕ × Section)) (row : ℕ × Section) (symtab : ℕ) → HoldsTables file names rows object before
    → part ≡ table object.entries row → symtab ≡ symtab_number object
    → file2 ≡ file ++ padded part → names2 ≡ names ++ string (table_name row)
    → rows2 ≡ rows ++ section_row_bytes (rela_row symtab (place_in (length names) (table_name row)) (length file) (length part) row.0)
    → HoldsTables file2 names2 rows2 object (before ++ (row ∷ []))
table_put file names rows file2 names2 rows2 part object before row symtab h p y f n r =
    let parts : List (List ℕ) = parts_before_tables object ++ map (table object.entries) before in
    let texts : List (List ℕ) = names_before_tables object ++ map table_name before in
    record {
      file = part_put file file2 (table object.entries row) parts h.file (f ∙ ap (λ v. file ++ padded v) p)
          ∙ ap file_of (append_assoc (parts_before_tables object) (map (table object.entries) before) (table object.entries row ∷ []))
          ∙ ap (λ v. file_of (parts_before_tables object ++ v)) (sym (map-append (table object.entries) before (row ∷ [])));
      names = name_put names names2 (table_name row) texts h.names n
          ∙ ap string_table (append_assoc (names_before_tables object) (map table_name before) (table_name row ∷ []))
          ∙ ap (λ v. string_table (names_before_tables object ++ v)) (sym (map-append table_name before (row ∷ [])));
      rows = row_put (λ one. section_row_bytes (table_row object one)) rows rows2 before row h.rows
          (r ∙ ap (λ v. rows ++ section_row_bytes (rela_row v (place_in (length names) (table_name row)) (length file) (length part) row.0)) y
          ∙ ap (λ v. rows ++ section_row_bytes (rela_row (symtab_number object) (place_in (length v) (table_name row)) (length file) (length part) row.0)) h.names
          ∙ ap (λ k. rows ++ section_row_bytes (rela_row (symtab_number object) (name_place texts (table_name row)) k (length part) row.0)) (file_length file parts h.file)
          ∙ ap (λ v. rows ++ section_row_bytes (rela_row (symtab_number object) (name_place texts (table_name row)) (offset_after parts) (length v) row.0)) p);
    }

symbol_put : (rows strings rows2 strings2 : List ℕ) (symtab : ℕ) (symbols : List Symbol) (s : Symbol) → HoldsSymbols rows strings symtab symbols
    → rows2 ≡ rows ++ symbol_bytes symtab (place_in (length strings) s.name) s → strings2 ≡ strings ++ string s.name
    → HoldsSymbols rows2 strings2 symtab (symbols ++ (s ∷ []))
symbol_put rows strings rows2 strings2 symtab symbols s h r n = record {
  rows = r
      ∙ ap (λ v. rows ++ symbol_bytes symtab (place_in (length v) s.name) s) h.strings
      ∙ ap (λ v. v ++ symbol_part_bytes symtab (symbols, s)) h.rows
      ∙ append_assoc (replicate 24 0) (flat_map (symbol_part_bytes symtab) (with_before symbols)) (symbol_part_bytes symtab (symbols, s))
      ∙ ap (λ v. replicate 24 0 ++ v) (sym (flat_map_push (symbol_part_bytes symtab) (with_before symbols) (symbols, s)) ∙ ap (flat_map (symbol_part_bytes symtab)) (sym (with_before_push symbols s)));
  strings = name_put strings strings2 s.name (map (λ x. x.name) symbols) h.strings n ∙ ap string_table (sym (map-append (λ x. x.name) symbols (s ∷ [])));
}

pub symbol_more : (rows strings rows2 strings2 : List ℕ) (symtab : ℕ) (symbols : List Symbol) (i : ℕ) (d : Symbol) → i < length symbols → HoldsSymbols rows strings symtab (take i symbols)
    → rows2 ≡ rows ++ symbol_bytes symtab (place_in (length strings) (get_or symbols i d).name) (get_or symbols i d) → strings2 ≡ strings ++ string (get_or symbols i d).name
    → HoldsSymbols rows2 strings2 symtab (take (i + 1) symbols)
symbol_more rows strings rows2 strings2 symtab symbols i d lt h r n =
    subst (HoldsSymbols rows2 strings2 symtab) (sym (take_more symbols i d lt)) (symbol_put rows strings rows2 strings2 symtab (take i symbols) (get_or symbols i d) h r n)

pub symbols_none_at : (rows strings : List ℕ) (symtab : ℕ) → rows ≡ replicate 24 0 → strings ≡ 0 ∷ [] → HoldsSymbols rows strings symtab []
unfolding with_before string_table
symbols_none_at rows strings symtab r e = record { rows = r ∙ sym (append-nil (replicate 24 0)); strings = e }

-- one section later, where it has entries
pub table_more : (file names rows file2 names2 rows2 : List ℕ) (object : Object) (i : ℕ) (s : Section) (symtab : ℕ) (entries : List Entry) → i < length object.sections
    → s ≡ get_or object.sections i s → entries ≡ entries_for object.entries (i + 1) → (length entries == 0) ≡ false
    → HoldsTables file names rows object (relocated (take i object.sections) object.entries) → symtab ≡ symtab_number object
    → file2 ≡ file ++ padded (flat_map entry_bytes entries) → names2 ≡ names ++ string (table_name (i + 1, s))
    → rows2 ≡ rows ++ section_row_bytes (rela_row symtab (place_in (length names) (table_name (i + 1, s))) (length file) (length (flat_map entry_bytes entries)) (i + 1))
    → HoldsTables file2 names2 rows2 object (relocated (take (i + 1) object.sections) object.entries)
table_more file names rows file2 names2 rows2 object i s symtab entries lt is e some h y f n r =
    let has : has_entries object.entries (i + 1) ≡ true = ap (λ v. not (length v == 0)) (sym e) ∙ ap not some in
    let before : List (ℕ × Section) = relocated (take i object.sections) object.entries in
    let now : relocated (take (i + 1) object.sections) object.entries ≡ before ++ ((i + 1, s) ∷ []) =
    relocated_more object.sections object.entries i s true lt has ∙ ap (λ v. before ++ ((i + 1, v) ∷ [])) (sym is) in
    subst (HoldsTables file2 names2 rows2 object) (sym now)
    (table_put file names rows file2 names2 rows2 (flat_map entry_bytes entries) object before (i + 1, s) symtab h (ap (flat_map entry_bytes) e) y f n r)

-- one section later, where it has none
pub table_same : (file names rows : List ℕ) (object : Object) (i : ℕ) (s : Section) (entries : List Entry) → i < length object.sections
    → entries ≡ entries_for object.entries (i + 1) → (length entries == 0) ≡ true
    → HoldsTables file names rows object (relocated (take i object.sections) object.entries)
    → HoldsTables file names rows object (relocated (take (i + 1) object.sections) object.entries)
table_same file names rows object i s entries lt e none h =
    let has : has_entries object.entries (i + 1) ≡ false = ap (λ v. not (length v == 0)) (sym e) ∙ ap not none in
    let before : List (ℕ × Section) = relocated (take i object.sections) object.entries in
    let now : relocated (take (i + 1) object.sections) object.entries ≡ before = relocated_more object.sections object.entries i s false lt has ∙ append-nil before in
    subst (HoldsTables file names rows object) (sym now) h
