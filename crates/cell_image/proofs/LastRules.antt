-- The headers behind those of the object's sections break no rule on sections.
use Rattle.std.proofs.Common.{◌≡◌, ℕ, zero, suc, ◌+◌, ◌-◌, ◌<◌, ◌≤◌, true, false, not, ◌&&◌, ◌||◌, List, [], ◌∷◌, ◌++◌, length, take, get_or, sym, ap, subst, ◌∙◌, refl, arith, map, bit_or}
use Rattle.std.specs.Prelude.{◌==◌, nat_lt, nat_le, is_none, is_some, Some, None, codes}
use Rattle.std.specs.List.{flat_map}
use Rattle.std.proofs.lemmas.Bool.{le-leb}
use Rattle.cell_object.specs.declared.object.Object.{Object}
use Rattle.cell_object.specs.declared.object.Section.{Section}
use Rattle.cell_object.specs.declared.object.Fill.{Fill}
use Rattle.cell_object.specs.declared.object.Fill.TheVariants.{Prog, Note, Zero}
use Rattle.cell_object.specs.declared.headers.SectionHeader.{SectionHeader}
use Rattle.cell_object.specs.Bytes.{string_at, broken_where, between}
use Rattle.cell_object.specs.Header.{section_header, section_place, is_inside}
use Rattle.cell_object.specs.Sections.{section_names, is_alloc, is_rel, is_group, is_symtab, is_alignment, has_flag, is_progbits, is_nobits, is_note, symtab_below, rule_8, rule_9, rule_10, rule_11, rule_12, section_rules, sections_rules}
use Rattle.cell_object.specs.Symbols.{symtab}
use Rattle.cell_object.specs.ImageParts.{contents, table, table_name, parts_before_tables, parts_before_strings, parts_before_names, symtab_number, section_strings, symbol_strings, symbols_part}
use Rattle.cell_object.specs.Image.{symtab_row, strtab_row, shstrtab_row, table_row, fill_type, section_rows, image}
use Rattle.cell_image.proofs.Texts.{IsPlain}
use Rattle.cell_image.proofs.Headers.{FitsImage, tables, last_parts, rows_count, own_header, symtab_header, strtab_header, shstrtab_header, table_header, header_of_image, read_header, part_inside, symtab_split, strtab_split, table_split}
use Rattle.cell_image.proofs.Gather.{gather_none, gather_two, find_none, find_first}
use Rattle.cell_image.proofs.OwnSections.{IsPlainSection}
use Rattle.cell_image.proofs.HeaderRules.{unbroken}
use Rattle.cell_image.proofs.SectionRules.{IsSoundSection, own_rules, and_false}
use Rattle.cell_image.proofs.Tables.{table_is, symtab_name, strtab_name, shstrtab_name, table_name_is}

-- a section that isn't loaded
unloaded_rules : (file : List ℕ) (n : ℕ) (h : SectionHeader) (name : List ℕ) → section_header file n ≡ h → h.sh_offset + h.sh_size ≤ length file → string_at h.sh_name (section_names file) ≡ Some name
    → (is_rel h || is_group h || is_symtab h && is_some (symtab_below file n)) ≡ false → is_alloc h ≡ false → section_rules file n ≡ []
unfolding section_rules
unloaded_rules file n h name e inside named kind alloc =
    let at : ℕ = section_place file n in
    let in_ : nat_le (h.sh_offset + h.sh_size) (length file) ≡ true = le-leb (h.sh_offset + h.sh_size) (length file) inside in
    let eight : rule_8 file at h ≡ [] = unbroken _ 8 (at + 24) (and_false (not (h.sh_type == 0) && not (h.sh_type == 8)) (not (is_inside file h)) (ap not in_)) in
    let nine : rule_9 file at h ≡ [] = ap (λ v. broken_where (is_none v) 9 at) named in
    let ten : rule_10 file n at h ≡ [] = λ i. broken_where (kind i || alloc i && not (is_progbits h || is_nobits h || is_note h)) 10 (at + 4) in
    let eleven : rule_11 at h ≡ [] = λ i. broken_where (alloc i && (not (bit_or h.sh_flags 0x77 == 0x77) || has_flag 1 h && has_flag 4 h)) 11 (at + 8) in
    let twelve : rule_12 at h ≡ [] = λ i. broken_where (alloc i && not (is_alignment h.sh_addralign)) 12 (at + 48) ++ broken_where (alloc i && nat_lt 16777216 h.sh_size) 12 (at + 32) in
    ap (λ r. rule_8 file at r ++ (rule_9 file at r ++ (rule_10 file n at r ++ (rule_11 at r ++ rule_12 at r)))) e
    ∙ (λ i. eight i ++ (nine i ++ (ten i ++ (eleven i ++ twelve i))))

no_symtab : (f : Fill) → (fill_type f == 2) ≡ false
no_symtab Prog = refl
no_symtab Note = refl
no_symtab Zero = refl

-- the object's own sections are no symbol table
own_no_symtab : (object : Object) (d : Section) → FitsImage object → (i : ℕ) → 1 ≤ i → i < symtab_number object → is_symtab (section_header (image object) i) ≡ false
own_no_symtab object d f i low high =
    let e : i ≡ suc (i - 1) = omega (arith, low) in
    ap (λ k. is_symtab (section_header (image object) k)) e
    ∙ ap is_symtab (own_header object (i - 1) d f (omega (arith, low, high)))
    ∙ no_symtab (get_or object.sections (i - 1) d).fill

none_below : (object : Object) (d : Section) → FitsImage object → symtab_below (image object) (symtab_number object) ≡ None
unfolding symtab_below
none_below object d f = find_none (λ i. is_symtab (section_header (image object) i)) 1 (symtab_number object) (own_no_symtab object d f)

-- the symbol table is the one that was written
pub symtab_is : (object : Object) (d : Section) → FitsImage object → symtab (image object) ≡ Some (symtab_number object)
unfolding symtab_below read_header
symtab_is object d f =
    let n : ℕ = length (section_rows object) in
    let count = rows_count object in
    ap (λ h. symtab_below (image object) h.e_shnum) (header_of_image object f)
    ∙ find_first (λ i. is_symtab (section_header (image object) i)) 1 (symtab_number object) n (omega arith) (omega (arith, count)) (own_no_symtab object d f)
    (ap is_symtab (symtab_header object f))

symtab_rules_hold : (object : Object) (d : Section) → FitsImage object → section_rules (image object) (symtab_number object) ≡ []
symtab_rules_hold object d f =
    unloaded_rules (image object) (symtab_number object) ((symtab_row object)) (codes ".symtab") (symtab_header object f)
    (part_inside object (contents object.sections) (map (table object.entries) (tables object) ++ last_parts object) (symbols_part object) (symtab_split object))
    (symtab_name object f) (ap is_some (none_below object d f)) refl

strtab_rules_hold : (object : Object) → FitsImage object → section_rules (image object) (length object.sections + 2) ≡ []
strtab_rules_hold object f =
    unloaded_rules (image object) (length object.sections + 2) ((strtab_row object)) (codes ".strtab") (strtab_header object f)
    (part_inside object (parts_before_strings object) (section_strings object ∷ []) (symbol_strings object) (strtab_split object))
    (strtab_name object f) refl refl

shstrtab_rules_hold : (object : Object) → FitsImage object → section_rules (image object) (length object.sections + 3) ≡ []
shstrtab_rules_hold object f =
    unloaded_rules (image object) (length object.sections + 3) ((shstrtab_row object)) (codes ".shstrtab") (shstrtab_header object f)
    (part_inside object (parts_before_names object) [] (section_strings object) refl)
    (shstrtab_name object f) refl refl

table_rules_hold : (object : Object) (j : ℕ) (d : Section) → FitsImage object → j < length (tables object) → IsPlain (get_or (tables object) j (0, d)).1.name → section_rules (image object) (length object.sections + 4 + j) ≡ []
table_rules_hold object j d f lt plain =
    let row : ℕ × Section = get_or (tables object) j (0, d) in
    unloaded_rules (image object) (length object.sections + 4 + j) ((table_row object (take j (tables object), row))) (table_name row) (table_header object j (0, d) f lt)
    (part_inside object (parts_before_tables object ++ map (table object.entries) (take j (tables object))) _ (table object.entries row) (table_split object j (0, d) lt))
    (table_name_is object j (0, d) f lt plain) refl refl

-- each header behind them
last_rules_hold : (object : Object) (j : ℕ) (d : Section) → FitsImage object → ((k : ℕ) → k < length (tables object) → IsPlain (get_or (tables object) k (0, d)).1.name) → length object.sections + 1 + j < length (section_rows object)
    → section_rules (image object) (length object.sections + 1 + j) ≡ []
last_rules_hold object zero d f plain lt = let e : length object.sections + 1 + 0 ≡ symtab_number object = omega arith in ap (section_rules (image object)) e ∙ symtab_rules_hold object d f
last_rules_hold object (suc zero) d f plain lt = let e : length object.sections + 1 + 1 ≡ length object.sections + 2 = omega arith in ap (section_rules (image object)) e ∙ strtab_rules_hold object f
last_rules_hold object (suc (suc zero)) d f plain lt = let e : length object.sections + 1 + 2 ≡ length object.sections + 3 = omega arith in ap (section_rules (image object)) e ∙ shstrtab_rules_hold object f
last_rules_hold object (suc (suc (suc j))) d f plain lt =
    let e : length object.sections + 1 + suc (suc (suc j)) ≡ length object.sections + 4 + j = omega arith in
    let here : j < length (tables object) = omega (arith, lt, rows_count object) in
    ap (section_rules (image object)) e ∙ table_rules_hold object j d f here (plain j here)

pub sections_rules_hold : (object : Object) (d : Section) → FitsImage object → ((k : ℕ) → k < length object.sections → IsPlainSection (suc k) (get_or object.sections k d)) → ((k : ℕ) → k < length object.sections → IsSoundSection (get_or object.sections k d))
    → sections_rules (image object) ≡ []
unfolding read_header
sections_rules_hold object d f plain sound =
    let file : List ℕ = image object in
    let m : ℕ = length object.sections in
    let n : ℕ = length (section_rows object) in
    let count = rows_count object in
    let names : (j : ℕ) → j < length (tables object) → IsPlain (get_or (tables object) j (0, d)).1.name = λ j lt.
    let t = table_is object.sections object.entries j d lt in
    subst (λ v. IsPlain v.1.name) (sym t.is) (plain t.place t.inside).name in
    ap (λ h. flat_map (section_rules file) (between 1 h.e_shnum)) (header_of_image object f)
    ∙ gather_two (section_rules file) 1 (m + 1) n (omega arith) (omega (arith, count))
    ∙ ap (λ v. v ++ flat_map (section_rules file) (between (m + 1) n)) (gather_none (section_rules file) 1 (m + 1)
    (λ i low high. let e : i ≡ suc (i - 1) = omega (arith, low) in let lt : i - 1 < m = omega (arith, low, high) in ap (section_rules file) e ∙ own_rules object (i - 1) d f lt (plain (i - 1) lt) (sound (i - 1) lt)))
    ∙ gather_none (section_rules file) (m + 1) n
    (λ i low high. let e : i ≡ m + 1 + (i - (m + 1)) = omega (arith, low) in ap (section_rules file) e ∙ last_rules_hold object (i - (m + 1)) d f names (omega (arith, low, high)))
