-- An image breaks no rule on the ELF header.
use Rattle.std.proofs.Common.{◌≡◌, ℕ, ◌+◌, ◌*◌, ◌<◌, ◌≤◌, Bool, true, false, not, ◌&&◌, ◌||◌, List, [], ◌∷◌, ◌++◌, length, ap, ◌∙◌, refl, arith, if◌then◌else◌}
use Rattle.std.specs.Prelude.{◌==◌, nat_lt, nat_le}
use Rattle.std.specs.List.{flat_map}
use Rattle.std.proofs.lemmas.Bool.{le-leb, lt-ltb, le-ltb, ne_eqb}
use Rattle.cell_object.specs.declared.object.Object.{Object}
use Rattle.cell_object.specs.declared.headers.FileHeader.{FileHeader}
use Rattle.cell_object.specs.declared.headers.SectionHeader.{SectionHeader}
use Rattle.cell_object.specs.Bytes.{broken_where, between}
use Rattle.cell_object.specs.Header.{is_inside, is_section_number, rule_1, rule_2, rule_2_at, rule_3, rule_4, rule_5, rule_6, rule_7, header_rules}
use Rattle.cell_object.specs.Rows.{header_bytes, section_row_bytes}
use Rattle.cell_object.specs.ImageParts.{padded, offset_after, parts, parts_before_names, section_strings, shstrtab_number}
use Rattle.cell_object.specs.Image.{shstrtab_row, section_rows, image}
use Rattle.cell_image.proofs.Headers.{FitsImage, rows_count, read_header, header_of_image, shstrtab_header, rows_inside, part_inside}

-- a rule whose test fails
pub unbroken : (test : Bool) (rule at : ℕ) → test ≡ false → broken_where test rule at ≡ []
unbroken test rule at h = ap (λ v. broken_where v rule at) h

identified : (a b c : ℕ) (ys : List ℕ) → rule_2 (header_bytes a b c ++ ys) ≡ []
unfolding header_bytes between rule_2_at
identified a b c ys = refl

first_rules : (object : Object) (f : FitsImage object) → rule_1 (image object) ≡ []
first_rules object f =
    let in_ = rows_inside object in
    unbroken (nat_lt (length (image object)) 64) 1 (length (image object)) (le-ltb (length (image object)) 64 (omega (arith, in_)))

second_rules : (object : Object) → rule_2 (image object) ≡ []
unfolding image
second_rules object = identified (offset_after (parts object)) (length (section_rows object)) (shstrtab_number object) (flat_map padded (parts object) ++ flat_map section_row_bytes (section_rows object))

-- a number from 1 that a section of the image has
pub is_numbered : (object : Object) (n : ℕ) → FitsImage object → 1 ≤ n → n < length (section_rows object) → is_section_number (image object) n ≡ true
unfolding read_header
is_numbered object n f low high =
    ap (λ h. nat_le 1 n && nat_lt n h.e_shnum) (header_of_image object f)
    ∙ ap (λ v. v && nat_lt n (length (section_rows object))) (le-leb 1 n low)
    ∙ lt-ltb n (length (section_rows object)) high

pub header_rules_hold : (object : Object) → FitsImage object → length (section_rows object) < 65280 → header_rules (image object) ≡ []
unfolding read_header
header_rules_hold object f few =
    let file : List ℕ = image object in
    let n : ℕ = length (section_rows object) in
    let count = rows_count object in
    let h : FileHeader = read_header object in
    let names : SectionHeader = (shstrtab_row object) in
    let third = rows_inside object in
    let size : nat_lt (length file) (offset_after (parts object) + 64 * n) ≡ false = le-ltb (length file) (offset_after (parts object) + 64 * n) third in
    let some : (n == 0) ≡ false = ne_eqb n 0 (λ e. omega (arith, e, count)) in
    let most : nat_lt 65279 n ≡ false = le-ltb 65279 n (omega (arith, few)) in
    let inside : nat_le (offset_after (parts_before_names object) + length (section_strings object)) (length file) ≡ true =
    le-leb (offset_after (parts_before_names object) + length (section_strings object)) (length file) (part_inside object (parts_before_names object) [] (section_strings object) refl) in
    let number : is_section_number file (shstrtab_number object) ≡ true = is_numbered object (shstrtab_number object) f (omega arith) (omega (arith, count)) in
    let last : rule_7 file h ≡ [] =
    ap (λ r. broken_where (not (is_section_number file (shstrtab_number object) && r.sh_type == 3 && is_inside file r)) 7 62) (shstrtab_header object f)
    ∙ ap (λ v. broken_where (not (v && true && is_inside file names)) 7 62) number
    ∙ ap (λ v. broken_where (not v) 7 62) inside in
    let fifth : rule_5 h ≡ [] = λ i. (if (some i || most i) then (5, 60) ∷ [] else []) in
    (λ i. first_rules object f i ++ (second_rules object i ++ (rule_3 (header_of_image object f i) ++ (rule_4 (header_of_image object f i) ++ (rule_5 (header_of_image object f i) ++ (rule_6 file (header_of_image object f i) ++ rule_7 file (header_of_image object f i)))))))
    ∙ (λ i. fifth i ++ (unbroken (nat_lt (length file) (offset_after (parts object) + 64 * n)) 6 40 size i ++ last i))
