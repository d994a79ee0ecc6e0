-- The object's sections, read from its image.
use Rattle.std.proofs.Common.{◌≡◌, ℕ, zero, suc, ◌+◌, ◌-◌, ◌<◌, Bool, true, false, not, true≢false, List, [], ◌∷◌, ◌++◌, length, take, drop, get_or, sym, ap, ◌∙◌, refl, arith, append_assoc, append-nil, map, slice_range, if◌then◌else◌, bit_and}
use Rattle.std.specs.Prelude.{◌==◌, unwrap_or, Some, codes}
use Rattle.std.specs.List.{flat_map}
use Rattle.std.proofs.lemmas.List.{map-append}
use Rattle.cell_object.specs.declared.object.Object.{Object}
use Rattle.cell_object.specs.declared.object.Section.{Section}
use Rattle.cell_object.specs.declared.object.Fill.{Fill}
use Rattle.cell_object.specs.declared.object.Fill.TheVariants.{Prog, Note, Zero}
use Rattle.cell_object.specs.declared.headers.SectionHeader.{SectionHeader}
use Rattle.cell_object.specs.Bytes.{string_at, between}
use Rattle.cell_object.specs.Sections.{section_bytes, section_names, is_alloc, is_nobits, has_flag}
use Rattle.cell_object.specs.Reads.{fill_of, loaded_section, loaded_sections}
use Rattle.cell_object.specs.Strings.{string_table, name_place}
use Rattle.cell_object.specs.ImageParts.{offset_after, contents, content, filled, own_names, names_before_tables, table_name, section_strings}
use Rattle.cell_object.specs.Image.{null_row, section_row, table_row, fill_type, flag, section_rows, image}
use Rattle.cell_object.specs.Before.{with_before}
use Rattle.cell_image.proofs.Places.{split_at}
use Rattle.cell_image.proofs.Texts.{IsPlain, name_is_read}
use Rattle.cell_image.proofs.Headers.{FitsImage, tables, last_rows, rows_count, own_header, last_header, header_of_image, read_header, names_of_image, content_of_image}
use Rattle.cell_image.proofs.Gather.{gather_all, gather_none, gather_two}

pub flags_alloc : (w x : Bool) → not (bit_and (2 + flag w 1 + flag x 4) 2 == 0) ≡ true
flags_alloc true true = refl
flags_alloc true false = refl
flags_alloc false true = refl
flags_alloc false false = refl

flags_write : (w x : Bool) → not (bit_and (2 + flag w 1 + flag x 4) 1 == 0) ≡ w
flags_write true true = refl
flags_write true false = refl
flags_write false true = refl
flags_write false false = refl

pub flags_exec : (w x : Bool) → not (bit_and (2 + flag w 1 + flag x 4) 4 == 0) ≡ x
flags_exec true true = refl
flags_exec true false = refl
flags_exec false true = refl
flags_exec false false = refl

fill_back : (f : Fill) → (if fill_type f == 8 then Zero else if fill_type f == 7 then Note else Prog) ≡ f
fill_back Prog = refl
fill_back Note = refl
fill_back Zero = refl

-- a section that is read as it was
pub record IsPlainSection (number : ℕ) (s : Section) : Type 0 where
  pub is : s.number ≡ number
  pub name : IsPlain s.name
  pub align : (s.align == 0) ≡ false
  pub bytes : s.bytes ≡ filled s.fill s.bytes
  pub size : (fill_type s.fill == 8) ≡ false → length s.bytes ≡ s.size

-- its name
pub own_name : (object : Object) (k : ℕ) (d : Section) → FitsImage object → k < length object.sections → IsPlain (get_or object.sections k d).name
    → string_at (name_place (own_names (take k object.sections)) (get_or object.sections k d).name) (section_names (image object)) ≡ Some (get_or object.sections k d).name
unfolding section_strings
own_name object k d f lt p =
    let s : Section = get_or object.sections k d in
    let before : List (List ℕ) = own_names (take k object.sections) in
    let after : List (List ℕ) = own_names (drop (suc k) object.sections) in
    let more : List (List ℕ) = (codes ".symtab" ∷ codes ".strtab" ∷ codes ".shstrtab" ∷ []) ++ map table_name (tables object) in
    let e : names_before_tables object ++ map table_name (tables object) ≡ before ++ (s.name ∷ (after ++ more)) =
    append_assoc (own_names object.sections) (codes ".symtab" ∷ codes ".strtab" ∷ codes ".shstrtab" ∷ []) (map table_name (tables object))
    ∙ ap (λ v. own_names v ++ more) (split_at object.sections k d lt)
    ∙ ap (λ v. v ++ more) (map-append (λ x. x.name) (take k object.sections) (s ∷ drop (suc k) object.sections))
    ∙ append_assoc before (s.name ∷ after) more in
    ap (string_at (name_place before s.name)) (names_of_image object f)
    ∙ ap (λ v. string_at (name_place before s.name) (string_table v)) e
    ∙ name_is_read before (after ++ more) s.name p

zero_filled : (f : Fill) (bytes : List ℕ) → (fill_type f == 8) ≡ true → filled f bytes ≡ []
zero_filled Prog bytes h = absurd (true≢false (sym h))
zero_filled Note bytes h = absurd (true≢false (sym h))
zero_filled Zero bytes h = refl

-- its bytes, where they stand
own_bytes : (object : Object) (k : ℕ) (d : Section) (number offset : ℕ) (b : Bool) → k < length object.sections → offset ≡ offset_after (contents (take k object.sections)) → IsPlainSection number (get_or object.sections k d)
    → (fill_type (get_or object.sections k d).fill == 8) ≡ b
    → (if b then [] else slice_range (image object) offset (offset + (get_or object.sections k d).size)) ≡ (get_or object.sections k d).bytes
own_bytes object k d number offset true lt o p e = sym (p.bytes ∙ zero_filled (get_or object.sections k d).fill (get_or object.sections k d).bytes e)
own_bytes object k d number offset false lt o p e =
    let s : Section = get_or object.sections k d in
    let same : content s ≡ s.bytes = sym p.bytes in
    ap (λ n. slice_range (image object) n (n + s.size)) o
    ∙ ap (λ n. slice_range (image object) (offset_after (contents (take k object.sections))) (offset_after (contents (take k object.sections)) + n)) (sym (p.size e) ∙ ap length (sym same))
    ∙ content_of_image object k d lt ∙ same

pub section_is_read : (object : Object) (k : ℕ) (d : Section) → FitsImage object → k < length object.sections → IsPlainSection (suc k) (get_or object.sections k d) → loaded_section (image object) (suc k) ≡ get_or object.sections k d ∷ []
unfolding loaded_section
section_is_read object k d f lt p =
    let s : Section = get_or object.sections k d in
    let place : ℕ = name_place (own_names (take k object.sections)) s.name in
    let offset : ℕ = offset_after (contents (take k object.sections)) in
    let file : List ℕ = image object in
    let section : SectionHeader → Section = λ h. record {
      number = suc k;
      name = unwrap_or (string_at h.sh_name (section_names file)) [];
      write = has_flag 1 h;
      exec = has_flag 4 h;
      fill = fill_of h;
      align = if h.sh_addralign == 0 then 1 else h.sh_addralign;
      size = h.sh_size;
      bytes = if is_nobits h then [] else section_bytes file h;
    } in
    let h : SectionHeader = (section_row place offset s) in
    let name : unwrap_or (string_at place (section_names file)) [] ≡ s.name = ap (λ v. unwrap_or v []) (own_name object k d f lt p.name) in
    let same : section h ≡ s = λ i. record {
      number = sym p.is i;
      name = name i;
      write = flags_write s.write s.exec i;
      exec = flags_exec s.write s.exec i;
      fill = fill_back s.fill i;
      align = (if p.align i then 1 else s.align);
      size = s.size;
      bytes = own_bytes object k d (suc k) offset (fill_type s.fill == 8) lt refl p refl i;
    } in
    ap (λ r. if is_alloc r then section r ∷ [] else []) (own_header object k d f lt)
    ∙ ap (λ v. if v then section h ∷ [] else []) (flags_alloc s.write s.exec)
    ∙ ap (λ v. v ∷ []) same

-- what holds of each value of a function, and of the default, holds of each element of a map
pub get_map : {X Y : Type 0} (P : Y → Type 0) (f : X → Y) (e : Y) → ((x : X) → P (f x)) → P e → (xs : List X) (j : ℕ) → P (get_or (map f xs) j e)
get_map P f e h n [] j = n
get_map P f e h n (x ∷ xs) zero = h x
get_map P f e h n (x ∷ xs) (suc j) = get_map P f e h n xs j

pub last_not_alloc : (object : Object) (j : ℕ) → is_alloc ((get_or (last_rows object) j null_row)) ≡ false
last_not_alloc object zero = refl
last_not_alloc object (suc zero) = refl
last_not_alloc object (suc (suc zero)) = refl
last_not_alloc object (suc (suc (suc j))) =
    get_map (λ row. is_alloc (row) ≡ false) (table_row object) null_row (λ x. refl) refl (with_before (tables object)) j

last_is_not_loaded : (object : Object) (j : ℕ) → FitsImage object → length object.sections + 1 + j < length (section_rows object) → loaded_section (image object) (length object.sections + 1 + j) ≡ []
unfolding loaded_section
last_is_not_loaded object j f lt =
    let file : List ℕ = image object in
    let n : ℕ = length object.sections + 1 + j in
    let section : SectionHeader → Section = λ h. record {
      number = n;
      name = unwrap_or (string_at h.sh_name (section_names file)) [];
      write = has_flag 1 h;
      exec = has_flag 4 h;
      fill = fill_of h;
      align = if h.sh_addralign == 0 then 1 else h.sh_addralign;
      size = h.sh_size;
      bytes = if is_nobits h then [] else section_bytes file h;
    } in
    ap (λ r. if is_alloc r then section r ∷ [] else []) (last_header object j f lt)
    ∙ ap (λ v. if v then section ((get_or (last_rows object) j null_row)) ∷ [] else []) (last_not_alloc object j)

pub sections_are_read : (object : Object) (d : Section) → FitsImage object → ((k : ℕ) → k < length object.sections → IsPlainSection (suc k) (get_or object.sections k d)) → loaded_sections (image object) ≡ object.sections
unfolding read_header
sections_are_read object d f plain =
    let file : List ℕ = image object in
    let m : ℕ = length object.sections in
    let n : ℕ = length (section_rows object) in
    let count = rows_count object in
    let one : 1 + m ≡ m + 1 = omega arith in
    ap (λ h. flat_map (loaded_section file) (between 1 h.e_shnum)) (header_of_image object f)
    ∙ gather_two (loaded_section file) 1 (m + 1) n (omega arith) (omega (arith, count))
    ∙ ap (λ v. v ++ flat_map (loaded_section file) (between (m + 1) n)) (gather_all (loaded_section file) object.sections 1 (m + 1) d one
    (λ k lt. let e : 1 + k ≡ suc k = omega arith in ap (loaded_section file) e ∙ section_is_read object k d f lt (plain k lt)))
    ∙ ap (λ v. object.sections ++ v) (gather_none (loaded_section file) (m + 1) n
    (λ i low high. let e : i ≡ m + 1 + (i - (m + 1)) = omega (arith, low) in ap (loaded_section file) e ∙ last_is_not_loaded object (i - (m + 1)) f (omega (arith, low, high))))
    ∙ append-nil object.sections
