-- The sections that have entries, and the names of the headers behind the object's sections.
use Rattle.std.proofs.Common.{◌≡◌, ℕ, zero, suc, ◌+◌, ◌<◌, ◌≤◌, Bool, true, false, cond, List, [], ◌∷◌, ◌++◌, length, take, drop, get_or, sym, ap, ◌∙◌, refl, arith, append_assoc, map, filter}
use Rattle.std.specs.Prelude.{Some, codes}
use Rattle.std.proofs.lemmas.List.{map-append}
use Rattle.cell_num.specs.Lists.{numbered_from}
use Rattle.cell_object.specs.declared.object.Object.{Object}
use Rattle.cell_object.specs.declared.object.Section.{Section}
use Rattle.cell_object.specs.declared.object.Entry.{Entry}
use Rattle.cell_object.specs.Bytes.{string_at}
use Rattle.cell_object.specs.Sections.{section_names}
use Rattle.cell_object.specs.Strings.{string_table, name_place}
use Rattle.cell_object.specs.ImageParts.{own_names, names_before_tables, table_name, section_strings, has_entries, relocated}
use Rattle.cell_object.specs.Image.{image}
use Rattle.cell_image.proofs.Places.{split_at}
use Rattle.cell_image.proofs.Texts.{IsPlain, name_is_read}
use Rattle.cell_image.proofs.Headers.{FitsImage, tables, names_of_image}

-- an element of a list that passes a test
pub record Passed {X : Type 0} (p : X → Bool) (xs : List X) (d y : X) : Type 0 where
  pub place : ℕ
  pub inside : place < length xs
  pub is : y ≡ get_or xs place d
  pub test : p (get_or xs place d) ≡ true

later : {X : Type 0} (p : X → Bool) (x : X) (xs : List X) (d y : X) → Passed p xs d y → Passed p (x ∷ xs) d y
later p x xs d y h = record { place = suc h.place; inside = omega (arith, h.inside); is = h.is; test = h.test }

filter_step : {X : Type 0} (p : X → Bool) (x : X) (xs : List X) (b : Bool) (j : ℕ) (d : X) → p x ≡ b → j < length (cond b (x ∷ filter p xs) (filter p xs)) → ((i : ℕ) → i < length (filter p xs) → Passed p xs d (get_or (filter p xs) i d))
    → Passed p (x ∷ xs) d (get_or (cond b (x ∷ filter p xs) (filter p xs)) j d)
filter_step p x xs true zero d e lt ih = record { place = 0; inside = omega arith; is = refl; test = e }
filter_step p x xs true (suc j) d e lt ih = later p x xs d (get_or (filter p xs) j d) (ih j (omega (arith, lt)))
filter_step p x xs false j d e lt ih = later p x xs d (get_or (filter p xs) j d) (ih j lt)

pub filter_get : {X : Type 0} (p : X → Bool) (xs : List X) (j : ℕ) (d : X) → j < length (filter p xs) → Passed p xs d (get_or (filter p xs) j d)
filter_get p [] j d lt = absurd (omega (arith, lt))
filter_get p (x ∷ xs) j d lt = filter_step p x xs (p x) j d refl lt (λ i h. filter_get p xs i d h)

pub numbered_get : {X : Type 0} (a : ℕ) (xs : List X) (k : ℕ) (d : ℕ × X) (e : X) → k < length xs → get_or (numbered_from a xs) k d ≡ (a + k, get_or xs k e)
numbered_get a [] k d e lt = absurd (omega (arith, lt))
numbered_get a (x ∷ xs) zero d e lt = let n : a ≡ a + 0 = omega arith in ap (λ v. (v, x)) n
numbered_get a (x ∷ xs) (suc k) d e lt =
    let n : suc a + k ≡ a + suc k = omega arith in
    numbered_get (suc a) xs k d e (omega (arith, lt)) ∙ ap (λ v. (v, get_or xs k e)) n

pub numbered_length : {X : Type 0} (a : ℕ) (xs : List X) → length (numbered_from a xs) ≡ length xs
numbered_length a [] = refl
numbered_length a (x ∷ xs) = ap suc (numbered_length (suc a) xs)

-- the section that a table is for
pub record IsTable (sections : List Section) (entries : List Entry) (d : Section) (row : ℕ × Section) : Type 0 where
  pub place : ℕ
  pub inside : place < length sections
  pub is : row ≡ (1 + place, get_or sections place d)
  pub some : has_entries entries (1 + place) ≡ true

pub table_is : (sections : List Section) (entries : List Entry) (j : ℕ) (d : Section) → j < length (relocated sections entries) → IsTable sections entries d (get_or (relocated sections entries) j (0, d))
unfolding relocated
table_is sections entries j d lt =
    let h = filter_get (λ row. has_entries entries row.0) (numbered_from 1 sections) j (0, d) lt in
    let inside : h.place < length sections = omega (arith, h.inside, numbered_length 1 sections) in
    let e = numbered_get 1 sections h.place (0, d) d inside in
    record { place = h.place; inside = inside; is = h.is ∙ e; some = sym (ap (λ row. has_entries entries row.0) e) ∙ h.test }

-- the names in their order, as far as the three tables
names_split : (object : Object) (before after : List (List ℕ)) (name : List ℕ) → FitsImage object → names_before_tables object ++ map table_name (tables object) ≡ before ++ (name ∷ after) → IsPlain name
    → string_at (name_place before name) (section_names (image object)) ≡ Some name
unfolding section_strings
names_split object before after name f e p =
    ap (string_at (name_place before name)) (names_of_image object f)
    ∙ ap (λ v. string_at (name_place before name) (string_table v)) e
    ∙ name_is_read before after name p

pub symtab_name : (object : Object) → FitsImage object → string_at (name_place (own_names object.sections) (codes ".symtab")) (section_names (image object)) ≡ Some (codes ".symtab")
symtab_name object f =
    names_split object (own_names object.sections) (codes ".strtab" ∷ codes ".shstrtab" ∷ map table_name (tables object)) (codes ".symtab") f
    (append_assoc (own_names object.sections) (codes ".symtab" ∷ codes ".strtab" ∷ codes ".shstrtab" ∷ []) (map table_name (tables object))) refl

pub strtab_name : (object : Object) → FitsImage object → string_at (name_place (own_names object.sections ++ (codes ".symtab" ∷ [])) (codes ".strtab")) (section_names (image object)) ≡ Some (codes ".strtab")
strtab_name object f =
    names_split object (own_names object.sections ++ (codes ".symtab" ∷ [])) (codes ".shstrtab" ∷ map table_name (tables object)) (codes ".strtab") f
    (append_assoc (own_names object.sections) (codes ".symtab" ∷ codes ".strtab" ∷ codes ".shstrtab" ∷ []) (map table_name (tables object))
    ∙ sym (append_assoc (own_names object.sections) (codes ".symtab" ∷ []) (codes ".strtab" ∷ codes ".shstrtab" ∷ map table_name (tables object)))) refl

pub shstrtab_name : (object : Object) → FitsImage object → string_at (name_place (own_names object.sections ++ (codes ".symtab" ∷ codes ".strtab" ∷ [])) (codes ".shstrtab")) (section_names (image object)) ≡ Some (codes ".shstrtab")
shstrtab_name object f =
    names_split object (own_names object.sections ++ (codes ".symtab" ∷ codes ".strtab" ∷ [])) (map table_name (tables object)) (codes ".shstrtab") f
    (append_assoc (own_names object.sections) (codes ".symtab" ∷ codes ".strtab" ∷ codes ".shstrtab" ∷ []) (map table_name (tables object))
    ∙ sym (append_assoc (own_names object.sections) (codes ".symtab" ∷ codes ".strtab" ∷ []) (codes ".shstrtab" ∷ map table_name (tables object)))) refl

pub table_name_is : (object : Object) (j : ℕ) (d : ℕ × Section) → FitsImage object → j < length (tables object) → IsPlain (get_or (tables object) j d).1.name
    → string_at (name_place (names_before_tables object ++ map table_name (take j (tables object))) (table_name (get_or (tables object) j d))) (section_names (image object)) ≡ Some (table_name (get_or (tables object) j d))
table_name_is object j d f lt p =
    let row : ℕ × Section = get_or (tables object) j d in
    let before : List (List ℕ) = map table_name (take j (tables object)) in
    let after : List (List ℕ) = map table_name (drop (suc j) (tables object)) in
    names_split object (names_before_tables object ++ before) after (table_name row) f
    (ap (λ v. names_before_tables object ++ map table_name v) (split_at (tables object) j d lt)
    ∙ ap (λ v. names_before_tables object ++ v) (map-append table_name (take j (tables object)) (row ∷ drop (suc j) (tables object)))
    ∙ sym (append_assoc (names_before_tables object) before (table_name row ∷ after))) p

-- the numbers of the sections that have entries rise
low_all : (p : ℕ × Section → Bool) (a : ℕ) (xs : List Section) (j : ℕ) (d : Section) → j < length (filter p (numbered_from a xs)) → a ≤ (get_or (filter p (numbered_from a xs)) j (0, d)).0
low_all p a xs j d lt =
    let h = filter_get p (numbered_from a xs) j (0, d) lt in
    let e = h.is ∙ numbered_get a xs h.place (0, d) d (omega (arith, h.inside, numbered_length a xs)) in
    let n : (get_or (filter p (numbered_from a xs)) j (0, d)).0 ≡ a + h.place = ap (λ v. v.0) e in
    omega (arith, n)

rise_step : (p : ℕ × Section → Bool) (a : ℕ) (x : Section) (xs : List Section) (b : Bool) (i j : ℕ) (d : Section)
    → ((k l : ℕ) → k < l → l < length (filter p (numbered_from (suc a) xs)) → (get_or (filter p (numbered_from (suc a) xs)) k (0, d)).0 < (get_or (filter p (numbered_from (suc a) xs)) l (0, d)).0)
    → i < j → j < length (cond b ((a, x) ∷ filter p (numbered_from (suc a) xs)) (filter p (numbered_from (suc a) xs)))
    → (get_or (cond b ((a, x) ∷ filter p (numbered_from (suc a) xs)) (filter p (numbered_from (suc a) xs))) i (0, d)).0 < (get_or (cond b ((a, x) ∷ filter p (numbered_from (suc a) xs)) (filter p (numbered_from (suc a) xs))) j (0, d)).0
rise_step p a x xs true i zero d ih lt inside = absurd (omega (arith, lt))
rise_step p a x xs true zero (suc j) d ih lt inside = let h = low_all p (suc a) xs j d (omega (arith, inside)) in omega (arith, h)
rise_step p a x xs true (suc i) (suc j) d ih lt inside = ih i j (omega (arith, lt)) (omega (arith, inside))
rise_step p a x xs false i j d ih lt inside = ih i j lt inside

rises : (p : ℕ × Section → Bool) (a : ℕ) (xs : List Section) (i j : ℕ) (d : Section) → i < j → j < length (filter p (numbered_from a xs)) → (get_or (filter p (numbered_from a xs)) i (0, d)).0 < (get_or (filter p (numbered_from a xs)) j (0, d)).0
rises p a [] i j d lt inside = absurd (omega (arith, inside))
rises p a (x ∷ xs) i j d lt inside = rise_step p a x xs (p (a, x)) i j d (λ k l h here. rises p (suc a) xs k l d h here) lt inside

pub tables_rise : (sections : List Section) (entries : List Entry) (i j : ℕ) (d : Section) → i < j → j < length (relocated sections entries) → (get_or (relocated sections entries) i (0, d)).0 < (get_or (relocated sections entries) j (0, d)).0
unfolding relocated
tables_rise sections entries i j d lt inside = rises (λ row. has_entries entries row.0) 1 sections i j d lt inside
