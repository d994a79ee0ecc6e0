-- The name of an object file, and the stem in it.
use Rattle.std.proofs.Common.{◌≡◌, refl, sym, ◌∙◌, ap, subst, arith, ℕ, suc, ◌+◌, ◌-◌, ◌<◌, ◌≤◌, ◌⊎◌, inl, inr, Bool, true, false, cond, not, ◌&&◌, ◌||◌, ◌==◌, List, [], ◌∷◌, ◌++◌, length, length-append, take, drop, get_or, append_assoc, Option, Some, None}
use Rattle.std.specs.Prelude.{bytes_eq, codes, nat_le, nat_lt, option_map}
use Rattle.std.specs.List.{after_first, before_first, list_all, position_or_len}
use Rattle.std.proofs.lemmas.Bool.{and_parts, eqb-true, le-leb, lt-ltb, leb-true, ltb-true}
use Rattle.std.proofs.lemmas.Bool.Decides.{nat_tests}
use Rattle.std.proofs.lemmas.List.{take-append-drop}
use Rattle.std.proofs.lemmas.List.Sums.{passes_at_first, split_at_first}
use Rattle.std.proofs.lemmas.Slice.Eq.{bytes_eq-Decides}
use Rattle.std.proofs.Math.Seq.{take-append_seam, drop-append-add}
use Rattle.cell_num.specs.Lists.{In}
use Rattle.cell_num.proofs.Elements.{all-In, In-all, In-append}
use Rattle.cell_object.specs.Symbols.{is_name_byte as is_visible_byte}
use Rattle.cell_world.specs.Gather.{stem_of_file}
use Rattle.cell_depot.specs.ObjectName.{cut, is_crate, is_hash, is_letter_or_digit, is_name, is_object_name, is_short, is_stem}
use Rattle.cell_script.specs.Grammar.{is_file, is_name as is_script_name}

abbrev is_part_byte : ℕ → Bool
is_part_byte b = is_letter_or_digit b || b == 95

abbrev ends_stem : ℕ → Bool
ends_stem b = b == 45 || b == 46

-- the first that passes stands behind those that don't
module _ (p : ℕ → Bool) (x : ℕ) (ys : List ℕ) (passes : p x ≡ true) where
  first_place : (xs : List ℕ) → ((b : ℕ) → In b xs → p b ≡ false) → position_or_len p (xs ++ x ∷ ys) ≡ length xs
  first_place [] f = ap (λ (t : Bool). cond (not t) (1 + position_or_len p ys) 0) passes
  first_place (y ∷ xs) f =
      ap (λ (t : Bool). cond (not t) (1 + position_or_len p (xs ++ x ∷ ys)) 0) (f y (inl refl))
      ∙ (ap (λ n. 1 + n) (first_place xs (λ b i. f b (inr i))) ∙ (let more : 1 + length xs ≡ length (y ∷ xs) = omega arith in more))

  before_is : (xs : List ℕ) → ((b : ℕ) → In b xs → p b ≡ false) → before_first p (xs ++ x ∷ ys) ≡ xs
  before_is xs f = ap (λ n. take n (xs ++ x ∷ ys)) (first_place xs f) ∙ take-append_seam xs (x ∷ ys)

  after_is : (xs : List ℕ) → ((b : ℕ) → In b xs → p b ≡ false) → after_first p (xs ++ x ∷ ys) ≡ ys
  after_is xs f = ap (λ n. drop (n + 1) (xs ++ x ∷ ys)) (first_place xs f) ∙ drop-append-add xs (x ∷ ys) 1

-- the two parts, and the byte between them
cut_at : (byte : ℕ) (text a b : List ℕ) (place : ℕ) → place ≡ position_or_len (λ c. c == byte) text → (t : Bool) → nat_lt place (length text) ≡ t
    → option_map {U = List ℕ × List ℕ} (λ i. (take i text, drop (i + 1) text)) (cond t (Some place) None) ≡ Some (a, b) → text ≡ a ++ byte ∷ b
cut_at byte text a b place is false f k = absurd cc
cut_at byte text a b place is true f k =
    let inside : position_or_len (λ c. c == byte) text < length text = omega (arith, is, ltb-true place (length text) f) in
    let both : (take place text, drop (place + 1) text) ≡ (a, b) = cc in
    let found : get_or text (position_or_len (λ c. c == byte) text) 0 ≡ byte = eqb-true (get_or text (position_or_len (λ c. c == byte) text) 0) byte (passes_at_first (λ c. c == byte) text 0 inside) in
    split_at_first (λ c. c == byte) text 0 inside
    ∙ (ap (λ (n : ℕ). take n text ++ get_or text (position_or_len (λ c. c == byte) text) 0 ∷ drop (n + 1) text) (sym is)
    ∙ (ap (λ (c : ℕ). take place text ++ c ∷ drop (place + 1) text) found ∙ ap (λ (q : List ℕ × List ℕ). q.0 ++ byte ∷ q.1) both))

cut_is : (byte : ℕ) (text a b : List ℕ) → cut byte text ≡ Some (a, b) → text ≡ a ++ byte ∷ b
cut_is byte text a b e = cut_at byte text a b (position_or_len (λ c. c == byte) text) refl (nat_lt (position_or_len (λ c. c == byte) text) (length text)) refl e

part_plain : (b : ℕ) → is_part_byte b ≡ true → (b == 35) ≡ false
part_plain b h = grind (arith, nat_tests)

part_goes_on : (b : ℕ) → is_part_byte b ≡ true → ends_stem b ≡ false
part_goes_on b h = grind (arith, nat_tests)

part_visible : (b : ℕ) → is_part_byte b ≡ true → is_visible_byte b ≡ true
part_visible b h = grind (arith, nat_tests)

hash_visible : (b : ℕ) → is_letter_or_digit b ≡ true → is_visible_byte b ≡ true
hash_visible b h = grind (arith, nat_tests)

-- a word of a file's name
record IsPart (word : List ℕ) : Type 0 where
  few : length word ≤ 64
  visible : (b : ℕ) → In b word → is_visible_byte b ≡ true

short_few : (word : List ℕ) → is_short word ≡ true → length word ≤ 64
short_few word h = leb-true (length word) 64 (and_parts (nat_lt 0 (length word)) (nat_le (length word) 64) h).1

name_bytes : (word : List ℕ) → is_name word ≡ true → (b : ℕ) → In b word → is_part_byte b ≡ true
name_bytes word h = all-In is_part_byte word (and_parts (is_short word) (list_all is_part_byte word) h).1

name_part : (word : List ℕ) → is_name word ≡ true → IsPart word
name_part word h = record {
  few = short_few word (and_parts (is_short word) (list_all is_part_byte word) h).0;
  visible = λ b i. part_visible b (name_bytes word h b i);
}

hash_part : (word : List ℕ) → is_hash word ≡ true → IsPart word
hash_part word h =
    let both = and_parts (is_short word) (list_all is_letter_or_digit word) h in
    record { few = short_few word both.0; visible = λ b i. hash_visible b (all-In is_letter_or_digit word both.1 b i) }

-- the stem, and what stands between it and the ending
record HasStem (rest : List ℕ) : Type 0 where
  stem : List ℕ
  named : is_name stem ≡ true
  is : before_first ends_stem (rest ++ codes ".o") ≡ stem
  few : length rest ≤ 129
  visible : (b : ℕ) → In b rest → is_visible_byte b ≡ true

joined_few : (a b c : ℕ) → c ≡ a + suc b → a ≤ 64 → b ≤ 64 → c ≤ 129
joined_few a b c e l m = omega arith

has_stem : (rest : List ℕ) → is_stem rest (cut 45 rest) ≡ true → HasStem rest
has_stem rest h = go (cut 45 rest) refl h
  where
    alone : is_name rest ≡ true → HasStem rest
    alone named =
        let part : IsPart rest = name_part rest named in
        record {
          stem = rest;
          named = named;
          is = before_is ends_stem 46 (codes "o") refl rest (λ b i. part_goes_on b (name_bytes rest named b i));
          few = let l = part.few in omega (arith, l);
          visible = part.visible;
        }

    hashed : (stem hash : List ℕ) → rest ≡ stem ++ 45 ∷ hash → is_name stem ≡ true → is_hash hash ≡ true → HasStem rest
    hashed stem hash is named good =
        let one : IsPart stem = name_part stem named in
        let two : IsPart hash = hash_part hash good in
        record {
          stem = stem;
          named = named;
          is = ap (λ (t : List ℕ). before_first ends_stem (t ++ codes ".o")) is
              ∙ (ap (before_first ends_stem) (append_assoc stem (45 ∷ hash) (codes ".o")) ∙ before_is ends_stem 45 (hash ++ codes ".o") refl stem (λ b i. part_goes_on b (name_bytes stem named b i)));
          few = joined_few (length stem) (length hash) (length rest) (ap length is ∙ length-append stem (45 ∷ hash)) one.few two.few;
          visible = λ b i. each one two b (In-append stem (45 ∷ hash) b (subst (λ (t : List ℕ). In b t) is i));
        }
      where
        each : IsPart stem → IsPart hash → (b : ℕ) → In b stem ⊎ In b (45 ∷ hash) → is_visible_byte b ≡ true
        each one two b (inl i) = one.visible b i
        each one two b (inr (inl e)) = subst (λ (c : ℕ). is_visible_byte c ≡ true) (sym e) refl
        each one two b (inr (inr i)) = two.visible b i

    go : (o : Option (List ℕ × List ℕ)) → cut 45 rest ≡ o → is_stem rest o ≡ true → HasStem rest
    go None e k = alone k
    go (Some parts) e k =
        let both = and_parts (is_name parts.0) (is_hash parts.1) k in
        hashed parts.0 parts.1 (cut_is 45 rest parts.0 parts.1 e) both.0 both.1

-- the name by its parts
record HasParts (name : List ℕ) : Type 0 where
  space : List ℕ
  rest : List ℕ
  is : name ≡ space ++ 35 ∷ (rest ++ codes ".o")
  named : is_name space ≡ true
  ends : HasStem rest

module _ (name : List ℕ) (h : is_object_name name ≡ true) where
  abbrev front : List ℕ
  front = take (length name - 2) name

  both : (bytes_eq (drop (length name - 2) name) (codes ".o") ≡ true) × (is_crate (cut 35 front) ≡ true)
  both = and_parts (bytes_eq (drop (length name - 2) name) (codes ".o")) (is_crate (cut 35 front)) h

  whole : name ≡ front ++ codes ".o"
  whole =
      sym (take-append-drop (length name - 2) name)
      ∙ ap (λ (t : List ℕ). front ++ t) ((bytes_eq-Decides (drop (length name - 2) name) (codes ".o")).0 both.0)

  parts_in : (o : Option (List ℕ × List ℕ)) → cut 35 front ≡ o → is_crate o ≡ true → HasParts name
  parts_in None e k = absurd cc
  parts_in (Some parts) e k =
      let good = and_parts (is_name parts.0) (is_stem parts.1 (cut 45 parts.1)) k in
      record {
        space = parts.0;
        rest = parts.1;
        is = whole ∙ (ap (λ (t : List ℕ). t ++ codes ".o") (cut_is 35 front parts.0 parts.1 e) ∙ append_assoc parts.0 (35 ∷ parts.1) (codes ".o"));
        named = good.0;
        ends = has_stem parts.1 good.1;
      }

  parts_of : HasParts name
  parts_of = parts_in (cut 35 front) refl both.1

-- the stem of an object file is one that a script may name
pub stem_named : (name : List ℕ) → is_object_name name ≡ true → is_script_name (stem_of_file name) ≡ true
stem_named name h =
    let p : HasParts name = parts_of name h in
    let space : (b : ℕ) → In b p.space → (b == 35) ≡ false = λ b i. part_plain b (name_bytes p.space p.named b i) in
    let behind : after_first (λ b. b == 35) name ≡ p.rest ++ codes ".o" = ap (after_first (λ b. b == 35)) p.is ∙ after_is (λ b. b == 35) 35 (p.rest ++ codes ".o") refl p.space space in
    subst (λ (stem : List ℕ). is_name stem ≡ true) (sym (ap (before_first ends_stem) behind ∙ p.ends.is)) p.ends.named

whole_few : (space rest back name : ℕ) → name ≡ space + suc (rest + back) → space ≤ 64 → rest ≤ 129 → back ≡ 2 → (0 < name) × (name ≤ 255)
whole_few space rest back name e a b c = (omega arith, omega arith)

-- and its name one that a script may name
pub file_named_well : (name : List ℕ) → is_object_name name ≡ true → is_file name ≡ true
file_named_well name h = subst (λ (b : Bool). (b && list_all is_visible_byte name) ≡ true) (sym short) (In-all is_visible_byte name (λ b i. visible b (subst (λ (t : List ℕ). In b t) p.is i)))
  where
    p : HasParts name
    p = parts_of name h

    space : IsPart p.space
    space = name_part p.space p.named

    count : (0 < length name) × (length name ≤ 255)
    count = whole_few (length p.space) (length p.rest) 2 (length name)
        (ap length p.is ∙ (length-append p.space (35 ∷ (p.rest ++ codes ".o")) ∙ ap (λ n. length p.space + suc n) (length-append p.rest (codes ".o")))) space.few p.ends.few refl

    short : (nat_lt 0 (length name) && nat_le (length name) 255) ≡ true
    short = ap (λ (b : Bool). b && nat_le (length name) 255) (lt-ltb 0 (length name) count.0) ∙ le-leb (length name) 255 count.1

    ending : (b : ℕ) → In b (codes ".o") → is_visible_byte b ≡ true
    ending b (inl e) = subst (λ (c : ℕ). is_visible_byte c ≡ true) (sym e) refl
    ending b (inr (inl e)) = subst (λ (c : ℕ). is_visible_byte c ≡ true) (sym e) refl
    ending b (inr (inr i)) = absurd i

    behind : (b : ℕ) → In b p.rest ⊎ In b (codes ".o") → is_visible_byte b ≡ true
    behind b (inl i) = p.ends.visible b i
    behind b (inr i) = ending b i

    each : (b : ℕ) → In b p.space ⊎ In b (35 ∷ (p.rest ++ codes ".o")) → is_visible_byte b ≡ true
    each b (inl i) = space.visible b i
    each b (inr (inl e)) = subst (λ (c : ℕ). is_visible_byte c ≡ true) (sym e) refl
    each b (inr (inr i)) = behind b (In-append p.rest (codes ".o") b i)

    visible : (b : ℕ) → In b (p.space ++ 35 ∷ (p.rest ++ codes ".o")) → is_visible_byte b ≡ true
    visible b i = each b (In-append p.space (35 ∷ (p.rest ++ codes ".o")) b i)
