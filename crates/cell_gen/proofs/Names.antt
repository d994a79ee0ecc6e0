-- The names of the files.
use Rattle.std.proofs.Common.{◌≡◌, ◌≢◌, refl, ap, ap₂, sym, ◌∙◌, arith, ℕ, ◌+◌, ◌-◌, ◌*◌, ◌<◌, ◌≤◌, ◌^◌, ◌⊎◌, inl, inr, ◌||◌, ◌&&◌, ◌==◌, Bool, true, not, List, ◌++◌, length, length-append, take, drop, append_assoc}
use Rattle.std.specs.Prelude.{Option, Some, bytes_eq, codes, option_map}
use Rattle.std.specs.Char.{is_ascii_digit}
use Rattle.std.specs.Fmt.{decimal}
use Rattle.std.specs.List.{list_all}
use Rattle.std.proofs.lemmas.Bool.Decides.{nat_tests, Decides-not}
use Rattle.std.proofs.lemmas.Fmt.{decimal_injective}
use Rattle.std.proofs.lemmas.List.{append_cancel_left, append_cancel_right}
use Rattle.std.proofs.lemmas.Slice.Eq.{bytes_eq-Decides}
use Rattle.std.proofs.Math.Seq.{take-append_seam, drop-append_seam, drop-append-add}
use Rattle.cell_num.specs.Lists.{equals, In}
use Rattle.cell_num.proofs.Elements.{In-all}
use Rattle.cell_num.proofs.Ranges.{In-range, pairs-range}
use Rattle.cell_world.specs.declared.file.File.{File}
use Rattle.cell_depot.specs.Files.{are_apart}
use Rattle.cell_depot.specs.ObjectName.{cut, is_crate, is_letter_or_digit, is_name, is_object_name, is_stem}
use Rattle.cell_gen.specs.Generated.{drawn, files_naming, files_of_crate, generated_files, loaded_name, replacing_name}
use Rattle.cell_gen.proofs.Decimals.{IsShortNumeral, digits_pass, is_word, short_decimal}
use Rattle.cell_gen.proofs.Pieces.{position_at, position_none}

-- a name that ends in .o is the name of an object file where the rest is a crate's
module _ (crate : List ℕ) where
  abbrev cut_to : ℕ → Bool
  cut_to k = bytes_eq (drop k (crate ++ codes ".o")) (codes ".o") && is_crate (cut 35 (take k (crate ++ codes ".o")))

  object_name : is_crate (cut 35 crate) ≡ true → is_object_name (crate ++ codes ".o") ≡ true
  object_name h =
      let front : length (crate ++ codes ".o") - 2 ≡ length crate = omega (arith, length-append crate (codes ".o")) in
      ap cut_to front
      ∙ ap₂ (λ back rest. bytes_eq back (codes ".o") && is_crate (cut 35 rest)) (drop-append_seam crate (codes ".o")) (take-append_seam crate (codes ".o"))
      ∙ h

name_digit : (b : ℕ) → is_ascii_digit b ≡ true → (is_letter_or_digit b || b == 95) ≡ true
name_digit b h = grind (arith, nat_tests)

no_dash : (b : ℕ) → is_ascii_digit b ≡ true → not (b == 45) ≡ true
no_dash b h = grind (arith, nat_tests)

module _ (d : List ℕ) (h : IsShortNumeral d) where
  abbrev stem : List ℕ
  stem = codes "g" ++ d

  is_name-stem : is_name stem ≡ true
  is_name-stem = is_word (λ b. is_letter_or_digit b || b == 95) 64 stem (omega arith) (omega (arith, h.few)) (digits_pass (λ b. is_letter_or_digit b || b == 95) d name_digit h)

  abbrev cut_in : List ℕ → Option ℕ → Option (List ℕ × List ℕ)
  cut_in text place = option_map (λ i. (take i text, drop (i + 1) text)) place

  no_dashes : list_all (λ b. not (b == 45)) stem ≡ true
  no_dashes = digits_pass (λ b. not (b == 45)) d no_dash h

  pub loaded_crate : is_crate (cut 35 (codes "k#g" ++ d)) ≡ true
  loaded_crate =
      ap (λ o. is_crate (cut_in (codes "k#g" ++ d) o)) (position_at (λ b. b == 35) (codes "k") 35 stem refl refl)
      ∙ ap (λ o. is_stem stem (cut_in stem o)) (position_none (λ b. b == 45) stem no_dashes)
      ∙ is_name-stem

  pub replacing_crate : is_crate (cut 35 (codes "n#g" ++ (d ++ codes "-2"))) ≡ true
  replacing_crate =
      let word = stem ++ codes "-2" in
      ap (λ o. is_crate (cut_in (codes "n#g" ++ (d ++ codes "-2")) o)) (position_at (λ b. b == 35) (codes "n") 35 word refl refl)
      ∙ ap (λ o. is_stem word (cut_in word o)) (position_at (λ b. b == 45) stem 45 (codes "2") no_dashes refl)
      ∙ ap₂ (λ front back. is_stem word (Some (front, back))) (take-append_seam stem (codes "-2")) (drop-append-add stem (codes "-2") 1)
      ∙ rw is_name-stem refl

-- the name is one of the two of that crate
abbrev IsNamedFor : ℕ → List ℕ → Type 0
IsNamedFor i name = (name ≡ loaded_name i) ⊎ (name ≡ replacing_name i)

named_for : (i p q r : ℕ) (f : File) → In f (files_naming i p q r) → IsNamedFor i f.name
named_for i p q r f (inl loaded) = inl (ap (λ (g : File). g.name) loaded)
named_for i p q r f (inr (inl replacing)) = inr (ap (λ (g : File). g.name) replacing)
named_for i p q r f (inr (inr none)) = absurd none

object_named : (i : ℕ) (name : List ℕ) → i < 2 ^ 32 → IsNamedFor i name → is_object_name name ≡ true
object_named i name small (inl loaded) = ap is_object_name loaded ∙ object_name (codes "k#g" ++ decimal i) (loaded_crate (decimal i) (short_decimal i small))
object_named i name small (inr replacing) =
    ap is_object_name replacing
    ∙ ap (λ t. is_object_name (codes "n#g" ++ t)) (sym (append_assoc (decimal i) (codes "-2") (codes ".o")))
    ∙ object_name (codes "n#g" ++ (decimal i ++ codes "-2")) (replacing_crate (decimal i) (short_decimal i small))

different : (a b : List ℕ) → a ≢ b → not (equals a b) ≡ true
different a b h = (Decides-not (equals a b) (bytes_eq-Decides a b)).1 h

-- numbers that differ are spelled differently, whatever stands round them
numbers_apart : (i j : ℕ) (front back : List ℕ) → i < j → j < 2 ^ 32 → front ++ (decimal i ++ back) ≢ front ++ (decimal j ++ back)
numbers_apart i j front back less small same =
    let spelling = append_cancel_right (decimal i) (decimal j) back (append_cancel_left front (decimal i ++ back) (decimal j ++ back) same) in
    let number : i ≡ j = decimal_injective i j (omega arith) (omega arith) spelling in
    omega arith

names_apart : (i j : ℕ) (a b : List ℕ) → i < j → j < 2 ^ 32 → IsNamedFor i a → IsNamedFor j b → not (equals a b) ≡ true
names_apart i j a b less small (inl one) (inl other) = different a b (λ same. numbers_apart i j (codes "k#g") (codes ".o") less small (sym one ∙ same ∙ other))
names_apart i j a b less small (inl one) (inr other) = rw (one, other) refl
names_apart i j a b less small (inr one) (inl other) = rw (one, other) refl
names_apart i j a b less small (inr one) (inr other) = different a b (λ same. numbers_apart i j (codes "n#g") (codes "-2.o") less small (sym one ∙ same ∙ other))

module _ (n seed : ℕ) (few : n ≤ 400) where
  named_in : (i : ℕ) (f : File) → In f (files_of_crate n seed i) → IsNamedFor i f.name
  named_in i f here = named_for i (drawn n seed (3 * i - 2)) (drawn n seed (3 * i - 1)) (drawn n seed (3 * i)) f here

  pub files_named : list_all (λ f. is_object_name f.name) (generated_files n seed) ≡ true
  files_named = In-all (λ (f : File). is_object_name f.name) (generated_files n seed) (λ f here.
      let at = In-range (files_of_crate n seed) n 1 f here in object_named at.0 f.name (omega (arith, at.2)) (named_in at.0 f at.3))

  pub files_apart : are_apart (generated_files n seed) ≡ true
  files_apart = pairs-range (λ (f g : File). not (equals f.name g.name)) (files_of_crate n seed) n 1 (λ i low high. refl)
      (λ i j f g low less high here there. names_apart i j f.name g.name less (omega arith) (named_in i f here) (named_in j g there))

pub ruleset names = (files_named, files_apart)
