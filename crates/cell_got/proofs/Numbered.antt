-- The numbers of sections.
use Rattle.std.proofs.Common.{◌≡◌, refl, sym, ◌∙◌, ap, arith, ℕ, suc, ◌+◌, ◌<◌, true, List, [], ◌∷◌, ◌++◌, length, take, get_or}
use Rattle.std.specs.Prelude.{fold, max, nat_lt}
use Rattle.std.specs.List.{list_all}
use Rattle.std.proofs.lemmas.List.{take_more}
use Rattle.std.proofs.lemmas.Bool.{and_parts}
use Rattle.std.proofs.lemmas.Bool.Decides.{nat_tests}
use Rattle.cell_num.proofs.Elements.{all-In, In-all, all_push}
use Rattle.cell_object.specs.declared.object.Object.{Object}
use Rattle.cell_object.specs.declared.object.Section.{Section}
use Rattle.cell_got.specs.Lower.{got_number, got_section, lower, lower_by, slots_of}

-- the greatest of the numbers from one on, with one section more
pub greatest_more : (sections : List Section) (most : ℕ) (s : Section) → fold (λ (m : ℕ) (t : Section). max m t.number) most (sections ++ s ∷ []) ≡ max (fold (λ (m : ℕ) (t : Section). max m t.number) most sections) s.number
greatest_more [] most s = refl
greatest_more (t ∷ sections) most s = greatest_more sections (max most t.number) s

-- the same, of the next section of a list
module _ (sections : List Section) (i : ℕ) (d : Section) (most new : ℕ) (lt : i < length sections) where
  pub greatest_on : most ≡ fold (λ (m : ℕ) (t : Section). max m t.number) 0 (take i sections) → new ≡ max most (get_or sections i d).number
      → new ≡ fold (λ (m : ℕ) (t : Section). max m t.number) 0 (take (i + 1) sections)
  greatest_on far more =
      more
      ∙ ap (λ (m : ℕ). max m (get_or sections i d).number) far
      ∙ sym (ap (λ (ss : List Section). fold (λ (m : ℕ) (t : Section). max m t.number) 0 ss) (take_more sections i d lt) ∙ greatest_more (take i sections) 0 (get_or sections i d))

pub max_below : (a b n : ℕ) → a < n → b < n → max a b < n
max_below a b n h k = omega (arith, h, k)

pub greatest_below : (sections : List Section) (most n : ℕ) → most < n → list_all (λ s. nat_lt s.number n) sections ≡ true → fold (λ (m : ℕ) (t : Section). max m t.number) most sections < n
greatest_below [] most n h k = h
greatest_below (t ∷ sections) most n h k =
    let parts = and_parts (nat_lt t.number n) (list_all (λ (s : Section). nat_lt s.number n) sections) k in
    greatest_below sections (max most t.number) n (max_below most t.number n h (below t.number parts.0)) parts.1
  where
    below : (m : ℕ) → nat_lt m n ≡ true → m < n
    below m e = grind (arith, nat_tests)

module _ (o : Object) (h : list_all (λ s. nat_lt s.number 65535) o.sections ≡ true) where
  wider : (m : ℕ) → nat_lt m 65535 ≡ true → nat_lt m 65536 ≡ true
  wider m e = grind (arith, nat_tests)

  last : (m : ℕ) → m < 65535 → nat_lt (suc m) 65536 ≡ true
  last m e = grind (arith, nat_tests)

  old : list_all (λ (s : Section). nat_lt s.number 65536) o.sections ≡ true
  old =
      In-all (λ (s : Section). nat_lt s.number 65536) o.sections (λ s i.
      wider s.number (all-In (λ (t : Section). nat_lt t.number 65535) o.sections h s i))

  -- the section of slots has a number of 16 bits
  pub lower_numbers : list_all (λ s. nat_lt s.number 65536) (lower o).sections ≡ true
  lower_numbers = go (slots_of o)
    where
      go : (slots : List ℕ) → list_all (λ s. nat_lt s.number 65536) (lower_by slots o).sections ≡ true
      go [] = old
      go (x ∷ slots) =
          all_push (λ (s : Section). nat_lt s.number 65536) o.sections (got_section (got_number o) (length (x ∷ slots))) old
          (last (fold (λ (m : ℕ) (t : Section). max m t.number) 0 o.sections) (greatest_below o.sections 0 65535 (omega arith) h))
