-- Sections laid out one after another, class by class.
use Rattle.std.proofs.Common.{◌≡◌, ℕ, suc, ◌+◌, ◌^◌, ◌<◌, length-take-le, ◌≤◌, Bool, true, false, cond, not, List, [], ◌∷◌, ◌++◌, Some, length, get_or, take, drop, map, refl, sym, ap, ◌∙◌, subst, arith, append-nil, inl, inr}
use Rattle.std.specs.Prelude.{unwrap_or, nat_lt, ◌==◌, ◌&&◌}
use Rattle.std.proofs.lemmas.List.{take-append-drop, drop_more, take_more, map-append}
use Rattle.std.proofs.lemmas.List.Elements.{filter-append}
use Rattle.std.proofs.lemmas.Bool.Decides.{nat_tests}
use Rattle.std.specs.List.{list_all}
use Rattle.std.proofs.lemmas.Bool.{and_parts, and_from, ltb-true}
use Rattle.cell_num.specs.Lists.{each_pair, In}
use Rattle.cell_object.specs.declared.object.Section.{Section as ObjectSection}
use Rattle.cell_object.specs.Sound.{is_sound_section}
use Rattle.cell_world.specs.declared.state.SecPlace.{SecPlace}
use Rattle.cell_world.specs.Placed.Layout.{is_in_class, gap, class_of, offset_in, laid_end, laid_end_from}
use Rattle.cell_world.specs.declared.layout.Class.TheVariants.{Text, ReadOnly, Writable}
use Rattle.cell_world.specs.declared.layout.Class.{Class}
use Rattle.cell_num.proofs.Elements.{all-In, In-filtered, In-right}
use Rattle.cell_num.proofs.Sublists.{all-filter}
use Rattle.cell_lemmas.proofs.Placement.LoadOffsets.{running_offset}
use Rattle.cell_layout.specs.declared.layout.Ends.{Ends}
use Rattle.cell_layout.specs.Layout.{in_class, end_for, with_end, end_of, AreEnds, AreSmall, next_in, offset_among, offset_place}
use Rattle.cell_layout.proofs.Bounds.{laid_small, gap_small, size_small, filter_shorter}

abbrev same_class : Class → Class → Bool
same_class Text Text = true
same_class ReadOnly ReadOnly = true
same_class Writable Writable = true
same_class _ _ = false

in_text : (e w : Bool) → e ≡ same_class Text (cond e Text (cond w Writable ReadOnly))
in_text true w = refl
in_text false true = refl
in_text false false = refl

in_read_only : (e w : Bool) → (not e && not w) ≡ same_class ReadOnly (cond e Text (cond w Writable ReadOnly))
in_read_only true w = refl
in_read_only false true = refl
in_read_only false false = refl

in_writable : (e w : Bool) → (w && not e) ≡ same_class Writable (cond e Text (cond w Writable ReadOnly))
in_writable true true = refl
in_writable true false = refl
in_writable false true = refl
in_writable false false = refl

-- a section is in its class alone
in_its_class : (class : Class) (s : ObjectSection) → is_in_class class s ≡ same_class class (class_of s)
in_its_class Text s = in_text s.exec s.write
in_its_class ReadOnly s = in_read_only s.exec s.write
in_its_class Writable s = in_writable s.exec s.write

end_with : (ends : Ends) (k class : Class) (end : ℕ) → end_for (with_end ends k end) class ≡ cond (same_class class k) (Some end) (end_for ends class)
end_with ends Text Text end = refl
end_with ends Text ReadOnly end = refl
end_with ends Text Writable end = refl
end_with ends ReadOnly Text end = refl
end_with ends ReadOnly ReadOnly end = refl
end_with ends ReadOnly Writable end = refl
end_with ends Writable Text end = refl
end_with ends Writable ReadOnly end = refl
end_with ends Writable Writable end = refl

laid-append : (n : ℕ) (xs ys : List ObjectSection) → laid_end_from n (xs ++ ys) ≡ laid_end_from (laid_end_from n xs) ys
laid-append n [] ys = refl
laid-append n (x ∷ xs) ys = laid-append (n + gap n x.align + x.size) xs ys

laid_above : (n : ℕ) (ys : List ObjectSection) → n ≤ laid_end_from n ys
laid_above n [] = omega arith
laid_above n (y ∷ ys) = let more = laid_above (n + gap n y.align + y.size) ys in omega arith

end_of-last : (xs : List ObjectSection) (s : ObjectSection) → end_of (xs ++ s ∷ []) ≡ Some (laid_end (xs ++ s ∷ []))
end_of-last [] s = refl
end_of-last (x ∷ xs) s = refl

pub end_or_zero : (xs : List ObjectSection) → unwrap_or (end_of xs) 0 ≡ laid_end xs
end_or_zero [] = refl
end_or_zero (x ∷ xs) = refl

abbrev next_at : List ObjectSection → ObjectSection → ℕ
next_at xs s = laid_end xs + gap (laid_end xs) s.align

next_is : (ends : Ends) (before : List ObjectSection) (s : ObjectSection) → AreEnds ends before → next_in ends s ≡ next_at (in_class (class_of s) before) s
next_is ends before s are =
    let n : unwrap_or (end_for ends (class_of s)) 0 ≡ laid_end (in_class (class_of s) before) = ap (λ o. unwrap_or o 0) (are (class_of s)) ∙ end_or_zero (in_class (class_of s) before) in
    ap (λ k. k + gap k s.align) n

pub self_in : (s : ObjectSection) → is_in_class (class_of s) s ≡ true
self_in s = in_its_class (class_of s) s ∙ go (class_of s)
  where
    go : (k : Class) → same_class k k ≡ true
    go Text = refl
    go ReadOnly = refl
    go Writable = refl

one : (b : Bool) (s : ObjectSection) (rest : List ObjectSection) → b ≡ true → cond b (s ∷ rest) rest ≡ s ∷ rest
one b s rest e = ap (λ t. cond t (s ∷ rest) rest) e

module _ (before after : List ObjectSection) (s : ObjectSection) where
  -- the class of the section among all
  class_split : in_class (class_of s) (before ++ s ∷ after) ≡ in_class (class_of s) before ++ s ∷ in_class (class_of s) after
  class_split =
      filter-append (is_in_class (class_of s)) before (s ∷ after)
      ∙ ap (λ xs. in_class (class_of s) before ++ xs) (one (is_in_class (class_of s) s) s (in_class (class_of s) after) (self_in s))

  pub offset_is : (ends : Ends) → AreEnds ends before → ((x : ObjectSection) → In x before → (x.number == s.number) ≡ false) → next_in ends s ≡ offset_among (before ++ s ∷ after) s
  offset_is ends are differ =
      next_is ends before s are
      ∙ sym (running_offset (in_class (class_of s) before) (in_class (class_of s) after) s (λ x there. differ x (In-filtered (is_in_class (class_of s)) before x there)))
      ∙ ap (λ xs. offset_in xs s.number) (sym class_split)

same_is : (a b : Class) → same_class a b ≡ true → a ≡ b
same_is Text Text e = refl
same_is ReadOnly ReadOnly e = refl
same_is Writable Writable e = refl
same_is Text ReadOnly e = absurd (cc e)
same_is Text Writable e = absurd (cc e)
same_is ReadOnly Text e = absurd (cc e)
same_is ReadOnly Writable e = absurd (cc e)
same_is Writable Text e = absurd (cc e)
same_is Writable ReadOnly e = absurd (cc e)

module _ (ends : Ends) (before : List ObjectSection) (s : ObjectSection) (at : ℕ) (here : at ≡ next_in ends s) (are : AreEnds ends before) where
  its_end : (class : Class) (b : Bool) → b ≡ is_in_class class s
      → cond b (Some (at + s.size)) (end_for ends class) ≡ end_of (in_class class before ++ cond b (s ∷ []) [])
  its_end class true e =
      let ys : List ObjectSection = in_class class before in
      let same : class ≡ class_of s = same_is class (class_of s) (sym (in_its_class class s) ∙ sym e) in
      let begins : at ≡ next_at ys s = here ∙ next_is ends before s are ∙ ap (λ k. next_at (in_class k before) s) (sym same) in
      ap (λ n. Some (n + s.size)) begins ∙ ap Some (sym (laid-append 0 ys (s ∷ []))) ∙ sym (end_of-last ys s)
  its_end class false e = are class ∙ ap end_of (sym (append-nil (in_class class before)))

  pub ends_more : AreEnds (with_end ends (class_of s) (at + s.size)) (before ++ s ∷ [])
  ends_more = λ class.
      end_with ends (class_of s) class (at + s.size)
      ∙ ap (λ b. cond b (Some (at + s.size)) (end_for ends class)) (sym (in_its_class class s))
      ∙ its_end class (is_in_class class s) refl
      ∙ ap end_of (sym (filter-append (is_in_class class) before (s ∷ [])))

not_same : (m n : ℕ) → nat_lt m n ≡ true → (m == n) ≡ false
not_same m n lower = grind (arith, nat_tests, lower)

-- the numbers of sections before one are other numbers
differ_before : (before after : List ObjectSection) (s x : ObjectSection) → each_pair (λ (a b : ObjectSection). nat_lt a.number b.number) (before ++ s ∷ after) ≡ true → In x before → (x.number == s.number) ≡ false
differ_before [] after s x rising there = absurd there
differ_before (y ∷ before) after s x rising (inl same) =
    let all : list_all (λ b. nat_lt y.number b.number) (before ++ s ∷ after) ≡ true = (and_parts _ _ rising).0 in
    let lower : nat_lt y.number s.number ≡ true = all-In (λ b. nat_lt y.number b.number) (before ++ s ∷ after) all s (In-right before (s ∷ after) s (inl refl)) in
    ap (λ z. z.number == s.number) same ∙ not_same y.number s.number lower
differ_before (y ∷ before) after s x rising (inr there) = differ_before before after s x (and_parts _ _ rising).1 there

-- a section numbered below others has a number that is large enough for them
rank : (n : ℕ) (before after : List ObjectSection) (s : ObjectSection) → ((x : ObjectSection) → In x (before ++ s ∷ after) → n ≤ x.number) → each_pair (λ (a b : ObjectSection). nat_lt a.number b.number) (before ++ s ∷ after) ≡ true → n + length before ≤ s.number
rank n [] after s least rising = omega (arith, least s (inl refl))
rank n (y ∷ before) after s least rising =
    let parts = and_parts (list_all (λ (b : ObjectSection). nat_lt y.number b.number) (before ++ s ∷ after)) (each_pair (λ (a b : ObjectSection). nat_lt a.number b.number) (before ++ s ∷ after)) rising in
    let first = least y (inl refl) in
    let above : (x : ObjectSection) → In x (before ++ s ∷ after) → suc n ≤ x.number = λ x there. omega (arith, first, ltb-true y.number x.number (all-In (λ (b : ObjectSection). nat_lt y.number b.number) (before ++ s ∷ after) parts.0 x there)) in
    let r = rank (suc n) before after s above parts.1 in
    omega (arith, r)

all-front : {X : Type 0} (p : X → Bool) (xs ys : List X) → list_all p (xs ++ ys) ≡ true → list_all p xs ≡ true
all-front p [] ys h = refl
all-front p (x ∷ xs) ys h = let parts = and_parts (p x) (list_all p (xs ++ ys)) h in and_from (p x) (list_all p xs) parts.0 (all-front p xs ys parts.1)

module _ (sections : List ObjectSection) (i : ℕ) (s : ObjectSection) (lt : i < length sections) (item : s ≡ get_or sections i s) where
  -- the sections before, the section, and those after
  split : take i sections ++ s ∷ drop (i + 1) sections ≡ sections
  split = ap (λ x. take i sections ++ x ∷ drop (i + 1) sections) item ∙ ap (λ xs. take i sections ++ xs) (sym (drop_more sections i s lt)) ∙ take-append-drop i sections

  more : take (i + 1) sections ≡ take i sections ++ s ∷ []
  more = take_more sections i s lt ∙ ap (λ x. take i sections ++ x ∷ []) (sym item)

  pub ends_here : (ends : Ends) (at : ℕ) → at ≡ next_in ends s → AreEnds ends (take i sections) → AreEnds (with_end ends (class_of s) (at + s.size)) (take (i + 1) sections)
  ends_here ends at here are = subst (AreEnds (with_end ends (class_of s) (at + s.size))) (sym more) (ends_more ends (take i sections) s at here are)

  -- the numbers of sections rise, so the one at a place has at least the place's number
  pub ranked : each_pair (λ (a b : ObjectSection). nat_lt a.number b.number) sections ≡ true → i ≤ s.number
  ranked rising =
      let r = rank 0 (take i sections) (drop (i + 1) sections) s (λ x there. omega arith) (subst (λ xs. each_pair (λ (a b : ObjectSection). nat_lt a.number b.number) xs ≡ true) (sym split) rising) in
      let long : length (take i sections) ≡ i = length-take-le i sections (omega (arith, lt)) in
      omega (arith, r, long)

  -- where the next section begins and ends
  pub next_small : (ends : Ends) → AreEnds ends (take i sections) → list_all is_sound_section sections ≡ true → i ≤ 65536 → next_in ends s + s.size < 2 ^ 60
  next_small ends are sound few =
      let sounds : list_all is_sound_section (take i sections ++ s ∷ drop (i + 1) sections) ≡ true = subst (λ xs. list_all is_sound_section xs ≡ true) (sym split) sound in
      let before : list_all is_sound_section (take i sections) ≡ true = all-front is_sound_section (take i sections) (s ∷ drop (i + 1) sections) sounds in
      let this : is_sound_section s ≡ true = all-In is_sound_section (take i sections ++ s ∷ drop (i + 1) sections) sounds s (In-right (take i sections) (s ∷ drop (i + 1) sections) s (inl refl)) in
      let next = next_is ends (take i sections) s are in
      let end = laid_small (in_class (class_of s) (take i sections)) 0 (all-filter is_sound_section (is_in_class (class_of s)) (take i sections) before) in
      let many = filter_shorter (is_in_class (class_of s)) (take i sections) in
      let long : length (take i sections) ≡ i = length-take-le i sections (omega (arith, lt)) in
      let g = gap_small (laid_end (in_class (class_of s) (take i sections))) s this in
      let z = size_small s this in
      omega (arith, next, end, many, long, g, z, few)

  pub offsets_here : (ends : Ends) (offsets : List SecPlace) (p : SecPlace) → each_pair (λ (a b : ObjectSection). nat_lt a.number b.number) sections ≡ true → p ≡ record { section = s.number; start = next_in ends s } → AreEnds ends (take i sections)
      → offsets ≡ map (offset_place sections) (take i sections) → offsets ++ p ∷ [] ≡ map (offset_place sections) (take (i + 1) sections)
  offsets_here ends offsets p rising here are far =
      let rises = subst (λ xs. each_pair (λ (a b : ObjectSection). nat_lt a.number b.number) xs ≡ true) (sym split) rising in
      let this : next_in ends s ≡ offset_among sections s =
      offset_is (take i sections) (drop (i + 1) sections) s ends are (λ x there. differ_before (take i sections) (drop (i + 1) sections) s x rises there) ∙ ap (λ xs. offset_among xs s) split in
      let placed : p ≡ offset_place sections s = here ∙ ap (λ n. let q : SecPlace = record { section = s.number; start = n } in q) this in
      ap (λ xs. xs ++ p ∷ []) far
      ∙ ap (λ q. map (offset_place sections) (take i sections) ++ q ∷ []) placed
      ∙ sym (map-append (offset_place sections) (take i sections) (s ∷ []))
      ∙ ap (map (offset_place sections)) (sym more)

-- all sections are laid out, and there are not many
pub ends_small : (sections : List ObjectSection) (ends : Ends) → AreEnds ends sections → list_all is_sound_section sections ≡ true → length sections ≤ 65536 → AreSmall ends
ends_small sections ends are sound few = record { text = small Text; read_only = small ReadOnly; writable = small Writable }
  where
    small : (class : Class) → unwrap_or (end_for ends class) 0 < 2 ^ 42
    small class =
        let e : unwrap_or (end_for ends class) 0 ≡ laid_end (in_class class sections) = ap (λ o. unwrap_or o 0) (are class) ∙ end_or_zero (in_class class sections) in
        let b = laid_small (in_class class sections) 0 (all-filter is_sound_section (is_in_class class) sections sound) in
        let many = filter_shorter (is_in_class class) sections in
        omega (arith, e, b, many, few)
