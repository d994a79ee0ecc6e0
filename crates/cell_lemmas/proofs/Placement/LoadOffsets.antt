-- Where the sections of a class stand in its run, and how long the run is.
use Rattle.std.proofs.Common.{◌≡◌, refl, sym, ◌∙◌, ap, subst, arith, ℕ, ◌+◌, ◌≤◌, ◌<◌, inl, inr, true, false, cond, ◌||◌, List, [], ◌∷◌, ◌++◌, length, replicate, length-append}
use Rattle.std.specs.Prelude.{nat_lt, ◌==◌, ◌%◌, max}
use Rattle.std.specs.List.{list_all}
use Rattle.std.proofs.lemmas.Bool.{and_parts, eqb-true, eq-eqb}
use Rattle.std.proofs.lemmas.List.{length-replicate}
use Rattle.cell_num.specs.Lists.{each_pair, In}
use Rattle.cell_num.specs.Pages.{rounded_to_page}
use Rattle.cell_object.specs.declared.object.Section.{Section as ObjectSection}
use Rattle.cell_object.specs.declared.object.Fill.{Fill}
use Rattle.cell_object.specs.declared.object.Fill.TheVariants.{Prog, Note, Zero}
use Rattle.cell_object.specs.Sound.{is_zero, is_sound_section}
use Rattle.cell_world.specs.Placed.Layout.{own_bytes, gap, laid_out, to_pages, offset_in, offset_from, laid_end, laid_end_from, run_size}
use Rattle.cell_num.proofs.Elements.{all-In}

-- a computation that adds up the sections before a section arrives where the section stands
pub running_from : (n : ℕ) (before after : List ObjectSection) (s : ObjectSection) → ((x : ObjectSection) → In x before → (x.number == s.number) ≡ false)
    → offset_from n (before ++ s ∷ after) s.number ≡ laid_end_from n before + gap (laid_end_from n before) s.align
running_from n [] after s f =
    subst (λ b. cond b (n + gap n s.align) (offset_from (n + gap n s.align + s.size) after s.number) ≡ n + gap n s.align) (sym (eq-eqb s.number s.number refl)) refl
running_from n (t ∷ before) after s f =
    subst (λ b. cond b (n + gap n t.align) (offset_from (n + gap n t.align + t.size) (before ++ s ∷ after) s.number) ≡ laid_end_from n (t ∷ before) + gap (laid_end_from n (t ∷ before)) s.align) (sym (f t (inl refl)))
    (running_from (n + gap n t.align + t.size) before after s (λ x k. f x (inr k)))

pub running_offset : (before after : List ObjectSection) (s : ObjectSection) → ((x : ObjectSection) → In x before → (x.number == s.number) ≡ false)
    → offset_in (before ++ s ∷ after) s.number ≡ laid_end before + gap (laid_end before) s.align
running_offset before after s f = running_from 0 before after s f

pub own_length : (s : ObjectSection) → is_sound_section s ≡ true → length (own_bytes s s.fill) ≡ s.size
own_length s h = go s.fill (and_parts _ _ h).1
  where
    go : (fill : Fill) → (is_zero fill || length s.bytes == s.size) ≡ true → length (own_bytes s fill) ≡ s.size
    go Prog e = eqb-true (length s.bytes) s.size e
    go Note e = eqb-true (length s.bytes) s.size e
    go Zero e = length-replicate s.size 0

grown : (bytes : List ℕ) (s : ObjectSection) → is_sound_section s ≡ true → length (bytes ++ replicate (gap (length bytes) s.align) 0 ++ own_bytes s s.fill) ≡ length bytes + gap (length bytes) s.align + s.size
grown bytes s h =
    let a : length (bytes ++ replicate (gap (length bytes) s.align) 0 ++ own_bytes s s.fill) ≡ length (bytes ++ replicate (gap (length bytes) s.align) 0) + length (own_bytes s s.fill) = length-append (bytes ++ replicate (gap (length bytes) s.align) 0) (own_bytes s s.fill) in
    let b : length (bytes ++ replicate (gap (length bytes) s.align) 0) ≡ length bytes + length {A = ℕ} (replicate (gap (length bytes) s.align) 0) = length-append bytes (replicate (gap (length bytes) s.align) 0) in
    let c : length {A = ℕ} (replicate (gap (length bytes) s.align) 0) ≡ gap (length bytes) s.align = length-replicate (gap (length bytes) s.align) 0 in
    omega (arith, a, b, c, own_length s h)

laid_from : (sections : List ObjectSection) (bytes : List ℕ) → list_all is_sound_section sections ≡ true → length (laid_out bytes sections) ≡ laid_end_from (length bytes) sections
laid_from [] bytes h = refl
laid_from (s ∷ sections) bytes h =
    laid_from sections (bytes ++ replicate (gap (length bytes) s.align) 0 ++ own_bytes s s.fill) (and_parts (is_sound_section s) (list_all is_sound_section sections) h).1
    ∙ ap (λ (n : ℕ). laid_end_from n sections) (grown bytes s (and_parts (is_sound_section s) (list_all is_sound_section sections) h).0)

-- what is laid out is as long as the sections with their gaps
pub laid_length : (sections : List ObjectSection) → list_all is_sound_section sections ≡ true → length (laid_out [] sections) ≡ laid_end sections
laid_length sections h = laid_from sections [] h

-- up to whole pages, at least one
pub pages_length : (bytes : List ℕ) → length (to_pages bytes) ≡ max 4096 (rounded_to_page (length bytes))
pages_length [] = length-replicate {A = ℕ} 4096 0
pages_length (b ∷ bytes) =
    let e : length (to_pages (b ∷ bytes)) ≡ length (b ∷ bytes) + length {A = ℕ} (replicate (gap (length (b ∷ bytes)) 4096) 0) = length-append (b ∷ bytes) (replicate (gap (length (b ∷ bytes)) 4096) 0) in
    let c : length {A = ℕ} (replicate (gap (length (b ∷ bytes)) 4096) 0) ≡ gap (length (b ∷ bytes)) 4096 = length-replicate (gap (length (b ∷ bytes)) 4096) 0 in
    omega (arith, e, c)

-- the bytes of a run
pub run_rounded : (s : ObjectSection) (rest : List ObjectSection) → list_all is_sound_section (s ∷ rest) ≡ true → run_size (s ∷ rest) ≡ max 4096 (rounded_to_page (laid_end (s ∷ rest)))
run_rounded s rest h = pages_length (laid_out [] (s ∷ rest)) ∙ ap (λ (n : ℕ). max 4096 (rounded_to_page n)) (laid_length (s ∷ rest) h)

-- a run is whole pages
pub image_pages : (bytes : List ℕ) → (0 < length (to_pages bytes)) × (length (to_pages bytes) % 4096 ≡ 0)
image_pages bytes = let e = pages_length bytes in (omega (arith, e), omega (arith, e))

end_above : (sections : List ObjectSection) (n : ℕ) → n ≤ laid_end_from n sections
end_above [] n = omega arith
end_above (s ∷ sections) n = let i : n + gap n s.align + s.size ≤ laid_end_from (n + gap n s.align + s.size) sections = end_above sections (n + gap n s.align + s.size) in omega (arith, i)

-- a section ends within what is laid out
within_from : (sections : List ObjectSection) (n : ℕ) → each_pair (λ (a b : ObjectSection). nat_lt a.number b.number) sections ≡ true → (s : ObjectSection) → In s sections → offset_from n sections s.number + s.size ≤ laid_end_from n sections
within_from [] n r s i = absurd i
within_from (t ∷ sections) n r s (inl e) =
    let l = end_above sections (n + gap n t.align + t.size) in
    subst (λ (x : ObjectSection). offset_from n (t ∷ sections) x.number + x.size ≤ laid_end_from n (t ∷ sections)) (sym e)
    (subst (λ b. cond b (n + gap n t.align) (offset_from (n + gap n t.align + t.size) sections t.number) + t.size ≤ laid_end_from n (t ∷ sections)) (sym (eq-eqb t.number t.number refl)) (omega (arith, l)))
within_from (t ∷ sections) n r s (inr i) =
    let p = and_parts (list_all (λ (b : ObjectSection). nat_lt t.number b.number) sections) (each_pair (λ (a b : ObjectSection). nat_lt a.number b.number) sections) r in
    let ih = within_from sections (n + gap n t.align + t.size) p.1 s i in
    let below : nat_lt t.number s.number ≡ true = all-In (λ (b : ObjectSection). nat_lt t.number b.number) sections p.0 s i in
    let differ : (t.number == s.number) ≡ false = grind (arith, below) in
    subst (λ b. cond b (n + gap n t.align) (offset_from (n + gap n t.align + t.size) sections s.number) + s.size ≤ laid_end_from n (t ∷ sections)) (sym differ) ih

-- a section ends within its run
pub run_within : (sections : List ObjectSection) → list_all is_sound_section sections ≡ true → each_pair (λ (a b : ObjectSection). nat_lt a.number b.number) sections ≡ true
    → (s : ObjectSection) → In s sections → offset_in sections s.number + s.size ≤ run_size sections
run_within [] h r s i = absurd i
run_within (t ∷ sections) h r s i =
    let a = within_from (t ∷ sections) 0 r s i in
    let b = run_rounded t sections h in
    omega (arith, a, b)
