-- Two sections that are laid out behind each other don't meet.
use Rattle.std.proofs.Common.{◌≡◌, refl, sym, ◌∙◌, ap, arith, ℕ, ◌+◌, ◌≤◌, ◌⊎◌, inl, inr, Bool, true, false, cond, List, [], ◌∷◌, true≢false}
use Rattle.std.specs.Prelude.{◌==◌}
use Rattle.std.proofs.lemmas.Bool.{eqb-true, eq-eqb}
use Rattle.cell_object.specs.declared.object.Section.{Section as ObjectSection}
use Rattle.cell_world.specs.Placed.Layout.{gap, offset_from}
use Rattle.cell_num.specs.Lists.{In}

-- m bytes from x on and n bytes from y on have none in common
abbrev pub Apart : ℕ → ℕ → ℕ → ℕ → Type 0
Apart x m y n = (x + m ≤ y) ⊎ (y + n ≤ x)

-- no other section has the number
abbrev pub IsUnique : List ObjectSection → ObjectSection → Type 0
IsUnique sections s = (t : ObjectSection) → In t sections → t.number ≡ s.number → t ≡ s

pub elsewhere : (h : ObjectSection) (sections : List ObjectSection) (s : ObjectSection) → (h.number == s.number) ≡ false → (s ≡ h) ⊎ In s sections → In s sections
elsewhere h sections s f (inl e) = absurd (true≢false (sym (eq-eqb h.number s.number (ap (λ (x : ObjectSection). x.number) (sym e))) ∙ f))
elsewhere h sections s f (inr m) = m

offset_past : (sections : List ObjectSection) (n : ℕ) (s : ObjectSection) → In s sections → n ≤ offset_from n sections s.number
offset_past [] n s k = absurd k
offset_past (t ∷ sections) n s k = go (t.number == s.number) refl (offset_past sections (n + gap n t.align + t.size) s)
  where
    go : (b : Bool) → (t.number == s.number) ≡ b → (In s sections → n + gap n t.align + t.size ≤ offset_from (n + gap n t.align + t.size) sections s.number)
        → n ≤ cond b (n + gap n t.align) (offset_from (n + gap n t.align + t.size) sections s.number)
    go true e ih = omega arith
    go false e ih = let h = ih (elsewhere t sections s e k) in omega (arith, h)

pub two_offsets : (sections : List ObjectSection) (n : ℕ) (s t : ObjectSection) → In s sections → In t sections → IsUnique sections s → IsUnique sections t → (s.number ≡ t.number → ⊥)
    → Apart (offset_from n sections s.number) s.size (offset_from n sections t.number) t.size
two_offsets [] n s t i j u v d = absurd i
two_offsets (h ∷ sections) n s t i j u v d = go (h.number == s.number) refl (h.number == t.number) refl (two_offsets sections (n + gap n h.align + h.size) s t)
  where
    go : (a : Bool) → (h.number == s.number) ≡ a → (b : Bool) → (h.number == t.number) ≡ b
        → (In s sections → In t sections → IsUnique sections s → IsUnique sections t → (s.number ≡ t.number → ⊥) → Apart (offset_from (n + gap n h.align + h.size) sections s.number) s.size (offset_from (n + gap n h.align + h.size) sections t.number) t.size)
        → Apart (cond a (n + gap n h.align) (offset_from (n + gap n h.align + h.size) sections s.number)) s.size (cond b (n + gap n h.align) (offset_from (n + gap n h.align + h.size) sections t.number)) t.size
    go true e true f ih = absurd (d (sym (eqb-true h.number s.number e) ∙ eqb-true h.number t.number f))
    go true e false f ih =
        let size : h.size ≡ s.size = ap (λ (x : ObjectSection). x.size) (u h (inl refl) (eqb-true h.number s.number e)) in
        let past = offset_past sections (n + gap n h.align + h.size) t (elsewhere h sections t f j) in
        inl (omega (arith, size, past))
    go false e true f ih =
        let size : h.size ≡ t.size = ap (λ (x : ObjectSection). x.size) (v h (inl refl) (eqb-true h.number t.number f)) in
        let past = offset_past sections (n + gap n h.align + h.size) s (elsewhere h sections s e i) in
        inr (omega (arith, size, past))
    go false e false f ih = ih (elsewhere h sections s e i) (elsewhere h sections t f j) (λ x m. u x (inr m)) (λ x m. v x (inr m)) d
