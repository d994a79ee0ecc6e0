-- In the bytes of a class each section's own bytes stand at its offset.
use Rattle.std.proofs.Common.{◌≡◌, refl, sym, ◌∙◌, ap, subst, arith, ℕ, ◌+◌, ◌≤◌, inl, inr, Bool, true, false, cond, List, [], ◌∷◌, ◌++◌, length, take, drop, replicate, length-append}
use Rattle.std.specs.Prelude.{◌==◌}
use Rattle.std.proofs.lemmas.Bool.{eqb-true}
use Rattle.std.proofs.lemmas.List.{append-nil, append_assoc, length-replicate, take-append-le, drop-append-le, take_all, length-drop}
use Rattle.std.proofs.Math.Seq.{drop-append_seam}
use Rattle.cell_object.specs.declared.object.Section.{Section as ObjectSection}
use Rattle.cell_world.specs.Placed.Layout.{gap, offset_from, offset_in, own_bytes, laid_out, to_pages, image_of}
use Rattle.cell_num.specs.Lists.{In}
use Rattle.cell_lemmas.proofs.Fields.FieldsInside.{Sized, After, ends_laid}
use Rattle.cell_lemmas.proofs.Fields.Slices.{slice}
use Rattle.cell_lemmas.proofs.Placement.Offsets.{IsUnique, elsewhere}

slice_front : (xs ys : List ℕ) (i n : ℕ) → i + n ≤ length xs → slice (xs ++ ys) i n ≡ slice xs i n
slice_front xs ys i n h =
    ap (take n) (drop-append-le i xs ys (omega (arith, h)))
    ∙ take-append-le n (drop i xs) ys (omega (arith, h, length-drop i xs))

-- the bytes so far stand first in what is laid out
laid_front : (sections : List ObjectSection) (bytes : List ℕ) → (rest : List ℕ) × (laid_out bytes sections ≡ bytes ++ rest)
laid_front [] bytes = ([], sym (append-nil bytes))
laid_front (s ∷ sections) bytes =
    let r = laid_front sections (After bytes s) in
    let padded : List ℕ = bytes ++ replicate (gap (length bytes) s.align) 0 in (
      replicate (gap (length bytes) s.align) 0 ++ (own_bytes s s.fill ++ r.0),
      r.1 ∙ (append_assoc padded (own_bytes s s.fill) r.0 ∙ append_assoc bytes (replicate (gap (length bytes) s.align) 0) (own_bytes s s.fill ++ r.0)),
    )

pages_front : (bytes : List ℕ) → (rest : List ℕ) × (to_pages bytes ≡ bytes ++ rest)
pages_front [] = (replicate 4096 0, refl)
pages_front (b ∷ bytes) = (replicate (gap (length (b ∷ bytes)) 4096) 0, refl)

laid_slice : (sections : List ObjectSection) (bytes : List ℕ) (n : ℕ) → n ≡ length bytes → Sized sections → (s : ObjectSection) → In s sections → IsUnique sections s
    → slice (laid_out bytes sections) (offset_from n sections s.number) s.size ≡ own_bytes s s.fill
laid_slice [] bytes n e z s k u = absurd k
laid_slice (t ∷ sections) bytes n e z s k u = go (t.number == s.number) refl (laid_slice sections (After bytes t) (n + gap n t.align + t.size) whole (λ v m. z v (inr m)) s)
  where
    padded : List ℕ
    padded = bytes ++ replicate (gap (length bytes) t.align) 0

    before : n + gap n t.align ≡ length padded
    before = subst (λ (n : ℕ). n + gap n t.align ≡ length padded) (sym e)
        (omega (arith, length-append bytes (replicate (gap (length bytes) t.align) 0), length-replicate {A = ℕ} (gap (length bytes) t.align) 0))

    whole : n + gap n t.align + t.size ≡ length (After bytes t)
    whole = omega (arith, before, length-append padded (own_bytes t t.fill), z t (inl refl))

    here : slice (laid_out (After bytes t) sections) (n + gap n t.align) t.size ≡ own_bytes t t.fill
    here =
        let r = laid_front sections (After bytes t) in
        ap (λ (xs : List ℕ). slice xs (n + gap n t.align) t.size) r.1
        ∙ (slice_front (After bytes t) r.0 (n + gap n t.align) t.size (omega (arith, whole))
        ∙ (ap (λ (i : ℕ). slice (After bytes t) i t.size) before
        ∙ (ap (take t.size) (drop-append_seam padded (own_bytes t t.fill))
        ∙ take_all t.size (own_bytes t t.fill) (omega (arith, z t (inl refl))))))

    go : (b : Bool) → (t.number == s.number) ≡ b
        → (In s sections → IsUnique sections s → slice (laid_out (After bytes t) sections) (offset_from (n + gap n t.align + t.size) sections s.number) s.size ≡ own_bytes s s.fill)
        → slice (laid_out (After bytes t) sections) (cond b (n + gap n t.align) (offset_from (n + gap n t.align + t.size) sections s.number)) s.size ≡ own_bytes s s.fill
    go true f ih =
        subst (λ (v : ObjectSection). slice (laid_out (After bytes t) sections) (n + gap n t.align) v.size ≡ own_bytes v v.fill) (u t (inl refl) (eqb-true t.number s.number f)) here
    go false f ih = ih (elsewhere t sections s f k) (λ v m. u v (inr m))

pub image_slice : (sections : List ObjectSection) → Sized sections → (s : ObjectSection) → In s sections → IsUnique sections s → slice (image_of sections) (offset_in sections s.number) s.size ≡ own_bytes s s.fill
image_slice sections z s k u =
    let r = pages_front (laid_out [] sections) in
    ap (λ (xs : List ℕ). slice xs (offset_in sections s.number) s.size) r.1
    ∙ (slice_front (laid_out [] sections) r.0 (offset_in sections s.number) s.size (ends_laid sections [] 0 refl z s k u)
    ∙ laid_slice sections [] 0 refl z s k u)
