-- Two writes that don't meet can be exchanged.
use Rattle.std.proofs.Common.{◌≡◌, refl, sym, ◌∙◌, ap, subst, arith, ℕ, ◌+◌, ◌≤◌, List, [], ◌∷◌, ◌++◌, length, take, drop, length-append, length-drop}
use Rattle.std.specs.Prelude.{◌-◌}
use Rattle.cell_world.specs.Running.Memory.{pasted}
use Rattle.std.proofs.lemmas.List.{append_assoc, take-append-drop, length-take-le, drop-drop}

take_front : {X : Type 0} (a d : List X) → take (length a) (a ++ d) ≡ a
take_front [] d = refl
take_front (x ∷ a) d = ap (λ v. x ∷ v) (take_front a d)

drop_front : {X : Type 0} (a d : List X) → drop (length a) (a ++ d) ≡ d
drop_front [] d = refl
drop_front (x ∷ a) d = drop_front a d

drop_past : {X : Type 0} (a d : List X) (n : ℕ) → drop (length a + n) (a ++ d) ≡ drop n d
drop_past a d n = sym (drop-drop n (length a) (a ++ d)) ∙ ap (drop n) (drop_front a d)

-- a write at the end of a
paste_at : (a d v : List ℕ) → pasted (a ++ d) (length a) v ≡ a ++ (v ++ drop (length v) d)
paste_at a d v =
    ap (λ x. x ++ v ++ drop (length a + length v) (a ++ d)) (take_front a d)
    ∙ ap (λ x. a ++ v ++ x) (drop_past a d (length v))
    ∙ append_assoc a v (drop (length v) d)

cut : (a u c e v : List ℕ) (j : ℕ) → j ≡ length a + length u + length c → pasted (a ++ (u ++ (c ++ e))) j v ≡ a ++ (u ++ (c ++ (v ++ drop (length v) e)))
cut a u c e v j h =
    let l : length (a ++ (u ++ c)) ≡ j = length-append a (u ++ c) ∙ omega (arith, length-append u c, h) in
    ap (λ x. pasted x j v) (sym (append_assoc a (u ++ c) e ∙ ap (λ x. a ++ x) (append_assoc u c e)))
    ∙ ap (λ k. pasted ((a ++ (u ++ c)) ++ e) k v) (sym l)
    ∙ paste_at (a ++ (u ++ c)) e v
    ∙ append_assoc a (u ++ c) (v ++ drop (length v) e)
    ∙ ap (λ x. a ++ x) (append_assoc u c (v ++ drop (length v) e))

pub over : (a x z u : List ℕ) → length x ≡ length u → pasted (a ++ (x ++ z)) (length a) u ≡ a ++ (u ++ z)
over a x z u h =
    paste_at a (x ++ z) u ∙ ap (λ k. a ++ (u ++ drop k (x ++ z))) (sym h) ∙ ap (λ y. a ++ (u ++ y)) (drop_front x z)

exchanged : (a x c e u v : List ℕ) (j : ℕ) → length x ≡ length u → j ≡ length a + length u + length c
    → pasted (pasted (a ++ (x ++ (c ++ e))) (length a) u) j v ≡ pasted (pasted (a ++ (x ++ (c ++ e))) j v) (length a) u
exchanged a x c e u v j h k =
    ap (λ y. pasted y j v) (over a x (c ++ e) u h)
    ∙ cut a u c e v j k
    ∙ sym (ap (λ y. pasted y (length a) u) (cut a x c e v j (omega (arith, h, k))) ∙ over a x (c ++ (v ++ drop (length v) e)) u h)

pub paste_exchanged : (b u v : List ℕ) (i j : ℕ) → i + length u ≤ j → j ≤ length b → pasted (pasted b i u) j v ≡ pasted (pasted b j v) i u
paste_exchanged b u v i j h k =
    let a = take i b in
    let d = drop i b in
    let x = take (length u) d in
    let y = drop (length u) d in
    let c = take (j - (i + length u)) y in
    let e = drop (j - (i + length u)) y in
    let ld : length d ≡ length b - i = length-drop i b in
    let ly : length y ≡ length d - length u = length-drop (length u) d in
    let la : length a ≡ i = length-take-le i b (omega (arith, h, k)) in
    let lx : length x ≡ length u = length-take-le (length u) d (omega (arith, h, k, ld)) in
    let lc : length c ≡ j - (i + length u) = length-take-le (j - (i + length u)) y (omega (arith, h, k, ld, ly)) in
    let whole : a ++ (x ++ (c ++ e)) ≡ b = ap (λ v. a ++ (x ++ v)) (take-append-drop (j - (i + length u)) y) ∙ ap (λ v. a ++ v) (take-append-drop (length u) d) ∙ take-append-drop i b in
    let all = exchanged a x c e u v j lx (omega (arith, la, lc, h)) in
    subst (λ n. pasted (pasted b n u) j v ≡ pasted (pasted b j v) n u) la
    (subst (λ z. pasted (pasted z (length a) u) j v ≡ pasted (pasted z j v) (length a) u) whole all)

pub paste_length : (b u : List ℕ) (i : ℕ) → i ≤ length b → length b ≤ length (pasted b i u)
paste_length b u i h =
    let p = length-append (take i b ++ u) (drop (i + length u) b) in
    let q = length-append (take i b) u in
    let r : length (take i b) ≡ i = length-take-le i b h in
    let s : length (drop (i + length u) b) ≡ length b - (i + length u) = length-drop (i + length u) b in
    omega (arith, p, q, r, s)
