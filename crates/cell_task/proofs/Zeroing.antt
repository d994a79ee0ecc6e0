-- A stack that is cleared eight bytes at a time.
use Rattle.std.proofs.Common.{◌≡◌, refl, sym, ◌∙◌, ap, arith, ℕ, zero, suc, ◌+◌, ◌-◌, ◌*◌, ◌≤◌, ◌<◌, ◌⊎◌, inl, inr, Bool, true, false, List, [], ◌∷◌, ◌++◌, map, length, replicate}
use Rattle.std.specs.Prelude.{take, drop, nat_lt, nat_le, IsTrue}
use Rattle.std.proofs.lemmas.Bool.{and_parts, ltb-true, leb-true, false_from_ne_true}
use Rattle.std.proofs.lemmas.List.{append_assoc, length-append, length-drop, length-replicate, take-append-drop}
use Rattle.std.proofs.lemmas.Slice.{drop-append-drop}
use Rattle.std.proofs.Math.Seq.{take-append_seam}
use Rattle.cell_num.specs.Bits.{bytes_of}
use Rattle.cell_num.specs.Lists.{In, each_pair}
use Rattle.cell_num.proofs.Elements.{map_same, pairs-In}
use Rattle.cell_num.specs.Limits.{stack_size}
use Rattle.cell_world.specs.World.{Region}
use Rattle.cell_world.specs.Running.Memory.{covers, end_of, pasted, written, put_in}
use Rattle.cell_world.specs.Coherent.{ends_before}
use Rattle.cell_lemmas.proofs.Fields.Relinked.{map_twice}
use Rattle.cell_lemmas.proofs.Fields.Writes.{covered, written_in, written_out}
use Rattle.cell_task.specs.Clearing.{zeroed}

zeros_joined : (m n : ℕ) → replicate {A = ℕ} (m + n) 0 ≡ replicate m 0 ++ replicate n 0
zeros_joined zero n = let e : 0 + n ≡ n = omega arith in ap (λ (k : ℕ). replicate {A = ℕ} k 0) e
zeros_joined (suc m) n = let e : suc m + n ≡ suc (m + n) = omega arith in ap (λ (k : ℕ). replicate {A = ℕ} k 0) e ∙ ap (λ (l : List ℕ). 0 ∷ l) (zeros_joined m n)

at_first : (b z : List ℕ) (i : ℕ) → i ≡ 0 → pasted b i z ≡ z ++ drop (length z) b
at_first b z i e = let n : 0 + length z ≡ length z = omega arith in ap (λ (k : ℕ). pasted b k z) e ∙ ap (λ (k : ℕ). z ++ drop k b) n

after_it : (b y z : List ℕ) (i : ℕ) → i ≡ length z → pasted (z ++ drop (length z) b) i y ≡ (z ++ y) ++ drop (length (z ++ y)) b
after_it b y z i e =
    ap (λ (k : ℕ). pasted (z ++ drop (length z) b) k y) e
    ∙ (ap (λ (x : List ℕ). x ++ y ++ drop (length z + length y) (z ++ drop (length z) b)) (take-append_seam z (drop (length z) b))
    ∙ (ap (λ (x : List ℕ). z ++ y ++ x) (drop-append-drop (length z) b z (length z + length y) (omega arith) refl)
    ∙ ap (λ (k : ℕ). z ++ y ++ drop k b) (sym (length-append z y))))

uncovered : (r : Region) (addr : ℕ) → (end_of r ≤ addr) ⊎ (addr < r.start) → covers r addr ≡ false
uncovered r addr h = false_from_ne_true (covers r addr) (λ e. let p = and_parts (nat_le r.start addr) (nat_lt addr (end_of r)) e in go h (leb-true r.start addr p.0) (ltb-true addr (end_of r) p.1))
  where
    go : (end_of r ≤ addr) ⊎ (addr < r.start) → r.start ≤ addr → addr < end_of r → ⊥
    go (inl x) a b = omega (arith, x, b)
    go (inr x) a b = omega (arith, x, a)

module _ (stack k : ℕ) (few : k < 2048) where
  abbrev so_far : List ℕ
  so_far = replicate (8 * k) 0

  long : length so_far ≡ 8 * k
  long = length-replicate {A = ℕ} (8 * k) 0

  one_more : so_far ++ bytes_of 8 0 ≡ replicate (8 * suc k) 0
  one_more = let e : 8 * k + 8 ≡ 8 * suc k = omega arith in sym (zeros_joined (8 * k) 8) ∙ ap (λ (n : ℕ). replicate {A = ℕ} n 0) e

  -- the stack's own region
  own : (r : Region) → r.start ≡ stack → length r.bytes ≡ stack_size → written (zeroed stack (8 * k) r) (stack + 8 * k) (bytes_of 8 0) ≡ zeroed stack (8 * suc k) r
  own r s l =
      ap (λ (x : Region). written x (stack + 8 * k) (bytes_of 8 0)) first
      ∙ (written_in with_zeros (stack + 8 * k) (bytes_of 8 0) (covered with_zeros (stack + 8 * k) (omega (arith, s)) (omega (arith, s, longer, few)))
      ∙ (ap (λ (x : List ℕ). record r { bytes = x }) (after_it r.bytes (bytes_of 8 0) so_far (stack + 8 * k - r.start) (omega (arith, s, long)))
      ∙ (ap (λ (x : List ℕ). record r { bytes = x ++ drop (length x) r.bytes }) one_more
      ∙ sym (begun (replicate (8 * suc k) 0)))))
    where
      begun : (z : List ℕ) → written r stack z ≡ record r { bytes = z ++ drop (length z) r.bytes }
      begun z =
          written_in r stack z (covered r stack (omega (arith, s)) (omega (arith, s, l)))
          ∙ ap (λ (x : List ℕ). record r { bytes = x }) (at_first r.bytes z (stack - r.start) (omega (arith, s)))

      with_zeros : Region
      with_zeros = record r { bytes = so_far ++ drop (length so_far) r.bytes }

      first : zeroed stack (8 * k) r ≡ with_zeros
      first = begun so_far

      longer : length (so_far ++ drop (length so_far) r.bytes) ≡ stack_size
      longer = omega (arith, length-append so_far (drop (length so_far) r.bytes), length-drop (length so_far) r.bytes, long, l, few)

  -- another region
  other : (r : Region) → (end_of r ≤ stack) ⊎ (stack + stack_size ≤ r.start) → written (zeroed stack (8 * k) r) (stack + 8 * k) (bytes_of 8 0) ≡ zeroed stack (8 * suc k) r
  other r away =
      ap (λ (x : Region). written x (stack + 8 * k) (bytes_of 8 0)) (written_out r stack so_far (uncovered r stack (here away)))
      ∙ (written_out r (stack + 8 * k) (bytes_of 8 0) (uncovered r (stack + 8 * k) (there away))
      ∙ sym (written_out r stack (replicate (8 * suc k) 0) (uncovered r stack (here away))))
    where
      here : (end_of r ≤ stack) ⊎ (stack + stack_size ≤ r.start) → (end_of r ≤ stack) ⊎ (stack < r.start)
      here (inl x) = inl x
      here (inr x) = inr (omega (arith, x))

      there : (end_of r ≤ stack) ⊎ (stack + stack_size ≤ r.start) → (end_of r ≤ stack + 8 * k) ⊎ (stack + 8 * k < r.start)
      there (inl x) = inl (omega (arith, x))
      there (inr x) = inr (omega (arith, x, few))

  pub zeros_one_more : (regions : List Region) (r : Region) → IsTrue (each_pair ends_before regions) → In r regions → r.start ≡ stack → length r.bytes ≡ stack_size
      → put_in (map (zeroed stack (8 * k)) regions) (record { addr = stack + 8 * k; width = 8; value = 0 }) ≡ map (zeroed stack (8 * suc k)) regions
  zeros_one_more regions r apart i s l =
      map_twice (λ (x : Region). written x (stack + 8 * k) (bytes_of 8 0)) (zeroed stack (8 * k)) regions
      ∙ map_same (λ (x : Region). written (zeroed stack (8 * k) x) (stack + 8 * k) (bytes_of 8 0)) (zeroed stack (8 * suc k)) regions (λ q j. pick q (pairs-In ends_before regions apart r q i j))
    where
      pick : (q : Region) → (r ≡ q) ⊎ ((ends_before r q ≡ true) ⊎ (ends_before q r ≡ true)) → written (zeroed stack (8 * k) q) (stack + 8 * k) (bytes_of 8 0) ≡ zeroed stack (8 * suc k) q
      pick q (inl e) = own q (ap (λ (x : Region). x.start) (sym e) ∙ s) (ap (λ (x : Region). length x.bytes) (sym e) ∙ l)
      pick q (inr (inl e)) = other q (inr (omega (arith, leb-true (end_of r) q.start e, s, l)))
      pick q (inr (inr e)) = other q (inl (omega (arith, leb-true (end_of q) r.start e, s)))

pub none_yet : (stack : ℕ) (regions : List Region) → map (zeroed stack 0) regions ≡ regions
none_yet stack [] = refl
none_yet stack (r ∷ rest) = ap (λ (x : Region). x ∷ map (zeroed stack 0) rest) (one (covers r stack) refl) ∙ ap (λ (l : List Region). r ∷ l) (none_yet stack rest)
  where
    same : (n i : ℕ) → i ≡ n + 0 → take n r.bytes ++ [] ++ drop i r.bytes ≡ r.bytes
    same n i e = ap (λ (j : ℕ). take n r.bytes ++ [] ++ drop j r.bytes) (e ∙ omega arith) ∙ (append_assoc (take n r.bytes) [] (drop n r.bytes) ∙ take-append-drop n r.bytes)

    one : (b : Bool) → covers r stack ≡ b → zeroed stack 0 r ≡ r
    one false e = written_out r stack [] e
    one true e = written_in r stack [] e ∙ ap (λ (x : List ℕ). record r { bytes = x }) (same (stack - r.start) (stack - r.start + 0) refl)
