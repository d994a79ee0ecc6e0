-- Two writes into a region that don't meet can be exchanged.
use Rattle.std.proofs.Common.{◌≡◌, refl, sym, ◌∙◌, ap, subst, arith, ℕ, ◌+◌, ◌-◌, ◌≤◌, ◌<◌, ◌⊎◌, inl, inr, Bool, true, false, cond, ◌&&◌, List, length}
use Rattle.std.specs.Prelude.{nat_lt, nat_le}
use Rattle.std.proofs.lemmas.Bool.{and_from, leb-true, ltb-true, le-leb, lt-ltb}
use Rattle.cell_world.specs.World.{Region}
use Rattle.cell_world.specs.Running.Memory.{covers, pasted, written}
use Rattle.cell_lemmas.proofs.Fields.Patches.{length-pasted}
use Rattle.cell_num.proofs.Sublists.{and_left, and_right}
use Rattle.cell_lemmas.proofs.Fields.Pastes.{paste_exchanged, paste_length}

-- the bytes from the address on stand in the region
pub record Holds (addr : ℕ) (new : List ℕ) (r : Region) : Type 0 where
  pub after_start : r.start ≤ addr
  pub before_end : addr < r.start + length r.bytes
  pub ends : addr + length new ≤ r.start + length r.bytes

pub covered : (r : Region) (addr : ℕ) → r.start ≤ addr → addr < r.start + length r.bytes → covers r addr ≡ true
covered r addr a b = and_from (nat_le r.start addr) (nat_lt addr (r.start + length r.bytes)) (le-leb r.start addr a) (lt-ltb addr (r.start + length r.bytes) b)

pub begins_below : (r : Region) (addr : ℕ) → covers r addr ≡ true → r.start ≤ addr
begins_below r addr c = leb-true r.start addr (and_left (nat_le r.start addr) (nat_lt addr (r.start + length r.bytes)) c)

pub ends_above : (r : Region) (addr : ℕ) → covers r addr ≡ true → addr < r.start + length r.bytes
ends_above r addr c = ltb-true addr (r.start + length r.bytes) (and_right (nat_le r.start addr) (nat_lt addr (r.start + length r.bytes)) c)

pub written_in : (r : Region) (addr : ℕ) (new : List ℕ) → covers r addr ≡ true → written r addr new ≡ record r { bytes = pasted r.bytes (addr - r.start) new }
written_in r addr new c = ap (λ b. cond b (record r { bytes = pasted r.bytes (addr - r.start) new }) r) c

pub written_out : (r : Region) (addr : ℕ) (new : List ℕ) → covers r addr ≡ false → written r addr new ≡ r
written_out r addr new c = ap (λ b. cond b (record r { bytes = pasted r.bytes (addr - r.start) new }) r) c

-- a write keeps the length of the region that holds it
pub same_length : (r : Region) (addr : ℕ) (new : List ℕ) → Holds addr new r → length (pasted r.bytes (addr - r.start) new) ≡ length r.bytes
same_length r addr new h = length-pasted r.bytes new (addr - r.start) (omega (arith, h.after_start, h.before_end, h.ends))

pub written_exchanged : (r : Region) (addr : ℕ) (new : List ℕ) (p : ℕ) (v : List ℕ) → Holds addr new r → (p + length v ≤ addr) ⊎ (addr + length new ≤ p)
    → (written (written r addr new) p v ≡ written (written r p v) addr new) × Holds addr new (written r p v)
written_exchanged r addr new p v h apart = go (covers r p) refl
  where
    same : length (pasted r.bytes (addr - r.start) new) ≡ length r.bytes
    same = same_length r addr new h

    go : (b : Bool) → covers r p ≡ b → (written (written r addr new) p v ≡ written (written r p v) addr new) × Holds addr new (written r p v)
    go false c = (
      ap (λ x. written x p v) (written_in r addr new (covered r addr h.after_start h.before_end))
          ∙ (written_out (record r { bytes = pasted r.bytes (addr - r.start) new }) p v (ap (λ n. nat_le r.start p && nat_lt p (r.start + n)) same ∙ c)
          ∙ sym (ap (λ x. written x addr new) (written_out r p v c) ∙ written_in r addr new (covered r addr h.after_start h.before_end))),
      subst (λ x. Holds addr new x) (sym (written_out r p v c)) h,
    )
    go true c =
        let lo : r.start ≤ p = begins_below r p c in
        let hi : p < r.start + length r.bytes = ends_above r p c in
        let grow : length r.bytes ≤ length (pasted r.bytes (p - r.start) v) = paste_length r.bytes v (p - r.start) (omega (arith, lo, hi)) in
        let bytes = swapped lo hi apart in
        let q : Region = record r { bytes = pasted r.bytes (p - r.start) v } in
        let still : Holds addr new q = record { after_start = h.after_start; before_end = omega (arith, h.before_end, grow); ends = omega (arith, h.ends, grow) } in (
          ap (λ x. written x p v) (written_in r addr new (covered r addr h.after_start h.before_end))
              ∙ (written_in (record r { bytes = pasted r.bytes (addr - r.start) new }) p v (ap (λ n. nat_le r.start p && nat_lt p (r.start + n)) same ∙ c)
              ∙ (ap (λ b. record r { bytes = b }) bytes
              ∙ sym (ap (λ x. written x addr new) (written_in r p v c) ∙ written_in q addr new (covered q addr still.after_start still.before_end)))),
          subst (λ x. Holds addr new x) (sym (written_in r p v c)) still,
        )
      where
        swapped : r.start ≤ p → p < r.start + length r.bytes → (p + length v ≤ addr) ⊎ (addr + length new ≤ p)
            → pasted (pasted r.bytes (addr - r.start) new) (p - r.start) v ≡ pasted (pasted r.bytes (p - r.start) v) (addr - r.start) new
        swapped lo hi (inl a) = sym (paste_exchanged r.bytes v new (p - r.start) (addr - r.start) (omega (arith, lo, a, h.after_start)) (omega (arith, h.after_start, h.before_end)))
        swapped lo hi (inr a) = paste_exchanged r.bytes new v (addr - r.start) (p - r.start) (omega (arith, lo, a, h.after_start)) (omega (arith, lo, hi))
