-- What stands in the regions are bytes.
use Rattle.std.proofs.Common.{arith, ℕ, zero, suc, ◌+◌, ◌-◌, ◌<◌, Bool, true, false, cond, List, [], ◌∷◌, ◌++◌, length, map, take, drop, ltb}
use Rattle.std.specs.Prelude.{All, ◌%◌, ◌/◌}
use Rattle.std.proofs.lemmas.List.Elements.{All-append, All-cons, All-drop, All-map, All-take}
use Rattle.std.proofs.lemmas.Nat.{mod_below}
use Rattle.cell_num.specs.Bits.{bytes_of}
use Rattle.cell_world.specs.World.{Region}
use Rattle.cell_world.specs.Running.Memory.{covers, pasted, written}
use Rattle.cell_world.specs.Placed.Place.{with_region}
use Rattle.cell_world.specs.Running.Undo.{AreBytes}

abbrev pub IsSmall : ℕ → Type 0
IsSmall b = b < 256

abbrev pub HasBytesAlone : Region → Type 0
HasBytesAlone r = All IsSmall r.bytes

bytes_small : (n v : ℕ) → All IsSmall (bytes_of n v)
bytes_small zero v = λ k d lt. absurd (omega (arith, lt))
bytes_small (suc n) v = All-cons IsSmall (v % 256) (bytes_of n (v / 256)) (mod_below v 256 (omega arith)) (bytes_small n (v / 256))

pasted_small : (bytes new : List ℕ) (i : ℕ) → All IsSmall bytes → All IsSmall new → All IsSmall (pasted bytes i new)
pasted_small bytes new i old more =
    All-append IsSmall (take i bytes ++ new) (drop (i + length new) bytes)
    (All-append IsSmall (take i bytes) new (All-take IsSmall i bytes old) more)
    (All-drop IsSmall (i + length new) bytes old)

written_small : (r : Region) (addr n v : ℕ) → HasBytesAlone r → HasBytesAlone (written r addr (bytes_of n v))
written_small r addr n v h = go (covers r addr)
  where
    go : (b : Bool) → HasBytesAlone (cond b (record r { bytes = pasted r.bytes (addr - r.start) (bytes_of n v) }) r)
    go true = pasted_small r.bytes (bytes_of n v) (addr - r.start) h (bytes_small n v)
    go false = h

-- after a write
pub small_written : (rs : List Region) (addr n v : ℕ) → AreBytes rs → AreBytes (map (λ r. written r addr (bytes_of n v)) rs)
small_written rs addr n v h = All-map HasBytesAlone (λ r. written r addr (bytes_of n v)) rs (λ k d lt. written_small _ addr n v (h k d lt))

-- with a new region
pub small_with : (r : Region) (rs : List Region) → HasBytesAlone r → AreBytes rs → AreBytes (with_region r rs)
small_with r [] new h = All-cons HasBytesAlone r [] new h
small_with r (s ∷ rs) new h = go (ltb r.start s.start) (small_with r rs new (λ k d lt. h (suc k) d (omega (arith, lt))))
  where
    go : (b : Bool) → AreBytes (with_region r rs) → AreBytes (cond b (r ∷ s ∷ rs) (s ∷ with_region r rs))
    go true rest = All-cons HasBytesAlone r (s ∷ rs) new h
    go false rest = All-cons HasBytesAlone s (with_region r rs) (h 0 s (omega arith)) rest
