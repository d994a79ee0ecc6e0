-- The bytes of a name, one after the other.
use Rattle.std.proofs.Common.{◌≡◌, refl, sym, ap, ◌∙◌, arith, ℕ, zero, suc, ◌+◌, ◌-◌, ◌*◌, ◌<◌, ◌≤◌, Bool, true, false, ◌&&◌, List, [], ◌∷◌, ◌++◌, Option, Some, None, length, map, take, drop, set, leb, inl, inr, ◌^◌}
use Rattle.std.specs.Prelude.{option_and_then, slice_get, slice_range, SomeIff}
use Rattle.std.specs.List.{list_all}
use Rattle.std.proofs.lemmas.Bool.{and_parts, leb-true, le-leb, cases_lt}
use Rattle.std.proofs.lemmas.List.{length-take-le, length-drop, map-append, take_more_set}
use Rattle.std.proofs.Math.Seq.{take-length}
use Rattle.cell_num.specs.Bits.{little}
use Rattle.cell_num.specs.Lists.{from_on, where_true}
use Rattle.cell_world.specs.World.{Region}
use Rattle.cell_world.specs.Running.Memory.{covers, end_of, part_of, region_in}
use Rattle.cell_world.specs.Running.Execute.{allows, number_read}
use Rattle.cell_world.specs.Running.Execute.{Seen}
use Rattle.cell_world.specs.Running.Transfer.{asked_name, bytes_loaded}
use Rattle.cell_world.specs.Placed.Pages.{IsSpace}
use Rattle.cell_mem.specs.Index.{IsLaid}
use Rattle.cell_mem.specs.State.{MemoryState}
use Rattle.cell_mem.proofs.Laid.{covers_low, find_lies, found_passes}

one_byte : (xs : List ℕ) → length xs ≡ 1 → slice_get xs 0 ≡ Some (little xs)
one_byte [] e = absurd (omega (arith, e))
one_byte (b ∷ []) e = ap Some (omega arith)
one_byte (b ∷ c ∷ xs) e = absurd (omega (arith, e))

-- where the byte may be read, it is there
pub byte_there : (regions : List Region) (addr : ℕ) (o : Option (List ℕ)) → o ≡ option_and_then (λ r. part_of r addr 1) (region_in regions addr)
    → allows regions (λ p. p.read) addr 1 ≡ true → option_and_then (λ xs. slice_get xs 0) o ≡ Some (number_read regions addr 1)
byte_there regions addr o e may = ap (option_and_then (λ xs. slice_get xs 0)) e ∙ go (region_in regions addr) refl may
  where
    here : (r : Region) → covers r addr ≡ true → (b : Bool) → leb (addr + 1) (end_of r) ≡ b → b ≡ true
        → option_and_then (λ xs. slice_get xs 0) (where_true b (slice_range r.bytes (addr - r.start) (addr - r.start + 1))) ≡ Some (little (slice_range r.bytes (addr - r.start) (addr - r.start + 1)))
    here r c false t s = absurd cc
    here r c true t s =
        let low = covers_low r addr c in
        let inside = leb-true (addr + 1) (end_of r) t in
        let count : addr - r.start + 1 - (addr - r.start) ≡ 1 = omega arith in
        one_byte (slice_range r.bytes (addr - r.start) (addr - r.start + 1))
        (ap (λ k. length (take k (drop (addr - r.start) r.bytes))) count
        ∙ length-take-le 1 (drop (addr - r.start) r.bytes) (omega (arith, low, inside, length-drop (addr - r.start) r.bytes)))

    go : (f : Option Region) → region_in regions addr ≡ f → (elim f as (λ _. Bool) [ None ↦ false | Some r ↦ r.permission.read && leb (addr + 1) (end_of r) ]) ≡ true
        → option_and_then (λ xs. slice_get xs 0) (option_and_then (λ r. part_of r addr 1) f)
        ≡ Some (elim f as (λ _. ℕ) [ None ↦ 0 | Some r ↦ little (slice_range r.bytes (addr - r.start) (addr - r.start + 1)) ])
    go None f t = absurd cc
    go (Some r) f t =
        here r (found_passes (λ s. covers s addr) regions r f) (leb (addr + 1) (end_of r)) refl
        (and_parts r.permission.read (leb (addr + 1) (end_of r)) t).1

-- what may be read lies in the space
pub beyond : (low high : ℕ) (regions : List Region) (addr : ℕ) → IsLaid low regions high → high ≤ addr → allows regions (λ p. p.read) addr 1 ≡ false
beyond low high regions addr laid past = go (region_in regions addr) refl
  where
    at : (r : Region) (may b : Bool) → leb (addr + 1) (end_of r) ≡ b → end_of r ≤ high → (may && b) ≡ false
    at r true true t e = absurd (omega (arith, leb-true (addr + 1) (end_of r) t, e, past))
    at r true false t e = refl
    at r false true t e = refl
    at r false false t e = refl

    go : (o : Option Region) → region_in regions addr ≡ o → (elim o as (λ _. Bool) [ None ↦ false | Some r ↦ r.permission.read && leb (addr + 1) (end_of r) ]) ≡ false
    go None f = refl
    go (Some r) f = at r r.permission.read (leb (addr + 1) (end_of r)) refl (find_lies low regions high (λ s. covers s addr) r laid f).0.below

from_more : (a n : ℕ) → from_on a (suc n) ≡ from_on a n ++ (a + n) ∷ []
from_more a zero = ap (λ k. k ∷ []) (omega arith)
from_more a (suc n) = ap (λ ks. a ∷ ks) (from_more (suc a) n ∙ ap (λ k. from_on (suc a) n ++ k ∷ []) (omega arith))

-- the first n bytes can be loaded
pub record IsRead (regions : List Region) (addr n : ℕ) (into : List ℕ) : Type 0 where
  pub may : list_all (λ k. allows regions (λ p. p.read) k 1) (from_on addr n) ≡ true
  pub bytes : take n into ≡ map (λ k. number_read regions k 1) (from_on addr n)

module _ (regions : List Region) where
  abbrev may_at : ℕ → Bool
  may_at k = allows regions (λ p. p.read) k 1

  abbrev at : ℕ → ℕ
  at k = number_read regions k 1

  all_more : (ks : List ℕ) (k : ℕ) → list_all may_at ks ≡ true → may_at k ≡ true → list_all may_at (ks ++ k ∷ []) ≡ true
  all_more [] k all one = ap (λ b. b && true) one
  all_more (j ∷ ks) k all one =
      let parts = and_parts (may_at j) (list_all may_at ks) all in
      ap (λ b. b && list_all may_at (ks ++ k ∷ [])) parts.0 ∙ all_more ks k parts.1 one

  loaded_is : (k b : ℕ) → Some b ≡ where_true (may_at k) (at k) → (may_at k ≡ true) × (b ≡ at k)
  loaded_is k b e = go (may_at k) refl e
    where
      go : (c : Bool) → may_at k ≡ c → Some b ≡ where_true c (at k) → (may_at k ≡ true) × (b ≡ at k)
      go true t e = (t, cc)
      go false t e = absurd cc

  pub read_more : (addr n b : ℕ) (into : List ℕ) → n < length into → IsRead regions addr n into → Some b ≡ where_true (may_at (addr + n)) (at (addr + n)) → IsRead regions addr (n + 1) (set into n b)
  read_more addr n b into lt r e =
      let one = loaded_is (addr + n) b e in
      let more : n + 1 ≡ suc n = omega arith in
      let from : from_on addr (n + 1) ≡ from_on addr n ++ (addr + n) ∷ [] = ap (λ k. from_on addr k) more ∙ from_more addr n in
      record {
        may = ap (list_all may_at) from ∙ all_more (from_on addr n) (addr + n) r.may one.0;
        bytes =
            take_more_set into n b lt
            ∙ ap (λ xs. xs ++ b ∷ []) r.bytes
            ∙ ap (λ x. map at (from_on addr n) ++ x ∷ []) one.1
            ∙ sym (map-append at (from_on addr n) ((addr + n) ∷ []))
            ∙ sym (ap (map at) from);
      }

  lacks : (addr n len : ℕ) → n < len → may_at (addr + n) ≡ false → list_all may_at (from_on addr len) ≡ false
  lacks addr n zero lt e = absurd (omega (arith, lt))
  lacks addr zero (suc len) lt e =
      let here : addr ≡ addr + 0 = omega arith in
      ap (λ b. b && list_all may_at (from_on (suc addr) len)) (ap (λ k. may_at k) here ∙ e)
  lacks addr (suc n) (suc len) lt e =
      let here : suc addr + n ≡ addr + suc n = omega arith in
      go (may_at addr) (lacks (suc addr) n len (omega (arith, lt)) (ap (λ k. may_at k) here ∙ e))
    where
      go : (b : Bool) → list_all may_at (from_on (suc addr) len) ≡ false → (b && list_all may_at (from_on (suc addr) len)) ≡ false
      go true rest = rest
      go false rest = refl

  not_there : (k : ℕ) → None ≡ where_true (may_at k) (at k) → may_at k ≡ false
  not_there k e = go (may_at k) e
    where
      go : (c : Bool) → None ≡ where_true c (at k) → c ≡ false
      go true e = absurd cc
      go false e = refl

  pub read_fails : (addr n len : ℕ) → n < len → None ≡ where_true (may_at (addr + n)) (at (addr + n)) → None ≡ bytes_loaded regions addr len
  read_fails addr n len lt e =
      sym (ap (λ b. where_true b (map at (from_on addr len))) (lacks addr n len lt (not_there (addr + n) e)))

  pub read_all : (addr n : ℕ) (into : List ℕ) → length into ≡ n → IsRead regions addr n into → Some into ≡ bytes_loaded regions addr n
  read_all addr n into e r =
      ap Some (sym (take-length into) ∙ ap (λ k. take k into) e ∙ r.bytes) ∙ sym (ap (λ b. where_true b (map at (from_on addr n))) r.may)

-- past the end of the space nothing can be loaded
pub none_past : (m : MemoryState) (addr place : ℕ) (o p : Option ℕ) → IsLaid m.base m.regions (m.base + 4096 * m.pages) → IsSpace m.base m.pages
    → SomeIff o (addr + place < 2 ^ 64) (addr + place) → o ≡ None → p ≡ None
    → p ≡ where_true (allows m.regions (λ q. q.read) (addr + place) 1) (number_read m.regions (addr + place) 1)
none_past m addr place o p laid space iff none q =
    q
    ∙ sym (ap (λ b. where_true b (number_read m.regions (addr + place) 1))
    (beyond m.base (m.base + 4096 * m.pages) m.regions (addr + place) laid (omega (arith, space.highest, space.most, past o iff none))))
  where
    past : (o : Option ℕ) → SomeIff o (addr + place < 2 ^ 64) (addr + place) → o ≡ None → 2 ^ 64 ≤ addr + place
    past None iff none = elim (cases_lt (addr + place) (2 ^ 64)) [ inl lt ↦ absurd (iff lt) | inr le ↦ le ]
    past (Some x) iff none = absurd cc

pub too_long : (m : Seen) (addr n : ℕ) → 1024 < n → None ≡ asked_name m addr n
too_long m addr n lt = go (leb n 1024) refl
  where
    go : (b : Bool) → leb n 1024 ≡ b → None ≡ elim b as (λ _. Option (List ℕ)) [ true ↦ bytes_loaded m.regions addr n | false ↦ None ]
    go true e = absurd (omega (arith, leb-true n 1024 e, lt))
    go false e = refl

pub short_enough : (m : Seen) (addr n : ℕ) → n ≤ 1024 → asked_name m addr n ≡ bytes_loaded m.regions addr n
short_enough m addr n le = ap (λ b. elim b as (λ _. Option (List ℕ)) [ true ↦ bytes_loaded m.regions addr n | false ↦ None ]) (le-leb n 1024 le)
