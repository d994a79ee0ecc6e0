-- A turn of a hart, whatever its calls do, leaves what mayn't be stored to.
use Rattle.std.proofs.Common.{◌≡◌, refl, sym, ◌∙◌, ap, subst, arith, ℕ, ◌+◌, ◌-◌, ◌≤◌, ◌<◌, ◌⊎◌, inl, inr, Bool, true, false, ◌&&◌, List, length, map, true≢false}
use Rattle.std.specs.Prelude.{nat_le, nat_lt}
use Rattle.std.proofs.lemmas.Bool.{and_from, leb-true, leb-false, ltb-true, ltb-false, lt-ltb}
use Rattle.cell_num.specs.Kinds.{width_of}
use Rattle.cell_num.specs.Lists.{each_pair, In}
use Rattle.cell_object.specs.declared.object.Entry.{Entry}
use Rattle.cell_world.specs.World.{World, Cell, Region}
use Rattle.cell_world.specs.Running.Memory.{read_in}
use Rattle.cell_world.specs.Linked.Field.{fields_of, place_of}
use Rattle.cell_world.specs.Coherent.{IsCoherent, shape_of, ends_before}
use Rattle.cell_world.specs.Running.Execute.{Seen, is_field_at, seen_in}
use Rattle.cell_world.specs.Running.Move.{Hart, Column, move}
use Rattle.cell_num.proofs.Elements.{In-All, any-In, any-Has}
use Rattle.cell_lemmas.specs.Kept.{IsMemory, KeepsReadOnly, KeepsSealed, KeepsShapes}
use Rattle.cell_num.proofs.Sublists.{and_left, and_right}
use Rattle.cell_lemmas.proofs.Tasks.Executed.{Stored, good_move}
use Rattle.cell_lemmas.proofs.Tasks.Stores.{keeps_apart, keeps_bytes, keeps_read_only, keeps_shapes}

module _ (m : Seen) (h : IsMemory m) (regions : List Region) where
  pub stored_shapes : Stored m regions → KeepsShapes m.regions regions
  stored_shapes (inl e) = ap (map shape_of) e
  stored_shapes (inr s) = ap (map shape_of) s.is ∙ keeps_shapes m.regions h.apart s.addr s.new s.may

  pub stored_apart : Stored m regions → each_pair ends_before regions ≡ true
  stored_apart (inl e) = ap (each_pair ends_before) e ∙ h.apart
  stored_apart (inr s) = ap (each_pair ends_before) s.is ∙ keeps_apart m.regions h.apart s.addr s.new s.may

  pub stored_read_only : Stored m regions → (r : Region) → In r m.regions → r.permission.write ≡ false → In r regions
  stored_read_only (inl e) r i n = subst (λ rs. In r rs) (sym e) i
  stored_read_only (inr s) r i n = subst (λ rs. In r rs) (sym s.is) (keeps_read_only m.regions h.apart s.addr s.new s.may r i n)

  -- a sealed byte is before or behind bytes of which none is sealed
  away : (addr n p : ℕ) → m.is_sealed addr n ≡ false → m.is_sealed p 1 ≡ true → (p + 1 ≤ addr) ⊎ (addr + n ≤ p)
  away addr n p free sealed = go (nat_lt p addr) refl (nat_le (addr + n) p) refl
    where
      met : addr ≤ p → p < addr + n → ⊥
      met a b =
          let e : p ≡ addr + (p - addr) = omega (arith, a) in
          true≢false (sym (h.sealed addr n (p - addr) (omega (arith, a, b)) (subst (λ q. m.is_sealed q 1 ≡ true) e sealed)) ∙ free)

      go : (a : Bool) → nat_lt p addr ≡ a → (b : Bool) → nat_le (addr + n) p ≡ b → (p + 1 ≤ addr) ⊎ (addr + n ≤ p)
      go true e b f = inl (omega (arith, ltb-true p addr e))
      go false e true f = inr (leb-true (addr + n) p f)
      go false e false f = absurd (met (ltb-false p addr e) (leb-false (addr + n) p f))

  pub stored_sealed : Stored m regions → KeepsSealed m regions
  stored_sealed (inl e) addr k = ap (λ rs. read_in rs addr 1) e
  stored_sealed (inr s) addr k =
      ap (λ rs. read_in rs addr 1) s.is
      ∙ keeps_bytes m.regions h.apart s.addr s.new s.may addr 1 (away s.addr (length s.new) addr s.free k)

module _ (column : Column) (m : Seen) (h : Hart) (k : IsMemory m) where
  stored : Stored m (move column m h).regions
  stored = (good_move m h column).stored

  pub move_shapes : KeepsShapes m.regions (move column m h).regions
  move_shapes = stored_shapes m k (move column m h).regions stored

  pub move_read_only : KeepsReadOnly m.regions (move column m h).regions
  move_read_only = In-All (λ (r : Region). r.permission.write ≡ false → In r (move column m h).regions) m.regions (stored_read_only m k (move column m h).regions stored)

  pub move_sealed : KeepsSealed m (move column m h).regions
  move_sealed = stored_sealed m k (move column m h).regions stored

  pub move_memory : IsMemory (record m { regions = (move column m h).regions })
  move_memory = record { apart = stored_apart m k (move column m h).regions stored; sealed = k.sealed }

-- the memory of a coherent machine
pub seen_memory : (w : World) → IsCoherent w → IsMemory (seen_in w)
seen_memory w h = record { apart = h.ready.apart; sealed = sealed }
  where
    wider : (c : Cell) (f : Entry) (addr n k : ℕ) → k < n
        → (nat_lt (addr + k) (place_of c.placed f + width_of f.kind) && nat_lt (place_of c.placed f) (addr + k + 1)) ≡ true
        → (nat_lt addr (place_of c.placed f + width_of f.kind) && nat_lt (place_of c.placed f) (addr + n)) ≡ true
    wider c f addr n k l e =
        let a = ltb-true (addr + k) (place_of c.placed f + width_of f.kind) (and_left (nat_lt (addr + k) (place_of c.placed f + width_of f.kind)) (nat_lt (place_of c.placed f) (addr + k + 1)) e) in
        let b = ltb-true (place_of c.placed f) (addr + k + 1) (and_right (nat_lt (addr + k) (place_of c.placed f + width_of f.kind)) (nat_lt (place_of c.placed f) (addr + k + 1)) e) in
        and_from (nat_lt addr (place_of c.placed f + width_of f.kind)) (nat_lt (place_of c.placed f) (addr + n))
        (lt-ltb addr (place_of c.placed f + width_of f.kind) (omega (arith, a))) (lt-ltb (place_of c.placed f) (addr + n) (omega (arith, b, l)))

    sealed : (addr n k : ℕ) → k < n → (seen_in w).is_sealed (addr + k) 1 ≡ true → (seen_in w).is_sealed addr n ≡ true
    sealed addr n k l e =
        let c = any-Has (is_field_at (addr + k) 1) w.cells e in
        let f = any-Has _ (fields_of c.0.object) c.2 in
        any-In (is_field_at addr n) w.cells c.0 c.1 (any-In _ (fields_of c.0.object) f.0 f.1 (wider c.0 f.0 addr n k l f.2))
