-- What mapping regions leaves of a memory, part by part.
use Rattle.std.proofs.Common.{◌≡◌, refl, sym, ap, subst, ◌∙◌, arith, Option, Some, None, ℕ, suc, ◌+◌, ◌-◌, ◌^◌, ◌≤◌, List, [], ◌∷◌, length, min}
use Rattle.std.specs.Prelude.{fold, IfSome}
use Rattle.cell_world.specs.World.{Region}
use Rattle.cell_world.specs.Placed.Place.{with_region}
use Rattle.cell_mem.specs.State.{HasWrites, MemoryState, one_more}
use Rattle.cell_mem.specs.Undo.{UndoState, begun, with_mapped}
use Rattle.cell_commit.specs.Commit.{all_mapped, mapped_one}

-- a count that stands still at its last value
pub count_none : (a : ℕ) → a ≤ 2 ^ 64 - 1 → a ≡ min (a + 0) (2 ^ 64 - 1)
count_none a le = omega arith

pub count_more : (a n : ℕ) → min (one_more a + n) (2 ^ 64 - 1) ≡ min (a + suc n) (2 ^ 64 - 1)
count_more a n = omega arith

pub count_bound : (a : ℕ) → one_more a ≤ 2 ^ 64 - 1
count_bound a = omega arith

pub mapped_regions : (m : MemoryState) (regions : List Region) → (all_mapped m regions).regions ≡ fold (λ rs r. with_region r rs) m.regions regions
mapped_regions m [] = refl
mapped_regions m (r ∷ regions) = mapped_regions (mapped_one m r) regions

pub mapped_maps : (m : MemoryState) (regions : List Region) → m.maps ≤ 2 ^ 64 - 1 → (all_mapped m regions).maps ≡ min (m.maps + length regions) (2 ^ 64 - 1)
mapped_maps m [] le = count_none m.maps le
mapped_maps m (r ∷ regions) le = mapped_maps (mapped_one m r) regions (count_bound m.maps) ∙ count_more m.maps (length regions)

one_fewer : (a n : ℕ) → a - 1 - n ≡ a - suc n
one_fewer a n = omega arith

pub mapped_spare : (m : MemoryState) (regions : List Region) → (all_mapped m regions).spare ≡ m.spare - length regions
mapped_spare m [] = omega arith
mapped_spare m (r ∷ regions) = mapped_spare (mapped_one m r) regions ∙ one_fewer m.spare (length regions)

pub mapped_base : (m : MemoryState) (regions : List Region) → (all_mapped m regions).base ≡ m.base
mapped_base m [] = refl
mapped_base m (r ∷ regions) = mapped_base (mapped_one m r) regions

pub mapped_pages : (m : MemoryState) (regions : List Region) → (all_mapped m regions).pages ≡ m.pages
mapped_pages m [] = refl
mapped_pages m (r ∷ regions) = mapped_pages (mapped_one m r) regions

pub mapped_sealed : (m : MemoryState) (regions : List Region) → (all_mapped m regions).sealed ≡ m.sealed
mapped_sealed m [] = refl
mapped_sealed m (r ∷ regions) = mapped_sealed (mapped_one m r) regions

-- where no undo is begun, none is then
pub mapped_undo : (m : MemoryState) (regions : List Region) → m.undo ≡ None → (all_mapped m regions).undo ≡ None
mapped_undo m [] none = none
mapped_undo m (r ∷ regions) none = mapped_undo (mapped_one m r) regions (ap (with_mapped r) none)

-- one that was just begun gives the new regions back as they came
pub mapped_begun : (m : MemoryState) (regions : List Region) (writes : ℕ) → m.undo ≡ Some (begun writes m.regions) → (all_mapped m regions).undo ≡ Some (begun writes (all_mapped m regions).regions)
mapped_begun m [] writes e = e
mapped_begun m (r ∷ regions) writes e = mapped_begun (mapped_one m r) regions writes (ap (with_mapped r) e)

-- and no write is taken
pub mapped_writes : (m n : MemoryState) (regions : List Region) (count : ℕ) → n ≡ all_mapped m regions → HasWrites m count → HasWrites n count
mapped_writes m n regions count e has = subst (λ (k : MemoryState). HasWrites k count) (sym e) (all m regions has)
  where
    one : (r : Region) (o : Option UndoState) → IfSome o (λ u. count ≤ u.left) → IfSome (with_mapped r o) (λ u. count ≤ u.left)
    one r None h = h
    one r (Some u) h = h

    all : (k : MemoryState) (rs : List Region) → HasWrites k count → HasWrites (all_mapped k rs) count
    all k [] h = h
    all k (r ∷ rs) h = all (mapped_one k r) rs (one (record { start = r.start; permission = r.permission; bytes = r.bytes }) k.undo h)

pub mapped_patches : (m : MemoryState) (regions : List Region) → (all_mapped m regions).patches ≡ m.patches
mapped_patches m [] = refl
mapped_patches m (r ∷ regions) = mapped_patches (mapped_one m r) regions
