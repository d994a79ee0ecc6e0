-- The regions that are left, while those before them are mapped.
use Rattle.std.proofs.Common.{◌≡◌, sym, ap, ◌∙◌, subst, List, [], ◌∷◌, length}
use Rattle.cell_world.specs.World.{Region}
use Rattle.cell_mem.specs.State.{MemoryState, IsRoom}
use Rattle.cell_commit.specs.Commit.{AreRoom, all_mapped, mapped_one}

module _ (m : MemoryState) (left rest : List Region) (r : Region) (is : left ≡ r ∷ rest) (room : AreRoom m left) where
  rooms : AreRoom m (r ∷ rest)
  rooms = subst (AreRoom m) is room

  pub room_here : IsRoom m r.start (length r.bytes)
  room_here = rooms.0

  pub room_more : (n : MemoryState) → n ≡ mapped_one m r → AreRoom n rest
  room_more n e = subst (λ (s : MemoryState). AreRoom s rest) (sym e) rooms.1

pub mapped_more : (m n all : MemoryState) (left rest : List Region) (r : Region) → left ≡ r ∷ rest → n ≡ mapped_one m r → all_mapped m left ≡ all → all_mapped n rest ≡ all
mapped_more m n all left rest r is e before = ap (λ (s : MemoryState). all_mapped s rest) e ∙ sym (ap (all_mapped m) is) ∙ before

pub mapped_done : (m all : MemoryState) (left : List Region) → left ≡ [] → all_mapped m left ≡ all → m ≡ all
mapped_done m all left none before = sym (ap (all_mapped m) none) ∙ before
