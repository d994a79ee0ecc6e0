-- An instruction leaves each region as long as it was, where the regions stand apart.
use Rattle.std.proofs.Common.{◌≡◌, refl, ap, ◌∙◌, arith, ℕ, ◌+◌, ◌-◌, ◌<◌, ◌≤◌, Bool, true, false, cond, ◌&&◌, List, [], ◌∷◌, length, map, Option, Some, None, leb}
use Rattle.std.specs.Prelude.{◌==◌, option_map}
use Rattle.std.specs.List.{find}
use Rattle.std.proofs.lemmas.Bool.{leb-true, and_parts}
use Rattle.cell_num.specs.Bits.{bytes_of}
use Rattle.cell_world.specs.World.{Region}
use Rattle.cell_world.specs.Running.Memory.{covers, end_of, put_by, region_in, written}
use Rattle.cell_world.specs.Running.Execute.{Seen, Effect, allows, execute}
use Rattle.cell_mem.specs.Index.{IsLaid}
use Rattle.cell_mem.specs.Writing.{put}
use Rattle.cell_mem.proofs.Laid.{covers_low, covers_high, not_below}
use Rattle.cell_hart.proofs.Stores.{ByStore, by_store}
use Rattle.cell_mem.proofs.Writes.{length-pasted, length-bytes_of}

-- how long the region is that starts there
abbrev pub size_from : ℕ → List Region → Option ℕ
size_from start regions = option_map (λ r. length r.bytes) (find (λ r. r.start == start) regions)

abbrev pub SameSizes : List Region → List Region → Type 0
SameSizes old new = (start : ℕ) → size_from start new ≡ size_from start old

abbrev pub KeepsSizes : List Region → Effect → Type 0
KeepsSizes old effect = ByStore (λ store. SameSizes old (put_by old store)) effect

size_more : (start : ℕ) (r s : Region) (rs ss : List Region) → s.start ≡ r.start → length s.bytes ≡ length r.bytes
    → size_from start ss ≡ size_from start rs → size_from start (s ∷ ss) ≡ size_from start (r ∷ rs)
size_more start r s rs ss same size rest =
    ap (λ k. option_map (λ x. length x.bytes) (cond (k == start) (Some s) (find (λ x. x.start == start) ss))) same ∙ go (r.start == start)
  where
    go : (b : Bool) → option_map (λ x. length x.bytes) (cond b (Some s) (find (λ x. x.start == start) ss)) ≡ option_map (λ x. length x.bytes) (cond b (Some r) (find (λ x. x.start == start) rs))
    go true = ap Some size
    go false = rest

untouched : (low : ℕ) (rs : List Region) (high addr : ℕ) (new : List ℕ) → IsLaid low rs high → addr < low → map (λ r. written r addr new) rs ≡ rs
untouched low [] high addr new h lt = refl
untouched low (r ∷ rs) high addr new h lt =
    ap (λ b. cond b (put addr new r) r ∷ map (λ s. written s addr new) rs) (not_below r addr (omega (arith, h.0)))
    ∙ ap (λ ss. r ∷ ss) (untouched (end_of r) rs high addr new h.2 (omega (arith, h.0)))

-- a store stands in one region, and keeps its length
written_sizes : (low : ℕ) (rs : List Region) (high addr : ℕ) (new : List ℕ) → IsLaid low rs high → allows rs (λ p. p.write) addr (length new) ≡ true
    → SameSizes rs (map (λ r. written r addr new) rs)
written_sizes low [] high addr new h may start = refl
written_sizes low (r ∷ rs) high addr new h may start = go (covers r addr) refl may (λ m. written_sizes (end_of r) rs high addr new h.2 m start)
  where
    go : (b : Bool) → covers r addr ≡ b
        → elim (cond b (Some r) (region_in rs addr)) [ None ↦ false | Some s ↦ s.permission.write && leb (addr + length new) (end_of s) ] ≡ true
        → (allows rs (λ p. p.write) addr (length new) ≡ true → size_from start (map (λ s. written s addr new) rs) ≡ size_from start rs)
        → size_from start (written r addr new ∷ map (λ s. written s addr new) rs) ≡ size_from start (r ∷ rs)
    go true t may f =
        let inside : addr + length new ≤ end_of r = leb-true (addr + length new) (end_of r) (and_parts r.permission.write (leb (addr + length new) (end_of r)) may).1 in
        let low : r.start ≤ addr = covers_low r addr t in
        let rest : map (λ s. written s addr new) rs ≡ rs = untouched (end_of r) rs high addr new h.2 (covers_high r addr t) in
        ap (λ b. size_from start (cond b (put addr new r) r ∷ map (λ s. written s addr new) rs)) t
        ∙ size_more start r (put addr new r) rs (map (λ s. written s addr new) rs) refl (length-pasted r.bytes (addr - r.start) new (omega arith)) (ap (size_from start) rest)
    go false t may f =
        ap (λ b. size_from start (cond b (put addr new r) r ∷ map (λ s. written s addr new) rs)) t
        ∙ size_more start r r rs (map (λ s. written s addr new) rs) refl refl (f may)

pub sizes_kept : (m : Seen) (base end : ℕ) → IsLaid base m.regions end → (registers : List ℕ) (pc : ℕ) → KeepsSizes m.regions (execute m registers pc)
sizes_kept m base end laid registers pc =
    by_store m (λ store. SameSizes m.regions (put_by m.regions store)) (λ start. refl)
    (λ x may free. written_sizes base m.regions end x.addr (bytes_of x.width x.value) laid (ap (λ k. allows m.regions (λ p. p.write) x.addr k) (length-bytes_of x.width x.value) ∙ may))
    registers pc
