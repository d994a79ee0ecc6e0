-- What hangs on where regions lie alone: the page table, and that regions can leave.
use Rattle.std.proofs.Common.{◌≡◌, refl, sym, ap, ap₂, subst, ◌∙◌, ℕ, ◌+◌, ◌*◌, Bool, true, false, cond, ◌&&◌, ◌||◌, List, [], ◌∷◌, Some, map}
use Rattle.std.specs.Prelude.{find, is_some, nat_le, nat_lt, ◌==◌, ◌%◌, ◌≤◌}
use Rattle.std.specs.List.{list_any}
use Rattle.cell_num.specs.Lists.{upto}
use Rattle.cell_world.specs.World.{Region}
use Rattle.cell_world.specs.Running.Memory.{covers}
use Rattle.cell_world.specs.Coherent.{Shape, shape_of}
use Rattle.cell_mem.specs.State.{MemoryState}
use Rattle.cell_place.specs.Space.{SpaceState}
use Rattle.cell_unload.specs.Unmapped.{CanLeave, IsTabled, table_of}

covers_by : (x y : Region) (addr : ℕ) → shape_of x ≡ shape_of y → covers x addr ≡ covers y addr
covers_by x y addr e = ap (λ (s : Shape). nat_le s.start addr && nat_lt addr (s.start + s.size)) e

any_covers : (addr : ℕ) (xs ys : List Region) → map shape_of xs ≡ map shape_of ys → list_any (λ r. covers r addr) xs ≡ list_any (λ r. covers r addr) ys
any_covers addr [] [] e = refl
any_covers addr [] (y ∷ ys) e = absurd cc
any_covers addr (x ∷ xs) [] e = absurd cc
any_covers addr (x ∷ xs) (y ∷ ys) e = ap₂ (λ (a b : Bool). a || b) (covers_by x y addr (cc e)) (any_covers addr xs ys (cc e))

pub same_table : (x y : MemoryState) → x.base ≡ y.base → x.pages ≡ y.pages → map shape_of x.regions ≡ map shape_of y.regions → table_of x ≡ table_of y
same_table x y base pages shapes =
    ap (λ b. map (λ page. list_any (λ r. covers r (b + 4096 * page)) x.regions) (upto x.pages)) base
    ∙ (ap (λ p. map (λ page. list_any (λ r. covers r (y.base + 4096 * page)) x.regions) (upto p)) pages
    ∙ each (upto y.pages))
  where
    each : (pages : List ℕ) → map (λ page. list_any (λ r. covers r (y.base + 4096 * page)) x.regions) pages ≡ map (λ page. list_any (λ r. covers r (y.base + 4096 * page)) y.regions) pages
    each [] = refl
    each (p ∷ pages) = ap₂ (λ (b : Bool) (bs : List Bool). b ∷ bs) (any_covers (y.base + 4096 * p) x.regions y.regions shapes) (each pages)

pub tabled_by : (x y : MemoryState) (s : SpaceState) → x.base ≡ y.base → x.pages ≡ y.pages → map shape_of x.regions ≡ map shape_of y.regions → IsTabled x s → IsTabled y s
tabled_by x y s base pages shapes t = record {
  base = t.base ∙ base;
  table = t.table ∙ same_table x y base pages shapes;
  aligned = subst (λ b. b % 4096 ≡ 0) base t.aligned;
  most = subst (λ p. p ≤ 4096) pages t.most;
}

found_by : (start : ℕ) (xs ys : List Region) → map shape_of xs ≡ map shape_of ys → is_some (find (λ r. r.start == start) xs) ≡ is_some (find (λ r. r.start == start) ys)
found_by start [] [] e = refl
found_by start [] (y ∷ ys) e = absurd cc
found_by start (x ∷ xs) [] e = absurd cc
found_by start (x ∷ xs) (y ∷ ys) e =
    let head : shape_of x ≡ shape_of y = cc e in
    ap (λ n. is_some (cond (n == start) (Some x) (find (λ r. r.start == start) xs))) (ap (λ (s : Shape). s.start) head)
    ∙ go (y.start == start) (found_by start xs ys (cc e))
  where
    go : (b : Bool) → is_some (find (λ r. r.start == start) xs) ≡ is_some (find (λ r. r.start == start) ys) → is_some (cond b (Some x) (find (λ r. r.start == start) xs)) ≡ is_some (cond b (Some y) (find (λ r. r.start == start) ys))
    go true rest = refl
    go false rest = rest

pub leave_by : (x y : MemoryState) (starts : List ℕ) → map shape_of x.regions ≡ map shape_of y.regions → CanLeave x starts → CanLeave y starts
leave_by x y starts shapes can = record {
  there = λ start i. sym (found_by start x.regions y.regions shapes) ∙ can.there start i;
  apart = can.apart;
}
