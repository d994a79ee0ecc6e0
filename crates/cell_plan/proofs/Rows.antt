-- The order of rows: what lies between two rows that differ in the offset alone.
use Rattle.std.proofs.Common.{◌≡◌, ℕ, ◌<◌, ◌≤◌, false, refl, arith}
use Rattle.std.specs.Prelude.{ℤ}
use Rattle.std.specs.declared.cmp.Ordering.{Ordering}
use Rattle.std.specs.declared.cmp.Ordering.TheVariants.{Less, Equal, Greater}
use Rattle.std.specs.Ordering.{nat_cmp, int_cmp, ordering_then, ordering_reverse, is_gt, is_lt}
use Rattle.std.specs.FinMap.{nat_cmp-IsAntisymmetric, int_cmp-IsAntisymmetric}
use Rattle.std.proofs.lemmas.Cmp.{nat_cmp_total, int_cmp_total}
use Rattle.std.proofs.lemmas.Bool.Decides.{nat_tests}
use Rattle.cell_plan.specs.Uppers.{Row, row_cmp}

pub cmp_self : (n : ℕ) → nat_cmp n n ≡ Equal
cmp_self n = grind (arith, nat_tests)

pub int_cmp_self : (z : ℤ) → int_cmp z z ≡ Equal
int_cmp_self z = own (int_cmp z z) (int_cmp_total.antisymm z z)
  where
    own : (o : Ordering) → o ≡ ordering_reverse o → o ≡ Equal
    own Less e = absurd cc
    own Equal e = refl
    own Greater e = absurd cc

reverse_then : (x y : Ordering) → ordering_reverse (ordering_then x y) ≡ ordering_then (ordering_reverse x) (ordering_reverse y)
reverse_then Less y = refl
reverse_then Equal y = refl
reverse_then Greater y = refl

-- what is not before the one and before the other begins as both
squeeze : (x y z : Ordering) → is_gt (ordering_then x y) ≡ false → ordering_then (ordering_reverse x) z ≡ Less → (x ≡ Equal) × (z ≡ Less)
squeeze Less y z from to = absurd cc
squeeze Equal y z from to = (refl, to)
squeeze Greater y z from to = absurd cc

both_equal : (x y : Ordering) → ordering_then x y ≡ Equal → (x ≡ Equal) × (y ≡ Equal)
both_equal Less y e = absurd cc
both_equal Equal y e = (refl, e)
both_equal Greater y e = absurd cc

reverse_three : (p q : Row) → ordering_then (ordering_then (nat_cmp q.0 p.0) (nat_cmp q.1 p.1)) (int_cmp q.2 p.2) ≡ ordering_reverse (ordering_then (ordering_then (nat_cmp p.0 q.0) (nat_cmp p.1 q.1)) (int_cmp p.2 q.2))
reverse_three p q =
    rw (reverse_then (ordering_then (nat_cmp p.0 q.0) (nat_cmp p.1 q.1)) (int_cmp p.2 q.2), reverse_then (nat_cmp p.0 q.0) (nat_cmp p.1 q.1), ← nat_cmp_total.antisymm q.0 p.0, ← nat_cmp_total.antisymm q.1 p.1, ← int_cmp_total.antisymm q.2 p.2) refl

pub record IsBetween (section symbol : ℕ) (addend : ℤ) (offset : ℕ) (k : Row) : Type 0 where
  pub section_is : section ≡ k.0
  pub symbol_is : symbol ≡ k.1
  pub addend_is : addend ≡ k.2
  pub before : k.3 < offset

pub between : (section symbol : ℕ) (addend : ℤ) (offset : ℕ) (k : Row)
    → is_gt (row_cmp (section, symbol, addend, 0) k) ≡ false → row_cmp k (section, symbol, addend, offset) ≡ Less → IsBetween section symbol addend offset k
between section symbol addend offset k from to =
    let parts = squeeze (ordering_then (ordering_then (nat_cmp section k.0) (nat_cmp symbol k.1)) (int_cmp addend k.2)) (nat_cmp 0 k.3) (nat_cmp k.3 offset) from
    (rw (reverse_three (section, symbol, addend, 0) k) at to) in
    let three = both_equal (ordering_then (nat_cmp section k.0) (nat_cmp symbol k.1)) (int_cmp addend k.2) parts.0 in
    let two = both_equal (nat_cmp section k.0) (nat_cmp symbol k.1) three.0 in
    record {
      section_is = nat_cmp-IsAntisymmetric section k.0 two.0;
      symbol_is = nat_cmp-IsAntisymmetric symbol k.1 two.1;
      addend_is = int_cmp-IsAntisymmetric addend k.2 three.1;
      before = less k.3 offset parts.1;
    }
  where
    less : (a b : ℕ) → nat_cmp a b ≡ Less → a < b
    less a b e = grind (arith, nat_tests)

pub from_start : (section symbol : ℕ) (addend : ℤ) (offset : ℕ) → is_gt (row_cmp (section, symbol, addend, 0) (section, symbol, addend, offset)) ≡ false
from_start section symbol addend offset = rw (cmp_self section, cmp_self symbol, int_cmp_self addend) (grind (arith, nat_tests))

pub to_end : (section symbol : ℕ) (addend : ℤ) (at offset : ℕ) → at < offset → row_cmp (section, symbol, addend, at) (section, symbol, addend, offset) ≡ Less
to_end section symbol addend at offset h = rw (cmp_self section, cmp_self symbol, int_cmp_self addend) (grind (arith, nat_tests))

pub not_below : (section symbol : ℕ) (addend : ℤ) (at offset : ℕ) → is_lt (row_cmp (section, symbol, addend, at) (section, symbol, addend, offset)) ≡ false → offset ≤ at
not_below section symbol addend at offset h = less (rw (cmp_self section, cmp_self symbol, int_cmp_self addend) at h)
  where
    less : is_lt (nat_cmp at offset) ≡ false → offset ≤ at
    less e = grind (arith, nat_tests)
