-- What is told where nothing was.
use Rattle.std.proofs.Common.{◌≡◌, refl, ◌∙◌, ap, arith, ℕ, ◌+◌, ◌-◌, ◌<◌, ◌≤◌, Bool, true, false, ◌&&◌, List, length, get_or, Option, Some, None}
use Rattle.std.specs.Prelude.{nat_le, nat_lt, option_and_then}
use Rattle.std.proofs.lemmas.Bool.{and_parts, leb-true, ltb-true}
use Rattle.std.proofs.lemmas.List.{length-replicate, get_or-replicate}
use Rattle.cell_num.specs.Lists.{where_true}
use Rattle.cell_audit.specs.declared.told_bytes.Told.{Told}
use Rattle.cell_audit.specs.Told.{IsClear, place_in, told_at}

where_some : (b : Bool) (x y : ℕ) → where_true b x ≡ Some y → (b ≡ true) × (y ≡ x)
where_some true x y e = (refl, cc)
where_some false x y e = absurd cc

record IsPlace (told : Told) (addr place : ℕ) : Type 0 where
  from : told.base ≤ addr
  is : told.base + place ≡ addr
  below : place < length told.bytes.items

place_is : (told : Told) (addr place : ℕ) → place_in told addr ≡ Some place → IsPlace told addr place
place_is told addr place e =
    let w = where_some (nat_le told.base addr && nat_lt (addr - told.base) (length told.bytes.items)) (addr - told.base) place e in
    let t = and_parts (nat_le told.base addr) (nat_lt (addr - told.base) (length told.bytes.items)) w.0 in
    let from = leb-true told.base addr t.0 in
    let below = ltb-true (addr - told.base) (length told.bytes.items) t.1 in
    record { from = from; is = omega (arith, w.1, from); below = omega (arith, w.1, below) }

pub told_nothing : (told : Told) (base size addr : ℕ) → IsClear told base size → told_at told addr ≡ None
told_nothing told base size addr clear = go (place_in told addr) refl
  where
    go : (o : Option ℕ) → place_in told addr ≡ o → option_and_then (λ p. get_or told.bytes.items p None) o ≡ None
    go None f = refl
    go (Some p) f =
        let below = (place_is told addr p f).below in
        let same : length told.bytes.items ≡ size = ap length clear.bytes_are ∙ length-replicate size None in
        ap (λ (items : List (Option ℕ)). get_or items p None) clear.bytes_are ∙ get_or-replicate size p None None (omega (arith, below, same))
