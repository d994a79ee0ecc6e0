-- A store has all its bytes in one region.
use Rattle.std.proofs.Common.{◌≡◌, refl, ap, ℕ, ◌+◌, ◌-◌, Bool, true, false, ◌&&◌, List, Option, Some, None}
use Rattle.std.specs.Prelude.{IfSome, is_some, nat_le, option_and_then, slice_range}
use Rattle.std.proofs.lemmas.Bool.{and_parts}
use Rattle.cell_num.specs.Lists.{where_true}
use Rattle.cell_world.specs.World.{Region}
use Rattle.cell_world.specs.Running.Memory.{Write, end_of, part_of, region_in}
use Rattle.cell_world.specs.Running.Execute.{Seen, allows, execute}
use Rattle.cell_world.specs.Running.Undo.{IsPut}
use Rattle.cell_hart.proofs.Stores.{ByStore, by_store}

-- what may be stored is there
pub permitted_is_put : (regions : List Region) (x : Write) → allows regions (λ p. p.write) x.addr x.width ≡ true → IsPut regions x
permitted_is_put regions x may = go (region_in regions x.addr) may
  where
    at : (r : Region) (b : Bool) → nat_le (x.addr + x.width) (end_of r) ≡ b → b ≡ true → is_some (part_of r x.addr x.width) ≡ true
    at r true e t = ap (λ c. is_some (where_true c (slice_range r.bytes (x.addr - r.start) (x.addr - r.start + x.width)))) e
    at r false e t = absurd cc

    go : (o : Option Region) → (elim o as (λ _. Bool) [ None ↦ false | Some r ↦ r.permission.write && nat_le (x.addr + x.width) (end_of r) ]) ≡ true → is_some (option_and_then (λ r. part_of r x.addr x.width) o) ≡ true
    go None t = absurd cc
    go (Some r) t = at r (nat_le (x.addr + x.width) (end_of r)) refl (and_parts r.permission.write (nat_le (x.addr + x.width) (end_of r)) t).1

pub stores_are_puts : (m : Seen) (registers : List ℕ) (pc : ℕ) → ByStore (λ store. IfSome store (IsPut m.regions)) (execute m registers pc)
stores_are_puts m registers pc = by_store m (λ store. IfSome store (IsPut m.regions)) tt (λ x may free. permitted_is_put m.regions x may) registers pc
