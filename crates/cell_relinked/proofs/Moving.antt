-- An object that is moved out of its place, and back.
use Rattle.std.proofs.Common.{◌≡◌, sym, ◌∙◌, ap, subst, ℕ, ◌<◌, List, length, get_or, Ok, Err}
use Rattle.std.specs.Prelude.{Result, slice_set, unwrap_or}
use Rattle.std.proofs.lemmas.List.{set-set, set-get_or}
use Rattle.cell_object.specs.declared.object.Object.{Object}
use Rattle.cell_world.specs.declared.state.NewCell.{NewCell}
use Rattle.cell_world.specs.declared.state.SecPlace.{SecPlace}
use Rattle.cell_world.specs.declared.state.Target.{Target}
use Rattle.cell_audit.specs.Described.{no_object}
use Rattle.cell_described.specs.Faults.{object_at}
use Rattle.cell_described.specs.declared.cell.DescribedCell.{DescribedCell}
use Rattle.cell_link.specs.Linked.{IsLinked}
use Rattle.cell_link.specs.declared.fail.LinkFail.{LinkFail}
use Rattle.cell_link.specs.declared.fail.LinkFail.TheVariants.{Overflow, OutOfMemory}
use Rattle.cell_link.specs.declared.value.FieldValue.{FieldValue}
use Rattle.cell_relinked.specs.Fit.{placed_in}
use Rattle.cell_relinked.proofs.Gotten.{got}

pub put_back : (xs : List Object) (k : ℕ) (a b : Object) → b ≡ get_or xs k b → slice_set (slice_set xs k a) k b ≡ xs
put_back xs k a b e = set-set xs k a b ∙ (ap (slice_set xs k) e ∙ set-get_or xs k b)

pub object_there : (xs : List Object) (k : ℕ) (b : Object) → k < length xs → b ≡ get_or xs k b → b ≡ object_at xs k
object_there xs k b lt e = sym (ap (λ o. unwrap_or o no_object) (got xs k b lt e))

-- what linking gives depends on neither stem nor file
abbrev named : DescribedCell → List ℕ → List ℕ → Object → List SecPlace → NewCell
named c stem file object places = record { id = c.id; ns = c.ns; stem = stem; file = file; object = object; places = places }

renamed : (c : DescribedCell) (stem file : List ℕ) (object : Object) (places : List SecPlace) (targets : List Target) (r : Result (List FieldValue) LinkFail)
    → IsLinked (named c stem file object places) targets r → IsLinked (named c c.stem c.file object places) targets r
renamed c stem file object places targets (Ok fields) h = h
renamed c stem file object places targets (Err (Overflow entry)) h = h
renamed c stem file object places targets (Err OutOfMemory) h = tt

pub moved_link : (objects : List Object) (c : DescribedCell) (stem file : List ℕ) (object : Object) (places : List SecPlace) → object ≡ object_at objects c.object → places ≡ c.places
    → (targets : List Target) (r : Result (List FieldValue) LinkFail) → IsLinked (named c stem file object places) targets r → IsLinked (placed_in objects c) targets r
moved_link objects c stem file object places o p targets r h =
    subst (λ (ps : List SecPlace). IsLinked (named c c.stem c.file (object_at objects c.object) ps) targets r) p
    (subst (λ (ob : Object). IsLinked (named c c.stem c.file ob places) targets r) o (renamed c stem file object places targets r h))

-- the same of a list that is still that one
pub object_kept : (xs ys : List Object) (k : ℕ) (b : Object) → k < length xs → ys ≡ xs → b ≡ get_or ys k b → b ≡ object_at xs k
object_kept xs ys k b lt same e = object_there xs k b lt (subst (λ (zs : List Object). b ≡ get_or zs k b) same e)
