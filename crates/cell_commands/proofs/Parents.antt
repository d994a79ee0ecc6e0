-- The parent of a namespace.
use Rattle.std.proofs.Common.{◌≡◌, refl, sym, ◌∙◌, ap, arith, ℕ, ◌<◌, List, length, get_or, Option, None, Some, Ok, Err}
use Rattle.std.specs.Prelude.{option_and_then, slice_get}
use Rattle.std.proofs.lemmas.Option.{slice_get_read}
use Rattle.cell_world.specs.declared.fail.Fail.{Fail}
use Rattle.cell_world.specs.declared.fail.Fail.TheVariants.{Refused, OutOfMemory}
use Rattle.cell_world.specs.declared.refusal.Refusal.{Refusal}
use Rattle.cell_world.specs.declared.refusal.Refusal.TheVariants.{NoParent}
use Rattle.cell_world.specs.declared.state.Namespace.{Namespace}
use Rattle.cell_world.specs.Following.{FailsAs}
use Rattle.cell_world.specs.Outcome.{Outcome, found}
use Rattle.cell_space.specs.Rooted.{AreRooted}
use Rattle.cell_commands.specs.Cloning.{IsNoParent}

module _ (spaces : List Namespace) (ns : ℕ) (word : List ℕ) (there : ns < length spaces) (space : Namespace) (at : space ≡ get_or spaces ns space) where
  here : slice_get spaces ns ≡ Some space
  here = slice_get_read spaces (length spaces) ns space refl there at

  abbrev parent_said : Outcome ℕ
  parent_said = found (option_and_then (λ s. s.parent) (slice_get spaces ns)) (NoParent word)

  said_is : parent_said ≡ found space.parent (NoParent word)
  said_is = ap (λ (o : Option Namespace). found (option_and_then (λ s. s.parent) o) (NoParent word)) here

  pub parent_is : (up : ℕ) → space.parent ≡ Some up → parent_said ≡ Ok up
  parent_is up e = said_is ∙ ap (λ (o : Option ℕ). found o (NoParent word)) e

  pub parent_there : AreRooted spaces → (up : ℕ) → space.parent ≡ Some up → up < length spaces
  parent_there rooted up e = let lt = rooted.lower ns space up here e in omega (arith, lt, there)

  pub none_above : space.parent ≡ None → (fail : Fail) → IsNoParent word fail → FailsAs fail parent_said
  none_above e (Refused r) is = said_is ∙ (ap (λ (o : Option ℕ). found o (NoParent word)) e ∙ ap (λ (x : Refusal). let o : Outcome ℕ = Err x in o) (sym is))
  none_above e OutOfMemory is = tt
