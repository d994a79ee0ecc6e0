-- What a change asks for.
--     is_strict ending, restart_by ending   whether a replaced cell that is kept is a refusal, and the task that begins again
--     as_said options wants copies       what the definition is asked for
--     IsWantOf sources v wanted want     the file, the namespace and the replaced cell of a want, by their names and numbers
--     AreWantsOf sources v all wants     the same of all wants
--     IsAsked sources v change           all that the change names is there
use Rattle.std.specs.Prelude.{◌≡◌, ◌<◌, ◌⊎◌, ℕ, Bool, true, false, All, IsTrue, Ok, List, [], ◌∷◌, Option, None, Some, filter_map, length, map, option_map}
use Rattle.std.specs.Option.{ForSome}
use Rattle.cell_world.specs.Answer.{numbers_of}
use Rattle.cell_world.specs.Change.{Change as ChangeSaid, Copy, Want as Wanted, gather}
use Rattle.cell_world.specs.Gather.{Source, file_named}
use Rattle.cell_world.specs.World.{World, is_attached}
use Rattle.cell_num.specs.Lists.{In}
use Rattle.cell_gather.specs.declared.want.Want.{Want}
use Rattle.cell_change.specs.declared.request.Change.{Change}
use Rattle.cell_change.specs.declared.request.Ending.{Ending}
use Rattle.cell_change.specs.declared.request.Ending.TheVariants.{Strict, Restart}
use Rattle.cell_change.specs.declared.request.Options.{Options}
use Rattle.cell_change_law.specs.Sound.{HasCopied}

abbrev pub is_strict : Ending → Bool
is_strict Strict = true
is_strict _ = false

abbrev pub restart_by : Ending → Option ℕ
restart_by (Restart task) = Some task
restart_by _ = None

abbrev pub as_said : Options → List Wanted → List Copy → ChangeSaid
as_said o wants copies = record { wants = wants; reexport = o.reexport; strict = is_strict o.ending; routines = o.routines.now; budget = o.budget; restarts = restart_by o.ending; copies = copies }

pub record IsWantOf (sources : List Source) (v : World) (wanted : Wanted) (want : Want) : Type 0 where
  pub file : file_named sources want.file ≡ Some wanted.file
  pub ns : want.ns ≡ wanted.ns
  pub there : wanted.ns < length v.namespaces
  pub replaces : want.replaces ≡ option_map (λ c. c.id) wanted.replaces
  pub present : ForSome wanted.replaces (λ c. In c v.cells)
  pub attached : ForSome wanted.replaces (λ c. IsTrue (is_attached c.standing))

abbrev pub AreWantsOf : List Source → World → List Wanted → List Want → Type 0
AreWantsOf sources v [] [] = Unit {0}
AreWantsOf sources v [] (want ∷ wants) = ⊥
AreWantsOf sources v (wanted ∷ all) [] = ⊥
AreWantsOf sources v (wanted ∷ all) (want ∷ wants) = IsWantOf sources v wanted want × AreWantsOf sources v all wants

-- the replaced cells are those of the wants, in their order; with the copies the new cells keep the rule of names and lack nothing
pub record IsAsked (sources : List Source) (v : World) (change : Change) : Type 0 where
  pub wants : List Wanted
  pub are : AreWantsOf sources v wants change.wants.items
  pub old : map (λ c. c.0) change.replaced.items ≡ numbers_of (filter_map (λ want. want.replaces) wants)
  pub copies : List Copy
  pub copies_are : map {B = ℕ × ℕ} (λ c. (c.original.0, c.ns)) change.copies.items ≡ map {B = ℕ × ℕ} (λ c. (c.original.id.0, c.ns)) copies
  pub originals : All (λ c. In c.original v.cells) copies
  pub spaces : All (λ c. c.ns < length v.namespaces) copies
  pub copied : (copies ≡ []) ⊎ ((g : World) → gather sources v (as_said change.options wants copies) ≡ Ok g → HasCopied v (as_said change.options wants copies) g)
