-- Names that are taken, one after another.
use Rattle.std.proofs.Common.{◌≡◌, refl, sym, ◌∙◌, ap, subst, arith, ℕ, zero, suc, ◌+◌, List, [], ◌∷◌, drop}
use Rattle.std.specs.Prelude.{Option, Some, None, Ok, option_map, slice_get}
use Rattle.cell_num.specs.Lists.{or_else}
use Rattle.cell_world.specs.declared.refusal.Refusal.{Refusal}
use Rattle.cell_world.specs.Gather.{duplicate}
use Rattle.cell_world.specs.Outcome.{refused_by}
use Rattle.cell_world.specs.World.{Alias}
use Rattle.cell_space.specs.Named.{clash_name}
use Rattle.cell_space.specs.Spaces.{SpacesState}
use Rattle.cell_world.specs.declared.fail.Fail.{Fail}
use Rattle.cell_world.specs.declared.fail.Fail.TheVariants.{Refused, OutOfMemory}
use Rattle.cell_gather.specs.Appending.{clash_among_now}
use Rattle.cell_world.specs.Following.{FailsAs}

pub drop_at : {X : Type 0} (xs : List X) (i : ℕ) (x : X) → slice_get xs i ≡ Some x → drop i xs ≡ x ∷ drop (i + 1) xs
drop_at [] i x e = absurd (cc e)
drop_at (y ∷ xs) zero x e = let same : y ≡ x = cc in ap (λ z. z ∷ xs) same
drop_at (y ∷ xs) (suc i) x e = drop_at xs i x e ∙ ap (λ n. x ∷ drop n (y ∷ xs)) (let more : suc (i + 1) ≡ suc i + 1 = omega arith in more)

taken : (o : Option ℕ) (name : List ℕ) (rest : Option Refusal) (fail : Fail) → FailsAs fail (refused_by (option_map (duplicate name) o)) → FailsAs fail (refused_by (or_else (option_map (duplicate name) o) rest))
taken None name rest (Refused refusal) e = absurd (cc e)
taken None name rest OutOfMemory e = tt
taken (Some n) name rest fail e = e

free : (o : Option ℕ) (name : List ℕ) (rest : Option Refusal) → refused_by (option_map (duplicate name) o) ≡ Ok tt → or_else (option_map (duplicate name) o) rest ≡ rest
free None name rest e = refl
free (Some n) name rest e = absurd (cc e)

module _ (s : SpacesState) (ns : ℕ) (names : List Alias) (place : ℕ) (row : Alias) (at : slice_get names place ≡ Some row)
    (o : Option ℕ) (is : o ≡ clash_name s.namespaces ns row.name s.cells) (far : clash_among_now s ns (drop place names) ≡ clash_among_now s ns names) where
  front : clash_among_now s ns names ≡ or_else (option_map (duplicate row.name) o) (clash_among_now s ns (drop (place + 1) names))
  front =
      sym far
      ∙ ap (clash_among_now s ns) (drop_at names place row at)
      ∙ ap (λ x. or_else (option_map (duplicate row.name) x) (clash_among_now s ns (drop (place + 1) names))) (sym is)

  pub is_taken : (fail : Fail) → FailsAs fail (refused_by (option_map (duplicate row.name) o)) → FailsAs fail (refused_by (clash_among_now s ns names))
  is_taken fail e = subst (λ (x : Option Refusal). FailsAs fail (refused_by x)) (sym front) (taken o row.name (clash_among_now s ns (drop (place + 1) names)) fail e)

  pub is_free : refused_by (option_map (duplicate row.name) o) ≡ Ok tt → clash_among_now s ns (drop (place + 1) names) ≡ clash_among_now s ns names
  is_free e = sym (front ∙ free o row.name (clash_among_now s ns (drop (place + 1) names)) e)
