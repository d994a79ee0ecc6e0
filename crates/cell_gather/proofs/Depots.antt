-- The files of a depot by namespace and stem.
use Rattle.std.proofs.Common.{◌≡◌, sym, ◌∙◌, ap, subst, ℕ, zero, suc, ◌<◌, Bool, true, false, cond, List, [], ◌∷◌, length, map}
use Rattle.std.specs.Prelude.{Option, Some, None, Ok, Err, All, find, option_map, slice_get}
use Rattle.std.proofs.lemmas.List.Elements.{All-head, All-tail}
use Rattle.cell_world.specs.declared.file.File.{File}
use Rattle.cell_world.specs.declared.refusal.Refusal.TheVariants.{Ambiguous}
use Rattle.cell_world.specs.declared.state.Namespace.{Namespace}
use Rattle.cell_world.specs.Gather.{Source, source_of, depot_files}
use Rattle.cell_depot.specs.Found.{IsOnly, AreFirst}
use Rattle.cell_gather.specs.Choosing.{one_in, space_name}
use Rattle.cell_gather.proofs.Supplies.{same_some, within}

space_named : (name : List ℕ) (o : Option Namespace) → option_map (λ space. space.name) o ≡ Some name → elim o as (λ _. List ℕ) [ None ↦ [] | Some space ↦ space.name ] ≡ name
space_named name None e = cc
space_named name (Some space) e = cc

module _ (files : List File) (spaces : List Namespace) (ns : ℕ) (name stem : List ℕ) (named : option_map (λ space. space.name) (slice_get spaces ns) ≡ Some name) where
  abbrev of_name : List ℕ → List Source
  of_name n = depot_files (map source_of files) n stem

  same_name : of_name (space_name spaces ns) ≡ of_name name
  same_name = ap of_name (space_named name (slice_get spaces ns) named)

  pub no_file : of_name name ≡ [] → one_in (of_name (space_name spaces ns)) ≡ Ok None
  no_file e = ap one_in (same_name ∙ e)

  pub only_file : (f : File) → IsOnly files (of_name name) f → one_in (of_name (space_name spaces ns)) ≡ Ok (Some (source_of f))
  only_file f is = ap one_in (same_name ∙ is.only)

  pub several_files : (one two : ℕ) (f g : File) → AreFirst files (of_name name) one two → slice_get files one ≡ Some f → slice_get files two ≡ Some g
      → one_in (of_name (space_name spaces ns)) ≡ Err (Ambiguous f.name g.name)
  several_files one two f g are e h =
      let a : are.first ≡ f = same_some are.first f (sym are.first_at ∙ e) in
      let b : are.second ≡ g = same_some are.second g (sym are.second_at ∙ h) in
      ap one_in (same_name ∙ are.are)
      ∙ ap (λ (x : File). one_in (source_of x ∷ source_of are.second ∷ are.rest)) a
      ∙ ap (λ (x : File). one_in (source_of f ∷ source_of x ∷ are.rest)) b

pub first_inside : (files : List File) (chosen : List Source) (one two : ℕ) → AreFirst files chosen one two → one < length files
first_inside files chosen one two are = within files one are.first are.first_at

pub second_inside : (files : List File) (chosen : List Source) (one two : ℕ) → AreFirst files chosen one two → two < length files
second_inside files chosen one two are = within files two are.second are.second_at

pub file_at : (P : File → Type 0) (files : List File) (place : ℕ) (f : File) → All P files → slice_get files place ≡ Some f → P f
file_at P [] place f all e = absurd (cc e)
file_at P (g ∷ files) zero f all e = subst P (same_some g f e) (All-head P g files all)
file_at P (g ∷ files) (suc place) f all e = file_at P files place f (All-tail P g files all) e

-- what is found is one of them
module _ {X : Type 0} (P : X → Type 0) (test : X → Bool) (x : X) where
  found_or : (b : Bool) (y : X) (o : Option X) → P y → (o ≡ Some x → P x) → cond b (Some y) o ≡ Some x → P x
  found_or true y o here there e = subst P (same_some y x e) here
  found_or false y o here there e = there e

  pub found_all : (xs : List X) → All P xs → find test xs ≡ Some x → P x
  found_all [] all e = absurd (cc e)
  found_all (y ∷ ys) all e = found_or (test y) y (find test ys) (All-head P y ys all) (found_all ys (All-tail P y ys all)) e
