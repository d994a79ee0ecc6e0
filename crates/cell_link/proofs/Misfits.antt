-- The first entry that doesn't fit, by its place and by itself.
use Rattle.std.proofs.Common.{◌≡◌, refl, sym, ◌∙◌, ap, arith, ◌≤◌, ℕ, zero, suc, ◌<◌, Bool, true, false, cond, List, [], ◌∷◌, length}
use Rattle.std.specs.Prelude.{Option, Some, None, find, not, option_map, slice_get, position, nat_lt}
use Rattle.std.specs.List.{position_or_len}
use Rattle.std.proofs.lemmas.Bool.Decides.{nat_tests}
use Rattle.std.proofs.lemmas.List.Folds.{find_at}
use Rattle.cell_object.specs.declared.object.Entry.{Entry}
use Rattle.cell_world.specs.declared.refusal.Refusal.{Refusal}
use Rattle.cell_world.specs.declared.state.NewCell.{NewCell}
use Rattle.cell_world.specs.declared.state.Target.{Target}
use Rattle.cell_world.specs.World.{attached}
use Rattle.cell_world.specs.Linked.Field.{Bound, bound_by, fits, misfit_of}
use Rattle.cell_world.specs.Linked.Fit.{overflow_at}
use Rattle.cell_link.specs.Linked.{bound_in, first_unfit}
use Rattle.cell_link.specs.LinksBy.{entry_overflow}

module _ {X : Type 0} (p : X → Bool) (xs : List X) where
  beyond : (k : ℕ) (ys : List X) → length ys ≤ k → slice_get ys k ≡ None
  beyond k [] out = refl
  beyond zero (y ∷ ys) out = absurd (omega arith)
  beyond (suc k) (y ∷ ys) out = beyond k ys (omega arith)

  within : (k : ℕ) (ys : List X) → k < length ys → (x : X) × (slice_get ys k ≡ Some x)
  within k [] here = absurd (omega arith)
  within zero (y ∷ ys) here = (y, refl)
  within (suc k) (y ∷ ys) here = within k ys (omega arith)

  -- what is found is at the first place
  pub place_found : (i : ℕ) → position p xs ≡ Some i → (x : X) × (find p xs ≡ Some x) × (slice_get xs i ≡ Some x)
  place_found i e = go (nat_lt (position_or_len p xs) (length xs)) refl e
    where
      go : (b : Bool) → nat_lt (position_or_len p xs) (length xs) ≡ b → cond b (Some (position_or_len p xs)) None ≡ Some i → (x : X) × (find p xs ≡ Some x) × (slice_get xs i ≡ Some x)
      go true here e = let x = within (position_or_len p xs) xs (grind (arith, nat_tests)) in let same : position_or_len p xs ≡ i = cc in (x.0, find_at p xs ∙ x.1, ap (slice_get xs) (sym same) ∙ x.1)
      go false here e = cc

  pub none_found : position p xs ≡ None → find p xs ≡ None
  none_found e = find_at p xs ∙ go (nat_lt (position_or_len p xs) (length xs)) refl e
    where
      go : (b : Bool) → nat_lt (position_or_len p xs) (length xs) ≡ b → cond b (Some (position_or_len p xs)) None ≡ None → slice_get xs (position_or_len p xs) ≡ None
      go true out e = absurd (some_none e)
        where
          some_none : Some (position_or_len p xs) ≡ (let n : Option ℕ = None in n) → ⊥
          some_none e = cc
      go false out e = beyond (position_or_len p xs) xs (grind (arith, nat_tests))

-- an entry is at the place where it is bound to its target
bound_entry : (entries : List Entry) (targets : List Target) (i : ℕ) (b : Bound) → slice_get (bound_by entries targets) i ≡ Some b → slice_get entries i ≡ Some b.entry
bound_entry [] targets i b e = cc
bound_entry (x ∷ entries) [] i b e = cc
bound_entry (x ∷ entries) (t ∷ targets) zero b e = some_entry e
  where
    some_entry : Some (record { entry = x; target = t }) ≡ Some b → Some x ≡ Some b.entry
    some_entry e = ap (option_map (λ (b : Bound). b.entry)) e
bound_entry (x ∷ entries) (t ∷ targets) (suc i) b e = bound_entry entries targets i b e

module _ (c : NewCell) (targets : List Target) where
  unfit : Bound → Bool
  unfit b = not (fits c (bound_in c targets) b)

  pub all_fit : first_unfit c targets ≡ None → misfit_of c (bound_in c targets) ≡ None
  unfolding unfit
  all_fit e = none_found unfit (bound_in c targets) e

  -- the first entry that doesn't fit is in the table
  pub unfit_there : (entry : ℕ) → first_unfit c targets ≡ Some entry → entry < length c.object.entries
  unfolding unfit
  unfit_there entry first =
      let found = place_found unfit (bound_in c targets) entry first in
      inside c.object.entries entry found.0.entry (bound_entry c.object.entries targets entry found.0 found.2)
    where
      inside : (entries : List Entry) (i : ℕ) (e : Entry) → slice_get entries i ≡ Some e → i < length entries
      inside [] i e h = cc
      inside (x ∷ entries) zero e h = omega arith
      inside (x ∷ entries) (suc i) e h = let r = inside entries i e h in omega (arith, r)

  -- the refusal of the entry at the first place is that of the first misfit
  pub misfit_refused : (entry : ℕ) (refusal : Refusal) → first_unfit c targets ≡ Some entry
      → option_map (entry_overflow c) (slice_get c.object.entries entry) ≡ Some refusal
      → option_map (overflow_at (attached c)) (misfit_of c (bound_in c targets)) ≡ Some refusal
  unfolding unfit
  misfit_refused entry refusal first is =
      let found = place_found unfit (bound_in c targets) entry first in
      ap (option_map (overflow_at (attached c))) found.1
      ∙ (ap (option_map (entry_overflow c)) (sym (bound_entry c.object.entries targets entry found.0 found.2)) ∙ is)
