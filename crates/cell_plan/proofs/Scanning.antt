-- That all entries fit where the fields of all do, and what the fields hold then.
use Rattle.std.proofs.Common.{◌≡◌, ℕ, zero, suc, ◌+◌, ◌<◌, ◌&&◌, not, Bool, true, false, List, [], ◌∷◌, ◌++◌, length, get_or, take, map, refl, sym, ap, ◌∙◌, arith, inl, inr}
use Rattle.std.specs.Prelude.{None, Some, find, slice_get, IfSome, Ok}
use borrow.Author.Count.{below_more}
use Rattle.std.proofs.lemmas.Bool.{cases_Bool}
use Rattle.std.proofs.lemmas.List.{take_more}
use Rattle.cell_link.proofs.FirstFieldLemmas.{at_self}
use Rattle.cell_link.proofs.Misfits as misfits
use Rattle.cell_object.specs.declared.object.Entry.{Entry}
use Rattle.cell_world.specs.declared.state.NewCell.{NewCell}
use Rattle.cell_world.specs.declared.state.Target.{Target}
use Rattle.cell_world.specs.Linked.Field.{Bound, fits, is_at, misfit_of}
use Rattle.cell_link.specs.declared.value.FieldValue.{FieldValue}
use Rattle.cell_link.specs.Linked.{IsFieldValue, bound_in, first_unfit_at, value_at}
use Rattle.cell_plan.proofs.Lists.{map_append}
use Rattle.cell_plan.proofs.Staying.{bound_entry}

module _ {X : Type 0} (p : X → Bool) where
  some_none : (x : X) → Some x ≡ None → ⊥
  some_none x e = cc

  passed_by : (x : X) (xs : List X) → find p (x ∷ xs) ≡ None → (p x ≡ false) × (find p xs ≡ None)
  passed_by x xs none = elim (cases_Bool (p x)) [
    | inl passes ↦ absurd (some_none x (rw passes at none))
    | inr fails ↦ (fails, rw fails at none)
  ]

  found_none : (xs : List X) → find p xs ≡ None → (i : ℕ) (d : X) → i < length xs → p (get_or xs i d) ≡ false
  found_none [] none i d below = absurd (omega arith)
  found_none (x ∷ xs) none zero d below = (passed_by x xs none).0
  found_none (x ∷ xs) none (suc i) d below = found_none xs (passed_by x xs none).1 i d (omega arith)

  none_found : (xs : List X) → ((i : ℕ) (d : X) → i < length xs → p (get_or xs i d) ≡ false) → find p xs ≡ None
  none_found [] no_one = refl
  none_found (x ∷ xs) no_one = rw (no_one zero x (omega arith)) (none_found xs (λ i d lt. no_one (suc i) d (omega (arith, lt))))

second : (a b : Bool) → a ≡ true → (a && b) ≡ false → b ≡ false
second a b is_true none = rw is_true at none

pub all_fit : (c : NewCell) (targets : List Target) → ((i : ℕ) (d : Entry) → i < length c.object.entries → first_unfit_at c targets (get_or c.object.entries i d) ≡ None) → misfit_of c (bound_in c targets) ≡ None
all_fit c targets fit = none_found (λ (b : Bound). not (fits c (bound_in c targets) b)) (bound_in c targets) each
  where
    each : (i : ℕ) (d : Bound) → i < length (bound_in c targets) → not (fits c (bound_in c targets) (get_or (bound_in c targets) i d)) ≡ false
    each i d below =
        let b : Bound = get_or (bound_in c targets) i d in
        let at = bound_entry c.object.entries targets i d b.entry below in
        let none = misfits.none_found (λ (x : Bound). is_at b.entry x.entry && not (fits c (bound_in c targets) x)) (bound_in c targets) (rw at.1 at (fit i b.entry at.0)) in
        second (is_at b.entry b.entry) (not (fits c (bound_in c targets) b)) (at_self b.entry) (found_none (λ (x : Bound). is_at b.entry x.entry && not (fits c (bound_in c targets) x)) (bound_in c targets) none i d below)

pub here : {X : Type 0} (xs : List X) (i : ℕ) → i < length xs → (x : X) × (slice_get xs i ≡ Some x) × ((d : X) → get_or xs i d ≡ x)
here [] i below = absurd (omega arith)
here (x ∷ xs) zero below = (x, refl, λ d. refl)
here (x ∷ xs) (suc i) below = here xs i (omega arith)

-- the entries so far fit, and the fields hold these values
pub record AreScanned (c : NewCell) (targets : List Target) (i : ℕ) (found : List FieldValue) : Type 0 where
  pub fit : (k : ℕ) (d : Entry) → k < i → first_unfit_at c targets (get_or c.object.entries k d) ≡ None
  pub values : found ≡ map (value_at c targets) (take i c.object.entries)

pub scanned_more : (c : NewCell) (targets : List Target) (i : ℕ) (old new : List FieldValue) (value : FieldValue) → i < length c.object.entries
    → IfSome (slice_get c.object.entries i) (λ f. IsFieldValue c targets f (Ok value)) → AreScanned c targets i old → new ≡ old ++ value ∷ [] → AreScanned c targets (i + 1) new
scanned_more c targets i old new value below is so_far added =
    let at = here c.object.entries i below in
    let field : IsFieldValue c targets at.0 (Ok value) = rw at.1 at is in
    record {
      fit = λ k d le. below_more (λ (j : ℕ). first_unfit_at c targets (get_or c.object.entries j d) ≡ None) i (λ j lt. so_far.fit j d lt) (ap (first_unfit_at c targets) (at.2 d) ∙ field.0) k le;
      values =
          added ∙ rw (so_far.values, field.1)
          (sym (ap (map (value_at c targets)) (take_more c.object.entries i at.0 below) ∙ (map_append (value_at c targets) (take i c.object.entries) _ ∙ ap (λ (e : Entry). map (value_at c targets) (take i c.object.entries) ++ value_at c targets e ∷ []) (at.2 at.0))));
    }
