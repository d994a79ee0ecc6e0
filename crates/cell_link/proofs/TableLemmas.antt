-- The loop over a table of entries: the first that doesn't fit, and the first entry of each field.
use Rattle.std.proofs.Common.{◌≡◌, ℕ, zero, suc, ◌+◌, ◌<◌, ◌≤◌, ◌||◌, not, Bool, true, false, cond, Option, Some, None, List, [], ◌∷◌, length, get_or, take, refl, sym, ap, ◌∙◌, arith}
use Rattle.std.specs.Prelude.{nat_lt, position, unwrap_or, filter, fold, slice_get, IfSome, Err}
use Rattle.std.specs.List.{list_any, position_or_len}
use Rattle.std.proofs.lemmas.Bool.Decides.{nat_tests}
use Rattle.std.proofs.lemmas.List.Folds.{list_any-append}
use Rattle.cell_object.specs.declared.object.Entry.{Entry}
use Rattle.cell_world.specs.declared.state.NewCell.{NewCell}
use Rattle.cell_world.specs.declared.state.Target.{Target}
use Rattle.cell_world.specs.Linked.Field.{Bound, bound_by, fits, own_number}
use Rattle.cell_link.specs.Linked.{bound_in}
use Rattle.std.proofs.lemmas.List.Sums.{fold-append}
use Rattle.std.proofs.lemmas.List.Elements.{filter-append}
use Rattle.cell_link.specs.declared.fail.Overflow.{Overflow as EntryOverflow}
use Rattle.cell_link.specs.declared.fail.LinkFail.{LinkFail}
use Rattle.cell_link.specs.declared.fail.LinkFail.TheVariants.{Overflow, OutOfMemory}
use Rattle.cell_link.specs.Applied.{applied, held_among, spot_of, stands_at, IsMisfit, IsFirstMisfit, IsAppliedAt, IsValueAt, is_unfit_at}
use Rattle.cell_link.proofs.AppliedLemmas.{held_push}
use Rattle.cell_link.proofs.BoundLemmas.{bound_more, bound_all}

first_place : {X : Type 0} (p : X → Bool) (xs : List X) (i : ℕ) (d : X) → list_any p (take i xs) ≡ false → i < length xs → p (get_or xs i d) ≡ true → position_or_len p xs ≡ i
first_place p [] i d none below h = absurd (omega arith)
first_place p (x ∷ xs) zero d none below h = rw h refl
first_place {X = X} p (x ∷ xs) (suc i) d none below h =
    let parts = neither (p x) (list_any p (take i xs)) none in
    rw (parts.0, first_place p xs i d parts.1 (omega arith) h) (omega arith)
  where
    neither : (a b : Bool) → (a || b) ≡ false → (a ≡ false) × (b ≡ false)
    neither false b h = (refl, h)
    neither true b h = absurd cc

-- the first place that passes, where none before it does
pub position_here : {X : Type 0} (p : X → Bool) (xs : List X) (i : ℕ) (d : X) → list_any p (take i xs) ≡ false → i < length xs → p (get_or xs i d) ≡ true → position p xs ≡ Some i
position_here p xs i d none below h = rw (first_place p xs i d none below h) (yes (nat_lt i (length xs)) (grind (arith, nat_tests)))
  where
    yes : (b : Bool) → b ≡ true → cond b (Some i) None ≡ Some i
    yes b e = rw e refl

no_place : {X : Type 0} (p : X → Bool) (xs : List X) → list_any p xs ≡ false → position_or_len p xs ≡ length xs
no_place p [] none = refl
no_place p (x ∷ xs) none =
    let parts = neither (p x) (list_any p xs) none in
    rw (parts.0, no_place p xs parts.1) (omega arith)
  where
    neither : (a b : Bool) → (a || b) ≡ false → (a ≡ false) × (b ≡ false)
    neither false b h = (refl, h)
    neither true b h = absurd cc

pub position_none : {X : Type 0} (p : X → Bool) (xs : List X) → list_any p xs ≡ false → position p xs ≡ None
position_none p xs none = rw (no_place p xs none) (no (nat_lt (length xs) (length xs)) (grind (arith, nat_tests)))
  where
    no : (b : Bool) → b ≡ false → cond b (Some (length xs)) None ≡ None
    no b e = rw e refl

length_bound : (es : List Entry) (ts : List Target) → length ts ≡ length es → length (bound_by es ts) ≡ length es
length_bound [] ts e = refl
length_bound (x ∷ xs) [] e = absurd (omega arith)
length_bound (x ∷ xs) (y ∷ ys) e = ap suc (length_bound xs ys (omega arith))

get_bound : (es : List Entry) (ts : List Target) (i : ℕ) (e : Entry) (t : Target) (d : Bound) → i < length es → length ts ≡ length es
    → get_or (bound_by es ts) i d ≡ record { entry = get_or es i e; target = get_or ts i t }
get_bound [] ts i e t d below same = absurd (omega arith)
get_bound (x ∷ xs) [] i e t d below same = absurd (omega arith)
get_bound (x ∷ xs) (y ∷ ys) zero e t d below same = refl
get_bound (x ∷ xs) (y ∷ ys) (suc i) e t d below same = get_bound xs ys i e t d (omega arith) (omega arith)

-- the entry at a place passes, and none before it does
pub pass_here : (p : Bound → Bool) (objects : List Entry) (targets : List Target) (es : List Entry) (i : ℕ) (e : Entry) (t : Target)
    → es ≡ objects → i < length es → length targets ≡ length objects
    → list_any p (take i (bound_by objects targets)) ≡ false
    → p (record { entry = get_or es i e; target = get_or targets i t }) ≡ true
    → position p (bound_by objects targets) ≡ Some i
pass_here p objects targets es i e t entries below same none passes =
    let b : Bound = record { entry = get_or objects i e; target = get_or targets i t } in
    let inside : i < length objects = rw entries at below in
    position_here p (bound_by objects targets) i b none
    (rw (length_bound objects targets same) inside)
    (rw (get_bound objects targets i e t b inside same) (rw entries at passes))

pub pass_nowhere : (p : Bound → Bool) (objects : List Entry) (targets : List Target) (es : List Entry) (i : ℕ) → es ≡ objects → length es ≤ i
    → list_any p (take i (bound_by objects targets)) ≡ false → position p (bound_by objects targets) ≡ None
pass_nowhere p objects targets es i entries all none =
    position_none p (bound_by objects targets) (rw (bound_all objects targets i (rw entries at all)) at none)

-- one more entry that doesn't pass
pub pass_not : (p : Bound → Bool) (objects : List Entry) (targets : List Target) (es : List Entry) (i : ℕ) (e : Entry) (t : Target)
    → es ≡ objects → i < length es → length targets ≡ length objects
    → list_any p (take i (bound_by objects targets)) ≡ false
    → p (record { entry = get_or es i e; target = get_or targets i t }) ≡ false
    → list_any p (take (i + 1) (bound_by objects targets)) ≡ false
pass_not p objects targets es i e t entries below same none fails =
    let b : Bound = record { entry = get_or objects i e; target = get_or targets i t } in
    let fails_b : p b ≡ false = rw entries at fails in
    rw (bound_more objects targets i e t (rw entries at below) same) (list_any-append p (take i (bound_by objects targets)) (b ∷ []) ∙ rw (none, fails_b) refl)

-- why an entry was not added, as why the table was not
pub misfit_here : (c : NewCell) (targets : List Target) (es : List Entry) (i : ℕ) (e : Entry) (t : Target) (fail : LinkFail)
    → es ≡ c.object.entries → i < length es → length targets ≡ length c.object.entries
    → list_any (λ b. not (fits c (bound_in c targets) b)) (take i (bound_in c targets)) ≡ false
    → IsMisfit c (bound_in c targets) (record { entry = get_or es i e; target = get_or targets i t }) i fail
    → IsFirstMisfit c targets fail
misfit_here c targets es i e t (Overflow entry) entries below same none h =
    rw h.1 (pass_here (λ b. not (fits c (bound_in c targets) b)) c.object.entries targets es i e t entries below same none (ap not h.0))
misfit_here c targets es i e t OutOfMemory entries below same none h = tt

-- what the fields hold after one more entry
pub held_more : (c : NewCell) (targets : List Target) (es : List Entry) (i : ℕ) (e : Entry) (t : Target) (f g : ℕ × ℕ → Option ℕ)
    → es ≡ c.object.entries → i < length es → length targets ≡ length c.object.entries
    → ((q : ℕ × ℕ) → f q ≡ held_among c (bound_in c targets) (take i (bound_in c targets)) q)
    → ((q : ℕ × ℕ) → g q ≡ cond (stands_at q (record { entry = get_or es i e; target = get_or targets i t })) (Some (applied c (bound_in c targets) (unwrap_or (f (spot_of (get_or es i e))) (own_number c.object (get_or es i e))) (record { entry = get_or es i e; target = get_or targets i t }))) (f q))
    → (q : ℕ × ℕ) → g q ≡ held_among c (bound_in c targets) (take (i + 1) (bound_in c targets)) q
held_more c targets es i e t f g entries below same were are q =
    let bound = bound_in c targets in
    let b : Bound = record { entry = get_or c.object.entries i e; target = get_or targets i t } in
    rw (bound_more c.object.entries targets i e t (rw entries at below) same) (held_push c bound (take i bound) b f g were (rw entries at are) q)

pub held_all : (c : NewCell) (targets : List Target) (es : List Entry) (i : ℕ) (f : ℕ × ℕ → Option ℕ) → es ≡ c.object.entries → length es ≤ i
    → ((q : ℕ × ℕ) → f q ≡ held_among c (bound_in c targets) (take i (bound_in c targets)) q)
    → (q : ℕ × ℕ) → f q ≡ held_among c (bound_in c targets) (bound_in c targets) q
held_all c targets es i f entries all are q = rw (bound_all c.object.entries targets i (rw entries at all)) at (are q)

-- a fold over the entries that pass, after one more
pub fold_more : (p : Bound → Bool) (f : ℕ → Bound → ℕ) (own v w : ℕ) (objects : List Entry) (targets : List Target) (es : List Entry) (i : ℕ) (e : Entry) (t : Target)
    → es ≡ objects → i < length es → length targets ≡ length objects
    → v ≡ fold f own (filter p (take i (bound_by objects targets)))
    → w ≡ cond (p (record { entry = get_or es i e; target = get_or targets i t })) (f v (record { entry = get_or es i e; target = get_or targets i t })) v
    → w ≡ fold f own (filter p (take (i + 1) (bound_by objects targets)))
fold_more p f own v w objects targets es i e t entries below same was is =
    let b : Bound = record { entry = get_or objects i e; target = get_or targets i t } in
    let some = take i (bound_by objects targets) in
    rw entries at is ∙ rw (bound_more objects targets i e t (rw entries at below) same) (rw filter-append (
    last b (p b) refl ∙ sym (fold-append f own (filter p some) (filter p (b ∷ [])))
    ))
  where
    last : (b : Bound) (x : Bool) → p b ≡ x → cond x (f v b) v ≡ fold f (fold f own (filter p (take i (bound_by objects targets)))) (filter p (b ∷ []))
    last b true h = rw (h, was) refl
    last b false h = rw (h, was) refl

pub fold_all : (p : Bound → Bool) (f : ℕ → Bound → ℕ) (own v : ℕ) (objects : List Entry) (targets : List Target) (es : List Entry) (i : ℕ)
    → es ≡ objects → length es ≤ i → v ≡ fold f own (filter p (take i (bound_by objects targets))) → v ≡ fold f own (filter p (bound_by objects targets))
fold_all p f own v objects targets es i entries all is = rw (bound_all objects targets i (rw entries at all)) at is

pub at_place : {X : Type 0} (P : X → Type 0) (xs : List X) (i : ℕ) (d : X) → i < length xs → P (get_or xs i d) → IfSome (slice_get xs i) P
at_place P [] i d below h = absurd (omega arith)
at_place P (x ∷ xs) zero d below h = h
at_place P (x ∷ xs) (suc i) d below h = at_place P xs i d (omega arith) h

-- why a value stops, as why the field does
pub misfit_at : (c : NewCell) (targets : List Target) (f : Entry) (es : List Entry) (i : ℕ) (e : Entry) (t : Target) (v : ℕ) (overflow : EntryOverflow)
    → es ≡ c.object.entries → i < length es → length targets ≡ length c.object.entries
    → list_any (is_unfit_at c (bound_in c targets) f) (take i (bound_in c targets)) ≡ false
    → IsAppliedAt c (bound_in c targets) f (record { entry = get_or es i e; target = get_or targets i t }) i v (Err overflow)
    → IsValueAt c targets f (Err overflow)
misfit_at c targets f es i e t v overflow entries below same none h =
    rw h.1 (pass_here (is_unfit_at c (bound_in c targets) f) c.object.entries targets es i e t entries below same none h.0)
