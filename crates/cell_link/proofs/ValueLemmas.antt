-- The fields of a whole table.
use Rattle.std.proofs.Common.{◌≡◌, ℕ, ◌||◌, Bool, true, false, Option, Some, None, List, [], ◌∷◌, length, refl, ap, ◌∙◌, arith, inl, inr}
use Rattle.std.specs.Prelude.{filter, find, fold, map, option_map, unwrap_or}
use Rattle.std.specs.List.{list_any, AllByRecursion}
use Rattle.std.proofs.lemmas.Bool.{cases_Bool}
use Rattle.cell_num.specs.Kinds.{width_of}
use Rattle.cell_object.specs.declared.object.Entry.{Entry}
use Rattle.cell_world.specs.declared.state.NewCell.{NewCell}
use Rattle.cell_world.specs.declared.state.Target.{Target}
use Rattle.cell_world.specs.Linked.Field.{Bound, bound_by, field_value_of, fields_among, fields_of, is_at, own_number, place_of}
use Rattle.cell_link.specs.declared.value.FieldValue.{FieldValue}
use Rattle.cell_link.specs.Linked.{bound_in, field_values, first_unfit, value_at}
use Rattle.cell_link.specs.Applied.{applied, held_among, spot_of, stands_at}
use Rattle.cell_link.proofs.FirstFieldLemmas.{among_new, among_seen, any_same, at_self}

-- no entry before is at the place, and the first of these entries that is there is this one
abbrev IsFirst : List Entry → List Entry → Entry → Type 0
IsFirst before es f = (list_any (is_at f) before ≡ false) × (find (is_at f) es ≡ Some f)

all_by : {X : Type 0} (P Q : X → Type 0) → ((x : X) → P x → Q x) → (xs : List X) → AllByRecursion P xs → AllByRecursion Q xs
all_by P Q h [] a = tt
all_by P Q h (x ∷ xs) a = (h x a.0, all_by P Q h xs a.1)

apart : (before : List Entry) (x f : Entry) → list_any (is_at x) before ≡ true → list_any (is_at f) before ≡ false → is_at f x ≡ false
apart before x f seen none = elim (cases_Bool (is_at f x)) [
  | inl h ↦ absurd (never (list_any (is_at f) before) (any_same f x before h ∙ seen) none)
  | inr h ↦ h
]
  where
    never : (b : Bool) → b ≡ true → b ≡ false → ⊥
    never b t f = absurd cc

neither : (a b : Bool) → (a || b) ≡ false → (a ≡ false) × (b ≡ false)
neither false b h = (refl, h)
neither true b h = absurd cc

are_first : (before es : List Entry) → AllByRecursion (IsFirst before es) (fields_among before es)
are_first before [] = tt
are_first before (x ∷ xs) = elim (cases_Bool (list_any (is_at x) before)) [
  | inl seen ↦ rw (among_seen before x xs seen) (all_by (IsFirst before xs) (IsFirst before (x ∷ xs)) (λ f a. (a.0, rw (apart before x f seen a.0) a.1)) (fields_among before xs) (are_first before xs))
  | inr new ↦ rw (among_new before x xs new) (
    (new, rw (at_self x) refl),
    all_by (IsFirst (x ∷ before) xs) (IsFirst before (x ∷ xs)) (λ f a. let parts = neither (is_at f x) (list_any (is_at f) before) a.0 in (parts.1, rw parts.0 a.1)) (fields_among (x ∷ before) xs) (are_first (x ∷ before) xs),
  )
]

find_bound : (f : Entry) (es : List Entry) (ts : List Target) → length ts ≡ length es → option_map (λ b. b.entry) (find (stands_at (spot_of f)) (bound_by es ts)) ≡ find (is_at f) es
find_bound f [] ts h = refl
find_bound f (x ∷ xs) [] h = absurd (omega arith)
find_bound f (x ∷ xs) (y ∷ ys) h = elim (cases_Bool (is_at f x)) [
  | inl t ↦ rw t refl
  | inr t ↦ rw t (find_bound f xs ys (omega arith))
]

-- what is held at the place of a first entry
held_first : (c : NewCell) (targets : List Target) (f : Entry) → length targets ≡ length c.object.entries → find (is_at f) c.object.entries ≡ Some f
    → unwrap_or (held_among c (bound_in c targets) (bound_in c targets) (spot_of f)) 0 ≡ field_value_of c (bound_in c targets) f
held_first c targets f same is = go (find (stands_at (spot_of f)) (bound_in c targets)) (find_bound f c.object.entries targets same ∙ is)
  where
    go : (found : Option Bound) → option_map (λ b. b.entry) found ≡ Some f
        → unwrap_or (option_map (λ b. fold (applied c (bound_in c targets)) (own_number c.object b.entry) (filter (stands_at (spot_of f)) (bound_in c targets))) found) 0 ≡ field_value_of c (bound_in c targets) f
    go None h = absurd cc
    go (Some b) h = ap (λ e. fold (applied c (bound_in c targets)) (own_number c.object e) (filter (stands_at (spot_of f)) (bound_in c targets))) (the_one b.entry h)
      where
        the_one : (e : Entry) → Some e ≡ Some f → e ≡ f
        the_one e h = cc

same_maps : {X Y : Type 0} (g h : X → Y) (xs : List X) → AllByRecursion (λ x. g x ≡ h x) xs → map g xs ≡ map h xs
same_maps g h [] a = refl
same_maps g h (x ∷ xs) a = rw (a.0, same_maps g h xs a.1) refl

-- the field of a first entry, with that number
abbrev field_with : NewCell → Entry → ℕ → FieldValue
field_with c e v = record { addr = place_of c e; width = width_of e.kind; value = v }

abbrev pub field_by : NewCell → (ℕ × ℕ → Option ℕ) → Entry → FieldValue
field_by c f e = field_with c e (unwrap_or (f (spot_of e)) 0)

-- what the fields hold, by a look-up
pub values_are : (c : NewCell) (targets : List Target) (f : ℕ × ℕ → Option ℕ) → length targets ≡ length c.object.entries
    → ((q : ℕ × ℕ) → f q ≡ held_among c (bound_in c targets) (bound_in c targets) q)
    → map (field_by c f) (fields_of c.object) ≡ field_values c targets
values_are c targets f same held =
    same_maps (field_by c f) (value_at c targets) (fields_of c.object)
    (all_by (IsFirst [] c.object.entries) (λ e. field_by c f e ≡ value_at c targets e)
    (λ e a. ap (field_with c e) (ap (λ o. unwrap_or o 0) (held (spot_of e)) ∙ held_first c targets e same a.1))
    (fields_of c.object) (are_first [] c.object.entries))

-- the same at the values that the code has
pub linked : (c d : NewCell) (targets ts : List Target) (f : ℕ × ℕ → Option ℕ) (firsts : List Entry) (values : List FieldValue)
    → d ≡ c → ts ≡ targets → length targets ≡ length c.object.entries → first_unfit d ts ≡ None → firsts ≡ fields_of d.object
    → ((q : ℕ × ℕ) → f q ≡ held_among d (bound_in d ts) (bound_in d ts) q)
    → values ≡ map (field_by d f) firsts
    → (first_unfit c targets ≡ None) × (values ≡ field_values c targets)
linked c d targets ts f firsts values cells tables same fit first held are =
    (rw (← cells, ← tables) fit, rw (← cells, ← tables) (are ∙ rw first (values_are d ts f (rw (tables, cells) same) held)))
