-- Tests and filters of lists, element by element.
use Rattle.std.proofs.Common.{◌≡◌, ℕ, zero, suc, ◌+◌, ◌<◌, ◌&&◌, Bool, true, false, cond, Some, None, List, [], ◌∷◌, ◌++◌, length, get_or, take, refl, sym, ap, ◌∙◌, arith, Bor}
use Rattle.std.specs.Prelude.{◌||◌, filter, map, slice_get}
use Rattle.std.specs.List.{list_any}
use Rattle.std.proofs.lemmas.List.{get_or-map, length-map, take_more}
use Rattle.std.proofs.lemmas.List.Elements.{filter_more}
use Rattle.std.proofs.lemmas.List.Folds.{list_any_more}
use Rattle.cell_object.specs.declared.object.Entry.{Entry}
use Rattle.cell_world.specs.Linked.Field.{fields_among}
use Rattle.cell_link.specs.declared.value.FieldValue.{FieldValue}
use Rattle.cell_link.specs.Applied.{spot_of}
use Rattle.cell_link.proofs.FirstFieldLemmas.{among_push}
use Rattle.cell_plan.specs.declared.changes.Change.{Change}
use Rattle.cell_plan.specs.Changes.{change_by}
use Rattle.cell_plan.specs.Firsts.{is_entry_at}

pub any_map : {X Y : Type 0} (p : Y → Bool) (f : X → Y) (xs : List X) → list_any p (map f xs) ≡ list_any (λ x. p (f x)) xs
any_map p f [] = refl
any_map p f (x ∷ xs) = ap (λ b. p (f x) || b) (any_map p f xs)

pub map_append : {X Y : Type 0} (f : X → Y) (xs ys : List X) → map f (xs ++ ys) ≡ map f xs ++ map f ys
map_append f [] ys = refl
map_append f (x ∷ xs) ys = ap (λ zs. f x ∷ zs) (map_append f xs ys)

pub get_map : {X Y : Type 0} (f : X → Y) (xs : List X) (i : ℕ) (d : X) (e : Y) → i < length xs → get_or (map f xs) i e ≡ f (get_or xs i d)
get_map f [] i d e below = absurd (omega arith)
get_map f (x ∷ xs) zero d e below = refl
get_map f (x ∷ xs) (suc i) d e below = get_map f xs i d e (omega arith)

-- one more field
pub fields_more : (value : Entry → FieldValue) (kept : Entry → Bool) (firsts : List Entry) (values : List FieldValue) (i : ℕ) (d : Entry) (e : FieldValue) (old new : List Change)
    → i < length firsts → values ≡ map value firsts → old ≡ map (change_by value) (filter kept (take i firsts))
    → new ≡ old ++ cond (kept (get_or firsts i d)) (record { field = get_or firsts i d; value = get_or values i e } ∷ []) []
    → new ≡ map (change_by value) (filter kept (take (i + 1) firsts))
fields_more value kept firsts values i d e old new below are were is =
    is ∙ rw (were, are, get_map value firsts i d e below, filter_more kept firsts i d below, map_append (change_by value) (filter kept (take i firsts)) (cond (kept (get_or firsts i d)) (get_or firsts i d ∷ []) []))
    (last (kept (get_or firsts i d)))
  where
    last : (b : Bool)
        → map (change_by value) (filter kept (take i firsts)) ++ cond b (change_by value (get_or firsts i d) ∷ []) []
        ≡ map (change_by value) (filter kept (take i firsts)) ++ map (change_by value) (cond b (get_or firsts i d ∷ []) [])
    last true = refl
    last false = refl

-- the places of entries, with one more entry
pub seen_more : (es : List Entry) (i : ℕ) (d : Entry) (q : ℕ × ℕ) (old new : Bool) → i < length es → old ≡ list_any (is_entry_at q) (take i es)
    → new ≡ (old || is_entry_at q (get_or es i d)) → new ≡ list_any (is_entry_at q) (take (i + 1) es)
seen_more es i d q old new below are is = is ∙ rw are (sym (list_any_more (is_entry_at q) es i d below))

-- the first entries, with one more entry
pub firsts_push : (es : List Entry) (i : ℕ) (d : Entry) (seen : Bool) (old new : List Entry) → i < length es → seen ≡ list_any (is_entry_at (spot_of (get_or es i d))) (take i es)
    → old ≡ fields_among [] (take i es) → new ≡ old ++ cond seen [] (get_or es i d ∷ []) → new ≡ fields_among [] (take (i + 1) es)
firsts_push es i d seen old new below has were is =
    is ∙ rw (were, has) (sym (among_push [] (take i es) (get_or es i d)) ∙ ap (fields_among []) (sym (take_more es i d below)))

-- what a list of references refers to
pub referred : {X : Type 0} (refs : List (Bor X)) (place : ℕ) (r : Bor X) → place < length refs → r ≡ get_or refs place r → (place < length (map (λ x. x.now) refs)) × (r.now ≡ get_or (map (λ x. x.now) refs) place r.now)
referred {X = X} refs place r here at = (
  omega (arith, here, length-map refs (λ (x : Bor X). x.now)),
  ap (λ (x : Bor X). x.now) at ∙ sym (get_or-map (λ (x : Bor X). x.now) refs place r r.now here),
)

-- changes by their fields, and by their values
pub change_fields : (value : Entry → FieldValue) (fs : List Entry) → map (λ x. x.field) (map (change_by value) fs) ≡ fs
change_fields value [] = refl
change_fields value (f ∷ fs) = ap (λ (xs : List Entry). f ∷ xs) (change_fields value fs)

pub change_values : (value : Entry → FieldValue) (fs : List Entry) → map (λ x. x.value) (map (change_by value) fs) ≡ map value fs
change_values value [] = refl
change_values value (f ∷ fs) = ap (λ (xs : List FieldValue). value f ∷ xs) (change_values value fs)
