-- A file, its names and its rows, one part later.
use Rattle.std.proofs.Common.{◌≡◌, ℕ, ◌+◌, ◌≤◌, List, [], ◌∷◌, ◌++◌, length, take, sym, ap, ◌∙◌, arith, append_assoc, append-nil, replicate, length-append}
use Rattle.std.specs.List.{flat_map}
use Rattle.std.proofs.lemmas.List.{length-replicate, take-replicate}
use Rattle.std.proofs.lemmas.Grind.{flat_map-append}
use Rattle.cell_object.specs.Before.{with_before, with_before_from}
use Rattle.cell_object.specs.Strings.{string, string_table, place_in, name_place}
use Rattle.cell_object.specs.ImageParts.{padding, padded, offset_after}
use Rattle.cell_elfw.specs.Drafts.{file_of}

pub flat_map_push : {X A : Type 0} (f : X → List A) (xs : List X) (y : X) → flat_map f (xs ++ (y ∷ [])) ≡ flat_map f xs ++ f y
flat_map_push f xs y = flat_map-append f xs (y ∷ []) ∙ ap (λ v. flat_map f xs ++ v) (append-nil (f y))

from_push : {X : Type 0} (b xs : List X) (y : X) → with_before_from b (xs ++ (y ∷ [])) ≡ with_before_from b xs ++ ((b ++ xs, y) ∷ [])
from_push b [] y = ap (λ v. (v, y) ∷ []) (sym (append-nil b))
from_push b (x ∷ xs) y =
    ap (λ v. (b, x) ∷ v) (from_push (b ++ (x ∷ [])) xs y ∙ ap (λ v. with_before_from (b ++ (x ∷ [])) xs ++ ((v, y) ∷ [])) (append_assoc b (x ∷ []) xs))

pub with_before_push : {X : Type 0} (xs : List X) (y : X) → with_before (xs ++ (y ∷ [])) ≡ with_before xs ++ ((xs, y) ∷ [])
unfolding with_before
with_before_push xs y = from_push [] xs y

pub string_table_append : (xs ys : List (List ℕ)) → string_table (xs ++ ys) ≡ string_table xs ++ flat_map string ys
unfolding string_table
string_table_append xs ys = ap (λ v. 0 ∷ v) (flat_map-append string xs ys)

pub string_table_push : (names : List (List ℕ)) (name : List ℕ) → string_table (names ++ (name ∷ [])) ≡ string_table names ++ string name
string_table_push names name = string_table_append names (name ∷ []) ∙ ap (λ v. string_table names ++ v) (append-nil (string name))

-- a file of some parts, with a part behind them
pub part_put : (file new part : List ℕ) (parts : List (List ℕ)) → file ≡ file_of parts → new ≡ file ++ padded part → new ≡ file_of (parts ++ (part ∷ []))
part_put file new part parts e n =
    n ∙ ap (λ v. v ++ padded part) e ∙ append_assoc (replicate 64 0) (flat_map padded parts) (padded part)
    ∙ ap (λ v. replicate 64 0 ++ v) (sym (flat_map_push padded parts part))

-- where the next part stands
pub file_length : (file : List ℕ) (parts : List (List ℕ)) → file ≡ file_of parts → length file ≡ offset_after parts
file_length file parts e =
    ap length e ∙ length-append (replicate 64 0) (flat_map padded parts) ∙ ap (λ n. n + length (flat_map padded parts)) (length-replicate {A = ℕ} 64 0)

pub name_put : (table new name : List ℕ) (names : List (List ℕ)) → table ≡ string_table names → new ≡ table ++ string name → new ≡ string_table (names ++ (name ∷ []))
name_put table new name names e n = n ∙ ap (λ v. v ++ string name) e ∙ sym (string_table_push names name)

pub place_is : (table name : List ℕ) (names : List (List ℕ)) (place : ℕ) → table ≡ string_table names → place ≡ place_in (length table) name → place ≡ name_place names name
place_is table name names place e p = p ∙ ap (λ v. place_in (length v) name) e

-- rows of elements with those before them, one later
pub row_put : {X : Type 0} (f : List X × X → List ℕ) (rows new : List ℕ) (xs : List X) (y : X) → rows ≡ flat_map f (with_before xs) → new ≡ rows ++ f (xs, y) → new ≡ flat_map f (with_before (xs ++ (y ∷ [])))
row_put f rows new xs y e n =
    n ∙ ap (λ v. v ++ f (xs, y)) e ∙ sym (flat_map_push f (with_before xs) (xs, y)) ∙ ap (flat_map f) (sym (with_before_push xs y))

-- a part and the zero bytes behind it
pub padded_put : (file part mid new : List ℕ) → mid ≡ file ++ part → new ≡ mid ++ take (padding (length part)) (replicate 8 0) → new ≡ file ++ padded part
unfolding padded
padded_put file part mid new e n =
    let few : padding (length part) ≤ 8 = omega arith in
    n ∙ ap (λ v. v ++ take (padding (length part)) (replicate 8 0)) e
    ∙ ap (λ v. (file ++ part) ++ v) (take-replicate {X = ℕ} (padding (length part)) 8 0 few)
    ∙ append_assoc file part (replicate (padding (length part)) 0)
