-- A name, read where it stands in its string table.
use Rattle.std.proofs.Common.{◌≡◌, ℕ, suc, ◌+◌, ◌<◌, Bool, true, false, cond, not, ◌||◌, true≢false, List, [], ◌∷◌, ◌++◌, length, take, ap, ◌∙◌, refl, arith, append_assoc, length-append, Option, Some, None}
use Rattle.std.specs.Prelude.{nat_lt}
use Rattle.std.specs.List.{flat_map, list_any, position, position_or_len}
use Rattle.std.specs.Option.{option_map}
use Rattle.std.proofs.Math.Seq.{drop-append_seam}
use Rattle.std.proofs.lemmas.Bool.{lt-ltb}
use Rattle.std.proofs.lemmas.List.{take-append-le, take_all}
use Rattle.std.proofs.lemmas.Grind.{flat_map-append}
use Rattle.cell_object.specs.Bytes.{string_at, is_zero}
use Rattle.cell_object.specs.Strings.{string, string_table, name_place}

-- the name has no zero byte
abbrev pub IsPlain : List ℕ → Type 0
IsPlain name = list_any is_zero name ≡ false

or_none : (a b : Bool) → (a || b) ≡ false → (a ≡ false) × (b ≡ false)
or_none true b h = absurd (true≢false h)
or_none false b h = (refl, h)

zero_after : (name rest : List ℕ) → IsPlain name → position_or_len is_zero (name ++ (0 ∷ rest)) ≡ length name
zero_after [] rest h = refl
zero_after (b ∷ bs) rest h =
    let p = or_none (is_zero b) (list_any is_zero bs) h in
    let ih = zero_after bs rest p.1 in
    let e : 1 + position_or_len is_zero (bs ++ (0 ∷ rest)) ≡ suc (length bs) = omega (arith, ih) in
    ap (λ v. cond (not v) (1 + position_or_len is_zero (bs ++ (0 ∷ rest))) 0) p.0 ∙ e

string_here : (name rest : List ℕ) → IsPlain name → string_at 0 (name ++ (0 ∷ rest)) ≡ Some name
unfolding string_at
string_here name rest h =
    let text : List ℕ = name ++ (0 ∷ rest) in
    let long : length name < length text = omega (arith, length-append name (0 ∷ rest)) in
    let found : ℕ → Option (List ℕ) = λ n. option_map (λ len. take len text) (cond (nat_lt n (length text)) (Some n) None) in
    ap found (zero_after name rest h)
    ∙ ap (λ v. option_map (λ len. take len text) (cond v (Some (length name)) None)) (lt-ltb (length name) (length text) long)
    ∙ ap Some (take-append-le (length name) name (0 ∷ rest) (omega arith) ∙ take_all (length name) name (omega arith))

string_behind : (xs ys : List ℕ) → string_at (length xs) (xs ++ ys) ≡ string_at 0 ys
unfolding string_at
string_behind xs ys = ap (λ v. option_map (λ len. take len v) (position is_zero v)) (drop-append_seam xs ys)

table_split : (before after : List (List ℕ)) (name : List ℕ) → string_table (before ++ (name ∷ after)) ≡ string_table before ++ (string name ++ flat_map string after)
unfolding string_table
table_split before after name = ap (λ v. 0 ∷ v) (flat_map-append string before (name ∷ after))

first_zero : (names : List (List ℕ)) → string_at 0 (string_table names) ≡ Some []
unfolding string_table
first_zero names = string_here [] (flat_map string names) refl

pub name_is_read : (before after : List (List ℕ)) (name : List ℕ) → IsPlain name → string_at (name_place before name) (string_table (before ++ (name ∷ after))) ≡ Some name
name_is_read before after [] h = first_zero (before ++ ([] ∷ after))
name_is_read before after (b ∷ bs) h =
    let name : List ℕ = b ∷ bs in
    ap (string_at (length (string_table before))) (table_split before after name ∙ ap (λ v. string_table before ++ v) (append_assoc name (0 ∷ []) (flat_map string after)))
    ∙ string_behind (string_table before) (name ++ (0 ∷ flat_map string after))
    ∙ string_here name (flat_map string after) h
