-- A table of names as the list of its rows.
use Rattle.std.proofs.Common.{◌≡◌, ℕ, Bool, true, false, cond, List, [], ◌∷◌, ◌++◌, Some, None, refl, ap, ◌∙◌}
use Rattle.std.specs.Prelude.{Option, find, map, option_map, is_some, ◌||◌}
use Rattle.std.specs.Map.{lookup}
use Rattle.std.specs.Str.{bytes_eq}
use Rattle.std.specs.Cmp.Lexicographic.{nat_list_eq_equiv}
use Rattle.std.specs.HashMap.{HashMap}
use Rattle.std.proofs.lemmas.List.{map-append}
use Rattle.indexmap.specs.IndexMap.{insert_entry}
use Rattle.indexmap.proofs.CallerLemmas.{insert_entry-new}
use Rattle.cell_world.specs.World.{Alias}
use Rattle.cell_world.specs.Names.{symbol_in, has_name}

module _ {K : Type 0} (bytes : K → List ℕ) where
  abbrev pub rows_of : List (K × ℕ) → List Alias
  rows_of es = map (λ e. record { name = bytes e.0; symbol = e.1 }) es

  one : (b c : Bool) (n : ℕ) (a : Alias) (rest : Option ℕ) (found : Option Alias) → b ≡ c → n ≡ a.symbol → rest ≡ option_map (λ r. r.symbol) found
      → cond b (Some n) rest ≡ option_map (λ r. r.symbol) (cond c (Some a) found)
  one true true n a rest found e s r = ap (λ m. Some m) s
  one false false n a rest found e s r = r
  one true false n a rest found e s r = absurd (cc e)
  one false true n a rest found e s r = absurd (cc e)

  -- a look-up finds the symbol of the row
  pub lookup-rows : (q : List ℕ) (es : List (K × ℕ)) → lookup (λ k. bytes_eq q (bytes k)) es ≡ symbol_in (rows_of es) q
  lookup-rows q [] = refl
  lookup-rows q (e ∷ es) =
      one (bytes_eq q (bytes e.0)) (bytes_eq (bytes e.0) q) e.1 (record { name = bytes e.0; symbol = e.1 }) _ _ (nat_list_eq_equiv.symm q (bytes e.0)) refl (lookup-rows q es)

absent : (b : Bool) (a : Alias) (rest : Bool) (found : Option Alias) → (b || rest) ≡ false → (rest ≡ false → found ≡ None) → cond b (Some a) found ≡ None
absent true a rest found e f = absurd (cc e)
absent false a rest found e f = f e

pub no_row : (rows : List Alias) (q : List ℕ) → has_name rows q ≡ false → find (λ a. bytes_eq a.name q) rows ≡ None
no_row [] q e = refl
no_row (a ∷ rows) q e = absent (bytes_eq a.name q) a (has_name rows q) (find (λ r. bytes_eq r.name q) rows) e (no_row rows q)

module _ {K : Type 0} (bytes : K → List ℕ) where
  symbol_absent : (rows : List Alias) (q : List ℕ) → has_name rows q ≡ false → symbol_in rows q ≡ None
  symbol_absent rows q e = ap (option_map (λ a. a.symbol)) (no_row rows q e)

  -- the rows with one more
  pub with_row : {S : Type 0} (old new : HashMap K ℕ S) (k : K) (symbol : ℕ) (name : List ℕ) (rows : List Alias) → bytes k ≡ name → has_name rows name ≡ false → rows_of bytes old.entries ≡ rows
      → new.entries ≡ insert_entry (λ x y. bytes_eq (bytes x) (bytes y)) old.entries k symbol
      → rows_of bytes new.entries ≡ rows ++ record { name = name; symbol = symbol } ∷ []
  with_row old new k symbol name rows is free view e =
      let none : lookup (λ x. bytes_eq (bytes k) (bytes x)) old.entries ≡ None =
      ap (λ q. lookup (λ x. bytes_eq q (bytes x)) old.entries) is
      ∙ lookup-rows bytes name old.entries
      ∙ ap (λ rs. symbol_in rs name) view
      ∙ symbol_absent rows name free
      in
      ap (rows_of bytes) (e ∙ insert_entry-new (λ x y. bytes_eq (bytes x) (bytes y)) old k symbol none)
      ∙ map-append _ old.entries ((k, symbol) ∷ [])
      ∙ ap (λ rs. rs ++ record { name = bytes k; symbol = symbol } ∷ []) view
      ∙ ap (λ q. rows ++ record { name = q; symbol = symbol } ∷ []) is

some_in : (b : Bool) (a : Alias) (found : Option Alias) (rest : Bool) → is_some found ≡ rest → is_some (cond b (Some a) found) ≡ (b || rest)
some_in true a found rest e = refl
some_in false a found rest e = e

mapped : (o : Option Alias) → is_some (option_map (λ a. a.symbol) o) ≡ is_some o
mapped None = refl
mapped (Some a) = refl

found_is : (rows : List Alias) (q : List ℕ) → is_some (find (λ a. bytes_eq a.name q) rows) ≡ has_name rows q
found_is [] q = refl
found_is (a ∷ rows) q = some_in (bytes_eq a.name q) a (find (λ r. bytes_eq r.name q) rows) (has_name rows q) (found_is rows q)

pub is_some_symbol : (rows : List Alias) (q : List ℕ) → is_some (symbol_in rows q) ≡ has_name rows q
is_some_symbol rows q = mapped (find (λ a. bytes_eq a.name q) rows) ∙ found_is rows q
