-- A table of names as the list of its rows.
use Rattle.std.proofs.Common.{◌≡◌, refl, sym, ap, ◌∙◌, ℕ, Bool, true, false, cond, List, [], ◌∷◌, ◌++◌, Option, Some, None, is_some}
use Rattle.std.specs.Prelude.{map, option_map}
use Rattle.std.specs.Map.{lookup}
use Rattle.std.specs.Str.{bytes_eq}
use Rattle.std.specs.Cmp.Lexicographic.{nat_list_eq_equiv}
use Rattle.std.specs.HashMap.{HashMap}
use Rattle.std.proofs.lemmas.List.{map-append}
use Rattle.std.proofs.lemmas.Slice.Eq.{bytes_eq-Decides}
use Rattle.indexmap.specs.IndexMap.{insert_entry}
use Rattle.indexmap.proofs.CallerLemmas.{insert_entry-new}
use Rattle.cell_num.specs.Lists.{or_else}
use Rattle.cell_xfer.specs.Named.{AnswersAs, first_named}
use Rattle.cell_xfer.proofs.Answering.{first_named_both}

module _ {K V : Type 0} (bytes : K → List ℕ) where
  abbrev pub rows_of : List (K × V) → List (List ℕ × V)
  rows_of es = map (λ e. (bytes e.0, e.1)) es

  one : (b c : Bool) (v : V) (row : List ℕ × V) (rest : Option V) (found : Option (List ℕ × V)) → b ≡ c → v ≡ row.1 → rest ≡ option_map (λ r. r.1) found
      → cond b (Some v) rest ≡ option_map (λ (r : List ℕ × V). r.1) (cond c (Some row) found)
  one true true v row rest found e s r = ap (λ m. Some m) s
  one false false v row rest found e s r = r
  one true false v row rest found e s r = absurd (cc e)
  one false true v row rest found e s r = absurd (cc e)

  -- a look-up finds the value of the row
  pub lookup-rows : (q : List ℕ) (es : List (K × V)) → lookup (λ k. bytes_eq q (bytes k)) es ≡ first_named (rows_of es) q
  lookup-rows q [] = refl
  lookup-rows q (e ∷ es) =
      one (bytes_eq q (bytes e.0)) (bytes_eq (bytes e.0) q) e.1 (bytes e.0, e.1) _ _ (nat_list_eq_equiv.symm q (bytes e.0)) refl (lookup-rows q es)

  -- the rows with one more
  pub with_row : {S : Type 0} (old new : HashMap K V S) (k : K) (value : V) (name : List ℕ) (rows : List (List ℕ × V)) → bytes k ≡ name → first_named rows name ≡ None → rows_of old.entries ≡ rows
      → new.entries ≡ insert_entry (λ x y. bytes_eq (bytes x) (bytes y)) old.entries k value
      → rows_of new.entries ≡ rows ++ (name, value) ∷ []
  with_row old new k value name rows is none view e =
      let free : lookup (λ x. bytes_eq (bytes k) (bytes x)) old.entries ≡ None =
      ap (λ q. lookup (λ x. bytes_eq q (bytes x)) old.entries) is
      ∙ lookup-rows name old.entries
      ∙ ap (λ rs. first_named rs name) view
      ∙ none
      in
      ap rows_of (e ∙ insert_entry-new (λ x y. bytes_eq (bytes x) (bytes y)) old k value free)
      ∙ map-append _ old.entries ((k, value) ∷ [])
      ∙ ap (λ rs. rs ++ (bytes k, value) ∷ []) view
      ∙ ap (λ q. rows ++ (q, value) ∷ []) is

same_bytes : (xs ys : List ℕ) → bytes_eq xs ys ≡ true → xs ≡ ys
same_bytes xs ys e = (bytes_eq-Decides xs ys).0 e

module _ {V : Type 0} where
  pub none_is : (o : Option V) → is_some o ≡ false → o ≡ None
  none_is None e = refl
  none_is (Some v) e = absurd cc

  -- a name that is there has its value already
  pub known : (rows : List (List ℕ × V)) (row : List ℕ × V) → is_some (first_named rows row.0) ≡ true → AnswersAs rows (rows ++ row ∷ [])
  known rows row there name = sym (first_named_both rows (row ∷ []) name ∙ go (bytes_eq row.0 name) refl)
    where
      kept : (o : Option V) → is_some o ≡ true → or_else o (Some row.1) ≡ o
      kept None e = absurd cc
      kept (Some v) e = refl

      left : (o : Option V) → or_else o None ≡ o
      left None = refl
      left (Some v) = refl

      go : (b : Bool) → bytes_eq row.0 name ≡ b → or_else (first_named rows name) (option_map (λ (r : List ℕ × V). r.1) (cond b (Some row) None)) ≡ first_named rows name
      go true e = kept (first_named rows name) (ap (λ q. is_some (first_named rows q)) (sym (same_bytes row.0 name e)) ∙ there)
      go false e = left (first_named rows name)
