-- A table that answers as rows do still does when both take more rows.
use Rattle.std.proofs.Common.{◌≡◌, refl, sym, ap, ◌∙◌, ℕ, Bool, true, false, cond, List, [], ◌∷◌, ◌++◌, Some}
use Rattle.std.specs.Prelude.{find, option_map}
use Rattle.cell_num.specs.Lists.{equals, or_else}
use Rattle.cell_world.specs.Running.Transfer.{address_named}
use Rattle.std.specs.Prelude.{unwrap_or}
use Rattle.cell_xfer.specs.Named.{AnswersAs, addresses_as, first_named}

module _ {V : Type 0} where
  pub answers_itself : (rows : List (List ℕ × V)) → AnswersAs rows rows
  answers_itself rows name = refl

  pub answers_through : (a b c : List (List ℕ × V)) → AnswersAs a b → AnswersAs b c → AnswersAs a c
  answers_through a b c f g name = f name ∙ g name

  -- what stands first counts
  pub first_named_both : (rows more : List (List ℕ × V)) (name : List ℕ) → first_named (rows ++ more) name ≡ or_else (first_named rows name) (first_named more name)
  first_named_both [] more name = refl
  first_named_both (row ∷ rows) more name = go (equals row.0 name) (first_named_both rows more name)
    where
      go : (b : Bool) → first_named (rows ++ more) name ≡ or_else (first_named rows name) (first_named more name)
          → option_map (λ (r : List ℕ × V). r.1) (cond b (Some row) (find (λ (r : List ℕ × V). equals r.0 name) (rows ++ more)))
          ≡ or_else (option_map (λ (r : List ℕ × V). r.1) (cond b (Some row) (find (λ (r : List ℕ × V). equals r.0 name) rows))) (first_named more name)
      go true rest = refl
      go false rest = rest

  -- more rows behind both
  pub answers_behind : (table rows more : List (List ℕ × V)) → AnswersAs table rows → AnswersAs (table ++ more) (rows ++ more)
  answers_behind table rows more same name =
      first_named_both table more name
      ∙ ap (λ o. or_else o (first_named more name)) (same name)
      ∙ sym (first_named_both rows more name)

  -- the table after more rows, where it answers so
  pub answers_added : (table added rows more : List (List ℕ × V)) → AnswersAs table rows → AnswersAs added (table ++ more) → AnswersAs added (rows ++ more)
  answers_added table added rows more same new =
      answers_through added (table ++ more) (rows ++ more) new (answers_behind table rows more same)

-- an address that is asked for
pub address_is : (rows : List (List ℕ × ℕ)) (name : List ℕ) → unwrap_or (first_named rows name) 0 ≡ address_named (addresses_as rows) name
address_is rows name = ap (λ o. unwrap_or o 0) (go rows)
  where
    go : (rows : List (List ℕ × ℕ)) → first_named rows name ≡ option_map (λ row. row.addr) (find (λ row. equals row.name name) (addresses_as rows))
    go [] = refl
    go (row ∷ rows) = at (equals row.0 name) (go rows)
      where
        at : (b : Bool) → first_named rows name ≡ option_map (λ row. row.addr) (find (λ row. equals row.name name) (addresses_as rows))
            → option_map (λ (r : List ℕ × ℕ). r.1) (cond b (Some row) (find (λ (r : List ℕ × ℕ). equals r.0 name) rows))
            ≡ option_map (λ r. r.addr) (cond b (Some (record { name = row.0; addr = row.1 })) (find (λ r. equals r.name name) (addresses_as rows)))
        at true rest = refl
        at false rest = rest
