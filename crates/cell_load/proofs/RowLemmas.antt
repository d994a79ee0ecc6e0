-- The links of a cell, entry by entry.
use Rattle.std.proofs.Common.{◌≡◌, refl, sym, ◌∙◌, ap, ap₂, arith, ℕ, suc, ◌+◌, ◌<◌, List, [], ◌∷◌, ◌++◌, length, drop, get_or, append_assoc}
use Rattle.std.specs.Prelude.{Option, Some, None, option_to_list}
use Rattle.std.specs.List.{cons_option}
use Rattle.std.proofs.lemmas.List.{drop_more}
use Rattle.cell_object.specs.declared.object.Entry.{Entry}
use Rattle.cell_world.specs.declared.state.LinkRow.{LinkRow}
use Rattle.cell_world.specs.declared.state.NewCell.{NewCell}
use Rattle.cell_world.specs.declared.state.Target.{Target}
use Rattle.cell_world.specs.Linked.Relink.{link_to}
use Rattle.cell_world.specs.World.{attached}
use Rattle.cell_load.specs.Linking.{rows_from}

cons_listed : {X : Type 0} (xs : List X) (o : Option X) (ys : List X) → xs ++ cons_option o ys ≡ (xs ++ option_to_list o) ++ ys
cons_listed xs None ys = ap (λ zs. zs ++ ys) (sym (append_none xs))
  where
    append_none : {X : Type 0} (xs : List X) → xs ++ [] ≡ xs
    append_none [] = refl
    append_none (x ∷ xs) = ap (λ zs. x ∷ zs) (append_none xs)
cons_listed xs (Some x) ys = sym (append_assoc xs (x ∷ []) ys)

module _ (c : NewCell) (entries : List Entry) (targets : List Target) (each : length targets ≡ length entries) where
  -- the links of an entry and of those after it
  next_rows : (i : ℕ) (e : Entry) (t : Target) → i < length entries
      → rows_from c i (drop i entries) (drop i targets) ≡ cons_option (link_to (attached c) i (get_or entries i e) (get_or targets i t)) (rows_from c (i + 1) (drop (i + 1) entries) (drop (i + 1) targets))
  next_rows i e t lt =
      let one : suc i ≡ i + 1 = omega arith in
      ap₂ (λ es ts. rows_from c i es ts) (drop_more entries i e lt) (drop_more targets i t (omega (arith, lt, each)))
      ∙ ap (λ (k : ℕ). cons_option (link_to (attached c) i (get_or entries i e) (get_or targets i t)) (rows_from c k (drop (i + 1) entries) (drop (i + 1) targets))) one

  pub rows_more : (i : ℕ) (e : Entry) (t : Target) (o : Option LinkRow) (rows new all : List LinkRow) → i < length entries
      → o ≡ link_to (attached c) i (get_or entries i e) (get_or targets i t) → new ≡ rows ++ option_to_list o
      → rows ++ rows_from c i (drop i entries) (drop i targets) ≡ all → new ++ rows_from c (i + 1) (drop (i + 1) entries) (drop (i + 1) targets) ≡ all
  rows_more i e t o rows new all lt is added far =
      ap (λ xs. xs ++ rows_from c (i + 1) (drop (i + 1) entries) (drop (i + 1) targets)) added
      ∙ (sym (cons_listed rows o (rows_from c (i + 1) (drop (i + 1) entries) (drop (i + 1) targets)))
      ∙ (ap (λ o. rows ++ cons_option o (rows_from c (i + 1) (drop (i + 1) entries) (drop (i + 1) targets))) is
      ∙ (ap (λ xs. rows ++ xs) (sym (next_rows i e t lt)) ∙ far)))

  -- the same, where the entries are read from an equal list
  pub rows_next : (es : List Entry) → es ≡ entries → (i : ℕ) (e : Entry) (t : Target) (o : Option LinkRow) (rows new all : List LinkRow) → i < length es
      → o ≡ link_to (attached c) i (get_or es i e) (get_or targets i t) → new ≡ rows ++ option_to_list o
      → rows ++ rows_from c i (drop i entries) (drop i targets) ≡ all → new ++ rows_from c (i + 1) (drop (i + 1) entries) (drop (i + 1) targets) ≡ all
  rows_next es same i e t o rows new all lt is added far =
      let long : length es ≡ length entries = ap length same in
      rows_more i e t o rows new all (omega (arith, lt, long)) (is ∙ ap (λ es. link_to (attached c) i (get_or es i e) (get_or targets i t)) same) added far
