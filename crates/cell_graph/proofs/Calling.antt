-- For callers: a link above all others goes to the end, and isn't bound yet.
use Rattle.std.proofs.Common.{◌≡◌, ℕ, true, false, cond, ◌&&◌, ◌||◌, eqb, ltb, List, [], ◌∷◌, ◌++◌, refl, ap, ◌∙◌, arith, tests}
use Rattle.std.specs.List.{AllByRecursion}
use Rattle.cell_world.specs.declared.state.LinkRow.{LinkRow}
use Rattle.cell_graph.specs.Links.{is_bound}
use Rattle.cell_graph.specs.Moves.{is_link_of}
use Rattle.cell_graph.specs.Order.{below_link, with_link, Rises}

below_unlike : (a b c d e f : ℕ) → (ltb a d || eqb a d && (ltb b e || eqb b e && ltb c f)) ≡ true → (eqb a d && eqb c f && eqb b e) ≡ false
below_unlike a b c d e f h = grind (arith, tests)

-- links that rise, up to the link and on
module _ (row : LinkRow) (rest : List LinkRow) where
  later : (P : LinkRow → Type 0) (rows : List LinkRow) → AllByRecursion P (rows ++ row ∷ rest) → P row
  later P [] all = all.0
  later P (r ∷ rows) all = later P rows all.1

  pub with_link_next : (rows : List LinkRow) → Rises below_link (rows ++ row ∷ rest) → with_link row rows ≡ rows ++ row ∷ []
  with_link_next [] rises = refl
  with_link_next (r ∷ rows) rises =
      ap (λ b. cond b (r ∷ with_link row rows) (row ∷ r ∷ rows)) (later (λ x. below_link r x ≡ true) rows rises.0)
      ∙ ap (λ l. r ∷ l) (with_link_next rows rises.1)

  pub unbound_next : (rows : List LinkRow) → Rises below_link (rows ++ row ∷ rest) → is_bound rows row.user row.entry ≡ false
  unbound_next [] rises = refl
  unbound_next (r ∷ rows) rises =
      ap (λ b. b || is_bound rows row.user row.entry) (unlike r (later (λ x. below_link r x ≡ true) rows rises.0))
      ∙ unbound_next rows rises.1
    where
      unlike : (r : LinkRow) → below_link r row ≡ true → is_link_of row.user row.entry r ≡ false
      unlike r below = below_unlike r.user.cell.0 r.entry r.user.section row.user.cell.0 row.entry row.user.section below
