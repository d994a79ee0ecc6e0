-- One move after another.
use Rattle.std.proofs.Common.{◌≡◌, ℕ, zero, suc, ◌+◌, ◌<◌, ◌≤◌, length, drop, get_or, Bool, true, false, ◌||◌, cond, List, [], ◌∷◌, Some, None, refl, ap, sym, subst, ◌∙◌, arith}
use Rattle.std.specs.Prelude.{IsSomeAnd, IsTrue, find, slice_get}
use Rattle.std.specs.List.{list_any}
use Rattle.std.specs.Option.{option_map_or}
use Rattle.std.proofs.lemmas.Grind.{common_steps}
use Rattle.cell_world.specs.declared.state.LinkRow.{LinkRow}
use Rattle.cell_graph.specs.Links.{is_bound}
use Rattle.cell_graph.specs.Moves.{is_link_of, AreApart, moved, moved_row}
use Rattle.cell_graph.proofs.Apart.{link_swapped, link_user, link_entry}

module _ (p : LinkRow → Bool) where
  any_later : (b rest : Bool) → rest ≡ true → (b || rest) ≡ true
  any_later true rest e = refl
  any_later false rest e = e

  -- an element that passes is there
  pub any_at : (rows : List LinkRow) (place : ℕ) → IsSomeAnd (slice_get rows place) (λ r. IsTrue (p r)) → list_any p rows ≡ true
  any_at [] place at = absurd at
  any_at (r ∷ rows) zero at = ap (λ b. b || list_any p rows) at
  any_at (r ∷ rows) (suc place) at = any_later (p r) (list_any p rows) (any_at rows place at)

  -- none is found where none passes
  pub none_found : (rows : List LinkRow) → list_any p rows ≡ false → find p rows ≡ None
  none_found [] none = refl
  none_found (r ∷ rows) none = go (p r) (none_found rows) none
    where
      go : (b : Bool) → (list_any p rows ≡ false → find p rows ≡ None) → (b || list_any p rows) ≡ false → cond b (Some r) (find p rows) ≡ None
      go true later none = absurd (cc none)
      go false later none = later none

-- no move, no change
pub moved_nothing : (rows : List LinkRow) → moved rows [] ≡ rows
moved_nothing [] = refl
moved_nothing (r ∷ rows) = ap (λ rs. r ∷ rs) (moved_nothing rows)

-- another link stays as it is
pub unmoved : (to row : LinkRow) → is_link_of to.user to.entry row ≡ false → moved_row (to ∷ []) row ≡ row
unmoved to row other = ap (λ b. record row { target = option_map_or (λ m. m.target) (cond b (Some to) None) row.target }) (link_swapped row to ∙ other)

-- the named link gets its target
pub retargeted : (to row : LinkRow) → is_link_of to.user to.entry row ≡ true → moved_row (to ∷ []) row ≡ record row { target = to.target }
retargeted to row named = ap (λ b. record row { target = option_map_or (λ m. m.target) (cond b (Some to) None) row.target }) (link_swapped row to ∙ named)

-- a move and then others, which name other links
moved_row_after : (to : LinkRow) (moves : List LinkRow) (row : LinkRow) → is_bound moves to.user to.entry ≡ false
    → moved_row moves (moved_row (to ∷ []) row) ≡ moved_row (to ∷ moves) row
moved_row_after to moves row none = ap (λ t. record row { target = t }) (go (is_link_of row.user row.entry to) refl)
  where
    go : (b : Bool) → is_link_of row.user row.entry to ≡ b
        → option_map_or (λ m. m.target) (find (is_link_of row.user row.entry) moves) (option_map_or (λ m. m.target) (cond b (Some to) None) row.target)
        ≡ option_map_or (λ m. m.target) (cond b (Some to) (find (is_link_of row.user row.entry) moves)) row.target
    go true e =
        let unbound : is_bound moves row.user row.entry ≡ false =
        ap (λ u. is_bound moves u row.entry) (sym (link_user row.user row.entry to e))
        ∙ ap (λ x. is_bound moves to.user x) (sym (link_entry row.user row.entry to e))
        ∙ none
        in
        ap (λ o. option_map_or (λ m. m.target) o to.target) (none_found (is_link_of row.user row.entry) moves unbound)
    go false e = refl

pub moved_after : (to : LinkRow) (moves rows : List LinkRow) → is_bound moves to.user to.entry ≡ false
    → moved (moved rows (to ∷ [])) moves ≡ moved rows (to ∷ moves)
moved_after to moves [] none = refl
moved_after to moves (r ∷ rows) none = λ i. moved_row_after to moves r none i ∷ moved_after to moves rows none i

-- the next move, before those that are left
pub moved_next : (rows moves : List LinkRow) (k : ℕ) (d : LinkRow) → k < length moves → AreApart (drop k moves)
    → (moved (moved rows (get_or moves k d ∷ [])) (drop (k + 1) moves) ≡ moved rows (drop k moves)) × AreApart (drop (k + 1) moves)
moved_next rows [] k d lt apart = absurd (omega arith)
moved_next rows (m ∷ moves) zero d lt apart = (moved_after m moves rows apart.0, apart.1)
moved_next rows (m ∷ moves) (suc k) d lt apart =
    let e : suc (k + 1) ≡ suc k + 1 = omega arith in
    subst (λ n. (moved (moved rows (get_or moves k d ∷ [])) (drop n (m ∷ moves)) ≡ moved rows (drop k moves)) × AreApart (drop n (m ∷ moves))) e
    (moved_next rows moves k d (omega arith) apart)

-- none is left
pub moved_end : (rows moves : List LinkRow) (k : ℕ) → length moves ≤ k → rows ≡ moved rows (drop k moves)
moved_end rows moves k le = sym (ap (moved rows) (drop_all moves k le) ∙ moved_nothing rows)
  where
    drop_all : (moves : List LinkRow) (k : ℕ) → length moves ≤ k → drop k moves ≡ []
    drop_all moves k le = grind (arith, common_steps)
