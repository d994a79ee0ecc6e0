-- The first entry that can't be linked, by two tests.
use Rattle.std.proofs.Common.{◌≡◌, refl, sym, ◌∙◌, ap, ap₂, arith, inl, inr, ℕ, ◌+◌, ◌≤◌, Bool, true, false, cond, not, ◌||◌, List, [], ◌∷◌, map}
use Rattle.std.specs.Prelude.{Option, Some, None, min, position, option_map, option_and_then, filter_map}
use Rattle.std.specs.List.{cons_option, position_from}
use Rattle.std.proofs.lemmas.Iterator.Adapters.{position_from-zero}
use Rattle.cell_link.specs.Linked.{first_unfit}
use Rattle.cell_num.specs.Lists.{In, or_else}
use Rattle.cell_num.proofs.Elements.{or_else_parts}
use Rattle.cell_object.specs.declared.object.Entry.{Entry}
use Rattle.cell_world.specs.Linked.Field.{Bound, bound_by, fits}
use Rattle.cell_world.specs.Gather.{Source}
use Rattle.cell_world.specs.Linked.Relink.{bound_entries}
use Rattle.cell_world.specs.Linked.Target.{targets_of}
use Rattle.cell_world.specs.World.{Cell, World}
use Rattle.cell_world.specs.declared.state.Target.{Target}
use Rattle.cell_audit.specs.Described.{cell_of}
use Rattle.cell_audit.specs.Dumps.{Row, lines_of}
use Rattle.cell_audit.specs.Linking.{first_unlinked, lacks_provider, unlinked_in}
use Rattle.cell_described.specs.Describes.{numbered_cell}
use Rattle.cell_relinked.specs.Linking.{at_line, earlier, unlinked_among}

module _ {X : Type 0} (p q : X → Bool) where
  some_at : (k i : ℕ) → Some k ≡ Some i → k ≡ i
  some_at k i e = cc

  at_least : (i k : ℕ) (xs : List X) → position_from q i xs ≡ Some k → i ≤ k
  at_least i k [] e = absurd (cc e)
  at_least i k (x ∷ xs) e = go (q x) e (λ h. at_least (i + 1) k xs h)
    where
      go : (b : Bool) → cond b (Some i) (position_from q (i + 1) xs) ≡ Some k → (position_from q (i + 1) xs ≡ Some k → i + 1 ≤ k) → i ≤ k
      go true h f = let same : i ≡ k = cc in omega (arith, same)
      go false h f = let more = f h in omega (arith, more)

  at_least_p : (i k : ℕ) (xs : List X) → position_from p i xs ≡ Some k → i ≤ k
  at_least_p i k [] e = absurd (cc e)
  at_least_p i k (x ∷ xs) e = go (p x) e (λ h. at_least_p (i + 1) k xs h)
    where
      go : (b : Bool) → cond b (Some i) (position_from p (i + 1) xs) ≡ Some k → (position_from p (i + 1) xs ≡ Some k → i + 1 ≤ k) → i ≤ k
      go true h f = let same : i ≡ k = cc in omega (arith, same)
      go false h f = let more = f h in omega (arith, more)

  first_here : (i : ℕ) (o : Option ℕ) → ((k : ℕ) → o ≡ Some k → i ≤ k) → Some i ≡ earlier (Some i) o
  first_here i None f = refl
  first_here i (Some k) f = let le = f k refl in ap Some (let least : i ≡ min i k = omega (arith, le) in least)

  other_here : (i : ℕ) (o : Option ℕ) → ((k : ℕ) → o ≡ Some k → i ≤ k) → Some i ≡ earlier o (Some i)
  other_here i None f = refl
  other_here i (Some k) f = let le = f k refl in ap Some (let least : i ≡ min k i = omega (arith, le) in least)

  from_two : (i : ℕ) (xs : List X) → position_from (λ x. p x || q x) i xs ≡ earlier (position_from p i xs) (position_from q i xs)
  from_two i [] = refl
  from_two i (x ∷ xs) = go (p x) (q x) (from_two (i + 1) xs) (λ k e. at_least (i + 1) k xs e) (λ k e. at_least_p (i + 1) k xs e)
    where
      go : (a b : Bool) → position_from (λ x. p x || q x) (i + 1) xs ≡ earlier (position_from p (i + 1) xs) (position_from q (i + 1) xs)
          → ((k : ℕ) → position_from q (i + 1) xs ≡ Some k → i + 1 ≤ k) → ((k : ℕ) → position_from p (i + 1) xs ≡ Some k → i + 1 ≤ k)
          → cond (a || b) (Some i) (position_from (λ x. p x || q x) (i + 1) xs) ≡ earlier (cond a (Some i) (position_from p (i + 1) xs)) (cond b (Some i) (position_from q (i + 1) xs))
      go true true e f g = ap Some (let least : i ≡ min i i = omega arith in least)
      go true false e f g = first_here i (position_from q (i + 1) xs) (λ k h. let le = f k h in omega (arith, le))
      go false true e f g = other_here i (position_from p (i + 1) xs) (λ k h. let le = g k h in omega (arith, le))
      go false false e f g = e

  -- the first of which one of two tests holds
  pub first_of_two : (xs : List X) → position (λ x. p x || q x) xs ≡ earlier (position p xs) (position q xs)
  first_of_two xs =
      position_from-zero (λ x. p x || q x) xs
      ∙ from_two 0 xs
      ∙ ap₂ earlier (sym (position_from-zero p xs)) (sym (position_from-zero q xs))

-- entries that have targets are as many as the entries
bound_position : (p : Entry → Bool) (i : ℕ) (f : Entry → Target) (entries : List Entry)
    → position_from (λ (b : Bound). p b.entry) i (bound_by entries (map f entries)) ≡ position_from p i entries
bound_position p i f [] = refl
bound_position p i f (e ∷ entries) = ap (cond (p e) (Some i)) (bound_position p (i + 1) f entries)

pub lacking_among : (w : World) (c : Cell) → position (λ (b : Bound). lacks_provider w c b.entry) (bound_entries w c) ≡ position (lacks_provider w c) c.object.entries
lacking_among w c =
    position_from-zero (λ (b : Bound). lacks_provider w c b.entry) (bound_entries w c)
    ∙ bound_position (lacks_provider w c) 0 _ c.object.entries
    ∙ sym (position_from-zero (lacks_provider w c) c.object.entries)

-- an entry can't be linked where it lacks a provider or doesn't fit
pub unlinked_is : (w : World) (c : Cell) (lacking unfit : Option ℕ) → lacking ≡ position (lacks_provider w c) c.object.entries
    → position (λ b. not (fits c.placed (bound_entries w c) b)) (bound_entries w c) ≡ unfit → earlier lacking unfit ≡ unlinked_in w c
unlinked_is w c lacking unfit l u =
    ap₂ earlier (l ∙ sym (lacking_among w c)) (sym u)
    ∙ sym (first_of_two (λ (b : Bound). lacks_provider w c b.entry) (λ (b : Bound). not (fits c.placed (bound_entries w c) b)) (bound_entries w c))

earlier_none : (a b : Option ℕ) → earlier a b ≡ None → b ≡ None
earlier_none None b e = e
earlier_none (Some x) None e = refl
earlier_none (Some x) (Some y) e = absurd cc

-- where each entry can be linked, each fits
pub all_fits : (w : World) (c : Cell) → unlinked_in w c ≡ None → first_unfit c.placed (targets_of w c) ≡ None
all_fits w c h = earlier_none (position (lacks_provider w c) c.object.entries) (first_unfit c.placed (targets_of w c)) (unlinked_is w c (position (lacks_provider w c) c.object.entries) (first_unfit c.placed (targets_of w c)) refl refl ∙ h)

-- and where all of some cells can, each of them can
pub each_linked : (w : World) (cells : List (ℕ × Cell)) → unlinked_among w cells ≡ None → (p : ℕ × Cell) → In p cells → unlinked_in w p.1 ≡ None
each_linked w [] h p i = absurd i
each_linked w (q ∷ cells) h p i = go (or_else_parts (option_map (at_line q.0) (unlinked_in w q.1)) (unlinked_among w cells) h) i (λ none j. each_linked w cells none p j)
  where
    unmapped : (o : Option ℕ) → option_map (at_line q.0) o ≡ None → o ≡ None
    unmapped None e = refl
    unmapped (Some x) e = absurd cc

    go : (option_map (at_line q.0) (unlinked_in w q.1) ≡ None) × (unlinked_among w cells ≡ None) → In p (q ∷ cells) → (unlinked_among w cells ≡ None → In p cells → unlinked_in w p.1 ≡ None) → unlinked_in w p.1 ≡ None
    go both (inl e) later = ap (λ (x : ℕ × Cell). unlinked_in w x.1) e ∙ unmapped (unlinked_in w q.1) both.0
    go both (inr j) later = later both.1 j

-- ---- rows and cells
pub among_rows : (sources : List Source) (all rows : List Row) (w : World) → first_unlinked sources (lines_of all) w rows ≡ unlinked_among w (filter_map (numbered_cell sources all) rows)
among_rows sources all [] w = refl
among_rows sources all (r ∷ rows) w = go (cell_of sources (lines_of all) r.1) (among_rows sources all rows w)
  where
    go : (o : Option Cell) → first_unlinked sources (lines_of all) w rows ≡ unlinked_among w (filter_map (numbered_cell sources all) rows)
        → or_else (option_map (λ entry. (r.0, entry)) (option_and_then (unlinked_in w) o)) (first_unlinked sources (lines_of all) w rows)
        ≡ unlinked_among w (cons_option (option_map (λ c. (r.0, c)) o) (filter_map (numbered_cell sources all) rows))
    go None e = e
    go (Some c) e = ap (or_else (option_map (at_line r.0) (unlinked_in w c))) e
