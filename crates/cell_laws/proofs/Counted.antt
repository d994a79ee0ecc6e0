-- Cells that come one by one, counted by their numbers, and a reply that says how many came and went.
use Rattle.std.proofs.Common.{◌≡◌, sym, ◌∙◌, ap, arith, ℕ, suc, ◌+◌, ◌≤◌, ◌<◌, true, false, cond, List, [], ◌∷◌, ◌++◌, map, length, length-append}
use Rattle.std.specs.Prelude.{filter, nat_le, nat_lt}
use Rattle.std.specs.List.{list_all}
use Rattle.std.proofs.lemmas.Bool.{ltb-true, lt-ltb, le-leb}
use Rattle.std.proofs.lemmas.Bool.Decides.{nat_tests}
use Rattle.std.proofs.lemmas.List.{length-map}
use Rattle.std.proofs.lemmas.List.Elements.{filter-append}
use Rattle.cell_num.specs.Lists.{each_pair, In}
use Rattle.cell_world.specs.declared.reply.Reply.{Reply}
use Rattle.cell_num.specs.Limits.{max_cells}
use Rattle.cell_world.specs.World.{World, Cell}
use Rattle.cell_world.specs.Answer.{Done, fresh_by, ids, numbers_of}
use Rattle.cell_world.specs.Coherent.{IsCoherent}
use Rattle.cell_num.proofs.Elements.{In-all, In-map, all-In, all_push, filter_none, map_same, pairs-map, pairs_push}
use Rattle.cell_num.proofs.Sublists.{map_filter}
use Rattle.cell_lemmas.proofs.Fields.Relinked.{map_twice}
use Rattle.cell_lemmas.proofs.Naming.Known.{older}
use Rattle.cell_laws.specs.Counts.{removed_by}

-- the reply says how many cells came and went, where there were so many and now are so many
pub record AddsUp (had now : ℕ) (reply : Reply) : Type 0 where
  pub counted : now + length (removed_by reply) ≡ had + length (fresh_by reply)
  pub room : had + length (fresh_by reply) ≤ max_cells

abbrev pub CountsCells : World → Done → Type 0
CountsCells w d = AddsUp (length w.cells) (length d.world.cells) d.reply

-- so many old numbers, and those from one on: no more than there may be cells, rising, and all below the next
pub record Counted (from had : ℕ) (numbers : List ℕ) (next : ℕ) : Type 0 where
  pub all : length numbers ≡ had + length (filter (nat_le from) numbers)
  pub few : length numbers ≤ max_cells
  pub later : from ≤ next
  pub rises : each_pair nat_lt numbers ≡ true
  pub below : list_all (λ n. nat_lt n next) numbers ≡ true

abbrev pub CountedIn : ℕ → ℕ → World → Type 0
CountedIn from had w = Counted from had (numbers_of w.cells) w.next_cell

pub begins : (w : World) → IsCoherent w → CountedIn w.next_cell (length w.cells) w
begins w h = record {
  all = omega (arith, length-map w.cells (λ (c : Cell). c.id.0), ap (λ (ns : List ℕ). length ns) (filter_none (nat_le w.next_cell) (numbers_of w.cells) (λ n i. old n (number n i))));
  few = omega (arith, length-map w.cells (λ (c : Cell). c.id.0), h.ready.few_cells);
  later = omega arith;
  rises = pairs-map nat_lt (λ (c : Cell). c.id.0) w.cells ∙ h.ready.cell_order;
  below = In-all (λ n. nat_lt n w.next_cell) (numbers_of w.cells) (λ n i. lt-ltb n w.next_cell (number n i));
}
  where
    number : (n : ℕ) → In n (numbers_of w.cells) → n < w.next_cell
    number n i = let c = In-map (λ (c : Cell). c.id.0) w.cells n i in omega (arith, c.2, older w h c.0 c.1)

    old : (n : ℕ) → n < w.next_cell → nat_le w.next_cell n ≡ false
    old n l = grind (arith, l, nat_tests)

-- one more, of the next number
pub one_more : {from had : ℕ} (numbers : List ℕ) (next : ℕ) → length numbers < max_cells → Counted from had numbers next → Counted from had (numbers ++ next ∷ []) (suc next)
one_more {from = from} numbers next room c = record {
  all = omega (arith, length-append numbers (next ∷ []), new, c.all);
  few = omega (arith, length-append numbers (next ∷ []), room);
  later = omega (arith, c.later);
  rises = pairs_push nat_lt numbers next c.rises below;
  below = all_push (λ n. nat_lt n (suc next)) numbers next (In-all (λ n. nat_lt n (suc next)) numbers (λ n i. lt-ltb n (suc next) (omega (arith, ltb-true n next (below n i))))) (lt-ltb next (suc next) (omega arith));
}
  where
    below : (n : ℕ) → In n numbers → nat_lt n next ≡ true
    below = all-In (λ n. nat_lt n next) numbers c.below

    new : length (filter (nat_le from) (numbers ++ next ∷ [])) ≡ length (filter (nat_le from) numbers) + 1
    new =
        ap (λ (ns : List ℕ). length ns) (filter-append (nat_le from) numbers (next ∷ []))
        ∙ (length-append (filter (nat_le from) numbers) (filter (nat_le from) (next ∷ []))
        ∙ ap (λ b. length (filter (nat_le from) numbers) + length (cond b (next ∷ []) [])) (le-leb from next c.later))

-- where a map leaves each number, it leaves them all
pub numbers_mapped : (f : Cell → Cell) → ((c : Cell) → (f c).id.0 ≡ c.id.0) → (cells : List Cell) → numbers_of (map f cells) ≡ numbers_of cells
numbers_mapped f same cells = map_twice (λ (c : Cell). c.id.0) f cells ∙ map_same _ _ cells (λ c i. same c)

pub length_ids : (numbers : List ℕ) → length (ids numbers) ≡ length numbers
length_ids numbers = length-map numbers _

-- the new cells are those of the numbers from that one on
module _ {from had next : ℕ} (cells : List Cell) (c : Counted from had (numbers_of cells) next) where
  abbrev new : List Cell
  new = filter (λ (c : Cell). nat_le from c.id.0) cells

  pub all_counted : length cells ≡ had + length (ids (numbers_of new))
  all_counted = omega (arith, c.all, length-map cells (λ (c : Cell). c.id.0), length_ids (numbers_of new), ap (λ (ns : List ℕ). length ns) (map_filter (λ (c : Cell). c.id.0) (nat_le from) cells))

  pub few_counted : length cells ≤ max_cells
  few_counted = omega (arith, c.few, length-map cells (λ (c : Cell). c.id.0))

  pub cells_rise : each_pair (λ (a b : Cell). nat_lt a.id.0 b.id.0) cells ≡ true
  cells_rise = sym (pairs-map nat_lt (λ (c : Cell). c.id.0) cells) ∙ c.rises
