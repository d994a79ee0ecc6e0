-- The names and addresses that routines are given are those of the definition.
use Rattle.std.proofs.Common.{◌≡◌, refl, sym, ap, ap₂, subst, ◌∙◌, ℕ, suc, Bool, true, false, cond, inl, inr, List, [], ◌∷◌, ◌++◌, Option, Some, None, map}
use Rattle.std.specs.Prelude.{◌==◌, IsSome, IsTrue, nat_lt, find, option_map, unwrap_or}
use Rattle.std.proofs.lemmas.List.{map-append}
use Rattle.cell_num.specs.declared.ids.CellId.{CellId}
use Rattle.cell_world.specs.declared.file.File.{File}
use Rattle.cell_world.specs.declared.state.NewCell.{NewCell}
use Rattle.cell_world.specs.declared.transfer.NameAddr.{NameAddr}
use Rattle.cell_world.specs.Names.{names_of}
use Rattle.cell_world.specs.Answer.{numbers_of}
use Rattle.cell_world.specs.Change.{replaced}
use Rattle.cell_world.specs.Commands.SwapTransfer.{addresses_in, symbol_address}
use Rattle.cell_world.specs.Commands.UnloadCommand.{put_aside}
use Rattle.cell_world.specs.World.{Alias, Cell, World}
use Rattle.cell_world.specs.declared.state.Standing.TheVariants.{Detached}
use Rattle.cell_num.specs.Lists.{holds, In, each_pair}
use Rattle.cell_num.proofs.Elements.{All-In, In-All, In-map, map-In, pairs-map}
use Rattle.cell_lemmas.proofs.Placement.Inside.{ready_linkable}
use Rattle.cell_lemmas.proofs.Fields.Relinked.{map_twice}
use Rattle.cell_machine.proofs.Low.{is_low}
use Rattle.cell_placed.specs.Low.{IsLow}
use Rattle.cell_space.specs.Spaces.{HasCell}
use Rattle.cell_change.proofs.Decision.PlanSteps.{low_before}
use Rattle.cell_space.specs.declared.cell.SpaceCell.{SpaceCell}
use Rattle.cell_space.specs.Joined.{placed_of}
use Rattle.cell_machine.specs.declared.machine.Machine.{Machine}
use Rattle.cell_routines.specs.Placed.{address_by, addresses_by}
use Rattle.cell_xfer.specs.Named.{addresses_as}
use Rattle.cell_change.specs.declared.request.Change.{Change}
use Rattle.cell_change.specs.Planning.{IsBegun, wish}
use Rattle.cell_change.specs.Transferring.{AreOld, names_in, new_rows, old_rows, rows_in}
use Rattle.cell_machine.proofs.States.{found_one}
use Rattle.cell_change.proofs.Decision.BeginsPlain.{aside_number}
use Rattle.cell_change.proofs.Decision.Began.{good, h, like, old, v}
use Rattle.cell_change.proofs.Decision.Users.{has_cell, known_at, there_aside}

-- the names of a cell with their addresses
abbrev pub said_of : Cell → List NameAddr
said_of c = map (λ a. record { name = a.name; addr = symbol_address c a.symbol }) (names_of c)

own_rows : (c : Cell) → addresses_as (addresses_by c.placed (names_of c)) ≡ said_of c
own_rows c =
    map_twice (λ (row : List ℕ × ℕ). let r : NameAddr = record { name = row.0; addr = row.1 } in r) (λ (a : Alias). (a.name, address_by c.placed a.symbol)) (names_of c)

both_rows : (xs ys : List (List ℕ × ℕ)) → addresses_as (xs ++ ys) ≡ addresses_as xs ++ addresses_as ys
both_rows xs ys = map-append (λ (row : List ℕ × ℕ). let r : NameAddr = record { name = row.0; addr = row.1 } in r) xs ys

-- those of new cells
pub new_said : (cells : List Cell) → addresses_as (new_rows (map placed_of cells) (map names_of cells)) ≡ addresses_in cells
new_said [] = refl
new_said (c ∷ cells) =
    both_rows (addresses_by c.placed (names_of c)) (new_rows (map placed_of cells) (map names_of cells))
    ∙ ap₂ (λ (xs ys : List NameAddr). xs ++ ys) (own_rows c) (new_said cells)

-- a cell that is put aside keeps its names
aside_names : (k : ℕ) (ns : List ℕ) (c : Cell) → names_of (put_aside k ns c) ≡ names_of c
aside_names k ns c = go (holds ns c.id.0)
  where
    go : (b : Bool) → names_of (cond b (record c { standing = Detached k }) c) ≡ names_of c
    go true = refl
    go false = refl

find_placed : (n : ℕ) (cells : List Cell) → find (λ (c : NewCell). c.id.0 == n) (map placed_of cells) ≡ option_map placed_of (find (λ (c : Cell). c.id.0 == n) cells)
find_placed n [] = refl
find_placed n (c ∷ cells) = go (c.id.0 == n) (find_placed n cells)
  where
    go : (b : Bool) → find (λ (c : NewCell). c.id.0 == n) (map placed_of cells) ≡ option_map placed_of (find (λ (c : Cell). c.id.0 == n) cells)
        → cond b (Some c.placed) (find (λ (c : NewCell). c.id.0 == n) (map placed_of cells)) ≡ option_map placed_of (cond b (Some c) (find (λ (c : Cell). c.id.0 == n) cells))
    go true e = refl
    go false e = e

module _ (files : List File) (asked : Change) (m : Machine) (b : IsBegun files asked m) where
  abbrev before : World
  before = v files asked m b

  abbrev aside : Cell → Cell
  aside c = put_aside (suc before.swaps) (old files asked m b) c

  -- a cell that was there is found by its number
  pub found_old : (d : Cell) → In d before.cells → find (λ (c : NewCell). c.id.0 == d.id.0) m.cells.items ≡ Some d.placed
  found_old d i =
      ap (find (λ (c : NewCell). c.id.0 == d.id.0)) (like files asked m b).cells
      ∙ (find_placed d.id.0 before.cells ∙ ap (option_map placed_of) (found_one before.cells (h files asked m b).ready.cell_order d i))

  names_old : (d : Cell) → In d before.cells → names_in m d.id.0 ≡ names_of d
  names_old d i =
      ap (names_in m) (sym (aside_number (suc before.swaps) (old files asked m b) d))
      ∙ (ap (λ (o : Option SpaceCell). unwrap_or (option_map (λ c. c.names) o) []) (known_at files asked m b (aside d) (there_aside files asked m b d i))
      ∙ aside_names (suc before.swaps) (old files asked m b) d)

  one_said : (d : Cell) → In d before.cells → (id : CellId) → id.0 ≡ d.id.0 → addresses_as (rows_in m id) ≡ said_of d
  one_said d i id e =
      ap (λ (n : ℕ). addresses_as (unwrap_or (option_map (λ c. addresses_by c (names_in m n)) (find (λ (c : NewCell). c.id.0 == n) m.cells.items)) [])) e
      ∙ (ap (λ (o : Option NewCell). addresses_as (unwrap_or (option_map (λ c. addresses_by c (names_in m d.id.0)) o) [])) (found_old d i)
      ∙ (ap (λ (names : List Alias). addresses_as (addresses_by d.placed names)) (names_old d i) ∙ own_rows d))

  all_said : (ids : List CellId) (all : List Cell) → map (λ c. c.0) ids ≡ numbers_of all → ((d : Cell) → In d all → In d before.cells)
      → addresses_as (old_rows m ids) ≡ addresses_in all
  all_said [] [] e k = refl
  all_said [] (d ∷ all) e k = absurd cc
  all_said (id ∷ ids) [] e k = absurd cc
  all_said (id ∷ ids) (d ∷ all) e k =
      let head : id.0 ≡ d.id.0 = cc e in
      let tail : map (λ (c : CellId). c.0) ids ≡ numbers_of all = cc e in
      both_rows (rows_in m id) (old_rows m ids)
      ∙ ap₂ (λ (xs ys : List NameAddr). xs ++ ys) (one_said d (k d (inl refl)) id head) (all_said ids all tail (λ x i. k x (inr i)))

  -- a replaced cell was there
  there : (d : Cell) → In d (replaced (wish b)) → In d before.cells
  there d i = All-In (λ (x : Cell). In x before.cells) (replaced (wish b)) (good files asked m b).present d i

  -- those of the old cells
  pub old_said : addresses_as (old_rows m asked.replaced.items) ≡ addresses_in (replaced (wish b))
  old_said = all_said asked.replaced.items (replaced (wish b)) b.found.old there

  -- each of the old cells was there
  old_of : (id : CellId) → In id asked.replaced.items → (d : Cell) × In d before.cells × (id.0 ≡ d.id.0)
  old_of id i =
      let d = In-map (λ (x : Cell). x.id.0) (replaced (wish b)) id.0 (subst (λ (ns : List ℕ). In id.0 ns) b.found.old (map-In (λ (c : CellId). c.0) asked.replaced.items id i)) in
      (d.0, there d.0 d.1, d.2)

  pub old_cells : AreOld m asked.replaced.items
  old_cells = record {
    order = subst (λ (cs : List NewCell). IsTrue (each_pair (λ a b. nat_lt a.id.0 b.id.0) cs)) (sym (like files asked m b).cells)
        (pairs-map (λ (a b : NewCell). nat_lt a.id.0 b.id.0) placed_of before.cells ∙ (h files asked m b).ready.cell_order);
    there = In-All (λ (id : CellId). IsSome (find (λ (c : NewCell). c.id.0 == id.0) m.cells.items)) asked.replaced.items (λ id i.
        let d = old_of id i in
        some_is (find (λ (c : NewCell). c.id.0 == id.0) m.cells.items) d.0.placed (ap (λ (n : ℕ). find (λ (c : NewCell). c.id.0 == n) m.cells.items) d.2 ∙ found_old d.0 d.1));
    known = In-All (λ (id : CellId). HasCell m.spaces id.0) asked.replaced.items (λ id i.
        let d = old_of id i in
        subst (λ (n : ℕ). HasCell m.spaces n) (sym (d.2 ∙ sym (aside_number (suc before.swaps) (old files asked m b) d.0)))
        (has_cell files asked m b (aside d.0) (there_aside files asked m b d.0 d.1)));
    low = λ c i.
        let d = In-map placed_of before.cells c (subst (λ (cs : List NewCell). In c cs) (like files asked m b).cells i) in
        subst IsLow (sym d.2) (is_low before (ready_linkable before (h files asked m b).ready) (low_before files asked m b) d.0 d.1);
  }
    where
      some_is : {X : Type 0} (o : Option X) (x : X) → o ≡ Some x → IsSome o
      some_is None x e = absurd (cc e)
      some_is (Some y) x e = refl
