-- The cells that a change may change, and the cells as the spaces tell them, once the old ones are put aside.
use Rattle.std.proofs.Common.{◌≡◌, refl, sym, ◌∙◌, ap, ap₂, subst, ℕ, suc, inl, inr, Bool, true, false, cond, not, ◌||◌, List, [], ◌∷◌, map}
use Rattle.std.specs.Prelude.{IsSome, Option, Some, None, filter, find, option_map, unwrap_or, ◌==◌}
use Rattle.std.specs.List.{list_any}
use Rattle.cell_num.specs.Lists.{holds, In}
use Rattle.cell_world.specs.declared.file.File.{File}
use Rattle.cell_world.specs.declared.state.LinkRow.{LinkRow}
use Rattle.cell_world.specs.declared.state.NewCell.{NewCell}
use Rattle.cell_world.specs.Linked.Relink.{links_of}
use Rattle.cell_world.specs.World.{Cell, World}
use Rattle.cell_world.specs.declared.state.Standing.TheVariants.{Attached}
use Rattle.cell_num.proofs.Elements.{filter-In, map-In}
use Rattle.cell_num.specs.declared.ids.CellId.{CellId}
use Rattle.cell_object.specs.Parts.{has_no_weak}
use Rattle.cell_lemmas.proofs.Holding.KeptPaths.{In-holds}
use Rattle.cell_machine.specs.Machine.{soft_of}
use Rattle.cell_lemmas.proofs.Fields.Fixed.{links_fixed}
use Rattle.cell_lemmas.proofs.Targeting.Detached.{put, put_same}
use Rattle.cell_lemmas.proofs.Naming.SetAside.{aside_ranks}
use Rattle.cell_space.specs.Joined.{placed_of}
use Rattle.cell_space.specs.Machine.{called}
use Rattle.cell_space.specs.Named.{cell_numbered}
use Rattle.cell_space.specs.Spaces.{HasCell}
use Rattle.cell_space.specs.declared.cell.SpaceCell.{SpaceCell}
use Rattle.cell_target.specs.Scene.{in_state}
use Rattle.cell_machine.specs.declared.machine.Machine.{Machine}
use Rattle.cell_machine.proofs.States.{found_one}
use Rattle.cell_plan.specs.Coverage.{as_it_stands}
use Rattle.cell_plan.specs.Staying.{is_user, links_in}
use Rattle.cell_plan.specs.Users.{may_change, uses}
use Rattle.cell_plan.proofs.Using.{links_found}
use Rattle.cell_change.specs.declared.request.Change.{Change}
use Rattle.cell_change.specs.Planning.{IsBegun}
use Rattle.cell_change.proofs.Decision.Began.{called_are, h, like, old, parts, u, v}

numbered_called : (n : ℕ) (cells : List Cell) → cell_numbered (map called cells) n ≡ option_map called (find (λ c. c.id.0 == n) cells)
numbered_called n [] = refl
numbered_called n (c ∷ cells) = go (c.id.0 == n) (numbered_called n cells)
  where
    go : (b : Bool) → cell_numbered (map called cells) n ≡ option_map called (find (λ c. c.id.0 == n) cells)
        → cond b (Some (called c)) (cell_numbered (map called cells) n) ≡ option_map called (cond b (Some c) (find (λ c. c.id.0 == n) cells))
    go true e = refl
    go false e = e

-- a cell but for its aliases
abbrev pub plain : Cell → Cell
plain c = record { placed = c.placed; aliases = []; standing = c.standing }

module _ (files : List File) (asked : Change) (m : Machine) (b : IsBegun files asked m) where
  abbrev before : World
  before = v files asked m b

  abbrev numbers : List ℕ
  numbers = old files asked m b

  linked : before.links ≡ links_of before
  linked = sym (links_fixed before (h files asked m b).linked)

  pub links_own : (c : Cell) → In c before.cells → filter (λ l. l.user.cell.0 == c.id.0) m.graph.rows ≡ links_in before c
  links_own c i =
      ap (filter (λ l. l.user.cell.0 == c.id.0)) b.aside.rows
      ∙ links_found before c (h files asked m b).ready.cell_order linked i

  -- the cells that have a WEAK symbol
  abbrev pub softs : List ℕ
  softs = map (λ c. c.0) m.soft.items

  soft_cells : m.soft.items ≡ soft_of (map placed_of before.cells)
  soft_cells = (parts files asked m b).soft ∙ ap soft_of (like files asked m b).cells

  pub soft_there : (d : Cell) → In d before.cells → has_no_weak d.object ≡ false → holds softs d.id.0 ≡ true
  soft_there d i weak =
      In-holds softs d.id.0
      (subst (λ (ids : List CellId). In d.id.0 (map (λ (c : CellId). c.0) ids)) (sym soft_cells)
      (map-In (λ (c : CellId). c.0) (soft_of (map placed_of before.cells)) d.id
      (map-In (λ (c : NewCell). c.id) (filter (λ (c : NewCell). not (has_no_weak c.object)) (map placed_of before.cells)) d.placed
      (filter-In (λ (c : NewCell). not (has_no_weak c.object)) (map placed_of before.cells) d.placed (map-In placed_of before.cells d i) (ap not weak)))))

  -- the cells that may change
  abbrev pub picked : Cell → Bool
  picked c = is_user before numbers c || (is_user before softs c || holds softs c.id.0)

  leads_same : (ns : List ℕ) (c : Cell) → In c before.cells → uses ns m.graph.rows c.placed ≡ is_user before ns c
  leads_same ns c i = ap (list_any (λ (l : LinkRow). holds ns l.target.cell.0)) (links_own c i)

  picked_same : (c : Cell) → In c before.cells → may_change numbers softs m.graph.rows c.placed ≡ picked c
  picked_same c i = ap₂ (λ (a d : Bool). a || (d || holds softs c.id.0)) (leads_same numbers c i) (leads_same softs c i)

  picked_placed : (cells : List Cell) → ((c : Cell) → In c cells → In c before.cells) → filter (may_change numbers softs m.graph.rows) (map placed_of cells) ≡ map placed_of (filter picked cells)
  picked_placed [] there = refl
  picked_placed (c ∷ cells) there =
      ap (λ b. cond b (c.placed ∷ filter (may_change numbers softs m.graph.rows) (map placed_of cells)) (filter (may_change numbers softs m.graph.rows) (map placed_of cells))) (picked_same c (there c (inl refl)))
      ∙ go (picked c) (picked_placed cells (λ d i. there d (inr i)))
    where
      go : (b : Bool) → filter (may_change numbers softs m.graph.rows) (map placed_of cells) ≡ map placed_of (filter picked cells)
          → cond b (c.placed ∷ filter (may_change numbers softs m.graph.rows) (map placed_of cells)) (filter (may_change numbers softs m.graph.rows) (map placed_of cells)) ≡ map placed_of (cond b (c ∷ filter picked cells) (filter picked cells))
      go true e = ap (λ cs. c.placed ∷ cs) e
      go false e = e

  abbrev pub users : List Cell
  users = filter picked before.cells

  pub users_are : filter (may_change (map (λ c. c.0) asked.replaced.items) softs m.graph.rows) m.cells.items ≡ map placed_of users
  users_are =
      ap₂ (λ (ns : List ℕ) (cells : List NewCell). filter (may_change ns softs m.graph.rows) cells) b.found.old (like files asked m b).cells
      ∙ picked_placed before.cells (λ c i. i)

  abbrev aside : Cell → Cell
  aside c = put (suc before.swaps) numbers c

  pub there_aside : (c : Cell) → In c before.cells → In (aside c) (u files asked m b).cells
  there_aside c i = map-In aside before.cells c i

  pub known_at : (d : Cell) → In d (u files asked m b).cells → cell_numbered m.spaces.cells d.id.0 ≡ Some (called d)
  known_at d i =
      ap (λ (cs : List SpaceCell). cell_numbered cs d.id.0) (sym (called_are files asked m b))
      ∙ (numbered_called d.id.0 (u files asked m b).cells
      ∙ ap (option_map called) (found_one (u files asked m b).cells (aside_ranks before (h files asked m b) numbers).order d i))

  pub stands : (d : Cell) → In d (u files asked m b).cells → as_it_stands m.spaces d.placed ≡ plain d
  stands d i =
      ap (λ (o : Option SpaceCell). in_state d.placed (unwrap_or (option_map (λ c. c.state) o) Attached)) (known_at d i)

  pub has_cell : (d : Cell) → In d (u files asked m b).cells → HasCell m.spaces d.id.0
  has_cell d i = is_there (cell_numbered m.spaces.cells d.id.0) (called d) (known_at d i)
    where
      is_there : (o : Option SpaceCell) (c : SpaceCell) → o ≡ Some c → IsSome o
      is_there None c e = absurd (cc e)
      is_there (Some x) c e = refl

  -- a cell that was there has the place that it has aside
  pub same_place : (c : Cell) → (aside c).placed ≡ c.placed
  same_place c = put_same (suc before.swaps) numbers (λ x. x.placed) c refl
