-- What showing the links of a cell, and those into it, comes to.
use Rattle.std.proofs.Common.{◌≡◌, refl, sym, ◌∙◌, ap, subst, arith, ℕ, suc, inl, inr, List, [], ◌∷◌, Contains, filter, filter_map}
use Rattle.std.specs.Prelude.{Option, Some, None, ◌==◌, option_and_then, option_map, slice_get}
use Rattle.std.specs.List.Sorted.{IsPermutation}
use Rattle.cell_num.specs.declared.ids.SecKey.{SecKey}
use Rattle.cell_world.specs.declared.reply.LinkLine.{LinkLine}
use Rattle.cell_world.specs.declared.reply.Reply.TheVariants.{Deps as DepsDone, Users as UsersDone}
use Rattle.cell_world.specs.declared.state.LinkRow.{LinkRow}
use Rattle.cell_object.specs.declared.object.Entry.{Entry}
use Rattle.cell_world.specs.declared.state.NewCell.{NewCell}
use Rattle.cell_world.specs.Answer.{done, present_cell}
use Rattle.cell_world.specs.Commands.LinkCommands.{link_line, next_deps, next_users}
use Rattle.cell_world.specs.World.{World, Cell, cell_of}
use Rattle.cell_num.specs.Lists.{In}
use Rattle.cell_num.proofs.Elements.{flat_map-In}
use Rattle.cell_lemmas.proofs.Binds.{bind_is}
use Rattle.cell_machine.specs.declared.machine.Machine.{Machine}
use Rattle.cell_machine.specs.Machine.{IsSound, keys_of, section_keys, world_of}
use Rattle.cell_space.specs.Joined.{placed_of}
use Rattle.cell_machine.proofs.Joined.{placed_in}
use Rattle.cell_view.specs.Links.{AreInOrder, HasSections, links_in}
use Rattle.cell_view.proofs.LinkOrder.{users_are}
use Rattle.cell_view.proofs.Showing.{here_is, is_present, present}

contains : {X : Type 0} (xs : List X) (x : X) → In x xs → Contains xs x
contains [] x i = absurd i
contains (y ∷ xs) x (inl same) = (0, omega arith, sym same)
contains (y ∷ xs) x (inr i) = let r = contains xs x i in (suc r.0, omega (arith, r.1), r.2)

module _ (m : Machine) (sound : IsSound m) (cell : ℕ) (d : Cell) (here : cell_of (world_of m) cell ≡ Some d) where
  -- the graph has the sections of a present cell
  pub has_sections : HasSections m.graph d.placed
  has_sections key i =
      subst (λ (keys : List SecKey). Contains keys key) (sym sound.sections)
      (contains (keys_of m.cells.items) key (flat_map-In section_keys m.cells.items d.placed key (placed_in m sound d (is_present m cell d here)) i))

  pub deps_shown : (lines : List LinkLine) → lines ≡ filter_map (link_line (world_of m)) (filter (λ r. r.user.cell.0 == cell) m.graph.rows)
      → next_deps (world_of m) cell ≡ done (DepsDone (record { 0 = cell }) lines) (world_of m)
  deps_shown lines are =
      bind_is (present_cell (world_of m) cell) _ d _ (present m cell d here) (ap (λ (ls : List LinkLine). done (DepsDone (record { 0 = cell }) ls) (world_of m)) (sym are))

  module _ (rows : List LinkRow) (order : AreInOrder rows) (lines : List LinkLine) (are : lines ≡ filter_map (link_line (world_of m)) rows) where
    -- the lines are those of the machine's links
    lines_of : (links : List LinkRow) → rows ≡ links → filter_map (link_line (world_of m)) links ≡ lines
    lines_of links is = sym (are ∙ ap (filter_map (link_line (world_of m))) is)

    pub users_shown : IsPermutation (links_in m.graph.rows (section_keys d.placed)) rows → next_users (world_of m) cell ≡ done (UsersDone (record { 0 = cell }) lines) (world_of m)
    users_shown moved =
        bind_is (present_cell (world_of m) cell) _ d _ (present m cell d here)
        (ap (λ (ls : List LinkLine). done (UsersDone (record { 0 = cell }) ls) (world_of m))
        (lines_of (filter (λ r. r.target.cell.0 == cell) m.graph.rows) (users_are (world_of m) sound.coherent cell d here rows moved order)))

-- the link with its entry, by the place of the user's cell
pub line_by : (w : World) (row : LinkRow) (p : NewCell) (e : Entry) → Some p ≡ option_map placed_of (cell_of w row.user.cell.0) → Some e ≡ slice_get p.object.entries row.entry
    → (let line : LinkLine = record { user = row.user; offset = e.offset; kind = e.kind; target = row.target } in Some line) ≡ link_line w row
line_by w row p e found entry =
    let d = here_is w row.user.cell.0 p found in
    sym
    (ap (option_and_then (λ (c : Cell). option_map (λ (x : Entry). let line : LinkLine = record { user = row.user; offset = x.offset; kind = x.kind; target = row.target } in line) (slice_get c.object.entries row.entry))) d.1
    ∙ ap (option_map (λ (x : Entry). let line : LinkLine = record { user = row.user; offset = x.offset; kind = x.kind; target = row.target } in line))
    (ap (λ (c : NewCell). slice_get c.object.entries row.entry) (sym d.2) ∙ sym entry))

-- no such cell, or no such entry
pub no_cell : (w : World) (row : LinkRow) → None ≡ option_map placed_of (cell_of w row.user.cell.0) → None ≡ link_line w row
no_cell w row e = go (cell_of w row.user.cell.0) e
  where
    go : (o : Option Cell) → None ≡ option_map placed_of o
        → None ≡ option_and_then (λ (c : Cell). option_map (λ (x : Entry). let line : LinkLine = record { user = row.user; offset = x.offset; kind = x.kind; target = row.target } in line) (slice_get c.object.entries row.entry)) o
    go None h = refl
    go (Some d) h = absurd (cc h)

pub no_entry : (w : World) (row : LinkRow) (p : NewCell) → Some p ≡ option_map placed_of (cell_of w row.user.cell.0) → None ≡ slice_get p.object.entries row.entry → None ≡ link_line w row
no_entry w row p found none =
    let d = here_is w row.user.cell.0 p found in
    sym
    (ap (option_and_then (λ (c : Cell). option_map (λ (x : Entry). let line : LinkLine = record { user = row.user; offset = x.offset; kind = x.kind; target = row.target } in line) (slice_get c.object.entries row.entry))) d.1
    ∙ ap (option_map (λ (x : Entry). let line : LinkLine = record { user = row.user; offset = x.offset; kind = x.kind; target = row.target } in line))
    (ap (λ (c : NewCell). slice_get c.object.entries row.entry) (sym d.2) ∙ sym none))
