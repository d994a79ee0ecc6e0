-- What the calls of a commit ask holds of the cells that were staged for the machine.
use Rattle.std.proofs.Common.{◌≡◌, refl, sym, ◌∙◌, ap, ap₂, subst, arith, ℕ, ◌+◌, ◌%◌, ◌≤◌, ◌<◌, true, List, ◌++◌, length, map, Vec, Global}
use Rattle.std.specs.Prelude.{All, Contains, nat_lt}
use Rattle.std.specs.List.{list_all}
use Rattle.std.proofs.lemmas.List.{map-append}
use Rattle.std.proofs.lemmas.List.Concat.{flat_map-append}
use Rattle.cell_num.specs.declared.ids.SecKey.{SecKey}
use Rattle.cell_num.specs.Lists.{each_pair, In}
use Rattle.cell_object.specs.declared.object.Object.{Object}
use Rattle.cell_object.specs.declared.object.Section.{Section as ObjectSection}
use Rattle.cell_world.specs.declared.state.LinkRow.{LinkRow}
use Rattle.cell_world.specs.declared.state.NewCell.{NewCell}
use Rattle.cell_world.specs.World.{Alias, World, Cell, Region, Standing, is_attached}
use Rattle.cell_world.specs.Coherent.{IsLoadable, ends_before, is_in_space, is_known_cell}
use Rattle.cell_world.specs.Linked.Relink.{Patch}
use Rattle.cell_num.proofs.Elements.{all-In, All-In, In-map, In-right}
use Rattle.cell_lemmas.specs.Loads.{objects_of}
use Rattle.cell_link.specs.declared.value.FieldValue.{FieldValue}
use Rattle.cell_lemmas.specs.LinkSteps.{afters}
use Rattle.cell_commit.specs.declared.wiring.Rewiring.{Rewiring}
use Rattle.cell_graph.specs.Order.{Rises, below_link}
use Rattle.cell_space.specs.declared.cell.SpaceCell.{SpaceCell}
use Rattle.cell_space.specs.Joined.{placed_of}
use Rattle.cell_commit.specs.Cells.{AreAbove, AreFree}
use Rattle.cell_commit.specs.Commit.{AreRoom, IsMapped, all_mapped}
use Rattle.cell_mem.proofs.Noting.{any_writes}
use Rattle.cell_machine.specs.declared.machine.Machine.{Machine}
use Rattle.cell_machine.specs.declared.staged.Staged.{Staged}
use Rattle.cell_machine.specs.Machine.{keys_of, section_keys, world_of}
use Rattle.cell_machine.specs.Same.{IsSame}
use Rattle.cell_machine.specs.Staged.{IsStaged}
use Rattle.cell_machine.proofs.Above.{are_above}
use Rattle.cell_machine.proofs.FieldsMapped.{fields_mapped}
use Rattle.cell_machine.proofs.Free.{are_free}
use Rattle.cell_machine.proofs.Presence.{keys_below, rows_present}
use Rattle.cell_machine.proofs.Rooms.{IsSpaced, regions_mapped, rooms}
use Rattle.cell_machine.proofs.StagedWorld.{F, W, known_are, new_count, numbers_new, numbers_rise, standing, taken}
use Rattle.cell_machine.proofs.Lists.{pairs-map}
use Rattle.cell_machine.proofs.LinksRise.{in_graph_order, links_rise}
use Rattle.cell_load.specs.declared.prepared.Prepared.{Prepared}
use Rattle.cell_load.specs.Adding.{CanChange, HasRoomFor, IsCommittable, IsPrepared, IsReadyToAdd}
use Rattle.cell_load.proofs.Ready.{change_same, ready_same}

module _ (m : Machine) (s : Staged) (p : Prepared) (patches : List FieldValue) (links : Rewiring) (change : CanChange m s patches links) (changed : List Patch) (r : IsReadyToAdd m changed (afters change.steps) s) (prepared : IsPrepared s.cells.items s.names.items p)
    (room : HasRoomFor m s p (length links.binds.items)) where
  abbrev u : World
  u = world_of m

  abbrev st : IsStaged u r.new s
  st = r.staged

  -- the machine with the new cells in their places, and then linked
  abbrev later : World
  later = W u r.new s st

  abbrev new : List Cell
  new = F u r.new s st

  abbrev objects : List Object
  objects = objects_of r.new

  spaced : IsSpaced m.memory u
  spaced = record {
    base = refl;
    pages = refl;
    regions = refl;
    aligned = ap (λ (b : ℕ). b % 4096) r.like.base ∙ r.coherent.ready.space.aligned;
    in_space =
        ap (λ (b : ℕ). list_all (λ (x : Region). is_in_space (record r.before { base = b; pages = m.memory.pages }) x) m.memory.regions) r.like.base
        ∙ (ap (λ (k : ℕ). list_all (λ (x : Region). is_in_space (record r.before { pages = k }) x) m.memory.regions) r.like.pages
        ∙ (ap (list_all (is_in_space r.before)) r.like.regions ∙ r.coherent.ready.in_space));
    apart = ap (each_pair ends_before) r.like.regions ∙ r.coherent.ready.apart;
  }

  regions_room : AreRoom m.memory s.regions.items
  regions_room =
      subst (λ (rs : List Region). AreRoom m.memory rs) (sym st.regions)
      (rooms objects m.memory u spaced (taken u r.new s st) st.runs (subst (λ (rs : List Region). length rs ≤ m.memory.spare) st.regions room.regions))

  mapped_are : (all_mapped m.memory s.regions.items).regions ≡ later.regions
  mapped_are = ap (λ (rs : List Region). (all_mapped m.memory rs).regions) st.regions ∙ regions_mapped m.memory st.starts objects

  there : (c : Cell) → In c new → In c later.cells
  there c k = In-right u.cells new c k

  one_there : (c : NewCell) → In c s.cells.items → (d : Cell) × In d new × (c ≡ d.placed)
  one_there c k = In-map placed_of new c (subst (λ (cs : List NewCell). In c cs) st.cells k)

  fields_are_mapped : All (IsMapped (all_mapped m.memory s.regions.items)) s.fields.items
  fields_are_mapped =
      subst (λ (fs : List FieldValue). All (IsMapped (all_mapped m.memory s.regions.items)) fs) (sym st.fields)
      (fields_mapped (all_mapped m.memory s.regions.items) later mapped_are r.there.linkable new there)

  new_rise : each_pair (λ (a b : NewCell). nat_lt a.id.0 b.id.0) s.cells.items ≡ true
  new_rise = ap (each_pair (λ (a b : NewCell). nat_lt a.id.0 b.id.0)) st.cells ∙ (pairs-map (λ (a b : NewCell). nat_lt a.id.0 b.id.0) placed_of new ∙ numbers_rise u r.new s st r.there)

  sections_rise : (c : NewCell) → In c s.cells.items → each_pair (λ (a b : ObjectSection). nat_lt a.number b.number) c.object.sections ≡ true
  sections_rise c k =
      let d = one_there c k in
      subst (λ (x : NewCell). each_pair (λ (a b : ObjectSection). nat_lt a.number b.number) x.object.sections ≡ true) (sym d.2)
      (All-In (λ (c : Cell). IsLoadable c.object) later.cells r.comes.ready.objects d.0 (there d.0 d.1)).sound.numbers

  keys_lower : (k : SecKey) → In k m.graph.sections → (c : NewCell) → In c s.cells.items → k.cell.0 < c.id.0
  keys_lower k i c j =
      let low = keys_below r.before r.coherent m.cells.items (sym r.like.cells) k (subst (λ (keys : List SecKey). In k keys) r.parts.sections i) in
      let d = one_there c j in
      let high = subst (λ (x : NewCell). m.next ≤ x.id.0) (sym d.2) (numbers_new u r.new s st r.there d.0 d.1) in
      let same = r.like.next in
      omega (arith, low, high, same)

  all_above : AreAbove m.graph.sections p.sections.items
  all_above = are_above p.sections.items s.cells.items m.graph.sections prepared.sections new_rise sections_rise keys_lower

  all_cells : map placed_of r.after.cells ≡ m.cells.items ++ s.cells.items
  all_cells =
      ap (λ (w : World). map placed_of w.cells) r.comes.is
      ∙ (map-append placed_of u.cells new
      ∙ ap₂ (λ (cs ds : List NewCell). cs ++ ds) r.parts.joined.placed (sym st.cells))

  all_keys : keys_of (m.cells.items ++ s.cells.items) ≡ m.graph.sections ++ keys_of s.cells.items
  all_keys = flat_map-append section_keys m.cells.items s.cells.items ∙ ap (λ (keys : List SecKey). keys ++ keys_of s.cells.items) (sym r.parts.sections)

  rows_are : r.after.links ≡ afters change.steps ++ s.rows.items
  rows_are = ap (λ (w : World). w.links) r.comes.is ∙ ap (λ (rows : List LinkRow). afters change.steps ++ rows) (sym st.rows)

  all_present : All (λ (x : LinkRow). Contains (m.graph.sections ++ keys_of s.cells.items) x.user × Contains (m.graph.sections ++ keys_of s.cells.items) x.target) s.rows.items
  all_present =
      subst (λ (keys : List SecKey). All (λ (x : LinkRow). Contains keys x.user × Contains keys x.target) s.rows.items) all_keys
      (rows_present r.after r.comes.coherent (m.cells.items ++ s.cells.items) all_cells (afters change.steps) s.rows.items rows_are)

  all_rise : Rises below_link (afters change.steps ++ s.rows.items)
  all_rise = subst (Rises below_link) rows_are (in_graph_order r.after.links (links_rise r.after r.comes.coherent))

  known : (c : Cell) → In c new → (is_attached c.standing ≡ true) × (is_known_cell later c ≡ true)
  known c k =
      (ap (λ (x : Standing). is_attached x) (standing u r.new s st c k), all-In (is_known_cell later) later.cells r.comes.ready.cells c (there c k))

  all_free : AreFree m.spaces.namespaces m.spaces.cells p.newcomers.items
  all_free =
      subst (λ (cs : List SpaceCell). AreFree m.spaces.namespaces cs p.newcomers.items) r.parts.joined.called
      (are_free later new u.cells p.newcomers.items (prepared.newcomers ∙ known_are u r.new s st)
      (record { names = r.comes.ready.names; order = r.comes.ready.cell_order })
      known)

  number_left : m.next + length s.cells.items ≤ 65536
  number_left =
      let next = ap (λ (w : World). w.next_cell) r.comes.is ∙ ap (λ (k : ℕ). m.next + k) (new_count u r.new s st) in
      subst (λ (n : ℕ). n ≤ 65536) next r.comes.coherent.ready.cell_numbers

  pub committable : IsCommittable m s p patches links
  committable = record {
    sections = prepared.sections;
    soft = prepared.soft;
    room = room;
    regions = regions_room;
    mapped = fields_are_mapped;
    undo = any_writes m.memory (length patches + length s.fields.items) r.undo;
    change = change;
    above = all_above;
    present = all_present;
    rise = all_rise;
    free = all_free;
    next = number_left;
  }

-- once there is room, and the names have been taken out of what was staged, by the same steps
pub committable_then : (old new : Machine) (s : Staged) (p : Prepared) (names : Vec (List Alias) Global) (patches : List FieldValue) (links : Rewiring) (change : CanChange old s patches links) (changed : List Patch) → IsSame old new
    → IsReadyToAdd old changed (afters change.steps) s → IsPrepared s.cells.items s.names.items p
    → HasRoomFor new (record s { names = names }) p (length links.binds.items) → (c : IsCommittable new (record s { names = names }) p patches links) × (c.change.steps ≡ change.steps)
unfolding committable
committable_then old new s p names patches links change changed same r prepared room =
    let there : CanChange new s patches links = change_same old new same s patches links change in
    let c : IsCommittable new s p patches links = committable new s p patches links there changed (ready_same old new same changed (afters change.steps) s r) prepared
    (record {
      cells = room.cells;
      soft = room.soft;
      regions = room.regions;
      sections = room.sections;
      rows = room.rows;
      newcomers = room.newcomers;
      names = room.names;
    }) in (
      record {
        sections = c.sections;
        soft = c.soft;
        room = room;
        regions = c.regions;
        mapped = c.mapped;
        undo = c.undo;
        change = record { mapped = there.mapped; steps = change.steps; rewires = there.rewires; backs = there.backs; present = there.present };
        above = c.above;
        present = c.present;
        rise = c.rise;
        free = c.free;
        next = c.next;
      },
      refl,
    )
