-- The way back: once fields, links and cells are as they were, so is the machine.
use Rattle.std.proofs.Common.{◌≡◌, refl, sym, ap, ap₂, subst, ◌∙◌, arith, ℕ, ◌+◌, ◌-◌, ◌*◌, ◌<◌, ◌≤◌, ◌⊎◌, inl, inr, Bool, true, false, not, List, [], ◌∷◌, ◌++◌, None, length, map}
use Rattle.std.specs.Prelude.{All, Contains, IsSome, IsTrue, filter, flat_map, fold, is_some, nat_lt}
use Rattle.std.proofs.lemmas.List.{get_or_append_left, length-append, length-map}
use Rattle.std.proofs.lemmas.List.Elements.{filter-append}
use Rattle.cell_num.specs.Lists.{each_pair, holds, In}
use Rattle.cell_num.specs.declared.ids.CellId.{CellId}
use Rattle.cell_num.specs.declared.ids.SecKey.{SecKey}
use Rattle.cell_world.specs.World.{Cell, Region, Task, World, attached}
use Rattle.cell_world.specs.Answer.{ids, numbers_of}
use Rattle.cell_world.specs.Coherent.{Shape, shape_of, stack_shape, wanted_shapes, with_shape}
use Rattle.cell_world.specs.Commands.UnloadCommand.{without_cells}
use Rattle.cell_world.specs.declared.state.LinkRow.{LinkRow}
use Rattle.cell_world.specs.declared.state.NewCell.{NewCell}
use Rattle.cell_lemmas.proofs.Placement.Distinct.{cell_shapes}
use Rattle.cell_num.proofs.Elements.{All-In, In-All, In-append, In-map, In-right, filter_all, filter_none, map-In, pairs-map}
use Rattle.cell_lemmas.proofs.Holding.KeptPaths.{In-holds, holds-In}
use Rattle.cell_lemmas.proofs.Placement.ShapesLeft.{shapes_left}
use Rattle.cell_space.specs.Joined.{placed_of}
use Rattle.cell_commit.specs.Cells.{arrived}
use Rattle.cell_graph.specs.Links.{Links}
use Rattle.cell_graph.specs.Order.{Rises, below_link}
use Rattle.cell_lemmas.specs.LinkSteps.{LinkStep, afters}
use Rattle.cell_commit.specs.Rewiring.{CanRewire, IsRewiring, backs}
use Rattle.cell_commit.specs.declared.wiring.Rewiring.{Rewiring}
use Rattle.cell_commit.proofs.Turned.{turned_with}
use Rattle.cell_machine.proofs.LinksRise.{in_graph_order, links_rise}
use Rattle.cell_mem.specs.State.{HasWrites, MemoryState, before_in, begun_at, undone_at}
use Rattle.cell_task.specs.State.{TasksState}
use Rattle.cell_machine.specs.declared.machine.Machine.{Machine}
use Rattle.cell_machine.specs.Machine.{IsSound, world_of}
use Rattle.cell_machine.specs.Staged.{IsCommitted}
use Rattle.cell_machine.proofs.StagedWorld.{W, numbers_new, numbers_rise}
use Rattle.cell_machine.proofs.Presence.{rows_present}
use Rattle.cell_machine.specs.Machine.{field_bytes, keys_of, soft_of}
use Rattle.cell_machine.specs.Staged.{all_attached}
use Rattle.cell_load.specs.Adding.{memory_with}
use Rattle.cell_commit.specs.Commit.{all_mapped, mapped_one}
use Rattle.cell_graph.specs.Removal.{is_used_outside, links_without, sections_without}
use Rattle.cell_space.specs.Named.{cell_numbered}
use Rattle.cell_space.specs.declared.cell.SpaceCell.{SpaceCell}
use Rattle.cell_lemmas.proofs.Tasks.Undone.{In-with_region}
use Rattle.cell_world.specs.declared.state.SecPlace.{SecPlace}
use Rattle.cell_change.specs.declared.planning.Plan.{Plan}
use Rattle.cell_change.specs.declared.ready.Ready.{Ready}
use Rattle.cell_change.specs.Back.{CanGoBack}
use Rattle.cell_change.specs.Before.{begun_in}
use Rattle.cell_change.specs.Exchanged.{IsPlanned, IsReadyFor}
use Rattle.cell_change.specs.declared.request.Change.{Change}
use Rattle.cell_unload.proofs.AllRemoved.{all_named, can_leave, keys_left, known_left, numbers, places_rise, soft_left, starts_are, stay, tabled}
use Rattle.cell_unload.proofs.Leftovers.{filter_mapped}
use Rattle.cell_space.specs.Machine.{called}
use Rattle.cell_commit.specs.Seals.{seal_table}
use Rattle.cell_mem.specs.Index.{IsLaid}
use Rattle.cell_place.specs.Space.{SpaceState}
use Rattle.cell_machine.specs.Same.{IsSame, without_counts}
use Rattle.cell_change.proofs.Arrival.Suspended.{committed_without, suspended}
use Rattle.cell_change.proofs.Return.FieldsUndone.{end_base, end_pages, gone_back, mid, still_begun, writes_left}
use Rattle.cell_change.proofs.Return.LinksBack.{links_of_cells, old_below, rows_back, rows_left, steps_back, unused}
use Rattle.cell_change.proofs.Return.MemoryBack.{memory_back, other}
use Rattle.cell_change.proofs.Return.TableBack.{leave_by, tabled_by}
use Rattle.cell_unload.specs.Removed.{CanGo, IsTaken}
use Rattle.cell_unload.proofs.Unmapping.{same_maps, same_patches}
use Rattle.cell_unload.specs.Unmapped.{CanLeave, IsTabled, lost_starts, table_of, without_regions}
use Rattle.cell_change.proofs.ChangeFinished.{HasAdded, after, below, cells_are, fresh_are, new, old_placed, rows_then}

-- cells of which some are new, by their numbers
module _ (old new : List Cell) (first : ℕ) (below : (c : Cell) → In c old → c.id.0 < first) (above : (c : Cell) → In c new → first ≤ c.id.0) where
  abbrev pub is_new : ℕ → Bool
  is_new n = holds (numbers_of new) n

  pub not_new : (n : ℕ) → n < first → is_new n ≡ false
  not_new n l = go (is_new n) refl
    where
      go : (b : Bool) → is_new n ≡ b → b ≡ false
      go false e = refl
      go true e =
          let d = In-map (λ (x : Cell). x.id.0) new n (holds-In (numbers_of new) n e) in
          let high = above d.0 d.1 in
          absurd (omega (arith, l, high, d.2))

  pub new_is : (c : Cell) → In c new → is_new c.id.0 ≡ true
  new_is c i = In-holds (numbers_of new) c.id.0 (map-In (λ (d : Cell). d.id.0) new c i)

  pub old_left : filter (λ c. not (is_new c.id.0)) (old ++ new) ≡ old
  old_left =
      filter-append (λ (c : Cell). not (is_new c.id.0)) old new
      ∙ ap₂ (λ (xs ys : List Cell). xs ++ ys)
      (filter_all (λ (c : Cell). not (is_new c.id.0)) old (λ c i. ap not (not_new c.id.0 (below c i))))
      (filter_none (λ (c : Cell). not (is_new c.id.0)) new (λ c i. ap not (new_is c i)))
      ∙ append_none old
    where
      append_none : (xs : List Cell) → xs ++ [] ≡ xs
      append_none [] = refl
      append_none (x ∷ xs) = ap (λ ys. x ∷ ys) (append_none xs)

-- the regions of a cell are a matter of its place
shapes_placed : (cells : List Cell) → flat_map cell_shapes cells ≡ flat_map (λ (c : NewCell). cell_shapes (attached c)) (map placed_of cells)
shapes_placed [] = refl
shapes_placed (c ∷ cells) = ap (λ (shapes : List Shape). cell_shapes c ++ shapes) (shapes_placed cells)

wanted_same : (v w : World) → map placed_of v.cells ≡ map placed_of w.cells → v.tasks ≡ w.tasks → wanted_shapes v ≡ wanted_shapes w
wanted_same v w placed tasks =
    ap₂ (λ (shapes : List Shape) (ts : List Task). fold (λ (ss : List Shape) (s : Shape). with_shape s ss) [] (shapes ++ map stack_shape ts))
    (shapes_placed v.cells ∙ (ap (flat_map (λ (c : NewCell). cell_shapes (attached c))) placed ∙ sym (shapes_placed w.cells)))
    tasks

numbers_again : (ns : List ℕ) → numbers (ids ns) ≡ ns
numbers_again [] = refl
numbers_again (n ∷ ns) = ap (λ ms. n ∷ ms) (numbers_again ns)

module _ (m : Machine) {asked : Change} (p : Plan) (x : IsPlanned m asked p) (k : Machine) (r : Ready) (y : IsReadyFor m asked p k r) (count : ℕ) (n : Machine)
    (added : IsCommitted (begun_in k count) (memory_with (begun_in k count).memory r.plan.staged.regions.items r.plan.patches.items) (rows_then m p x k r y) (map arrived r.prepared.newcomers.items) r.plan.staged n) where
  pub none : k.memory.undo ≡ None
  none = ap (λ (s : MemoryState). s.undo) y.same.memory ∙ x.ready.undo

  pub whole : HasAdded k r (rows_then m p x k r y) (suspended n)
  whole = committed_without k none count r.plan.staged r.plan.patches.items (rows_then m p x k r y) (map arrived r.prepared.newcomers.items) n added

  pub sound : IsSound (suspended n)
  sound = after m p x k r y (suspended n) whole

  abbrev w : World
  w = world_of (suspended n)

  abbrev before : World
  before = world_of x.begun.before

  abbrev old : List Cell
  old = (world_of m).cells

  abbrev fresh : List Cell
  fresh = new m p x k r y

  pub numbers_are : numbers r.fresh ≡ numbers_of fresh
  numbers_are = ap numbers (fresh_are m p x k r y) ∙ numbers_again (numbers_of fresh)

  is_below : (c : Cell) → In c old → c.id.0 < m.next
  is_below = below m p x k r y

  is_above : (c : Cell) → In c fresh → m.next ≤ c.id.0
  is_above = numbers_new (world_of m) x.ready.new p.staged x.ready.staged x.ready.there

  pub cells_left : filter (λ c. not (holds (numbers r.fresh) c.id.0)) w.cells ≡ old
  cells_left =
      ap (filter (λ (c : Cell). not (holds (numbers r.fresh) c.id.0))) (cells_are m p x k r y (suspended n) whole)
      ∙ ap (λ (ns : List ℕ). filter (λ (c : Cell). not (holds ns c.id.0)) (old ++ fresh)) numbers_are
      ∙ old_left old fresh m.next is_below is_above

  same_tasks : w.tasks ≡ before.tasks
  same_tasks = ap (λ (ts : TasksState). ts.tasks) (whole.tasks ∙ (y.same.tasks ∙ x.begun.aside.tasks))

  same_regions : k.memory.regions ≡ before.regions
  same_regions = ap (λ (s : MemoryState). s.regions) y.same.memory ∙ ap (λ (s : MemoryState). s.regions) x.begun.aside.memory

  -- the regions that stay are those of before
  pub shapes_again : map shape_of (without_cells w (numbers r.fresh)).regions ≡ map shape_of k.memory.regions
  shapes_again =
      shapes_left w sound.coherent (numbers r.fresh)
      ∙ wanted_same (without_cells w (numbers r.fresh)) before (ap (map placed_of) cells_left ∙ old_placed m p x k r y) same_tasks
      ∙ sym x.begun.sound.coherent.ready.regions
      ∙ ap (map shape_of) (sym same_regions)

-- what an undo gives back once routines have run, is what it gave back before, but for the count of their stack
pub undone_like : (added now last : MemoryState) → now ≡ (record added { regions = now.regions; undo = now.undo; maps = now.maps }) → before_in now ≡ before_in added
    → last ≡ undone_at now → last ≡ (let m : MemoryState = undone_at added in record m { maps = last.maps })
undone_like added now last rest same gone =
    let by : List Region → ℕ → MemoryState = λ rs maps. record added { regions = rs; undo = None; maps = maps } in
    let was : last ≡ by (before_in added) now.maps =
    gone ∙ (ap (λ (s : MemoryState). let x : MemoryState = record s { regions = before_in now; undo = None } in x) rest ∙ ap (λ (rs : List Region). by rs now.maps) same) in
    was ∙ ap (by (before_in added)) (sym (ap (λ (s : MemoryState). s.maps) was))

-- the counts stay where cells are taken away
pub taken_patches : (a b : Machine) (cells : List CellId) → IsTaken a cells b → b.memory.patches ≡ a.memory.patches
taken_patches a b cells t = ap (λ (s : MemoryState). s.patches) t.memory ∙ same_patches (lost_starts (all_attached a.cells.items) (map (λ (c : CellId). c.0) cells)) a.memory

pub taken_maps : (a b : Machine) (cells : List CellId) → IsTaken a cells b → b.memory.maps ≡ a.memory.maps
taken_maps a b cells t = ap (λ (s : MemoryState). s.maps) t.memory ∙ same_maps (lost_starts (all_attached a.cells.items) (map (λ (c : CellId). c.0) cells)) a.memory

In-mapped : (s : MemoryState) (regions : List Region) (r : Region) → In r s.regions → In r (all_mapped s regions).regions
In-mapped s [] r i = i
In-mapped s (q ∷ regions) r i = In-mapped (mapped_one s q) regions r (In-with_region (record { start = q.start; permission = q.permission; bytes = q.bytes }) r s.regions i)

module _ (n : Machine) (back : Rewiring) (cells : List CellId) (x : CanGoBack n back cells) where
  abbrev m : Machine
  m = x.before

  abbrev k : Machine
  k = x.room

  abbrev r : Ready
  r = x.ready

  abbrev v : World
  v = world_of x.planned.begun.before

  abbrev regions : List Region
  regions = r.plan.staged.regions.items

  -- each entry's link before and after, and the links of the new cells
  abbrev steps : List LinkStep
  steps = x.planned.change.steps

  abbrev more : List LinkRow
  more = r.plan.staged.rows.items

  added_whole : HasAdded k r (afters steps) (suspended n)
  added_whole = whole m x.plan_before x.planned k r x.is x.count n x.added

  s0 : IsSound (suspended n)
  s0 = sound m x.plan_before x.planned k r x.is x.count n x.added

  abbrev w0 : World
  w0 = world_of (suspended n)

  nothing : k.memory.undo ≡ None
  nothing = none m x.plan_before x.planned k r x.is x.count n x.added

  abbrev before_fields : MemoryState
  before_fields = mid k.memory x.count regions r.plan.patches.items r.plan.staged.fields.items

  pub still : is_some n.memory.undo ≡ true
  still =
      ap (λ (s : MemoryState). is_some s.undo) x.added.memory
      ∙ still_begun k.memory x.count regions r.plan.patches.items r.plan.staged.fields.items

  pub turns_left : (more : ℕ) → length r.plan.patches.items + length r.plan.staged.fields.items + more ≤ x.count → HasWrites n.memory more
  turns_left more enough =
      subst (λ (s : MemoryState). HasWrites s more) (sym x.added.memory)
      (writes_left k.memory x.count regions r.plan.patches.items r.plan.staged.fields.items more enough)

  gone : before_in n.memory ≡ before_fields.regions
  gone = ap before_in x.added.memory ∙ gone_back k.memory x.count regions r.plan.patches.items r.plan.staged.fields.items

  -- the memory that an undo leaves, in which so many regions were mapped
  abbrev undone : ℕ → MemoryState
  undone maps = record n.memory { regions = before_in n.memory; undo = None; maps = maps }

  fresh_is : numbers cells ≡ numbers_of (new m x.plan_before x.planned k r x.is)
  fresh_is = ap numbers x.fresh_are ∙ numbers_are m x.plan_before x.planned k r x.is x.count n x.added

  next_is : m.next ≡ v.next_cell
  next_is = x.planned.begun.aside.next

  is_over : (c : Cell) → In c (new m x.plan_before x.planned k r x.is) → v.next_cell ≤ c.id.0
  is_over c i = subst (λ (a : ℕ). a ≤ c.id.0) next_is (numbers_new (world_of m) x.planned.ready.new x.plan_before.staged x.planned.ready.staged x.planned.ready.there c i)

  rows_before : k.graph.rows ≡ v.links
  rows_before = x.is.same.rows ∙ x.planned.begun.aside.rows

  own_rows : (l : LinkRow) → In l r.plan.staged.rows.items → (c : Cell) × In c (new m x.plan_before x.planned k r x.is) × (l.user.cell.0 ≡ c.id.0)
  own_rows l i =
      links_of_cells (W (world_of m) x.planned.ready.new x.plan_before.staged x.planned.ready.staged) (new m x.plan_before x.planned k r x.is) l
      (subst (λ (ls : List LinkRow). In l ls) (ap (λ (q : Plan). q.staged.rows.items) x.is.plan ∙ x.planned.ready.staged.rows) i)

  keys_before : k.graph.sections ≡ keys_of k.cells.items
  keys_before = x.is.same.sections ∙ (x.planned.ready.parts.sections ∙ ap keys_of (sym x.is.same.cells))

  cells_before : k.cells.items ≡ x.planned.begun.before.cells.items
  cells_before = x.is.same.cells ∙ x.planned.begun.aside.cells

  -- the rows that others have, with those of the new cells, are those of the linked machine
  rows_there : w0.links ≡ afters steps ++ more
  rows_there = x.added.rows

  rising : Rises below_link (afters steps ++ more)
  rising = subst (Rises below_link) rows_there (in_graph_order w0.links (links_rise w0 s0.coherent))

  links_same : x.plan_before.links ≡ r.plan.links
  links_same = sym (ap (λ (q : Plan). q.links) x.is.plan)

  rewired : IsRewiring k.graph.rows r.plan.links.unbinds.items r.plan.links.binds.items r.plan.links.moves.items steps
  rewired =
      subst (λ (q : Rewiring). IsRewiring k.graph.rows q.unbinds.items q.binds.items q.moves.items steps) links_same
      (subst (λ (ls : List LinkRow). IsRewiring ls x.plan_before.links.unbinds.items x.plan_before.links.binds.items x.plan_before.links.moves.items steps) (sym x.is.same.rows) x.planned.change.rewires)

  old_lower : (l : LinkRow) → In l k.graph.rows → (m : LinkRow) → In m more → below_link l m ≡ true
  old_lower = old_below v x.planned.begun.sound.coherent k.graph.rows more rows_before cells (new m x.plan_before x.planned k r x.is) fresh_is is_over own_rows

  way : IsRewiring (afters steps ++ more) r.plan.links.binds.items r.plan.links.unbinds.items (backs steps) (turned_with steps more)
  way = steps_back k.graph.rows r.plan.links.unbinds.items r.plan.links.binds.items r.plan.links.moves.items steps rewired more rising old_lower

  pub rows_are : afters (turned_with steps more) ≡ k.graph.rows ++ more
  rows_are = rows_back k.graph.rows r.plan.links.unbinds.items r.plan.links.binds.items r.plan.links.moves.items steps rewired more rising old_lower

  contains_left : (xs ys : List SecKey) (key : SecKey) → Contains xs key → Contains (xs ++ ys) key
  contains_left xs ys key has = (has.0, omega (arith, has.1, length-append xs ys), get_or_append_left xs ys key has.0 has.1 ∙ has.2)

  old_present : (l : LinkRow) → In l k.graph.rows → Contains n.graph.sections l.user × Contains n.graph.sections l.target
  old_present l i =
      let there = All-In (λ (l : LinkRow). Contains (keys_of x.planned.begun.before.cells.items) l.user × Contains (keys_of x.planned.begun.before.cells.items) l.target) v.links
      (rows_present v x.planned.begun.sound.coherent x.planned.begun.before.cells.items x.planned.begun.sound.joined.placed [] v.links refl) l (subst (λ (ls : List LinkRow). In l ls) rows_before i) in
      (still_there l.user there.0, still_there l.target there.1)
    where
      still_there : (key : SecKey) → Contains (keys_of x.planned.begun.before.cells.items) key → Contains n.graph.sections key
      still_there key has =
          subst (λ (keys : List SecKey). Contains keys key) (sym x.added.sections)
          (contains_left k.graph.sections (keys_of r.plan.staged.cells.items) key (subst (λ (keys : List SecKey). Contains keys key) (sym (keys_before ∙ ap keys_of cells_before)) has))

  new_present : All (λ (l : LinkRow). Contains n.graph.sections l.user × Contains n.graph.sections l.target) more
  new_present =
      subst (λ (keys : List SecKey). All (λ (l : LinkRow). Contains keys l.user × Contains keys l.target) more) (sym s0.sections)
      (rows_present w0 s0.coherent n.cells.items s0.joined.placed (afters steps) more rows_there)

  all_present_back : All (λ (l : LinkRow). Contains n.graph.sections l.user × Contains n.graph.sections l.target) (afters (turned_with steps more))
  all_present_back =
      subst (All (λ (l : LinkRow). Contains n.graph.sections l.user × Contains n.graph.sections l.target)) (sym rows_are)
      (In-All (λ (l : LinkRow). Contains n.graph.sections l.user × Contains n.graph.sections l.target) (k.graph.rows ++ more) (λ l i. go l (In-append k.graph.rows more l i)))
    where
      go : (l : LinkRow) → In l k.graph.rows ⊎ In l more → Contains n.graph.sections l.user × Contains n.graph.sections l.target
      go l (inl i) = old_present l i
      go l (inr i) = All-In (λ (l : LinkRow). Contains n.graph.sections l.user × Contains n.graph.sections l.target) more new_present l i

  -- so the links can be taken back
  pub can_rewire_back : (g : Links) → g ≡ n.graph → (gone come led : List LinkRow) → gone ≡ back.unbinds.items → come ≡ back.binds.items → led ≡ back.moves.items → CanRewire g gone come led
  can_rewire_back g same gone come led a b c = record {
    steps = turned_with steps more;
    is = record {
      steps_are = record { are = ap (λ (l : Links). l.rows) same ∙ (x.added.rows ∙ way.are); one = way.one; rise = way.rise };
      gone_are = a ∙ (x.turned.unbinds ∙ way.gone_are);
      new_are = b ∙ (x.turned.binds ∙ way.new_are);
      led_are = c ∙ (x.turned.moves ∙ (sym (ap (λ (q : Rewiring). q.backs.items) links_same) ∙ (x.planned.change.backs ∙ way.led_are)));
    };
    present = subst (λ (l : Links). All (λ (r : LinkRow). Contains l.sections r.user × Contains l.sections r.target) (afters (turned_with steps more))) (sym same) all_present_back;
    room =
        let left = x.left in
        let spare = ap (λ (l : Links). l.spare_rows) same in
        let many = ap (length {A = LinkRow}) b in
        let few = ap (length {A = LinkRow}) x.turned.binds in
        omega (arith, left, spare, many, few);
  }

  -- and then they are those that were there, and those of the new cells
  pub rewired_back : (g : Links) (same : g ≡ n.graph) (gone come led : List LinkRow) (a : gone ≡ back.unbinds.items) (b : come ≡ back.binds.items) (c : led ≡ back.moves.items) (rows : List LinkRow)
      → rows ≡ afters (can_rewire_back g same gone come led a b c).steps → rows ≡ k.graph.rows ++ more
  unfolding can_rewire_back
  rewired_back g same gone come led a b c rows is = is ∙ rows_are

  module _ (kept : map shape_of (before_in n.memory) ≡ map shape_of n.memory.regions) (a : Machine) (memory : a.memory ≡ undone a.memory.maps) (rows : a.graph.rows ≡ k.graph.rows ++ more) (sections : a.graph.sections ≡ n.graph.sections) (items : a.cells.items ≡ n.cells.items) (soft : a.soft.items ≡ n.soft.items)
      (known : a.spaces.cells ≡ n.spaces.cells) (space : a.space ≡ n.space) where
    abbrev shapes_now : map shape_of (suspended n).memory.regions ≡ map shape_of a.memory.regions
    shapes_now = sym kept ∙ ap (λ (s : MemoryState). map shape_of s.regions) (sym memory)

    pub can_go_back : CanGo a cells
    can_go_back = record {
      places = subst (λ (cs : List NewCell). All (λ (c : NewCell). IsTrue (each_pair (λ (f g : SecPlace). nat_lt f.section g.section) c.places)) cs) (sym items) (places_rise (suspended n) s0 cells);
      tabled = subst (IsTabled a.memory) (sym space)
          (tabled_by (suspended n).memory a.memory n.space (sym (ap (λ (s : MemoryState). s.base) memory)) (sym (ap (λ (s : MemoryState). s.pages) memory)) shapes_now (tabled (suspended n) s0 cells));
      regions = subst (λ (cs : List NewCell). CanLeave a.memory (lost_starts (all_attached cs) (numbers cells))) (sym items)
          (leave_by (suspended n).memory a.memory (lost_starts (all_attached n.cells.items) (numbers cells)) shapes_now (can_leave (suspended n) s0 cells));
      named = subst (λ (cs : List SpaceCell). All (λ (c : CellId). IsSome (cell_numbered cs c.0)) cells) (sym known) (all_named (suspended n) s0 cells all_present);
      rising = rise;
      unused = subst (λ (ls : List LinkRow). is_used_outside cells ls ≡ false) (sym rows)
          (unused v x.planned.begun.sound.coherent k.graph.rows more rows_before cells (new m x.plan_before x.planned k r x.is) fresh_is is_over own_rows);
    }
      where
        all_present : All (λ (c : CellId). IsTrue (holds (numbers_of w0.cells) c.0)) cells
        all_present = In-All (λ (c : CellId). IsTrue (holds (numbers_of w0.cells) c.0)) cells (λ c i.
            let d = In-map (λ (y : Cell). y.id.0) (new m x.plan_before x.planned k r x.is) c.0 (subst (λ (ns : List ℕ). In c.0 ns) fresh_is (map-In (λ (y : CellId). y.0) cells c i)) in
            let there : In d.0 w0.cells = subst (λ (cs : List Cell). In d.0 cs) (sym (cells_are m x.plan_before x.planned k r x.is (suspended n) added_whole)) (In-right (world_of m).cells (new m x.plan_before x.planned k r x.is) d.0 d.1) in
            In-holds (numbers_of w0.cells) c.0 (subst (λ (a : ℕ). In a (numbers_of w0.cells)) (sym d.2) (map-In (λ (y : Cell). y.id.0) w0.cells d.0 there)))

        rise : IsTrue (each_pair nat_lt (numbers cells))
        rise =
            ap (each_pair nat_lt) fresh_is
            ∙ (pairs-map nat_lt (λ (c : Cell). c.id.0) (new m x.plan_before x.planned k r x.is)
            ∙ numbers_rise (world_of m) x.planned.ready.new x.plan_before.staged x.planned.ready.staged x.planned.ready.there)

    module _ (b : Machine) (t : IsTaken a cells b) (laid_before : IsLaid n.memory.base n.memory.regions (n.memory.base + 4096 * n.memory.pages)) (laid_then : IsLaid a.memory.base a.memory.regions (a.memory.base + 4096 * a.memory.pages))
        (next : a.next ≡ n.next) (swaps : a.swaps ≡ n.swaps) (namespaces : a.spaces.namespaces ≡ n.spaces.namespaces) (tasks : a.tasks ≡ n.tasks) where
      left : filter (λ (c : Cell). not (holds (numbers cells) c.id.0)) w0.cells ≡ (world_of m).cells
      left = ap (λ (ids : List CellId). filter (λ (c : Cell). not (holds (numbers ids) c.id.0)) w0.cells) x.fresh_are ∙ cells_left m x.plan_before x.planned k r x.is x.count n x.added

      -- the cells of before are left
      items_left : filter (stay cells) n.cells.items ≡ k.cells.items
      items_left =
          ap (filter (stay cells)) (sym s0.joined.placed)
          ∙ (filter_mapped (stay cells) placed_of w0.cells
          ∙ (ap (map placed_of) left ∙ (x.planned.ready.parts.joined.placed ∙ sym x.is.same.cells)))

      known_left_now : b.spaces.cells ≡ k.spaces.cells
      known_left_now =
          t.names
          ∙ (ap (filter (λ (c : SpaceCell). not (holds (numbers cells) c.cell.0))) (known ∙ sym s0.joined.called)
          ∙ (known_left cells w0.cells
          ∙ (ap (map called) left ∙ (x.planned.ready.parts.joined.called ∙ sym x.is.same.known))))

      base_before : n.memory.base ≡ k.memory.base
      base_before = ap (λ (s : MemoryState). s.base) x.added.memory ∙ end_base k.memory x.count regions r.plan.patches.items r.plan.staged.fields.items

      pages_before : n.memory.pages ≡ k.memory.pages
      pages_before = ap (λ (s : MemoryState). s.pages) x.added.memory ∙ end_pages k.memory x.count regions r.plan.patches.items r.plan.staged.fields.items

      seals_before : k.memory.sealed ≡ seal_table k.memory.base (4096 * k.memory.pages) (field_bytes (filter (stay cells) n.cells.items))
      seals_before =
          ap (λ (s : MemoryState). s.sealed) x.is.same.memory
          ∙ (x.planned.ready.parts.seals
          ∙ (ap (λ (s : MemoryState). seal_table s.base (4096 * s.pages) (field_bytes m.cells.items)) same_space
          ∙ ap (λ (cs : List NewCell). seal_table k.memory.base (4096 * k.memory.pages) (field_bytes cs)) (sym (items_left ∙ x.is.same.cells))))
        where
          same_space : (record m.memory { spare = x.is.same.spare }) ≡ k.memory
          same_space = sym x.is.same.memory

      shapes_left_now : map shape_of (filter (other (suspended n) s0 cells laid_before) n.memory.regions) ≡ map shape_of k.memory.regions
      shapes_left_now =
          ap (λ (starts : List ℕ). map shape_of (filter (λ (q : Region). not (holds starts q.start)) n.memory.regions)) (sym (starts_are (suspended n) s0 cells))
          ∙ (ap (λ (ids : List CellId). map shape_of (without_cells w0 (numbers ids)).regions) x.fresh_are
          ∙ shapes_again m x.plan_before x.planned k r x.is x.count n x.added)

      -- the memory of before, with the counts of now
      abbrev counted : MemoryState
      counted = record k.memory { patches = a.memory.patches; maps = a.memory.maps }

      back_memory : b.memory ≡ (record counted { spare = b.memory.spare })
      back_memory =
          t.memory
          ∙ (ap (λ (cs : List NewCell). without_regions a.memory (lost_starts (all_attached cs) (numbers cells))) items
          ∙ (memory_back (suspended n) s0 cells laid_before (starts_are (suspended n) s0 cells) counted a.memory (ap (λ (s : MemoryState). s.base) memory ∙ base_before) (ap (λ (s : MemoryState). s.pages) memory ∙ pages_before) base_before pages_before
          (ap (λ (s : MemoryState). s.sealed) memory) (ap (λ (s : MemoryState). s.undo) memory) nothing refl refl
          laid_then (sym shapes_now) shapes_left_now there seals_before
          ∙ ap (λ (s : MemoryState). let y : MemoryState = record counted { spare = s.spare } in y)
          (sym (t.memory ∙ ap (λ (cs : List NewCell). without_regions a.memory (lost_starts (all_attached cs) (numbers cells))) items))))
        where
          there : (q : Region) → In q k.memory.regions → In q a.memory.regions
          there q i = subst (λ (s : MemoryState). In q s.regions) (sym memory) (subst (λ (rs : List Region). In q rs) (sym gone) (In-mapped (begun_at k.memory x.count) regions q i))

      space_back : b.space ≡ k.space
      space_back =
          ap₂ (λ (base : ℕ) (taken : List Bool). let s : SpaceState = record { base = base; taken = taken } in s)
          (t.tabled.base ∙ (ap (λ (s : MemoryState). s.base) back_memory ∙ (ap (λ (s : MemoryState). s.base) x.is.same.memory ∙ sym x.planned.ready.parts.base)))
          (t.tabled.table ∙ (ap table_of back_memory ∙ (ap table_of x.is.same.memory ∙ sym x.planned.ready.parts.table)))
          ∙ sym x.is.same.space

      -- the cells with a WEAK symbol are those of before
      soft_back : b.soft.items ≡ k.soft.items
      soft_back =
          t.soft
          ∙ (ap (filter (λ (c : CellId). not (holds (numbers cells) c.0))) (soft ∙ s0.soft)
          ∙ (soft_left cells n.cells.items
          ∙ (ap soft_of items_left ∙ sym (x.is.same.soft ∙ (x.planned.ready.parts.soft ∙ ap soft_of (sym x.is.same.cells))))))

      pub went_back : IsSame k (without_counts k (record b { next = b.next - length cells }))
      went_back = record {
        cells = t.left ∙ (ap (filter (stay cells)) items ∙ items_left);
        soft = soft_back;
        next = numbers_back;
        swaps = t.swaps ∙ (swaps ∙ x.added.swaps);
        namespaces = t.namespaces ∙ (namespaces ∙ x.added.namespaces);
        known = known_left_now;
        space = space_back;
        spare = b.memory.spare;
        memory = ap (λ (s : MemoryState). let y : MemoryState = record s { patches = k.memory.patches; maps = k.memory.maps } in y) back_memory;
        sections = t.sections ∙ (ap (sections_without cells) (sections ∙ s0.sections) ∙ (keys_left cells n.cells.items ∙ (ap keys_of items_left ∙ sym keys_before)));
        rows = t.rows
            ∙ (ap (links_without cells) rows
            ∙ rows_left v x.planned.begun.sound.coherent k.graph.rows more rows_before cells (new m x.plan_before x.planned k r x.is) fresh_is is_over own_rows);
        tasks = t.tasks ∙ (tasks ∙ x.added.tasks);
      }
        where
          numbers_back : b.next - length cells ≡ k.next
          numbers_back =
              let e = t.next in
              let f = x.added.next in
              let count = ap length x.fresh_are in
              let ids = ap length x.is.fresh in
              let mapped = length-map x.plan_before.staged.cells.items (λ (c : NewCell). c.id) in
              let staged = ap (λ (q : Plan). length q.staged.cells.items) x.is.plan in
              omega (arith, e, next, f, count, ids, mapped, staged)
