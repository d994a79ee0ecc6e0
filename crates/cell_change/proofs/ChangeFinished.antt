-- The last steps of a change come to what the definition says of its plan.
use Rattle.std.proofs.Common.{◌≡◌, sym, ◌∙◌, ap, ap₂, subst, arith, ℕ, ◌+◌, ◌<◌, List, ◌++◌, map, length, Option, None, Some}
use Rattle.std.specs.Prelude.{flat_map}
use Rattle.cell_num.specs.Lists.{In}
use Rattle.cell_num.specs.declared.ids.CellId.{CellId}
use Rattle.cell_world.specs.declared.state.LinkRow.{LinkRow}
use Rattle.cell_world.specs.declared.state.NewCell.{NewCell}
use Rattle.cell_world.specs.Answer.{ids, numbers_of}
use Rattle.cell_world.specs.Linked.Relink.{field_count}
use Rattle.cell_world.specs.World.{World, Cell}
use Rattle.cell_world.specs.declared.state.Standing.TheVariants.{Attached}
use Rattle.cell_num.proofs.Elements.{In-map, map-In}
use Rattle.cell_lemmas.proofs.Fields.Relinked.{map_twice}
use Rattle.cell_lemmas.proofs.Naming.Known.{older}
use Rattle.cell_commit.specs.Cells.{arrived}
use Rattle.cell_lemmas.specs.LinkSteps.{afters}
use Rattle.cell_commit.specs.declared.wiring.Rewiring.{Rewiring}
use Rattle.cell_link.specs.declared.value.FieldValue.{FieldValue}
use Rattle.cell_mem.specs.State.{MemoryState}
use Rattle.cell_space.specs.Joined.{placed_of}
use Rattle.cell_task.specs.State.{TasksState}
use Rattle.cell_machine.specs.declared.machine.Machine.{Machine}
use Rattle.cell_machine.specs.declared.staged.Staged.{Staged}
use Rattle.cell_load.specs.declared.prepared.Prepared.{Prepared}
use Rattle.cell_machine.specs.Does.{cell_shapes}
use Rattle.cell_machine.specs.Machine.{IsSound, world_of}
use Rattle.cell_machine.specs.Same.{raised}
use Rattle.cell_machine.specs.Staged.{IsCommitted, arrivals}
use Rattle.cell_machine.proofs.NewFields.{count_is}
use Rattle.cell_machine.proofs.Same.{maps_same, patches_same}
use Rattle.cell_machine.proofs.StagedWorld.{F, W, standing}
use Rattle.cell_load.specs.Adding.{HasRoomFor, IsAdded, IsCommittable, memory_with}
use Rattle.cell_load.proofs.Added.{maps_now, more_regions, patches_now, sound as sound_after, world_added}
use Rattle.cell_load.proofs.Committing.{committable_then}
use Rattle.cell_load.proofs.Ready.{added_same}
use Rattle.cell_change.specs.declared.planning.Plan.{Plan}
use Rattle.cell_change.specs.declared.ready.Ready.{Ready}
use Rattle.cell_change.specs.Exchanged.{AreRoots, IsPlanned, IsReadyFor}
use Rattle.cell_change.specs.declared.request.Change.{Change}
use Rattle.cell_unload.specs.declared.outlook.Outlook.{Outlook}
use Rattle.cell_hold.specs.declared.roots.Root.{Root}
use Rattle.cell_unload.specs.Begun.{root_of, root_of_task}
use Rattle.cell_change.specs.Entering.{LooksBy}
use Rattle.cell_change.specs.Planning.{Looks}
use Rattle.cell_change.proofs.Arrival.ChangeOutlook.{new_root, outlook_after}
use Rattle.cell_change.proofs.Arrival.ChangeRuns.{came}

ids_placed : (cells : List Cell) → map (λ (c : NewCell). c.id) (map placed_of cells) ≡ ids (numbers_of cells)
ids_placed cells = map_twice (λ (c : NewCell). c.id) placed_of cells ∙ sym (map_twice (λ (n : ℕ). let id : CellId = record { 0 = n } in id) (λ (c : Cell). c.id.0) cells)

-- the staged cells are in the machine, and the others have these links
abbrev pub HasAdded : Machine → Ready → List LinkRow → Machine → Type 0
HasAdded k r rows n = IsCommitted k (memory_with k.memory r.plan.staged.regions.items r.plan.patches.items) rows (map arrived r.prepared.newcomers.items) r.plan.staged n

-- the commit may be made, and leaves the others these links
abbrev pub CanCommit : Machine → Staged → Prepared → List FieldValue → Rewiring → List LinkRow → Type 0
CanCommit k s p patches links rows = (c : IsCommittable k s p patches links) × (afters c.change.steps ≡ rows)

module _ (m : Machine) {asked : Change} (p : Plan) (x : IsPlanned m asked p) (k : Machine) (r : Ready) (y : IsReadyFor m asked p k r) where
  -- the links of others then
  abbrev pub rows_then : List LinkRow
  rows_then = afters x.change.steps

  pub committable : CanCommit k r.plan.staged r.prepared r.plan.patches.items r.plan.links rows_then
  committable =
      let c = committable_then m k p.staged r.prepared r.plan.staged.names p.patches.items p.links x.change x.changed y.same x.ready y.prepared
      (subst (λ (q : Plan). HasRoomFor k q.staged r.prepared (length q.links.binds.items)) y.plan y.room) in
      subst (λ (q : Plan). CanCommit k q.staged r.prepared q.patches.items q.links rows_then) (sym y.plan) (c.0, ap afters c.1)

  -- the new cells in their places
  abbrev pub new : List Cell
  new = F (world_of m) x.ready.new p.staged x.ready.staged

  pub stand : (c : Cell) → In c new → c.standing ≡ Attached
  stand = standing (world_of m) x.ready.new p.staged x.ready.staged

  pub fresh_is : x.plan.fresh ≡ new
  fresh_is = x.fresh

  -- the cells that were there are those of before
  pub old_placed : map placed_of (world_of m).cells ≡ map placed_of (world_of x.begun.before).cells
  old_placed = x.ready.parts.joined.placed ∙ (x.begun.aside.cells ∙ sym x.begun.sound.joined.placed)

  pub below : (c : Cell) → In c (world_of m).cells → c.id.0 < m.next
  below c i =
      let d = In-map placed_of (world_of x.begun.before).cells c.placed (subst (λ (cs : List NewCell). In c.placed cs) old_placed (map-In placed_of (world_of m).cells c i)) in
      let low : d.0.id.0 < x.begun.before.next = older (world_of x.begun.before) x.begun.sound.coherent d.0 d.1 in
      let same : c.id.0 ≡ d.0.id.0 = ap (λ (e : NewCell). e.id.0) d.2 in
      let next = x.begun.aside.next in
      omega (arith, low, same, next)

  pub fields_are : field_count x.plan.fresh ≡ length p.staged.fields.items
  fields_are = ap field_count x.fresh ∙ (count_is (W (world_of m) x.ready.new p.staged x.ready.staged) new ∙ ap length (sym x.ready.staged.fields))

  pub fresh_are : r.fresh ≡ ids (numbers_of new)
  fresh_are = y.fresh ∙ (ap (map (λ (c : NewCell). c.id)) x.ready.staged.cells ∙ ids_placed new)

  module _ (n : Machine) (committed : HasAdded k r rows_then n) where
    pub added : IsAdded m p.patches.items rows_then p.staged (arrivals p.staged.cells.items p.staged.names.items) n
    added =
        added_same m k n y.same p.staged r.plan.staged.names p.patches.items rows_then (map arrived r.prepared.newcomers.items) (arrivals p.staged.cells.items p.staged.names.items) y.prepared.newcomers
        (subst (λ (q : Plan). IsCommitted k (memory_with k.memory q.staged.regions.items q.patches.items) rows_then (map arrived r.prepared.newcomers.items) q.staged n) y.plan committed)

    pub after : IsSound n
    after = sound_after m n p.staged p.patches.items rows_then x.changed x.patches x.ready added

    pub comes : world_of n ≡ x.ready.after
    comes = world_added m n p.staged p.patches.items rows_then x.changed x.patches x.ready added

    pub linked : world_of n ≡ x.plan.linked
    linked = comes ∙ x.linked

    pub cells_are : (world_of n).cells ≡ (world_of m).cells ++ new
    cells_are = ap (λ (w : World). w.cells) (comes ∙ x.ready.comes.is)

    regions_before : length m.memory.regions ≡ length x.begun.before.memory.regions
    regions_before = ap (λ (s : MemoryState). length s.regions) x.begun.aside.memory

    brought : length p.staged.regions.items ≡ length (flat_map cell_shapes new)
    brought =
        came (world_of x.begun.before) (world_of n) x.begun.sound.coherent after.coherent (world_of m).cells new cells_are old_placed (ap (λ (ts : TasksState). ts.tasks) (added.is.tasks ∙ x.begun.aside.tasks)) (length p.staged.regions.items)
        (more_regions m n p.staged p.patches.items rows_then x.changed x.patches x.ready added ∙ ap (λ (more : ℕ). more + length p.staged.regions.items) regions_before)

    pub patches_are : n.memory.patches ≡ raised k.memory.patches r.patched
    patches_are =
        patches_now m n p.staged p.patches.items rows_then x.changed x.patches x.ready added
        ∙ ap₂ raised (sym (patches_same m k y.same)) (let e = y.patched in let sum : length p.patches.items + length p.staged.fields.items ≡ r.patched = omega (arith, e) in sum)

    pub maps_are : n.memory.maps ≡ raised k.memory.maps (length (flat_map cell_shapes x.plan.fresh))
    maps_are =
        maps_now m n p.staged p.patches.items rows_then x.changed x.patches x.ready added
        ∙ ap₂ raised (sym (maps_same m k y.same)) (brought ∙ ap (λ (cs : List Cell). length (flat_map cell_shapes cs)) (sym fresh_is))

    -- the memory may be another by then, after routines
    pub looked : (memory : MemoryState) → IsSound (record n { memory = memory }) → LooksBy (record n { memory = memory }) asked.replaced.items r.plan.outlook
    looked memory sound =
        subst (λ (o : Option Outlook). LooksBy (record n { memory = memory }) asked.replaced.items o) (sym (ap (λ (q : Plan). q.outlook) y.plan)) (go x.roots x.rooted p.outlook x.looks)
      where
        go : (roots : Option (List Root)) → AreRoots x.begun.before asked.replaced.items roots → (o : Option Outlook) → Looks m p.staged.cells.items roots o → LooksBy (record n { memory = memory }) asked.replaced.items o
        go None none None looks = none
        go None none (Some o) looks = absurd looks
        go (Some roots) some None looks = absurd looks
        go (Some roots) some (Some o) looks = (
          some.0,
          outlook_after x.begun.before asked.replaced.items m (record n { memory = memory }) x.begun.sound x.begun.aside sound new cells_are stand p.staged.cells.items x.ready.staged.cells added.is.cells o
              looks.places
              (looks.rooted
              ∙ (ap (λ (rs : List Root). rs ++ map new_root p.staged.cells.items) some.1
              ∙ ap (λ (ts : TasksState). (flat_map (root_of asked.replaced.items) (world_of x.begun.before).cells ++ map root_of_task ts.tasks) ++ map new_root p.staged.cells.items) (sym (added.is.tasks ∙ x.begun.aside.tasks)))),
        )
