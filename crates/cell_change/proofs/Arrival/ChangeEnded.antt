-- The machine once the new cells are added, and after the routines.
use Rattle.std.proofs.Common.{◌≡◌, refl, sym, ap, ap₂, subst, ◌∙◌, arith, ℕ, suc, ◌+◌, ◌-◌, ◌*◌, ◌^◌, ◌≤◌, ◌<◌, Bool, inl, inr, List, [], ◌∷◌, ◌++◌, Option, Some, None, length, map}
use Rattle.std.specs.Prelude.{All, Result, Ok, Err, flat_map, is_some, true}
use Rattle.std.proofs.lemmas.List.{length-map}
use Rattle.cell_num.specs.Lists.{numbered_from, In}
use Rattle.cell_num.specs.declared.ids.CellId.{CellId}
use Rattle.cell_world.specs.Outcome.{Outcome, ◌>>=◌, ◌>>◌, refused_by}
use Rattle.cell_world.specs.Placed.Pages.{longest_run, lowest_run}
use Rattle.cell_world.specs.Placed.Place.{page_table, start_of_run}
use Rattle.cell_world.specs.Change.{Change as ChangeSaid, addresses_of, first_held_old, replaced, with_routines}
use Rattle.cell_world.specs.Commands.SwapTransfer.{Begin, addresses_in, transferred_by}
use Rattle.cell_world.specs.Running.Restart.{restart_by}
use Rattle.cell_world.specs.Running.Transfer.{Addresses, transfer}
use Rattle.cell_world.specs.World.{Cell, World}
use Rattle.cell_world.specs.Names.{names_of}
use Rattle.cell_world.specs.declared.refusal.Refusal.{Refusal}
use Rattle.cell_world.specs.declared.refusal.Refusal.TheVariants.{Exhausted}
use Rattle.cell_world.specs.declared.state.LinkRow.{LinkRow}
use Rattle.cell_world.specs.declared.state.NewCell.{NewCell}
use Rattle.cell_world.specs.declared.transfer.NameAddr.{NameAddr}
use Rattle.cell_world.specs.declared.transfer.Routine.{Routine}
use Rattle.cell_world.specs.World.{Alias}
use Rattle.cell_lemmas.proofs.Naming.Appended.{ok_same}
use Rattle.cell_num.proofs.Elements.{In-All}
use Rattle.cell_lemmas.specs.Loads.{Taken, placed_cells}
use Rattle.cell_world.specs.Placed.Pages.{filled}
use Rattle.cell_world.specs.Coherent.{shape_of}
use Rattle.cell_commit.specs.Commit.{all_mapped, field_patched, fields_patched}
use Rattle.cell_commit.proofs.Mapping.{mapped_spare}
use Rattle.cell_commit.proofs.Writing.{written_spare}
use Rattle.cell_layout.specs.Placing.{extra_start}
use Rattle.cell_link.specs.declared.value.FieldValue.{FieldValue}
use Rattle.cell_lemmas.specs.LinkSteps.{afters}
use Rattle.cell_commit.specs.Rewiring.{IsTurned}
use Rattle.cell_commit.specs.Cells.{arrived}
use Rattle.cell_machine.specs.Does.{cell_shapes}
use Rattle.cell_machine.specs.Staged.{IsCommitted}
use Rattle.cell_load.specs.Adding.{IsCommittable, memory_with}
use Rattle.cell_machine.proofs.StagedWorld.{kept_placed}
use Rattle.cell_machine.specs.Same.{raised}
use Rattle.cell_machine.specs.declared.machine.Machine.{Machine}
use Rattle.cell_machine.specs.Machine.{IsSound, world_of}
use Rattle.cell_mem.specs.Index.{IsLaid}
use Rattle.cell_mem.specs.State.{HasWrites, MemoryState, before_in, begun_at}
use Rattle.cell_place.specs.Space.{SpaceState}
use Rattle.cell_routines.specs.Begins.{begin_as}
use Rattle.cell_routines.specs.Placed.{entry_among, routines_among}
use Rattle.cell_change.specs.declared.request.Change.{Change}
use Rattle.cell_change.specs.Planning.{wish}
use Rattle.cell_xfer.specs.Carried.{CanCarry, IsCarried}
use Rattle.cell_xfer.specs.Named.{addresses_as}
use Rattle.cell_xfer.specs.declared.carrying.Transfer.{Transfer}
use Rattle.cell_change.specs.declared.planning.Plan.{Plan}
use Rattle.cell_change.specs.declared.ready.Ready.{Ready}
use Rattle.cell_change.specs.Back.{CanGoBack}
use Rattle.cell_change.specs.Before.{begun_in}
use Rattle.cell_unload.specs.declared.outlook.Outlook.{Outlook}
use Rattle.cell_change.specs.Entering.{IsEntered, IsOpen, LooksBy}
use Rattle.cell_change.specs.Exchanged.{CanFinish, HasCounted, ended}
use Rattle.cell_change.specs.Transferring.{CanRun, Gives, HasRun, IsGiven, new_rows, old_rows, pages_for, stacks_for, turns_in}
use Rattle.cell_change.proofs.Decision.AddressesSaid.{new_said, old_said}
use Rattle.cell_change.proofs.Return.GoneBack.{sound, still, turns_left, whole}
use Rattle.cell_change.proofs.Arrival.RoutinesRun.{room, sound_after, transfer_done, transfer_failed, unsealed_stack}
use Rattle.cell_change.proofs.Arrival.Suspended.{committable_begun, outlook_again, suspended, whole_again, with_undo}
use Rattle.cell_change.proofs.ChangeFinished.{CanCommit, HasAdded, added as is_added, cells_are, committable, fresh_is, linked, looked, maps_are, patches_are, rows_then}

-- a stack in the lowest free run
some_is : {X : Type 0} (a b : X) → Some a ≡ Some b → a ≡ b
some_is a b e = cc

start_from : (w : World) (words : List (List ℕ)) (o : Option ℕ) (stack : ℕ) → extra_start w.base (page_table w) (pages_for words) ≡ Ok o → o ≡ Some stack → start_of_run w 4 ≡ Ok stack
start_from w [] o stack e s = absurd (none_some (ok_same None o e ∙ s))
  where
    none_some : None ≡ Some stack → ⊥
    none_some k = cc
start_from w (word ∷ words) o stack e s = go (lowest_run (page_table w) 4) e
  where
    go : (l : Option ℕ)
        → ((elim l as (λ _. Outcome Taken) [ None ↦ Err (Exhausted 4 (longest_run (page_table w))) | Some page ↦ Ok (record { start = w.base + 4096 * page; table = filled (page_table w) page 4 true }) ]) >>= (λ run. let x : Outcome (Option ℕ) = Ok (Some run.start) in x)) ≡ Ok o
        → (elim l as (λ _. Outcome ℕ) [ None ↦ Err (Exhausted 4 (longest_run (page_table w))) | Some page ↦ Ok (w.base + 4096 * page) ]) ≡ Ok stack
    go None k = absurd (cc k)
    go (Some page) k = ap (λ (a : ℕ). let x : Outcome ℕ = Ok a in x) (some_is (w.base + 4096 * page) stack (ok_same (Some (w.base + 4096 * page)) o k ∙ s))

-- there is one where a routine is named
stacks_none : (base : ℕ) (table : List Bool) (words : List (List ℕ)) (o : Option ℕ) → extra_start base table (pages_for words) ≡ Ok o → o ≡ None → stacks_for words ≡ 0
stacks_none base table [] o e s = refl
stacks_none base table (word ∷ words) o e s = go (lowest_run table 4) e
  where
    some_none : (a : ℕ) → Some a ≡ None → ⊥
    some_none a k = cc

    go : (l : Option ℕ)
        → ((elim l as (λ _. Outcome Taken) [ None ↦ Err (Exhausted 4 (longest_run table)) | Some page ↦ Ok (record { start = base + 4096 * page; table = filled table page 4 true }) ]) >>= (λ run. let x : Outcome (Option ℕ) = Ok (Some run.start) in x)) ≡ Ok o
        → stacks_for (word ∷ words) ≡ 0
    go None k = absurd (cc k)
    go (Some page) k = absurd (some_none (base + 4096 * page) (ok_same (Some (base + 4096 * page)) o k ∙ s))

stacks_some : (base : ℕ) (table : List Bool) (words : List (List ℕ)) (o : Option ℕ) (stack : ℕ) → extra_start base table (pages_for words) ≡ Ok o → o ≡ Some stack → stacks_for words ≡ 1
stacks_some base table [] o stack e s = absurd (none_some (ok_same None o e ∙ s))
  where
    none_some : None ≡ Some stack → ⊥
    none_some k = cc
stacks_some base table (word ∷ words) o stack e s = refl

patched_spare : (m : MemoryState) (fields : List FieldValue) → (fields_patched m fields).spare ≡ m.spare
patched_spare m [] = refl
patched_spare m (f ∷ fields) = patched_spare (field_patched m f) fields

-- the routines are numbered from 0
names_below : (cells : List NewCell) (n : ℕ) (bs : List Begin) (r : Routine) → In r (map (λ (p : ℕ × Begin). let x : Routine = record { name = p.0; entry = entry_among cells p.1 } in x) (numbered_from n bs)) → r.name < n + length bs
names_below cells n [] r i = absurd i
names_below cells n (b ∷ bs) r (inl e) = omega (arith, ap (λ (x : Routine). x.name) e)
names_below cells n (b ∷ bs) r (inr i) = let rest = names_below cells (suc n) bs r i in omega (arith, rest)

raised_more : (count a b : ℕ) → raised (raised count a) b ≡ raised count (a + b)
raised_more count a b = omega arith

looks_again : (n : Machine) (old : List CellId) (o : Option Outlook) → LooksBy (suspended n) old o → LooksBy n old o
looks_again n old None e = e
looks_again n old (Some o) e = (e.0, outlook_again n o e.1)

module _ {first : Machine} {asked : Change} {r : Ready} (q : CanFinish first asked r) where
  abbrev pub m : Machine
  m = q.before

  abbrev pub p : Plan
  p = q.plan_before

  abbrev pub k : Machine
  k = q.room

  abbrev words : List (List ℕ)
  words = asked.options.routines.now

  abbrev old : List CellId
  old = asked.replaced.items

  abbrev change : ChangeSaid
  change = wish q.is.begun

  abbrev budget : ℕ
  budget = asked.options.budget

  -- for each field there is a write left
  pub enough : length r.plan.patches.items + length r.plan.staged.fields.items + turns_in r.transfer ≤ r.writes
  enough =
      let count = q.ready.patched in
      let writes = q.ready.writes in
      let patches = ap (λ (o : Plan). length o.patches.items) q.ready.plan in
      let fields = ap (λ (o : Plan). length o.staged.fields.items) q.ready.plan in
      omega (arith, count, writes, patches, fields)

  pub fields_fit : length r.plan.patches.items + length r.plan.staged.fields.items ≤ r.writes
  fields_fit = omega (arith, enough)

  none_before : k.memory.undo ≡ None
  none_before = ap (λ (s : MemoryState). s.undo) q.ready.same.memory ∙ q.is.ready.undo

  abbrev rows : List LinkRow
  rows = rows_then m p q.is k r q.ready

  pub can_commit : (patches : List FieldValue) → patches ≡ r.plan.patches.items → CanCommit first r.plan.staged r.prepared patches r.plan.links rows
  can_commit patches a =
      let made = committable m p q.is k r q.ready in
      let begun = committable_begun k none_before r.writes r.plan.staged r.prepared r.plan.patches.items r.plan.links fields_fit made.0 in
      subst (λ (x : Machine). CanCommit x r.plan.staged r.prepared patches r.plan.links rows) (sym q.begun)
      (subst (λ (xs : List FieldValue). CanCommit (begun_in k r.writes) r.plan.staged r.prepared xs r.plan.links rows) (sym a)
      (begun.0, ap afters begun.1 ∙ made.1))

  -- what the change comes to, where a routine fails
  pub failed_so : (e : Refusal) → with_routines change q.is.plan ≡ Err e → ended change q.is.plan ≡ Err e
  failed_so e is =
      ap (λ (x : Outcome World). (x >>= (λ second. let y : Outcome World = Ok (restart_by q.is.plan.restarted second) in y)) >>= (λ w. refused_by (first_held_old change w) >> Ok w)) is

  module _ (n : Machine) (values : List FieldValue) (as_patched : values ≡ r.plan.patches.items) (left : length r.plan.links.unbinds.items ≤ n.graph.spare_rows)
      (commits : (c : IsCommittable first r.plan.staged r.prepared values r.plan.links)
      → IsCommitted first (memory_with first.memory r.plan.staged.regions.items values) (afters c.change.steps) (map arrived r.prepared.newcomers.items) r.plan.staged n) where
    committed : IsCommitted first (memory_with first.memory r.plan.staged.regions.items values) rows (map arrived r.prepared.newcomers.items) r.plan.staged n
    committed =
        subst (λ (ls : List LinkRow). IsCommitted first (memory_with first.memory r.plan.staged.regions.items values) ls (map arrived r.prepared.newcomers.items) r.plan.staged n) (can_commit values as_patched).1
        (commits (can_commit values as_patched).0)

    added : HasAdded (begun_in k r.writes) r rows n
    added =
        subst (λ (x : Machine). HasAdded x r rows n) q.begun
        (subst (λ (xs : List FieldValue). IsCommitted first (memory_with first.memory r.plan.staged.regions.items xs) rows (map arrived r.prepared.newcomers.items) r.plan.staged n) as_patched committed)

    all_added : HasAdded k r rows (suspended n)
    all_added = whole m p q.is k r q.ready r.writes n added

    sound_then : IsSound (suspended n)
    sound_then = sound m p q.is k r q.ready r.writes n added

    linked_is : world_of (suspended n) ≡ q.is.plan.linked
    linked_is = linked m p q.is k r q.ready (suspended n) all_added

    -- the stack of the routines
    stack_there : extra_start (world_of (suspended n)).base (page_table (world_of (suspended n))) (pages_for words) ≡ Ok p.stack
    stack_there =
        ap₂ (λ (b : ℕ) (table : List Bool). extra_start b table (pages_for words)) base_is
        (sym sound_then.table ∙ (ap (λ (x : SpaceState). x.taken) added.space ∙ ap (λ (x : Plan). x.staged.space.taken) q.ready.plan))
        ∙ q.is.stack
      where
        base_is : n.memory.base ≡ m.memory.base
        base_is = sym sound_then.base ∙ (ap (λ (x : SpaceState). x.base) added.space ∙ (ap (λ (x : Plan). x.staged.space.base) q.ready.plan ∙ q.is.ready.staged.base))

    spare_left : 1 ≤ n.memory.spare
    spare_left =
        let all = ap (λ (s : MemoryState). s.spare) added.memory in
        let fields = written_spare (fields_patched (all_mapped (begun_at k.memory r.writes) r.plan.staged.regions.items) r.plan.patches.items) r.plan.staged.fields.items in
        let patches = patched_spare (all_mapped (begun_at k.memory r.writes) r.plan.staged.regions.items) r.plan.patches.items in
        let regions = mapped_spare (begun_at k.memory r.writes) r.plan.staged.regions.items in
        let fits = q.ready.stack_room in
        let same = ap (λ (x : Plan). length x.staged.regions.items) q.ready.plan in
        omega (arith, all, fields, patches, regions, fits, same)

    module _ (now_laid : IsLaid n.memory.base n.memory.regions (n.memory.base + 4096 * n.memory.pages)) (kept : map shape_of (before_in n.memory) ≡ map shape_of n.memory.regions) where
      abbrev can_go_back : CanGoBack n r.back r.fresh
      can_go_back = record {
        before = m;
        asked = asked;
        plan_before = p;
        planned = q.is;
        room = k;
        ready = r;
        is = q.ready;
        count = r.writes;
        enough = fields_fit;
        added = added;
        turned = subst (λ (o : Plan). IsTurned o.links r.back) (sym q.ready.plan) q.ready.turned;
        left = left;
        fresh_are = refl;
      }

      begun_then : is_some n.memory.undo ≡ true
      begun_then = still n r.back r.fresh can_go_back

      writes_for : HasWrites n.memory (turns_in r.transfer)
      writes_for = turns_left n r.back r.fresh can_go_back (turns_in r.transfer) enough

      -- a transfer of the plan
      module _ (t : Transfer) (given : IsGiven m old p words budget t) where
        run : start_of_run (world_of (suspended n)) 4 ≡ Ok t.stack
        run = start_from (world_of (suspended n)) words p.stack t.stack stack_there given.stack

        abbrev old_names : List (List ℕ × ℕ)
        old_names = old_rows m old

        abbrev new_names : List (List ℕ × ℕ)
        new_names = new_rows p.staged.cells.items p.staged.names.items

        abbrev tables : Addresses
        tables = record { old = addresses_as old_names; new = addresses_as new_names }

        old_are : addresses_as old_names ≡ addresses_in (replaced change)
        old_are = old_said q.is.files asked m q.is.begun

        new_are : addresses_as new_names ≡ addresses_in q.is.plan.fresh
        new_are =
            ap₂ (λ (cs : List NewCell) (names : List (List Alias)). addresses_as (new_rows cs names)) q.is.ready.staged.cells
            (q.is.ready.staged.names ∙ sym (kept_placed names_of (λ s c. refl) q.is.ready.staged.starts q.is.ready.new))
            ∙ (new_said (placed_cells q.is.ready.staged.starts q.is.ready.new) ∙ ap addresses_in (sym q.is.fresh))

        tables_are : tables ≡ addresses_of change q.is.plan
        tables_are = ap₂ (λ (xs ys : List NameAddr). let x : Addresses = record { old = xs; new = ys } in x) old_are new_are

        with_is : with_routines change q.is.plan ≡ transferred_by t.names.items (transfer (world_of (suspended n)) t.stack tables t.routines.items t.budget)
        with_is =
            ap (λ (o : Option ℕ). elim o as (λ _. Outcome World) [ None ↦ Ok q.is.plan.linked | Some stack ↦ transferred_by words (transfer q.is.plan.linked stack (addresses_of change q.is.plan) q.is.plan.routines budget) ]) (q.is.stack_is ∙ given.stack)
            ∙ (ap (λ (w : World). transferred_by words (transfer w t.stack (addresses_of change q.is.plan) q.is.plan.routines budget)) (sym linked_is)
            ∙ (ap (λ (a : Addresses). transferred_by words (transfer (world_of (suspended n)) t.stack a q.is.plan.routines budget)) (sym tables_are)
            ∙ (ap (λ (rs : List Routine). transferred_by words (transfer (world_of (suspended n)) t.stack tables rs budget)) (q.is.routines ∙ sym given.routines)
            ∙ (ap (λ (b : ℕ). transferred_by words (transfer (world_of (suspended n)) t.stack tables t.routines.items b)) (sym given.budget_is)
            ∙ ap (λ (ns : List (List ℕ)). transferred_by ns (transfer (world_of (suspended n)) t.stack tables t.routines.items t.budget)) (sym given.names)))))

        can_carry : HasWrites n.memory t.budget → CanCarry n.memory t
        can_carry writes = record {
          begun = begun_then;
          writes = writes;
          room = room n sound_then t.stack run spare_left;
          zeros = given.zeros;
          unsealed = unsealed_stack n sound_then t.stack run;
          names = subst (λ (rs : List Routine). All (λ r. r.name < length t.names.items) rs) (sym given.routines)
              (In-All (λ (r : Routine). r.name < length t.names.items) (routines_among p.staged.cells.items (map begin_as p.begins.items)) (λ r i.
              let low = names_below p.staged.cells.items 0 (map begin_as p.begins.items) r i in
              let mapped = length-map p.begins.items begin_as in
              let named = q.is.named in
              let same = ap length given.names in
              omega (arith, low, mapped, named, same)));
        }

      pub can_run : CanRun n.memory r.transfer
      can_run = go r.transfer q.ready.given writes_for
        where
          go : (o : Option Transfer) → Gives m old p words budget o → HasWrites n.memory (turns_in o) → CanRun n.memory o
          go None given writes = tt
          go (Some t) given writes = can_carry t given writes

      -- the machine after the routines
      record IsSecond (s : MemoryState) : Type 0 where
        sound : IsSound (suspended (record n { memory = s }))
        patches : s.patches ≡ n.memory.patches
        maps : s.maps ≡ raised n.memory.maps (stacks_for words)
        is : with_routines change q.is.plan ≡ Ok (world_of (suspended (record n { memory = s })))

      record Ran (result : Result (Unit {0}) Refusal) (s : MemoryState) : Type 0 where
        back : before_in s ≡ before_in n.memory
        rest : s ≡ record n.memory { regions = s.regions; undo = s.undo; maps = s.maps }
        maps : s.maps ≡ raised n.memory.maps (stacks_for words)
        begun : is_some s.undo ≡ true
        done : result ≡ Ok tt → IsSecond s
        failed : (e : Refusal) → result ≡ Err e → with_routines change q.is.plan ≡ Err e

      no_failure : (e : Refusal) (result : Result (Unit {0}) Refusal) → result ≡ Ok tt → result ≡ Err e → ⊥
      no_failure e result a b = cc (sym a ∙ b)

      ran : (result : Result (Unit {0}) Refusal) (s : MemoryState) → HasRun n.memory r.transfer result s → Ran result s
      ran result s has = go r.transfer q.ready.given has
        where
          none_ran : p.stack ≡ None → s ≡ n.memory → result ≡ Ok tt → Ran result s
          none_ran stack same ok = record {
            back = ap before_in same;
            rest = subst (λ (x : MemoryState). x ≡ record n.memory { regions = x.regions; undo = x.undo; maps = x.maps }) (sym same) refl;
            maps = none_mapped;
            begun = ap (λ (x : MemoryState). is_some x.undo) same ∙ begun_then;
            done = λ e. record {
              sound = subst (λ (x : MemoryState). IsSound (suspended (record n { memory = x }))) (sym same) sound_then;
              patches = ap (λ (x : MemoryState). x.patches) same;
              maps = none_mapped;
              is = ap (λ (o : Option ℕ). elim o as (λ _. Outcome World) [ None ↦ Ok q.is.plan.linked | Some stack ↦ transferred_by words (transfer q.is.plan.linked stack (addresses_of change q.is.plan) q.is.plan.routines budget) ]) (q.is.stack_is ∙ stack)
                  ∙ (ap (λ (w : World). let x : Outcome World = Ok w in x) (sym linked_is)
                  ∙ ap (λ (x : MemoryState). let y : Outcome World = Ok (world_of (suspended (record n { memory = x }))) in y) (sym same));
            };
            failed = λ e f. absurd (no_failure e result ok f);
          }
            where
              unraised : (count : ℕ) → count ≤ 2 ^ 64 - 1 → raised count 0 ≡ count
              unraised count le = omega (arith, le)

              none_mapped : s.maps ≡ raised n.memory.maps (stacks_for words)
              none_mapped =
                  ap (λ (x : MemoryState). x.maps) same
                  ∙ (sym (unraised n.memory.maps sound_then.maps) ∙ ap (raised n.memory.maps) (sym (stacks_none m.memory.base p.staged.space.taken words p.stack q.is.stack stack)))

          some_ran : (t : Transfer) → IsGiven m old p words budget t → IsCarried n.memory t result s → Ran result s
          some_ran t given c =
              let x = c.done (old_names t given) (new_names t given) given.before given.after in
              let one_mapped : s.maps ≡ raised n.memory.maps (stacks_for words) =
              ap (λ (y : MemoryState). y.maps) c.rest ∙ ap (raised n.memory.maps) (sym (stacks_some m.memory.base p.staged.space.taken words p.stack t.stack q.is.stack given.stack)) in
              record {
                back = c.back;
                rest = subst (λ (k : ℕ). s ≡ record n.memory { regions = s.regions; undo = s.undo; maps = k }) (sym (ap (λ (y : MemoryState). y.maps) c.rest)) c.rest;
                maps = one_mapped;
                begun = c.begun;
                done = λ e. record {
                  sound = sound_after n sound_then t.stack (run t given) (tables t given) t.budget t.routines.items s c.rest x.0;
                  patches = ap (λ (y : MemoryState). y.patches) c.rest;
                  maps = one_mapped;
                  is = with_is t given ∙ transfer_done n sound_then t.stack (run t given) (tables t given) t.budget t.routines.items s c.rest x.0 t.names.items result x.1 e;
                };
                failed = λ f e. with_is t given ∙ transfer_failed n sound_then t.stack (run t given) (tables t given) t.budget t.routines.items s c.rest x.0 t.names.items result x.1 f e;
              }

          go : (o : Option Transfer) → Gives m old p words budget o → HasRun n.memory o result s → Ran result s
          go None given has = none_ran given has.0 has.1
          go (Some t) given has = some_ran t given has

      counted : (s : MemoryState) → s.patches ≡ n.memory.patches → s.maps ≡ raised n.memory.maps (stacks_for words) → HasCounted q (record n { memory = s })
      counted s patches maps = record {
        patches = patches ∙ patches_are m p q.is k r q.ready (suspended n) all_added;
        maps = maps
            ∙ (ap (λ (count : ℕ). raised count (stacks_for words)) (maps_are m p q.is k r q.ready (suspended n) all_added)
            ∙ raised_more k.memory.maps (length (flat_map cell_shapes q.is.plan.fresh)) (stacks_for words));
      }

      way_back : (result : Result (Unit {0}) Refusal) (s : MemoryState) → Ran result s → IsOpen q (record n { memory = s })
      way_back result s x = record {
        undo = record { added = n; can = can_go_back; laid = now_laid; kept = kept; like = refl; rest = x.rest; gives_back = x.back; begun = x.begun };
        leads = refl;
        counted = counted s (ap (λ (y : MemoryState). y.patches) x.rest) x.maps;
      }

      pub is_entered : (s : MemoryState) → HasRun n.memory r.transfer (Ok tt) s → IsEntered q r.plan.outlook (record n { memory = s })
      is_entered s has =
          let x : Ran (Ok tt) s = ran (Ok tt) s has in
          let second : IsSecond s = x.done refl in
          record {
            way_back = way_back (Ok tt) s x;
            entered = record {
              whole = whole_again (record n { memory = s }) second.sound;
              cells = cells_are m p q.is k r q.ready (suspended n) all_added ∙ ap (λ (cs : List Cell). (world_of m).cells ++ cs) (sym (fresh_is m p q.is k r q.ready));
              placed = (is_added m p q.is k r q.ready (suspended n) all_added).is.cells;
              counted = counted s second.patches second.maps;
            };
            is = second.is;
            tasks = (is_added m p q.is k r q.ready (suspended n) all_added).is.tasks;
            outlook_is = ap (λ (x : Plan). x.outlook) q.ready.plan;
            looked = looks_again (record n { memory = s }) asked.replaced.items r.plan.outlook (looked m p q.is k r q.ready (suspended n) all_added (with_undo None s) second.sound);
          }

      pub not_entered : (e : Refusal) (s : MemoryState) → HasRun n.memory r.transfer (Err e) s → (with_routines change q.is.plan ≡ Err e) × IsOpen q (record n { memory = s })
      not_entered e s has =
          let x : Ran (Err e) s = ran (Err e) s has in
          (x.failed e refl, way_back (Err e) s x)
