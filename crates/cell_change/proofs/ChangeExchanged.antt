-- A change by its plan, and by the last steps.
use Rattle.std.proofs.Common.{◌≡◌, refl, sym, ◌∙◌, ap, ap₂, subst, arith, ℕ, ◌+◌, ◌*◌, ◌<◌, ◌^◌, List, Option, length}
use Rattle.std.specs.Prelude.{flat_map, All, Err, IsErrAnd, IsTrue, MatchResult, Ok, Result, nat_lt}
use Rattle.std.proofs.lemmas.Result.{err_from_is_err_and}
use Rattle.cell_world.specs.declared.fail.Fail.{Fail}
use Rattle.cell_world.specs.declared.fail.Fail.TheVariants.{Refused, OutOfMemory}
use Rattle.cell_world.specs.declared.file.File.{File}
use Rattle.cell_change.specs.declared.made.Made.{Made}
use Rattle.cell_hold.specs.declared.roots.Root.{Root}
use Rattle.cell_lemmas.specs.LinkSteps.{afters}
use Rattle.cell_machine.specs.declared.machine.Machine.{Machine}
use Rattle.cell_machine.specs.Does.{HasRisen, Most, cell_shapes, counted_before}
use Rattle.cell_machine.specs.Machine.{AreParts, world_of}
use Rattle.cell_machine.specs.Same.{raised}
use Rattle.cell_machine.proofs.Same.{counts_same, maps_same, patches_same, world_same}
use Rattle.cell_machine.proofs.Unchanged.{same_itself}
use Rattle.cell_world.specs.Coherent.{IsLoadable}
use Rattle.cell_load.proofs.Ready.{all_loadable, as_many}
use Rattle.cell_change.specs.declared.request.Change.{Change}
use Rattle.cell_change.specs.declared.planning.Plan.{Plan}
use Rattle.cell_change.specs.declared.ready.Ready.{Ready}
use Rattle.cell_change.specs.Counted.{most_by}
use Rattle.cell_change.specs.Planning.{IsPlan, Plans, planned, wish}
use Rattle.cell_change.proofs.Decision.AddressesSaid.{old_cells}
use Rattle.cell_change.proofs.Decision.Began.{parts}
use Rattle.cell_change.proofs.Late.{ended_late, risen, unrisen}
use Rattle.cell_change.proofs.ChangeFinished.{fields_are}
use Rattle.cell_world.specs.Linked.Relink.{field_count}
use Rattle.cell_world.specs.Outcome.{Outcome, ◌>>=◌}
use Rattle.cell_world.specs.Change.{Plan as PlanSaid}
use Rattle.cell_world.specs.declared.refusal.Refusal.{Refusal}
use Rattle.cell_machine.specs.Same.{IsSame, without_counts}
use Rattle.cell_mem.specs.State.{MemoryState}
use Rattle.cell_change.specs.Before.{begun_in}
use Rattle.cell_change.specs.Exchanged.{CanFinish, CanTake, Exchanges, Finishes, HasBegun, HasExchanged, IsPlanned, IsReadyFor, ended, exchanged, named_in}
use Rattle.cell_change.specs.Transferring.{stacks_for}
use Rattle.cell_routines.specs.declared.entries.Begin.{Begin}
use Rattle.cell_num.specs.Lists.{each_pair, In}
use Rattle.cell_num.proofs.Elements.{In-All, In-map, In-right, pairs-map}
use Rattle.cell_lemmas.specs.Loads.{placed_after, placed_cells}
use Rattle.cell_machine.proofs.Low.{is_low}
use Rattle.cell_machine.proofs.StagedWorld.{numbers_rise}
use Rattle.cell_placed.specs.Low.{IsLow}
use Rattle.cell_space.specs.Joined.{placed_of}
use Rattle.cell_world.specs.World.{Cell, World}
use Rattle.cell_world.specs.declared.state.NewCell.{NewCell}

-- what is the same but for counts as what is the same
counts_then : (m k l : Machine) → IsSame m k → IsSame k (without_counts k l) → IsSame m (without_counts m l)
counts_then m k l a b = record {
  cells = b.cells ∙ a.cells;
  soft = b.soft ∙ a.soft;
  next = b.next ∙ a.next;
  swaps = b.swaps ∙ a.swaps;
  namespaces = b.namespaces ∙ a.namespaces;
  known = b.known ∙ a.known;
  space = b.space ∙ a.space;
  spare = b.spare;
  memory = ap (counted m) b.memory ∙ ap (λ (s : MemoryState). let x : MemoryState = record s { spare = b.spare; patches = m.memory.patches; maps = m.memory.maps } in x) a.memory;
  sections = b.sections ∙ a.sections;
  rows = b.rows ∙ a.rows;
  tasks = b.tasks ∙ a.tasks;
}
  where
    counted : Machine → MemoryState → MemoryState
    counted m s = record s { patches = m.memory.patches; maps = m.memory.maps }

module _ (files : List File) (asked : Change) (m : Machine) (roots : Option (List Root)) (h : HasBegun files asked m roots) where
  abbrev after_plan : PlanSaid → Outcome (PlanSaid × World)
  after_plan plan = ended (wish h.begun) plan >>= (λ second. Ok (plan, second))

  -- nothing is done
  abbrev most : Most
  most = most_by (planned files asked m h.begun) (stacks_for asked.options.routines.now)

  here : AreParts m
  here = parts files asked m h.begun

  pub unplanned : (fail : Fail) → Plans files asked m h.begun roots (Err fail) → Exchanges files asked m h.begun (Err fail) m
  unplanned (Refused r) e = (
    ap (λ (x : Outcome PlanSaid). x >>= after_plan) e,
    (
      counts_same m m (same_itself m),
      record {
        world = refl;
        patches = unrisen (counted_before r most).patches m.memory.patches here.patches;
        maps = unrisen (counted_before r most).maps m.memory.maps here.maps;
      },
    ),
  )
  unplanned OutOfMemory e = same_itself m

  module _ (p : Plan) (is : IsPlan files asked m h.begun roots p) where
    names_fit : length p.staged.names.items ≡ length p.staged.cells.items
    names_fit = as_many m is.changed (afters is.change.steps) p.staged is.ready

    loadable : All (λ c. IsLoadable c.object) p.staged.cells.items
    loadable = all_loadable m is.changed (afters is.change.steps) p.staged is.ready

    abbrev pub plan_is : IsPlanned m asked p
    plan_is = record { files = files; begun = h.begun; roots = roots; rooted = h.rooted; made = is }

    -- the new cells in their places
    abbrev new : List Cell
    new = placed_cells is.ready.staged.starts is.ready.new

    abbrev later : World
    later = placed_after is.ready.staged.starts (world_of m) is.ready.new

    low : (world_of m).base + 4096 * (world_of m).pages < 2 ^ 63
    low =
        let space = is.ready.coherent.ready.space in
        let base = is.ready.like.base in
        let pages = is.ready.like.pages in
        omega (arith, base, pages)

    -- the new cells are low, and in the order of their numbers
    staged_low : All IsLow p.staged.cells.items
    staged_low = In-All IsLow p.staged.cells.items (λ c i.
        let d = In-map placed_of new c (subst (λ (cs : List NewCell). In c cs) is.ready.staged.cells i) in
        subst IsLow (sym d.2) (is_low later is.ready.there.linkable low d.0 (In-right (world_of m).cells new d.0 d.1)))

    staged_rise : IsTrue (each_pair (λ (a b : NewCell). nat_lt a.id.0 b.id.0) p.staged.cells.items)
    staged_rise =
        ap (each_pair (λ (a b : NewCell). nat_lt a.id.0 b.id.0)) is.ready.staged.cells
        ∙ (pairs-map (λ (a b : NewCell). nat_lt a.id.0 b.id.0) placed_of (placed_cells is.ready.staged.starts is.ready.new)
        ∙ numbers_rise (world_of m) is.ready.new p.staged is.ready.staged is.ready.there)

    begins_low : All (λ (b : Begin). b.offset < 2 ^ 32) p.begins.items
    begins_low = is.begins

    pub can_take : CanTake m asked p
    can_take = record {
      old = old_cells files asked m h.begun;
      low = staged_low;
      order = staged_rise;
      loadable = loadable;
      names = names_fit;
      begins = begins_low;
    }

    module _ (k : Machine) (r : Ready) (ready : IsReadyFor m asked p k r) (n : Machine) (begun : n ≡ begun_in k r.writes) where
      abbrev pub can_finish : CanFinish n asked r
      can_finish = record { before = m; plan_before = p; is = plan_is; room = k; ready = ready; begun = begun }

      by_plan : exchanged files asked m h.begun ≡ after_plan plan_is.plan
      by_plan = ap (λ (x : Outcome PlanSaid). x >>= after_plan) plan_is.is

      pub was_exchanged : (made : Made) (l : Machine) → Finishes can_finish (Ok made) l → HasExchanged files asked m h.begun made l
      was_exchanged made l s = record {
        plan = plan_is.plan;
        second = s.second;
        is = by_plan ∙ ap (λ (x : Outcome World). x >>= (λ second. let y : Outcome (PlanSaid × World) = Ok (plan_is.plan, second) in y)) s.is;
        changed = record {
          sound = s.changed.sound;
          fresh = s.changed.fresh;
          patched = s.changed.patched;
          removed = s.changed.removed;
          aside = s.changed.aside;
          world = s.changed.world;
          patches = s.changed.patches ∙ ap (λ (count : ℕ). raised count made.patched) (patches_same m k ready.same);
          maps = s.changed.maps ∙ ap (λ (count : ℕ). raised count (length (flat_map cell_shapes (named_in made.fresh (world_of l))) + stacks_for asked.options.routines.now)) (maps_same m k ready.same);
        };
      }

      pub was_refused : (refusal : Refusal) (l : Machine) → Finishes can_finish (Err refusal) l → Exchanges files asked m h.begun (Err (Refused refusal)) l
      was_refused refusal l s = (
        by_plan ∙ ap (λ (x : Outcome World). x >>= (λ second. let y : Outcome (PlanSaid × World) = Ok (plan_is.plan, second) in y)) s.0,
        (
          back,
          record {
            world = world_same m (without_counts m l) back;
            patches = subst (λ (x : Most). HasRisen x.patches m.memory.patches l.memory.patches) (sym late) (risen most.patches m.memory.patches l.memory.patches here.patches patched);
            maps = subst (λ (x : Most). HasRisen x.maps m.memory.maps l.memory.maps) (sym late) (risen most.maps m.memory.maps l.memory.maps here.maps mapped);
          },
        ),
      )
        where
          back : IsSame m (without_counts m l)
          back = counts_then m k l ready.same s.1.same

          late : counted_before refusal most ≡ most
          late = ended_late most (wish h.begun) plan_is.plan refusal s.0

          most_is : most ≡ most_by (let x : Outcome PlanSaid = Ok plan_is.plan in x) (stacks_for asked.options.routines.now)
          most_is = ap (λ (x : Outcome PlanSaid). most_by x (stacks_for asked.options.routines.now)) plan_is.is

          fields : r.patched ≡ field_count plan_is.plan.fresh + length plan_is.plan.changed
          fields = ready.patched ∙ ap₂ (λ (a b : ℕ). a + b) (sym (fields_are m p plan_is k r ready)) plan_is.count

          patched : l.memory.patches ≡ raised m.memory.patches most.patches
          patched =
              s.1.patches
              ∙ (ap₂ raised (patches_same m k ready.same) fields ∙ ap (λ (x : Most). raised m.memory.patches x.patches) (sym most_is))

          mapped : l.memory.maps ≡ raised m.memory.maps most.maps
          mapped =
              s.1.maps
              ∙ (ap (λ (count : ℕ). raised count (length (flat_map cell_shapes plan_is.plan.fresh) + stacks_for asked.options.routines.now)) (maps_same m k ready.same)
              ∙ ap (λ (x : Most). raised m.memory.maps x.maps) (sym most_is))

      pub was_finished : (said : Result Made Refusal) (result : Result Made Fail) (l : Machine) → MatchResult said (λ made. result ≡ Ok made) (λ refusal. IsErrAnd result (λ fail. fail ≡ Refused refusal)) → Finishes can_finish said l → Exchanges files asked m h.begun result l
      was_finished (Ok made) result l same s = rw same (was_exchanged made l s)
      was_finished (Err refusal) result l same s =
          let p = err_from_is_err_and result same in
          rw (p.1, p.2) (was_refused refusal l s)
