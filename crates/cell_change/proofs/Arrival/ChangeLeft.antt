-- What the last step leaves of the machine after the routines is what the definition says.
use Rattle.std.proofs.Common.{◌≡◌, ◌<◌, refl, sym, ◌∙◌, ap, ap₂, subst, arith, ℕ, suc, ◌+◌, List, [], ◌∷◌, ◌++◌, map, length, Option, None, Some}
use Rattle.std.specs.Prelude.{Ok, filter, flat_map, if◌then◌else◌}
use Rattle.cell_num.specs.Lists.{holds}
use Rattle.std.proofs.lemmas.List.{length-map}
use Rattle.cell_num.specs.declared.ids.CellId.{CellId}
use Rattle.cell_num.proofs.Sublists.{In-fixed}
use Rattle.cell_world.specs.Change.{Change as ChangeSaid, first_held_old, garbage_after, old_of, with_sequel}
use Rattle.cell_world.specs.Kept.{Holding, holding_of}
use Rattle.cell_world.specs.Outcome.{Outcome, ◌>>=◌, ◌>>◌, refused_by}
use Rattle.cell_world.specs.Commands.UnloadCommand.{detached_of, first_held, garbage_of, purged, put_aside, without_cells}
use Rattle.cell_world.specs.World.{World, Cell}
use Rattle.cell_world.specs.declared.refusal.Refusal.{Refusal}
use Rattle.cell_world.specs.Answer.{ids, numbers_of}
use Rattle.cell_change_law.proofs.Ending.{swept_is, without_none}
use Rattle.cell_machine.specs.declared.machine.Machine.{Machine}
use Rattle.cell_machine.specs.Does.{cell_shapes}
use Rattle.cell_machine.specs.Machine.{IsSound, world_of}
use Rattle.cell_machine.specs.Same.{raised}
use Rattle.cell_machine.proofs.StagedWorld.{numbers_new}
use Rattle.cell_unload.specs.declared.survey.Survey.{Survey}
use Rattle.cell_unload.specs.Sweep.{aside_in, holding_in}
use Rattle.cell_change.specs.declared.request.Change.{Change}
use Rattle.cell_change.specs.declared.made.Made.{Made}
use Rattle.cell_change.specs.declared.ready.Ready.{Ready}
use Rattle.cell_change.specs.declared.planning.Plan.{Plan}
use Rattle.cell_change.specs.Asking.{is_strict}
use Rattle.cell_change.specs.Entering.{HasEntered, HasTried, Reads}
use Rattle.cell_change.specs.Exchanged.{CanFinish, HasFinished, are_aside, ended, named_in}
use Rattle.cell_change.specs.Planning.{wish}
use Rattle.cell_change.specs.Sweeping.{AreSwept, AreSweptBy}
use Rattle.cell_change.specs.Transferring.{stacks_for}
use Rattle.cell_change.proofs.ChangeFinished.{below, fields_are, fresh_are, fresh_is, new, stand}
use Rattle.cell_change.proofs.Arrival.ChangeRuns.{stay_all, stay_here}

ids_numbers : (cells : List Cell) → map (λ (id : CellId). id.0) (ids (numbers_of cells)) ≡ numbers_of cells
ids_numbers [] = refl
ids_numbers (c ∷ cells) = ap (λ (ns : List ℕ). c.id.0 ∷ ns) (ids_numbers cells)

module _ {first : Machine} {asked : Change} {r : Ready} (q : CanFinish first asked r) (n : Machine) (e : HasEntered q n) where
  abbrev m : Machine
  m = q.before

  abbrev p : Plan
  p = q.plan_before

  abbrev k : Machine
  k = q.room

  abbrev change : ChangeSaid
  change = wish q.is.begun

  abbrev fresh : List Cell
  fresh = new m p q.is k r q.ready

  fresh_same : q.is.plan.fresh ≡ fresh
  fresh_same = fresh_is m p q.is k r q.ready

  cells_are : (world_of n).cells ≡ (world_of m).cells ++ fresh
  cells_are = e.cells ∙ ap (λ (cs : List Cell). (world_of m).cells ++ cs) fresh_same

  -- what the change comes to, by what a strict one is refused for
  nothing_aside : aside_in n [] ≡ world_of n
  nothing_aside = ap (λ (cells : List Cell). let w : World = record (world_of n) { cells = cells } in w) (In-fixed (put_aside (suc (world_of n).swaps) []) (world_of n).cells (λ c i. refl))

  held_is : (if is_strict asked.options.ending then first_held (holding_in n []) (map (λ c. c.0) asked.replaced.items) else None) ≡ first_held_old change (world_of n)
  held_is = ap₂ (λ (h : Holding) (ns : List ℕ). if is_strict asked.options.ending then first_held h ns else None) (ap holding_of nothing_aside) q.is.begun.found.old

  pub ended_so : with_sequel change q.is.plan ≡ Ok (world_of n) → (o : Option Refusal) → o ≡ (if is_strict asked.options.ending then first_held (holding_in n []) (map (λ c. c.0) asked.replaced.items) else None) → ended change q.is.plan ≡ (refused_by o >> Ok (world_of n))
  ended_so is o same =
      ap (λ (x : Outcome World). x >>= (λ w. refused_by (first_held_old change w) >> Ok w)) is
      ∙ ap (λ (x : Option Refusal). refused_by x >> (let y : Outcome World = Ok (world_of n) in y)) (sym (same ∙ held_is))

  -- the last machine
  record IsLast (removed aside : List CellId) (l : Machine) : Type 0 where
    sound : IsSound l
    removed_are : removed ≡ ids (garbage_after (old_of change) (world_of n))
    world : world_of l ≡ without_cells (world_of n) (garbage_after (old_of change) (world_of n))
    aside_are : aside ≡ are_aside asked.replaced.items (world_of l)
    patches : l.memory.patches ≡ n.memory.patches
    maps : l.memory.maps ≡ n.memory.maps
    stay : named_in r.fresh (world_of l) ≡ fresh

  named_so : (w : World) → named_in r.fresh w ≡ named_in (ids (numbers_of fresh)) w
  named_so w = ap (λ (named : List CellId). named_in named w) (fresh_are m p q.is k r q.ready)

  by_numbers : (w : World) → named_in (ids (numbers_of fresh)) w ≡ filter (λ (c : Cell). holds (numbers_of fresh) c.id.0) w.cells
  by_numbers w = ap (λ (ns : List ℕ). filter (λ (c : Cell). holds ns c.id.0) w.cells) (ids_numbers fresh)

  module _ (whole : IsSound n) (removed aside : List CellId) (l : Machine) where
    -- no cell was replaced
    unswept : asked.replaced.items ≡ [] → l ≡ n → removed ≡ [] → aside ≡ [] → IsLast removed aside l
    unswept none same no_removed no_aside = record {
      sound = subst IsSound (sym same) whole;
      removed_are = no_removed ∙ ap (λ (ns : List ℕ). ids (garbage_after ns (world_of n))) (sym no_old);
      world = ap world_of same ∙ (sym (without_none (world_of n)) ∙ ap (λ (ns : List ℕ). without_cells (world_of n) (garbage_after ns (world_of n))) (sym no_old));
      aside_are = no_aside ∙ ap (λ (old : List CellId). are_aside old (world_of l)) (sym none);
      patches = ap (λ (x : Machine). x.memory.patches) same;
      maps = ap (λ (x : Machine). x.memory.maps) same;
      stay =
          named_so (world_of l)
          ∙ (by_numbers (world_of l)
          ∙ (ap (λ (x : Machine). filter (λ (c : Cell). holds (numbers_of fresh) c.id.0) (world_of x).cells) same
          ∙ stay_here (world_of n) (world_of m).cells fresh cells_are m.next (below m p q.is k r q.ready) (numbers_new (world_of m) q.is.ready.new p.staged q.is.ready.staged q.is.ready.there) (stand m p q.is k r q.ready)));
    }
      where
        no_old : old_of change ≡ []
        no_old = sym q.is.begun.found.old ∙ ap (map (λ (c : CellId). c.0)) none

    -- some were
    swept : 0 < length asked.replaced.items → AreSweptBy n removed aside l → IsLast removed aside l
    swept some s = record {
      sound = s.sound;
      removed_are = s.gone ∙ ap ids (sym gone.0);
      world = s.left ∙ sym gone.1;
      aside_are = s.aside_are ∙ some_aside asked.replaced.items some;
      patches = s.patches;
      maps = s.maps;
      stay =
          named_so (world_of l)
          ∙ (by_numbers (world_of l)
          ∙ (ap (λ (w : World). filter (λ (c : Cell). holds (numbers_of fresh) c.id.0) w.cells) s.left
          ∙ stay_all (world_of n) (world_of m).cells fresh cells_are m.next (below m p q.is k r q.ready) (numbers_new (world_of m) q.is.ready.new p.staged q.is.ready.staged q.is.ready.there) (stand m p q.is k r q.ready)));
    }
      where
        some_old : 0 < length (old_of change)
        some_old =
            let same = ap length q.is.begun.found.old in
            let mapped = length-map asked.replaced.items (λ (c : CellId). c.0) in
            omega (arith, some, same, mapped)

        gone : (garbage_after (old_of change) (world_of n) ≡ garbage_of (world_of n)) × (without_cells (world_of n) (garbage_after (old_of change) (world_of n)) ≡ purged (world_of n))
        gone = swept_is (world_of n) (old_of change) some_old

        some_aside : (old : List CellId) → 0 < length old → ids (detached_of (world_of l)) ≡ are_aside old (world_of l)
        some_aside [] lt = absurd (omega (arith, lt))
        some_aside (c ∷ old) lt = refl

    last_is : (survey : Option Survey) → Reads n asked.replaced.items survey → AreSwept n survey removed aside l → IsLast removed aside l
    last_is None none s = unswept none s.0 s.1 s.2
    last_is (Some survey) some s = swept some.0 s

  module _ (survey : Option Survey) (tried : HasTried q survey n) (removed aside : List CellId) (l : Machine) (are_swept : AreSwept n survey removed aside l) where
    whole : IsSound n
    whole = record { coherent = e.whole.coherent; parts = e.whole.parts; undo = tried.undo }

    x : IsLast removed aside l
    x = last_is whole removed aside l survey tried.read are_swept

    abbrev made : Made
    made = record { fresh = r.fresh; patched = r.patched; removed = removed; aside = aside }

    pub finished : HasFinished q made l
    finished = record {
      second = world_of n;
      is = tried.is;
      changed = record {
        sound = x.sound;
        fresh = fresh_are m p q.is k r q.ready ∙ ap (λ (cs : List Cell). ids (numbers_of cs)) (sym fresh_same);
        patched = q.ready.patched ∙ ap₂ (λ (a b : ℕ). a + b) (sym (fields_are m p q.is k r q.ready)) q.is.count;
        removed = x.removed_are;
        aside = x.aside_are;
        world = x.world;
        patches = x.patches ∙ e.patches;
        maps = x.maps ∙ (e.maps ∙ ap (λ (cs : List Cell). raised k.memory.maps (length (flat_map cell_shapes cs) + stacks_for asked.options.routines.now)) (fresh_same ∙ sym x.stay));
      };
    }
