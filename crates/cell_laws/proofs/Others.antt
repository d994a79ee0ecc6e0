-- A command that brings no cells changes no target of a cell that stays.
use Rattle.std.proofs.Common.{◌≡◌, refl, sym, ◌∙◌, ap, subst, ℕ, List, map, Ok}
use Rattle.std.specs.Prelude.{All, IsTrue, length, nat_le, nat_lt}
use Rattle.cell_num.specs.Lists.{holds, In}
use Rattle.cell_object.specs.declared.object.Entry.{Entry}
use Rattle.cell_world.specs.declared.command.Command.{Command}
use Rattle.cell_world.specs.declared.command.Command.TheVariants.{Ns, Load, Spawn, Step, Run, Kill, Swap, Unload, Purge, Tasks, Find, Deps, Users, Map, Dump, DumpAll, Recover, Rebuild, Clone}
use Rattle.cell_world.specs.declared.refusal.Many.TheVariants.{Tasks as ManyTasks, TaskNumbers}
use Rattle.cell_world.specs.declared.refusal.Refusal.TheVariants.{NoEntry, TooMany}
use Rattle.cell_world.specs.declared.state.Namespace.{Namespace}
use Rattle.cell_world.specs.World.{World, Cell}
use Rattle.cell_world.specs.Gather.{Source}
use Rattle.cell_world.specs.Commands.NsCommand.{next_ns}
use Rattle.cell_world.specs.Placed.Place.{start_of_run}
use Rattle.cell_world.specs.Commands.SpawnCommand.{entry_named, next_spawn}
use Rattle.cell_world.specs.Linked.Target.{target_of}
use Rattle.cell_world.specs.Changed.{now_in}
use Rattle.cell_world.specs.Outcome.{found, need}
use Rattle.cell_world.specs.Answer.{Done, numbers_of, space_of}
use Rattle.cell_world.specs.Next.{outcome_of}
use Rattle.cell_world.specs.Coherent.{AreSound, IsCoherent}
use Rattle.cell_lemmas.proofs.Naming.Appended.{ok_same}
use Rattle.cell_num.proofs.Elements.{In-All, All-In, In-map, In-filtered}
use Rattle.cell_lemmas.proofs.Naming.NamespaceAdded.{Added, ns_ok}
use Rattle.cell_lemmas.proofs.NextCoherent.{dump_same, find_same, map_same}
use Rattle.cell_lemmas.proofs.Outcomes.{bind_ok, then_ok}
use Rattle.cell_lemmas.proofs.Naming.Spaces.{stands_there, target_stays}
use Rattle.cell_lemmas.specs.Kept.{KeepsCells}
use Rattle.cell_lemmas.proofs.Tasks.Commands.{step_cells, run_cells, kill_cells, tasks_same}
use Rattle.cell_lemmas.proofs.Holding.KeptPaths.{holds-In}
use Rattle.cell_lemmas.proofs.Holding.Removals.{Removed, removed_targets, purge_removed, unload_removed}
use Rattle.cell_laws.specs.Commands.{BringsNoCells}
use Rattle.cell_laws.specs.KeepsTargets.{KeepsTargets}
use Rattle.cell_laws.proofs.NextCoherent.{deps_same, users_same, outcome_coherent}
use Rattle.cell_lemmas.proofs.Holding.Settled.{found_now, mapped_same}
use Rattle.cell_change_law.proofs.Placing.{one_number}

module _ (w u : World) (h : IsCoherent w) (k : IsCoherent u) where
  -- where a cell is still present it is the one that it was
  kept_by : ((c : Cell) → In c w.cells → IsTrue (holds (numbers_of u.cells) c.id.0) → In c u.cells) → ((c : Cell) → In c w.cells → In c u.cells → (e : Entry) → In e c.object.entries → target_of u c e ≡ target_of w c e) → KeepsTargets w u
  kept_by there targets = In-All (λ (c : Cell). IsTrue (holds (numbers_of u.cells) c.id.0) → (now_in u c ≡ c) × All (λ (e : Entry). target_of u c e ≡ target_of w c e) c.object.entries) w.cells
      (λ c i s. (found_now u k c c (there c i s) refl, In-All (λ (e : Entry). target_of u c e ≡ target_of w c e) c.object.entries (targets c i (there c i s))))

  -- the same cells in the same namespaces
  same_kept : u.cells ≡ w.cells → u.namespaces ≡ w.namespaces → KeepsTargets w u
  same_kept cells spaces = kept_by (λ c i s. subst (λ (cs : List Cell). In c cs) (sym cells) i) (λ c i j e m.
      ap (λ (cs : List Cell). target_of (record w { cells = cs; namespaces = u.namespaces }) c e) cells
      ∙ ap (λ (ns : List Namespace). target_of (record w { namespaces = ns }) c e) spaces)

  removed_kept : Removed w u → KeepsTargets w u
  removed_kept r = kept_by there (λ c i j e m. mapped_same (target_of u c) (target_of w c) c.object.entries
      (All-In (λ (x : Cell). map (target_of u x) x.object.entries ≡ map (target_of w x) x.object.entries) u.cells (removed_targets w u h r) c j) e m)
    where
      back : (x : Cell) → In x u.cells → In x w.cells
      back x i = In-filtered _ w.cells x (subst (λ (v : World). In x v.cells) (sym r.is) i)

      there : (c : Cell) → In c w.cells → IsTrue (holds (numbers_of u.cells) c.id.0) → In c u.cells
      there c i s =
          let x = In-map (λ (y : Cell). y.id.0) u.cells c.id.0 (holds-In (numbers_of u.cells) c.id.0 s) in
          subst (λ (y : Cell). In y u.cells) (sym (one_number w h c x.0 i (back x.0 x.1) x.2)) x.1

module _ (sources : List Source) (w : World) (h : IsCoherent w) (d : Done) (k : IsCoherent d.world) where
  unchanged : w ≡ d.world → KeepsTargets w d.world
  unchanged e = same_kept w d.world h k (ap (λ (v : World). v.cells) (sym e)) (ap (λ (v : World). v.namespaces) (sym e))

  by_tasks : KeepsCells w d.world → KeepsTargets w d.world
  by_tasks e = same_kept w d.world h k (ap (λ (v : World). v.cells) e) (ap (λ (v : World). v.namespaces) e)

  by_ns : (name parent : List ℕ) → next_ns w name parent ≡ Ok d → KeepsTargets w d.world
  by_ns name parent e =
      let a : Added w name d.world = ns_ok w name parent d e in
      kept_by w d.world h k (λ c i s. subst (λ (v : World). In c v.cells) a.is i) (λ c i j x m.
      subst (λ (v : World). target_of v c x ≡ target_of w c x) a.is
      (target_stays w h.ready.spaces name a.parent c (stands_there w h.ready.spaces name a.parent h.ready.cells c i) x))

  by_spawn : (name symbol : List ℕ) (arg : ℕ) → next_spawn w name symbol arg ≡ Ok d → KeepsTargets w d.world
  by_spawn name symbol arg e =
      let ns = bind_ok (space_of w name) _ d e in
      let few = then_ok (need (nat_lt (length w.tasks) 64) (TooMany ManyTasks 64)) _ d ns.2 in
      let free = then_ok (need (nat_le w.next_task 65535) (TooMany TaskNumbers 65535)) _ d few.2 in
      let entry = bind_ok (found (entry_named w ns.0 symbol) (NoEntry symbol)) _ d free.2 in
      let stack = bind_ok (start_of_run w 4) _ d entry.2 in
      let is = ap (λ (x : Done). x.world) (ok_same _ d stack.2) in
      same_kept w d.world h k (ap (λ (v : World). v.cells) (sym is)) (ap (λ (v : World). v.namespaces) (sym is))

pub others_keep : (sources : List Source) (w : World) (command : Command) (d : Done) → BringsNoCells command → AreSound sources → (h : IsCoherent w) → outcome_of sources w command ≡ Ok d → KeepsTargets w d.world
others_keep sources w command d other sound h e = go command other e
  where
    k : IsCoherent d.world
    k = outcome_coherent sources w command sound h d e

    go : (command : Command) → BringsNoCells command → outcome_of sources w command ≡ Ok d → KeepsTargets w d.world
    go (Ns name parent) o e = by_ns sources w h d k name parent e
    go (Load name stem) o e = absurd o
    go (Find name symbol) o e = unchanged sources w h d k (find_same w name symbol d e)
    go (Spawn name symbol arg) o e = by_spawn sources w h d k name symbol arg e
    go (Step task n) o e = by_tasks sources w h d k (step_cells w task n d e)
    go (Run n) o e = by_tasks sources w h d k (run_cells w n d e)
    go (Kill task) o e = by_tasks sources w h d k (kill_cells w task d e)
    go (Swap items reexport strict routines budget) o e = absurd o
    go (Unload cells) o e = removed_kept w d.world h k (unload_removed w cells d h e)
    go Purge o e = removed_kept w d.world h k (purge_removed w d h e)
    go Tasks o e = unchanged sources w h d k (tasks_same w d e)
    go (Deps cell) o e = unchanged sources w h d k (deps_same w cell d e)
    go (Users cell) o e = unchanged sources w h d k (users_same w cell d e)
    go Map o e = unchanged sources w h d k (map_same w d e)
    go (Dump cell section) o e = unchanged sources w h d k (dump_same w cell section d e)
    go DumpAll o e = unchanged sources w h d k (ap (λ (x : Done). x.world) (ok_same _ d e))
    go (Recover task) o e = absurd o
    go (Rebuild task) o e = absurd o
    go (Clone name sibling) o e = absurd o
