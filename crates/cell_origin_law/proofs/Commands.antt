-- Each command keeps what a machine has of its files.
use Rattle.std.proofs.Common.{◌≡◌, refl, sym, ap, subst, arith, ℕ, inl, inr, ◌⊎◌, true, List, [], ◌∷◌, ◌++◌, length, map, Some, Ok}
use Rattle.std.specs.Prelude.{nat_le, nat_lt}
use Rattle.std.specs.List.{list_all}
use Rattle.cell_num.specs.Lists.{In}
use Rattle.cell_num.proofs.Elements.{All-In, In-All, In-append, In-map, all-In}
use Rattle.cell_depot.specs.ObjectName.{is_object_name}
use Rattle.cell_script.specs.Grammar.{is_name}
use Rattle.cell_script.specs.Script.{is_said}
use Rattle.cell_world.specs.declared.command.Command.{Command}
use Rattle.cell_world.specs.declared.command.Command.TheVariants.{Clone, Deps, Dump, DumpAll, Find, Kill, Load, Map, Ns, Purge, Rebuild, Recover, Run, Spawn, Step, Swap, Tasks, Unload, Users}
use Rattle.cell_world.specs.declared.file.File.{File}
use Rattle.cell_world.specs.declared.refusal.Many.TheVariants.{Tasks as ManyTasks, TaskNumbers}
use Rattle.cell_world.specs.declared.refusal.Refusal.TheVariants.{NoEntry, TooMany}
use Rattle.cell_world.specs.declared.state.Namespace.{Namespace}
use Rattle.cell_world.specs.Answer.{Done, present_cell, space_of}
use Rattle.cell_world.specs.Coherent.{AreSound, IsCoherent}
use Rattle.cell_world.specs.Gather.{Source, source_of}
use Rattle.cell_world.specs.Commands.Asked.{next_clone}
use Rattle.cell_world.specs.Commands.LinkCommands.{next_deps, next_users}
use Rattle.cell_world.specs.Next.{outcome_of}
use Rattle.cell_world.specs.Commands.NsCommand.{next_ns, with_namespace}
use Rattle.cell_world.specs.Outcome.{found, need}
use Rattle.cell_world.specs.Placed.Place.{start_of_run}
use Rattle.cell_world.specs.Commands.SpawnCommand.{entry_named, next_spawn}
use Rattle.cell_world.specs.World.{Cell, World, empty_world}
use Rattle.cell_lemmas.specs.Kept.{KeepsCells}
use Rattle.cell_lemmas.proofs.Naming.Appended.{ok_same}
use Rattle.cell_lemmas.proofs.Tasks.Commands.{kill_cells, run_cells, step_cells, tasks_same}
use Rattle.cell_lemmas.proofs.Naming.NamespaceAdded.{Added, ns_ok}
use Rattle.cell_lemmas.proofs.NextCoherent.{dump_same, find_same, map_same}
use Rattle.cell_lemmas.proofs.Outcomes.{bind_ok, then_ok}
use Rattle.cell_lemmas.proofs.Holding.Removals.{Removed, purge_removed, unload_removed}
use Rattle.cell_change_law.specs.Cloned.{HasCloned}
use Rattle.cell_change_law.proofs.Asking.{base_coherent, clone_base, clone_made, cloned, load_made, rebuild_made, recover_made, swap_made}
use Rattle.cell_origin_law.specs.Readings.{AreApart, AreRead, IsRead}
use Rattle.cell_origin_law.specs.Spelled.{AreNamed, IsNamedSource, IsSpelled, IsSpelledCell}
use Rattle.cell_origin_law.proofs.Changes.{IsKept, as_before, change_kept, without_kept}
use Rattle.cell_origin_law.proofs.FileNames.{file_named_well, stem_named}
use Rattle.cell_origin_law.proofs.Numbers.{reading_short}

source_named : (f : File) → is_object_name f.name ≡ true → IsNamedSource (source_of f)
source_named f h = record { stem = stem_named f.name h; file = file_named_well f.name h; reading = reading_short f.bytes }

-- the files of a folder
pub files_named : (files : List File) → list_all (λ f. is_object_name f.name) files ≡ true → AreNamed (map source_of files)
files_named files h =
    In-All IsNamedSource (map source_of files) (λ s i.
    let f = In-map source_of files s i in
    subst IsNamedSource (sym f.2) (source_named f.0 (all-In (λ (f : File). is_object_name f.name) files h f.0 f.1)))

-- the machine before the first command
pub empty_spelled : (base pages : ℕ) → IsSpelled (empty_world base pages)
empty_spelled base pages = record {
  spaces = In-All (λ (s : Namespace). is_name s.name ≡ true) (empty_world base pages).namespaces (λ s i. go s i);
  cells = In-All IsSpelledCell [] (λ c i. absurd i);
  next = omega arith;
}
  where
    go : (s : Namespace) → In s (empty_world base pages).namespaces → is_name s.name ≡ true
    go s (inl e) = subst (λ (x : Namespace). is_name x.name ≡ true) (sym e) refl
    go s (inr i) = absurd i

abbrev added : List ℕ → ℕ → Namespace
added name above = record { name = name; parent = Some above }

module _ (sources : List Source) (sound : AreSound sources) (apart : AreApart sources) (named : AreNamed sources) (w : World) (h : IsCoherent w) (k : IsKept sources w) where
  unchanged : (u : World) → w ≡ u → IsKept sources u
  unchanged u e = subst (IsKept sources) e k

  -- one namespace more
  with_kept : (name : List ℕ) (above : ℕ) → is_name name ≡ true → IsKept sources (with_namespace w name above)
  with_kept name above good = record {
    cells = k.cells;
    spelled = record {
      spaces = In-All (λ (s : Namespace). is_name s.name ≡ true) (w.namespaces ++ added name above ∷ []) (λ s i. spelled s (In-append w.namespaces (added name above ∷ []) s i));
      cells = k.spelled.cells;
      next = k.spelled.next;
    };
    few = k.few;
  }
    where
      spelled : (s : Namespace) → In s w.namespaces ⊎ In s (added name above ∷ []) → is_name s.name ≡ true
      spelled s (inl i) = All-In (λ (s : Namespace). is_name s.name ≡ true) w.namespaces k.spelled.spaces s i
      spelled s (inr (inl same)) = subst (λ (x : Namespace). is_name x.name ≡ true) (sym same) good
      spelled s (inr (inr i)) = absurd i

  by_ns : (name parent : List ℕ) → is_name name ≡ true → (d : Done) → next_ns w name parent ≡ Ok d → IsKept sources d.world
  by_ns name parent good d e = let a : Added w name d.world = ns_ok w name parent d e in subst (IsKept sources) a.is (with_kept name a.parent good)

  by_clone : (name sibling : List ℕ) → is_name sibling ≡ true → (d : Done) → next_clone sources w name sibling ≡ Ok d → IsKept sources d.world
  by_clone name sibling good d e =
      let c : HasCloned sources w name sibling d = cloned sources w name sibling d e in
      change_kept sources apart named (clone_base sources w h sibling c.may) (base_coherent sources w h sibling c.may) (with_kept sibling c.parent good) d (clone_made sources w h name sibling d c)

  by_tasks : (u : World) → KeepsCells w u → IsKept sources u
  by_tasks u e = as_before sources apart named w k u (ap (λ (v : World). v.cells) e) (ap (λ (v : World). v.namespaces) e) (ap (λ (v : World). v.next_cell) e)

  by_removal : (u : World) → Removed w u → IsKept sources u
  by_removal u r = subst (IsKept sources) r.is (without_kept sources apart named w k r.numbers)

  by_spawn : (name symbol : List ℕ) (arg : ℕ) (d : Done) → next_spawn w name symbol arg ≡ Ok d → IsKept sources d.world
  by_spawn name symbol arg d e =
      let ns = bind_ok (space_of w name) _ d e in
      let few = then_ok (need (nat_lt (length w.tasks) 64) (TooMany ManyTasks 64)) _ d ns.2 in
      let free = then_ok (need (nat_le w.next_task 65535) (TooMany TaskNumbers 65535)) _ d few.2 in
      let entry = bind_ok (found (entry_named w ns.0 symbol) (NoEntry symbol)) _ d free.2 in
      let stack = bind_ok (start_of_run w 4) _ d entry.2 in
      let is = ap (λ (x : Done). x.world) (ok_same _ d stack.2) in
      as_before sources apart named w k d.world (ap (λ (v : World). v.cells) (sym is)) (ap (λ (v : World). v.namespaces) (sym is)) (ap (λ (v : World). v.next_cell) (sym is))

  by_deps : (cell : ℕ) (d : Done) → next_deps w cell ≡ Ok d → IsKept sources d.world
  by_deps cell d e = let a = bind_ok (present_cell w cell) _ d e in unchanged d.world (ap (λ (x : Done). x.world) (ok_same _ d a.2))

  by_users : (cell : ℕ) (d : Done) → next_users w cell ≡ Ok d → IsKept sources d.world
  by_users cell d e = let a = bind_ok (present_cell w cell) _ d e in unchanged d.world (ap (λ (x : Done). x.world) (ok_same _ d a.2))

  outcome_kept : (command : Command) → is_said command ≡ true → (d : Done) → outcome_of sources w command ≡ Ok d → IsKept sources d.world
  outcome_kept (Ns name parent) said d e = by_ns name parent said d e
  outcome_kept (Load name stem) said d e = change_kept sources apart named w h k d (load_made sources sound w h name stem d e)
  outcome_kept (Find name symbol) said d e = unchanged d.world (find_same w name symbol d e)
  outcome_kept (Spawn name symbol arg) said d e = by_spawn name symbol arg d e
  outcome_kept (Step task n) said d e = by_tasks d.world (step_cells w task n d e)
  outcome_kept (Run n) said d e = by_tasks d.world (run_cells w n d e)
  outcome_kept (Kill task) said d e = by_tasks d.world (kill_cells w task d e)
  outcome_kept (Swap items reexport strict routines budget) said d e = change_kept sources apart named w h k d (swap_made sources w h items reexport strict routines budget d e)
  outcome_kept (Unload cells) said d e = by_removal d.world (unload_removed w cells d h e)
  outcome_kept Purge said d e = by_removal d.world (purge_removed w d h e)
  outcome_kept Tasks said d e = unchanged d.world (tasks_same w d e)
  outcome_kept (Deps cell) said d e = by_deps cell d e
  outcome_kept (Users cell) said d e = by_users cell d e
  outcome_kept Map said d e = unchanged d.world (map_same w d e)
  outcome_kept (Dump cell section) said d e = unchanged d.world (dump_same w cell section d e)
  outcome_kept DumpAll said d e = unchanged d.world (ap (λ (x : Done). x.world) (ok_same _ d e))
  outcome_kept (Recover task) said d e = change_kept sources apart named w h k d (recover_made sources w h task d e)
  outcome_kept (Rebuild task) said d e = change_kept sources apart named w h k d (rebuild_made sources w h task d e)
  outcome_kept (Clone name sibling) said d e = by_clone name sibling said d e

-- read and spelled
pub outcome_keeps : (sources : List Source) → AreSound sources → AreApart sources → AreNamed sources → (w : World) → IsCoherent w → AreRead sources w → IsSpelled w
    → (command : Command) → is_said command ≡ true → (d : Done) → outcome_of sources w command ≡ Ok d → AreRead sources d.world × IsSpelled d.world
outcome_keeps sources sound apart named w h read spelled command said d e =
    let before : IsKept sources w = record {
      cells = In-All (λ (c : Cell). IsRead sources c × IsSpelledCell c) w.cells (λ c i. (All-In (IsRead sources) w.cells read c i, All-In IsSpelledCell w.cells spelled.cells c i));
      spelled = spelled;
      few = h.ready.few_cells;
    } in
    let after : IsKept sources d.world = outcome_kept sources sound apart named w h before command said d e in (
      In-All (IsRead sources) d.world.cells (λ c i. (All-In (λ (c : Cell). IsRead sources c × IsSpelledCell c) d.world.cells after.cells c i).0),
      after.spelled,
    )
