-- A machine in which the cells are put aside that a change replaces.
use Rattle.std.proofs.Common.{◌≡◌, refl, sym, ◌∙◌, ap, subst, ℕ, suc, ◌<◌, Bool, true, not, ◌&&◌, List, length, map}
use Rattle.std.specs.Prelude.{All, IsSome, Option, Some, None, find, option_map}
use Rattle.std.specs.List.{list_all}
use Rattle.std.specs.Option.{ForSome}
use Rattle.std.proofs.lemmas.Bool.{eq-eqb, ltb-true}
use Rattle.cell_num.specs.declared.ids.CellId.{CellId}
use Rattle.cell_num.specs.Lists.{holds, In}
use Rattle.cell_world.specs.declared.file.File.{File}
use Rattle.cell_world.specs.Coherent.{AreSound, IsCoherent, is_known_cell}
use Rattle.cell_world.specs.Gather.{Source, source_of}
use Rattle.cell_world.specs.Change.{Want as Wanted, old_of, replaced, set_aside, swapped_out}
use Rattle.cell_world.specs.World.{Cell, World}
use Rattle.cell_world.specs.declared.state.Standing.TheVariants.{Detached, Attached}
use Rattle.cell_num.proofs.Elements.{In-All, In-map, all-In, find_there, map-In}
use Rattle.cell_lemmas.proofs.Naming.Known.{known_parts}
use Rattle.cell_lemmas.proofs.Holding.KeptPaths.{In-holds}
use Rattle.cell_lemmas.proofs.Naming.Lookups.{filter_map-In}
use Rattle.cell_lemmas.proofs.Targeting.Detached.{put, put_in}
use Rattle.cell_change_law.specs.Sound.{IsSound}
use Rattle.cell_change_law.proofs.Gathering.{at, base_world}
use Rattle.cell_space.specs.Machine.{called}
use Rattle.cell_space.specs.Named.{is_in, is_numbered}
use Rattle.cell_space.specs.Spaces.{HasDetached}
use Rattle.cell_space.specs.declared.cell.SpaceCell.{SpaceCell}
use Rattle.cell_gather.specs.declared.want.Want.{Want}
use Rattle.cell_gather.specs.Gathering.{IsOf}
use Rattle.cell_machine.specs.declared.machine.Machine.{Machine}
use Rattle.cell_machine.specs.Machine.{AreParts, world_of}
use Rattle.cell_machine.specs.Staged.{IsLike}
use Rattle.cell_load.proofs.Sources.{sources_sound}
use Rattle.cell_change.specs.declared.request.Change.{Change}
use Rattle.cell_change.specs.Asking.{IsWantOf}
use Rattle.cell_change.specs.Planning.{IsBegun, wish}
use Rattle.cell_change.proofs.Decision.Wanting.{asked_sound, one_wanted}
use Rattle.cell_change.proofs.Decision.OldStates.{aside_like, aside_parts, aside_undo, aside_world}

is_some_of : {A : Type 0} (o : Option A) (a : A) → o ≡ Some a → IsSome o
is_some_of None a e = absurd (cc e)
is_some_of (Some x) a e = refl

module _ (files : List File) (asked : Change) (m : Machine) (b : IsBegun files asked m) where
  abbrev pub sources : List Source
  sources = map source_of files

  -- the machine before
  abbrev pub v : World
  v = world_of b.before

  abbrev pub wants : List Wanted
  wants = b.found.wants

  abbrev pub old : List ℕ
  old = old_of (wish b)

  pub are : AreSound sources
  are = sources_sound files b.small

  pub h : IsCoherent v
  h = b.sound.coherent

  pub good : IsSound sources v (wish b)
  good = asked_sound sources v asked b.found

  -- the machine with the old cells put aside
  abbrev pub u : World
  u = base_world sources are v h (wish b) good

  pub side_is : u ≡ set_aside v (wish b)
  side_is = (at sources are v h (wish b) good).is

  pub aside_is : world_of m ≡ u
  aside_is = aside_world b.before asked.replaced.items m b.sound b.aside ∙ (ap (swapped_out v) b.found.old ∙ sym side_is)

  pub parts : AreParts m
  parts = aside_parts b.before asked.replaced.items m b.sound b.aside

  pub no_undo : m.memory.undo ≡ None
  no_undo = aside_undo b.before asked.replaced.items m b.sound b.aside

  pub like : IsLike v m
  like = aside_like b.before asked.replaced.items m b.sound b.aside

  pub called_are : map called u.cells ≡ m.spaces.cells
  called_are = ap (λ (w : World). map called w.cells) (sym aside_is) ∙ parts.joined.called

  pub is_of : IsOf m.spaces m.next u
  is_of = record { namespaces = sym b.aside.namespaces; cells = called_are; number = sym b.aside.next }

  known : list_all (is_known_cell u) u.cells ≡ true
  known = (at sources are v h (wish b) good).base.known

  pub numbers_given : All (λ (c : SpaceCell). c.cell.0 < m.next) m.spaces.cells
  numbers_given =
      subst (λ (cs : List SpaceCell). All (λ (c : SpaceCell). c.cell.0 < m.next) cs) called_are
      (In-All (λ (c : SpaceCell). c.cell.0 < m.next) (map called u.cells) (λ c k. given c (In-map called u.cells c k)))
    where
      given : (c : SpaceCell) → (d : Cell) × In d u.cells × (c ≡ called d) → c.cell.0 < m.next
      given c d =
          subst (λ (n : ℕ). c.cell.0 < n) (sym b.aside.next)
          (subst (λ (x : SpaceCell). x.cell.0 < v.next_cell) (sym d.2) (ltb-true d.0.id.0 v.next_cell (known_parts u d.0 (all-In (is_known_cell u) u.cells known d.0 d.1)).number))

  of_want : (want : Want) → In want asked.wants.items → (wanted : Wanted) × In wanted wants × IsWantOf sources v wanted want
  of_want = one_wanted sources v wants asked.wants.items b.found.are

  pub spaces_there : All (λ (want : Want). want.ns < length m.spaces.namespaces) asked.wants.items
  spaces_there =
      In-All (λ (want : Want). want.ns < length m.spaces.namespaces) asked.wants.items
      (λ want i.
      let x = of_want want i in
      subst (λ (n : ℕ). n < length m.spaces.namespaces) (sym x.2.ns) (subst (λ ns. x.0.ns < length ns) (sym b.aside.namespaces) x.2.there))

  -- an old cell is known as put aside
  pub old_aside : (d : Cell) → In d v.cells → In d (replaced (wish b)) → HasDetached m.spaces d.id.0
  old_aside d there i =
      let c : Cell = record d { standing = Detached (suc v.swaps) } in
      let in_set : holds old d.id.0 ≡ true = In-holds old d.id.0 (map-In (λ (x : Cell). x.id.0) (replaced (wish b)) d i) in
      let at : In c u.cells = subst (λ (x : Cell). In x u.cells) (put_in (suc v.swaps) old d in_set) (map-In (put (suc v.swaps) old) v.cells d there) in
      let test : SpaceCell → Bool = λ s. is_numbered d.id.0 s && not (is_in Attached s) in
      let k : In (called c) m.spaces.cells = subst (In (called c)) called_are (map-In called u.cells c at) in
      let f = find_there test m.spaces.cells (called c) k (ap (λ (t : Bool). t && true) (eq-eqb d.id.0 d.id.0 refl)) in
      is_some_of (find test m.spaces.cells) f.0 f.1

  pub olds_aside : All (λ (want : Want). ForSome want.replaces (λ id. HasDetached m.spaces id.0)) asked.wants.items
  olds_aside =
      In-All (λ (want : Want). ForSome want.replaces (λ id. HasDetached m.spaces id.0)) asked.wants.items
      (λ want i. let x = of_want want i in
      subst (λ (o : Option CellId). ForSome o (λ id. HasDetached m.spaces id.0)) (sym x.2.replaces) (go x.0 x.1 x.0.replaces refl x.2.present))
    where
      only : (d : Cell) → HasDetached m.spaces d.id.0 → ForSome (Some d.id) (λ (id : CellId). HasDetached m.spaces id.0)
      only d k id e = subst (λ (x : CellId). HasDetached m.spaces x.0) (same d.id id e) k
        where
          same : (a b : CellId) → Some a ≡ Some b → a ≡ b
          same a b e = cc

      none_some : (id : CellId) → (let o : Option CellId = None in o) ≡ Some id → ⊥
      none_some id e = cc

      go : (wanted : Wanted) → In wanted wants → (o : Option Cell) → wanted.replaces ≡ o → ForSome wanted.replaces (λ c. In c v.cells) → ForSome (option_map (λ (c : Cell). c.id) o) (λ (id : CellId). HasDetached m.spaces id.0)
      go wanted k None e there = λ id f. absurd (none_some id f)
      go wanted k (Some d) e there = only d (old_aside d (there d e) (filter_map-In (λ (want : Wanted). want.replaces) wants wanted d k e))
