-- What changes in the cells that may change, as it is read of the parts, is what the definitions of a change name.
use Rattle.std.proofs.Common.{◌≡◌, refl, sym, ◌∙◌, ap, ap₂, ℕ, suc, inl, inr, false, List, [], ◌∷◌, ◌++◌, map, length}
use Rattle.std.specs.Prelude.{All, Option, None, Ok, filter, filter_map, flat_map, option_map}
use Rattle.std.proofs.lemmas.List.{length-map, map-append}
use Rattle.cell_num.specs.Lists.{numbered, or_else, In}
use Rattle.cell_object.specs.declared.object.Entry.{Entry}
use Rattle.cell_world.specs.declared.file.File.{File}
use Rattle.cell_world.specs.declared.refusal.Refusal.{Refusal}
use Rattle.cell_world.specs.declared.state.LinkRow.{LinkRow}
use Rattle.cell_world.specs.declared.state.Namespace.{Namespace}
use Rattle.cell_world.specs.declared.state.NewCell.{NewCell}
use Rattle.cell_world.specs.declared.state.Target.{Target}
use Rattle.cell_world.specs.Changed.{FieldAt, changed_fields, changed_in, changed_misfit, differs, first_changed_misfit, is_changed, now_in}
use Rattle.cell_world.specs.Coherent.{IsReady}
use Rattle.cell_world.specs.Gather.{fresh_cells}
use Rattle.cell_world.specs.Linked.Relink.{link_of}
use Rattle.cell_world.specs.Linked.Field.{fields_of, misfit_of}
use Rattle.cell_world.specs.Linked.Fit.{first_misfit, overflow_at}
use Rattle.cell_world.specs.Placed.Place.{page_table}
use Rattle.cell_world.specs.Change.{first_uncovered}
use Rattle.cell_world.specs.Linked.Target.{targets_of}
use Rattle.cell_world.specs.World.{Cell, World, attached}
use Rattle.cell_lemmas.specs.Grown.{IsRegrown, patch_at}
use Rattle.cell_lemmas.specs.LinkSteps.{LinkStep, binds, bound_row, cell_steps, is_other_link, link_steps, moved_row, moves, unbinds, unbound_row}
use Rattle.cell_lemmas.proofs.Targeting.Affected.{changed_among, misfit_among, nothing_changed, nothing_misfits}
use Rattle.cell_lemmas.proofs.Targeting.Detached.{put_same}
use Rattle.cell_lemmas.proofs.Targeting.SameSection.{differ_by_links}
use Rattle.cell_num.proofs.Elements.{All-In, In-All, In-filtered}
use Rattle.cell_lemmas.proofs.Fields.Relinked.{map_twice}
use Rattle.cell_lemmas.specs.Loads.{ManyTaken, objects_of, placed_after, placed_cells, take_all}
use Rattle.cell_change_law.specs.Sound.{HasCome}
use Rattle.cell_change_law.proofs.Untouched.{comers}
use Rattle.cell_change.proofs.Decision.Came.{came_now, came_ready, came_regrown, came_stays}
use Rattle.cell_space.specs.Ahead.{AheadState}
use Rattle.cell_space.specs.Joined.{placed_of}
use Rattle.cell_commit.specs.Commit.{patch_from, patches_from}
use Rattle.cell_commit.specs.Rewiring.{backs}
use Rattle.cell_link.specs.Linked.{bound_in, value_at}
use Rattle.cell_target.specs.Scene.{seen}
use Rattle.cell_gather.specs.declared.gathering.Gathered.{Gathered}
use Rattle.cell_machine.specs.declared.machine.Machine.{Machine}
use Rattle.cell_machine.specs.Machine.{world_of}
use Rattle.cell_load.specs.declared.landing.Landed.{Landed}
use Rattle.cell_load.specs.Stages.{IsLanded, new_cells}
use Rattle.cell_plan.specs.declared.changed.Changed.{Changed}
use Rattle.cell_plan.specs.Coverage.{as_it_stands}
use Rattle.cell_plan.specs.Exchanged.{IsChange, View, first_unfit, links_before, patches_of, spans_of, steps_in, targets_now, unfit_of}
use Rattle.cell_plan.specs.Spans.{span_at, span_in}
use Rattle.cell_plan.specs.Staying.{IsTold, StaysBy, links_in}
use Rattle.cell_plan.specs.Steps.{changed_fields as changed_fields_in, is_change, steps_of}
use Rattle.cell_plan.proofs.Staying.{misfit_changed}
use Rattle.cell_plan.proofs.Stepped.{fields_changed, steps_same}
use Rattle.cell_change.specs.declared.request.Change.{Change}
use Rattle.cell_change.specs.Planning.{IsBegun, IsGatheredFor, view_with, wish}
use Rattle.cell_change.proofs.Decision.Began.{are, aside_is, h, old, sources, u, v, good}
use Rattle.cell_change.proofs.Decision.Covered.{G, gathering}
use Rattle.cell_change.proofs.Decision.LeftAlone.{awaits_soft, left_alone}
use Rattle.cell_change.proofs.Decision.LinksLead.{picked_of_all, uncoming, ungone, unmoved, unreturned}
use Rattle.cell_change.proofs.Decision.ChangeLanded.{come as come_in, fresh_placed}
use Rattle.cell_change.proofs.Decision.Users.{links_own, picked, plain, same_place, soft_there, softs, stands, there_aside, users}

module _ {A B C : Type 0} (f : B → C) (g : A → List B) where
  mapped_flat : (xs : List A) → map f (flat_map g xs) ≡ flat_map (λ x. map f (g x)) xs
  mapped_flat [] = refl
  mapped_flat (x ∷ xs) = map-append f (g x) (flat_map g xs) ∙ ap (λ ys. map f (g x) ++ ys) (mapped_flat xs)

module _ {Y : Type 0} (f : NewCell → List Y) (g : Cell → List Y) where
  sum_placed : (cells : List Cell) → ((c : Cell) → In c cells → f c.placed ≡ g c) → flat_map f (map placed_of cells) ≡ flat_map g cells
  sum_placed [] same = refl
  sum_placed (c ∷ cells) same = ap₂ (λ (xs ys : List Y). xs ++ ys) (same c (inl refl)) (sum_placed cells (λ d i. same d (inr i)))

module _ (files : List File) (asked : Change) (m : Machine) (b : IsBegun files asked m) (g : Gathered) (gathered : IsGatheredFor files asked m b g) (l : Landed) (landed : IsLanded m g l)
    (covered : first_uncovered (v files asked m b) (wish b) (G files asked m b g gathered) ≡ None) where
  abbrev before : World
  before = v files asked m b

  abbrev pub taken : ManyTaken
  taken = record { starts = landed.starts; table = l.space.taken }

  pub runs : take_all (u files asked m b).base (page_table (u files asked m b)) (objects_of (new_cells g)) ≡ Ok taken
  runs = ap (λ (w : World). take_all w.base (page_table w) (objects_of (new_cells g))) (sym (aside_is files asked m b)) ∙ landed.runs

  -- the machine with the new cells in their places
  abbrev pub W : World
  W = placed_after landed.starts (u files asked m b) (new_cells g)

  pub W_is : placed_after landed.starts (world_of m) (new_cells g) ≡ W
  W_is = ap (λ (w : World). placed_after landed.starts w (new_cells g)) (aside_is files asked m b)

  abbrev pub placed : HasCome (sources files asked m b) before (wish b) W
  placed = come_in (sources files asked m b) (are files asked m b) before (h files asked m b) (wish b) (good files asked m b) (new_cells g) (gathering files asked m b g gathered) covered taken runs

  abbrev x : View
  x = view_with m l

  seen_so : x.now ≡ seen m.spaces.namespaces (m.cells.items ++ l.cells.items) g.ahead.cells
  seen_so =
      ap (λ (a : AheadState). seen a.namespaces (m.cells.items ++ l.cells.items) a.cells) landed.same
      ∙ ap (λ (ns : List Namespace). seen ns (m.cells.items ++ l.cells.items) g.ahead.cells) gathered.are.namespaces

  module _ (c : Cell) (i : In c before.cells) where
    abbrev now : Cell
    now = now_in W c

    pub stays_by : StaysBy before W c
    stays_by = came_stays (sources files asked m b) (are files asked m b) before (h files asked m b) (wish b) (good files asked m b) W placed c i

    same : c.placed ≡ now.placed
    same = sym stays_by.same

    targets_same : targets_now x c.placed ≡ targets_of W now
    targets_same =
        ap (λ (w : World). targets_of w (as_it_stands m.spaces c.placed)) seen_so
        ∙ (sym (landed.targets (as_it_stands m.spaces c.placed))
        ∙ (ap (λ (w : World). targets_of w (as_it_stands m.spaces c.placed)) W_is
        ∙ (ap (λ (p : NewCell). targets_of W (as_it_stands m.spaces p)) (sym (same_place files asked m b c))
        ∙ (ap (targets_of W) (stands files asked m b _ (there_aside files asked m b c i))
        ∙ ap (λ (d : Cell). targets_of W (plain d)) (sym (came_now (sources files asked m b) (are files asked m b) before (h files asked m b) (wish b) (good files asked m b) W placed c i))))))

    links_same : links_before x c.placed ≡ links_in before c
    links_same = links_own files asked m b c i

    -- once all fits, another link tells what names something else
    module _ (told : IsTold before W c) where
      changed_are : changed_fields_in c.placed (targets_now x c.placed) (links_before x c.placed) ≡ filter (is_changed before W c) (fields_of c.object)
      changed_are =
          ap₂ (λ (ts : List Target) (ls : List LinkRow). changed_fields_in c.placed ts ls) targets_same links_same
          ∙ fields_changed before W c stays_by.same told

      -- the fields that change
      abbrev fields : List Entry
      fields = filter (is_changed before W c) (fields_of c.object)

      pub patches_are_of : patches_of x c.placed ≡ map (value_at now.placed (targets_of W now)) fields
      patches_are_of =
          ap (map (value_at c.placed (targets_now x c.placed))) changed_are
          ∙ ap₂ (λ (p : NewCell) (ts : List Target). map (value_at p ts) fields) same targets_same

      patched_so : patches_from (patches_of x c.placed) ≡ map (patch_at W) (changed_in before W c)
      patched_so =
          ap (map patch_from) patches_are_of
          ∙ (map_twice patch_from (value_at now.placed (targets_of W now)) fields
          ∙ sym (map_twice (patch_at W) (λ (f : Entry). let at : FieldAt = record { cell = now; field = f } in at) fields))

      spans_so : spans_of x c.placed ≡ map span_at (changed_in before W c)
      spans_so =
          ap (map (span_in c.placed)) changed_are
          ∙ (ap (λ (p : NewCell). map (span_in p) fields) same
          ∙ sym (map_twice span_at (λ (f : Entry). let at : FieldAt = record { cell = now; field = f } in at) fields))

    steps_so : steps_in x c.placed ≡ cell_steps before W c
    steps_so = ap₂ (λ (ts : List Target) (ls : List LinkRow). steps_of c.placed ts ls) targets_same links_same ∙ steps_same before W c stays_by.same

    unfit_so : unfit_of x c.placed ≡ changed_misfit before W c
    unfit_so =
        ap₂ (λ (p : NewCell) (ts : List Target). option_map (overflow_at (attached p)) (misfit_of p (bound_in p ts))) same targets_same
        ∙ sym (misfit_changed before W c stays_by)

  abbrev some : List Cell
  some = users files asked m b

  there : (c : Cell) → In c some → In c before.cells
  there c i = In-filtered (picked files asked m b) before.cells c i

  -- what isn't picked is left alone
  left : (c : Cell) → In c before.cells → picked files asked m b c ≡ false → (e : Entry) → In e c.object.entries → differs before W c e ≡ false
  left =
      left_alone (sources files asked m b) (are files asked m b) before (h files asked m b) (wish b) (good files asked m b) W placed (softs files asked m b)
      (λ d i a. soft_there files asked m b d i
      (awaits_soft (comers (sources files asked m b) (are files asked m b) before (h files asked m b) (wish b) (good files asked m b) placed.gathered placed.gathering W placed.placing placed.covered) d a))

  fields_are : changed_fields before W ≡ flat_map (changed_in before W) some
  fields_are = changed_among before W (picked files asked m b) before.cells (λ c i a. nothing_changed before W c (left c i a))

  unfit_among : (cells : List Cell) → ((c : Cell) → In c cells → In c before.cells) → first_unfit x (map placed_of cells) ≡ first_changed_misfit before W cells
  unfit_among [] in_before = refl
  unfit_among (c ∷ cells) in_before = ap₂ (λ (r s : Option Refusal). or_else r s) (unfit_so c (in_before c (inl refl))) (unfit_among cells (λ d i. in_before d (inr i)))

  -- the first entry that doesn't fit any more
  pub unfit_is : first_unfit x (map placed_of some) ≡ first_changed_misfit before W before.cells
  unfit_is = unfit_among some there ∙ sym (misfit_among before W (picked files asked m b) before.cells (λ c i a. nothing_misfits before W c (left c i a)))

  pub regrown : IsRegrown before W (fresh_cells before.next_cell W)
  regrown = came_regrown (sources files asked m b) (are files asked m b) before (h files asked m b) (wish b) (good files asked m b) W placed

  module _ (changed : Changed) (is : IsChange x (map placed_of some) changed) where
    pub fits : first_changed_misfit before W before.cells ≡ None
    fits = sym unfit_is ∙ is.fit

    new_fit : first_misfit W (fresh_cells before.next_cell W) ≡ None
    new_fit =
        ap (first_misfit W) (fresh_placed (sources files asked m b) (are files asked m b) before (h files asked m b) (wish b) (good files asked m b) (new_cells g) (gathering files asked m b g gathered) covered taken runs)
        ∙ (ap (λ (w : World). first_misfit w (placed_cells landed.starts (new_cells g))) (sym W_is) ∙ landed.fit)

    -- so the machine is ready to be linked
    pub ready : IsReady W
    ready = came_ready (sources files asked m b) (are files asked m b) before (h files asked m b) (wish b) (good files asked m b) W placed fits new_fit

    aliases : All (λ (d : Cell). (now_in W d).aliases ≡ d.aliases) before.cells
    aliases = In-All (λ (d : Cell). (now_in W d).aliases ≡ d.aliases) before.cells (λ d i.
        ap (λ (z : Cell). z.aliases) (came_now (sources files asked m b) (are files asked m b) before (h files asked m b) (wish b) (good files asked m b) W placed d i)
        ∙ put_same (suc before.swaps) (old files asked m b) (λ z. z.aliases) d refl)

    pub told : (c : Cell) → In c before.cells → IsTold before W c
    told c i p j =
        All-In (λ (q : ℕ × Entry). differs before W c q.1 ≡ is_other_link (link_of before c q) (link_of W (now_in W c) q)) (numbered c.object.entries)
        (All-In (λ (d : Cell). All (λ (q : ℕ × Entry). differs before W d q.1 ≡ is_other_link (link_of before d q) (link_of W (now_in W d) q)) (numbered d.object.entries)) before.cells
        (differ_by_links before W (fresh_cells before.next_cell W) (h files asked m b) ready regrown aliases) c i) p j

    pub patches_are : (c : Cell) → In c before.cells → patches_of x c.placed ≡ map (value_at (now_in W c).placed (targets_of W (now_in W c))) (filter (is_changed before W c) (fields_of c.object))
    patches_are c i = patches_are_of c i (told c i)

    pub patches_from_are : patches_from changed.patches.items ≡ map (patch_at W) (changed_fields before W)
    patches_from_are =
        ap patches_from is.patches
        ∙ (mapped_flat patch_from (patches_of x) (map placed_of some)
        ∙ (sum_placed (λ p. patches_from (patches_of x p)) (λ c. map (patch_at W) (changed_in before W c)) some (λ c i. patched_so c (there c i) (told c (there c i)))
        ∙ (sym (mapped_flat (patch_at W) (changed_in before W) some) ∙ ap (map (patch_at W)) (sym fields_are))))

    pub as_many : length changed.patches.items ≡ length (changed_fields before W)
    as_many =
        sym (length-map changed.patches.items patch_from)
        ∙ (ap length patches_from_are ∙ length-map (changed_fields before W) (patch_at W))

    pub spans_are : changed.spans.items ≡ map span_at (changed_fields before W)
    spans_are =
        is.spans
        ∙ (sum_placed (spans_of x) (λ c. map span_at (changed_in before W c)) some (λ c i. spans_so c (there c i) (told c (there c i)))
        ∙ (sym (mapped_flat span_at (changed_in before W) some) ∙ ap (map span_at) (sym fields_are)))

    -- the lists of links are those of all entries' steps
    picked_so : (f : LinkStep → Option LinkRow) → ((s : LinkStep) → is_change s ≡ false → f s ≡ None) → flat_map (λ (p : NewCell). filter_map f (steps_in x p)) (map placed_of some) ≡ filter_map f (link_steps before W)
    picked_so f none =
        sum_placed (λ (p : NewCell). filter_map f (steps_in x p)) (λ (c : Cell). filter_map f (cell_steps before W c)) some (λ c i. ap (filter_map f) (steps_so c (there c i)))
        ∙ picked_of_all before W (fresh_cells before.next_cell W) (h files asked m b) ready regrown (picked files asked m b) told left f none

    pub moves_are : changed.links.moves.items ≡ moves (link_steps before W)
    moves_are = is.moves ∙ picked_so (λ (s : LinkStep). moved_row s.before s.after) unmoved

    pub backs_are : changed.links.backs.items ≡ backs (link_steps before W)
    backs_are = is.backs ∙ picked_so (λ (s : LinkStep). moved_row s.after s.before) unreturned

    pub binds_are : changed.links.binds.items ≡ binds (link_steps before W)
    binds_are = is.binds ∙ picked_so (λ (s : LinkStep). bound_row s.before s.after) uncoming

    pub unbinds_are : changed.links.unbinds.items ≡ unbinds (link_steps before W)
    unbinds_are = is.unbinds ∙ picked_so (λ (s : LinkStep). unbound_row s.before s.after) ungone
