-- What the new cells of a change come to where they stand, with the old ones put aside.
use Rattle.std.proofs.Common.{◌≡◌, refl, ◌∙◌, ap, subst, ℕ, ◌+◌, ◌*◌, Bool, true, List, [], ◌∷◌, ◌++◌, map}
use Rattle.std.specs.Prelude.{Option, Some, None, Ok, Err, filter, nat_le, nat_lt, option_map}
use Rattle.std.specs.List.{list_all}
use Rattle.std.proofs.lemmas.Bool.{and_from, and_parts}
use Rattle.cell_num.specs.Lists.{each_pair, holds, or_else, In}
use Rattle.cell_world.specs.declared.layout.Starts.{Starts}
use Rattle.cell_world.specs.declared.refusal.Refusal.{Refusal}
use Rattle.cell_world.specs.declared.state.LinkRow.{LinkRow}
use Rattle.cell_world.specs.World.{World, Cell, is_attached, is_ready}
use Rattle.cell_world.specs.Changed.{changed_fields, first_changed_misfit, now_in}
use Rattle.cell_world.specs.Coherent.{AreSound, IsCoherent, IsReady}
use Rattle.cell_world.specs.Linked.Fit.{first_misfit}
use Rattle.cell_world.specs.Gather.{Need, Source, fresh_cells, grown, missing}
use Rattle.cell_world.specs.Placed.Pages.{filled, longest_run, lowest_run}
use Rattle.cell_world.specs.Commands.SwapTransfer.{Begin, begins_of, routines_in, stack_for}
use Rattle.cell_world.specs.declared.refusal.Refusal.TheVariants.{Exhausted}
use Rattle.cell_layout.specs.Placing.{extra_start}
use Rattle.cell_change.specs.Transferring.{pages_for}
use Rattle.cell_world.specs.Outcome.{Outcome, ◌>>=◌, ◌>>◌, refused_by}
use Rattle.cell_world.specs.Placed.Place.{page_table, place_all}
use Rattle.cell_world.specs.Linked.Relink.{relink}
use Rattle.cell_world.specs.Change.{Change as ChangeSaid, Plan as PlanSaid, first_uncovered, gather, old_of, plan_of, restart_refusal, restarted_task}
use Rattle.cell_world.specs.Linked.Linking.{link_refusal}
use Rattle.cell_world.specs.Torn.{first_torn}
use Rattle.cell_lemmas.specs.Grown.{links_from, patch_at, with_changes}
use Rattle.cell_lemmas.proofs.Naming.Gathered.{Extends, Ranks, extends_grows}
use Rattle.cell_lemmas.proofs.Placement.PlacedReady.{fresh_is}
use Rattle.cell_lemmas.proofs.Placement.Ready.{IsBase, append_same}
use Rattle.cell_lemmas.proofs.Fields.Regrown.{relinked_writes}
use Rattle.cell_lemmas.proofs.Fields.Relinks.{coherent_relinked}
use Rattle.cell_lemmas.specs.Loads.{ManyTaken, Taken, objects_of, placed_after, placed_cells, take_all}
use Rattle.cell_lemmas.proofs.Placement.Placing.{all_is, all_table}
use Rattle.cell_machine.specs.Staged.{AreNewIn, ComesTo}
use Rattle.cell_load.specs.Stages.{placing}
use Rattle.cell_lemmas.specs.LinkSteps.{afters, link_steps}
use Rattle.cell_lemmas.proofs.Links.LinkSteps.{links_after}
use Rattle.cell_lemmas.proofs.Naming.Attach.{Grows}
use Rattle.cell_lemmas.proofs.Naming.SetAside.{aside}
use Rattle.cell_change_law.specs.Sound.{HasCome, IsSound}
use Rattle.cell_change_law.proofs.Gathering.{all_gathered, at, base_world}
use Rattle.cell_change.proofs.Decision.Bystanders.{HasNewBehind, replaced_attached}
use Rattle.cell_change.proofs.Decision.Came.{came_linkable, came_ready, came_regrown}

-- places don't change numbers
numbers_placed : (n : ℕ) (starts : List Starts) (cells : List Cell) → list_all (λ (c : Cell). nat_le n c.id.0) cells ≡ true → list_all (λ (c : Cell). nat_le n c.id.0) (placed_cells starts cells) ≡ true
numbers_placed n [] cells e = e
numbers_placed n (s ∷ starts) [] e = refl
numbers_placed n (s ∷ starts) (c ∷ cells) e =
    let both = and_parts (nat_le n c.id.0) (list_all (λ (c : Cell). nat_le n c.id.0) cells) e in
    and_from (nat_le n c.id.0) (list_all (λ (c : Cell). nat_le n c.id.0) (placed_cells starts cells)) both.0 (numbers_placed n starts cells both.1)

-- what follows on the gathered cells
module _ (v : World) (asked : ChangeSaid) where
  abbrev stack_then : World → List Begin → Option ℕ → Outcome PlanSaid
  stack_then w begins stack =
      refused_by (link_refusal v w) >> Ok (record { fresh = fresh_cells v.next_cell w; changed = changed_fields v w; linked = relink w; stack = stack; routines = routines_in w begins; restarted = restarted_task v asked w })

  abbrev placed_then : List Begin → World → Outcome PlanSaid
  placed_then begins w = stack_for w asked.routines >>= stack_then w begins

  abbrev again_then : World → List Begin → Outcome PlanSaid
  again_then g begins = place_all g (fresh_cells v.next_cell g) >>= placed_then begins

  abbrev begun_then : World → List Begin → Outcome PlanSaid
  begun_then g begins = refused_by (restart_refusal v asked g) >> again_then g begins

  abbrev after_gather : World → Outcome PlanSaid
  after_gather g = refused_by (option_map missing (first_uncovered v asked g)) >> (begins_of (fresh_cells v.next_cell g) asked.routines >>= begun_then g)

-- the stack is the lowest free run behind the new cells
pub stack_is : (w : World) (words : List (List ℕ)) → stack_for w words ≡ extra_start w.base (page_table w) (pages_for words)
stack_is w [] = refl
stack_is w (word ∷ words) = go (lowest_run (page_table w) 4)
  where
    go : (o : Option ℕ)
        → ((elim o as (λ _. Outcome ℕ) [ None ↦ Err (Exhausted 4 (longest_run (page_table w))) | Some page ↦ Ok (w.base + 4096 * page) ]) >>= (λ stack. let x : Outcome (Option ℕ) = Ok (Some stack) in x))
        ≡ ((elim o as (λ _. Outcome Taken) [ None ↦ Err (Exhausted 4 (longest_run (page_table w))) | Some page ↦ Ok (record { start = w.base + 4096 * page; table = filled (page_table w) page 4 true }) ]) >>= (λ run. let x : Outcome (Option ℕ) = Ok (Some run.start) in x))
    go None = refl
    go (Some page) = refl

module _ (sources : List Source) (v : World) (asked : ChangeSaid) where
  by_steps : plan_of sources v asked ≡ (gather sources v asked >>= after_gather v asked)
  by_steps = refl

  -- gathering is refused
  pub ungathered : (r : Refusal) → gather sources v asked ≡ Err r → plan_of sources v asked ≡ Err r
  ungathered r e = by_steps ∙ ap (λ (o : Outcome World). o >>= after_gather v asked) e

  by_gathered : (g : World) → gather sources v asked ≡ Ok g → plan_of sources v asked ≡ after_gather v asked g
  by_gathered g e = by_steps ∙ ap (λ (o : Outcome World). o >>= after_gather v asked) e

module _ (sources : List Source) (sound : AreSound sources) (v : World) (h : IsCoherent v) (asked : ChangeSaid) (good : IsSound sources v asked) (new : List Cell)
    (gathered : gather sources v asked ≡ Ok (grown (base_world sources sound v h asked good) new)) where
  abbrev old : List ℕ
  old = old_of asked

  abbrev words : List (List ℕ)
  words = asked.routines

  -- the machine with the old cells put aside, and with the new ones
  abbrev u : World
  u = base_world sources sound v h asked good

  abbrev g : World
  g = grown u new

  reached : Ranks g × Extends u g
  reached = (all_gathered sources sound v h asked good g gathered).0.0

  base : IsBase u
  base = (at sources sound v h asked good).base

  new_are : reached.1.new ≡ new
  new_are = append_same u.cells reached.1.new new (ap (λ (w : World). w.cells) reached.1.is)

  all_new : list_all (λ (c : Cell). nat_le v.next_cell c.id.0) new ≡ true
  all_new = subst (λ (cs : List Cell). list_all (λ (c : Cell). nat_le v.next_cell c.id.0) cs ≡ true) new_are reached.1.fresh

  fresh : fresh_cells v.next_cell g ≡ new
  fresh = fresh_is u base new g.next_cell all_new

  -- the cells are in the order of their numbers
  pub in_order : each_pair (λ (a b : Cell). nat_lt a.id.0 b.id.0) g.cells ≡ true
  in_order = reached.0.order

  pub old_attached : (c : Cell) → In c v.cells → holds old c.id.0 ≡ true → is_attached c.standing ≡ true
  old_attached = replaced_attached sources v h asked good

  pub new_behind : HasNewBehind v h old g
  new_behind = record { new = new; cells = refl; fresh = all_new; grows = side_grows (extends_grows u g reached.1) }
    where
      side_grows : Grows u g → Grows (aside v h old) g
      side_grows x = record { spaces = x.spaces; new = x.new; cells = x.cells; attached = x.attached }

  pub uncovered : (r : Refusal) → option_map missing (first_uncovered v asked g) ≡ Some r → plan_of sources v asked ≡ Err r
  uncovered r e =
      by_gathered sources v asked g gathered
      ∙ ap (λ (o : Option Refusal). refused_by o >> (begins_of (fresh_cells v.next_cell g) words >>= begun_then v asked g)) e

  pub places_are : place_all g (fresh_cells v.next_cell g) ≡ (take_all u.base (page_table u) (objects_of new) >>= (λ t. Ok (placed_after t.starts u new)))
  places_are = ap (place_all g) fresh ∙ all_is new u.cells g refl reached.0.order

  module _ (covered : first_uncovered v asked g ≡ None) where
    by_covered : plan_of sources v asked ≡ (begins_of new words >>= begun_then v asked g)
    by_covered =
        by_gathered sources v asked g gathered
        ∙ (ap (λ (o : Option Need). refused_by (option_map missing o) >> (begins_of (fresh_cells v.next_cell g) words >>= begun_then v asked g)) covered
        ∙ ap (λ (cs : List Cell). begins_of cs words >>= begun_then v asked g) fresh)

    -- a routine has no place to begin
    pub unbegun : (r : Refusal) → begins_of new words ≡ Err r → plan_of sources v asked ≡ Err r
    unbegun r e = by_covered ∙ ap (λ (o : Outcome (List Begin)). o >>= begun_then v asked g) e

    module _ (t : ManyTaken) (runs : take_all u.base (page_table u) (objects_of new) ≡ Ok t) where
      -- the new cells in their places
      abbrev F : List Cell
      F = placed_cells t.starts new

      -- the machine with them, not linked yet
      abbrev pub W : World
      W = placed_after t.starts u new

      abbrev pub come : HasCome sources v asked W
      come = record {
        gathered = g;
        gathering = gathered;
        covered = covered;
        placing = places_are ∙ ap (λ o. o >>= (λ t. Ok (placed_after t.starts u new))) runs;
      }

      pub fresh_placed : fresh_cells v.next_cell W ≡ F
      fresh_placed = fresh_is u base F W.next_cell (numbers_placed v.next_cell t.starts new all_new)

      pub stands : AreNewIn u W F
      stands = record { linkable = came_linkable sources sound v h asked good W come; fresh = fresh_placed }

      -- where the routines' stack starts
      pub stack_at : stack_for W words ≡ extra_start u.base t.table (pages_for words)
      stack_at = stack_is W words ∙ ap (λ (table : List Bool). extra_start u.base table (pages_for words)) (all_table (objects_of new) u t runs)

      module _ (fit : first_misfit W F ≡ None) where
        new_fit : first_misfit W (fresh_cells v.next_cell W) ≡ None
        new_fit = ap (first_misfit W) fresh_placed ∙ fit

        module _ (changed_fit : first_changed_misfit v W v.cells ≡ None) where
          ready : IsReady W
          ready = came_ready sources sound v h asked good W come changed_fit new_fit

          abbrev writes : List Cell → World
          writes cells = record W { regions = map (with_changes v W cells) W.regions; links = links_from W (map (now_in W) v.cells) ++ links_from W cells }

          relinked : relink W ≡ writes F
          relinked = relinked_writes v W (fresh_cells v.next_cell W) h ready (came_regrown sources sound v h asked good W come) ∙ ap writes fresh_placed

          pub comes : ComesTo W F (map (patch_at W) (changed_fields v W)) (afters (link_steps v W)) (relink W)
          comes = record {
            ready = ready;
            coherent = coherent_relinked W ready;
            is = relinked
                ∙ ap (λ (ls : List LinkRow). record W { regions = map (with_changes v W F) W.regions; links = ls ++ links_from W F })
                (links_after v W (fresh_cells v.next_cell W) h ready (came_regrown sources sound v h asked good W come));
          }

    -- the routines begin there
    module _ (begins : List Begin) (begun : begins_of new words ≡ Ok begins) where
      by_begins : plan_of sources v asked ≡ begun_then v asked g begins
      by_begins = by_covered ∙ ap (λ (o : Outcome (List Begin)). o >>= begun_then v asked g) begun

      -- the task that is to begin again has no place to begin
      pub misplaced : (r : Refusal) → restart_refusal v asked g ≡ Some r → plan_of sources v asked ≡ Err r
      misplaced r e = by_begins ∙ ap (λ (o : Option Refusal). refused_by o >> again_then v asked g begins) e

      module _ (again : restart_refusal v asked g ≡ None) where
        by_again : plan_of sources v asked ≡ again_then v asked g begins
        by_again = by_begins ∙ ap (λ (o : Option Refusal). refused_by o >> again_then v asked g begins) again

        by_places : plan_of sources v asked
            ≡ ((take_all u.base (page_table u) (objects_of new) >>= (λ t. let o : Outcome World = Ok (placed_after t.starts u new) in o)) >>= placed_then v asked begins)
        by_places = by_again ∙ ap (λ (o : Outcome World). o >>= placed_then v asked begins) places_are

        -- no run is long enough
        full : (r : Refusal) → take_all u.base (page_table u) (objects_of new) ≡ Err r → plan_of sources v asked ≡ Err r
        full r e = by_places ∙ ap (λ (o : Outcome ManyTaken). (o >>= (λ t. let p : Outcome World = Ok (placed_after t.starts u new) in p)) >>= placed_then v asked begins) e

        module _ (t : ManyTaken) (runs : take_all u.base (page_table u) (objects_of new) ≡ Ok t) where
          by_world : plan_of sources v asked ≡ placed_then v asked begins (W t runs)
          by_world = by_places ∙ ap (λ (o : Outcome ManyTaken). (o >>= (λ t. let p : Outcome World = Ok (placed_after t.starts u new) in p)) >>= placed_then v asked begins) runs

          -- there is no stack
          no_stack : (r : Refusal) → extra_start u.base t.table (pages_for words) ≡ Err r → plan_of sources v asked ≡ Err r
          no_stack r e = by_world ∙ ap (λ (o : Outcome (Option ℕ)). o >>= stack_then v asked (W t runs) begins) (stack_at t runs ∙ e)

          module _ (stack : Option ℕ) (at : extra_start u.base t.table (pages_for words) ≡ Ok stack) where
            -- the plan, if nothing stands in its way
            abbrev pub plan : PlanSaid
            plan = record {
              fresh = fresh_cells v.next_cell (W t runs);
              changed = changed_fields v (W t runs);
              linked = relink (W t runs);
              stack = stack;
              routines = routines_in (W t runs) begins;
              restarted = restarted_task v asked (W t runs);
            }

            abbrev torn : Option Refusal
            torn = first_torn (changed_fields v (W t runs)) (filter is_ready v.tasks)

            -- the plan, unless that refuses it
            abbrev unless : Option Refusal → Outcome PlanSaid
            unless o = refused_by o >> Ok plan

            planned : plan_of sources v asked ≡ stack_then v asked (W t runs) begins stack
            planned = by_world ∙ ap (λ (o : Outcome (Option ℕ)). o >>= stack_then v asked (W t runs) begins) (stack_at t runs ∙ at)

            pub overflows : (r : Refusal) → first_misfit (W t runs) (F t runs) ≡ Some r → plan_of sources v asked ≡ Err r
            overflows r e = planned ∙ ap (λ (o : Option Refusal). unless (or_else o (or_else (first_changed_misfit v (W t runs) v.cells) torn))) (ap (first_misfit (W t runs)) (fresh_placed t runs) ∙ e)

            module _ (fit : first_misfit (W t runs) (F t runs) ≡ None) where
              so_far : plan_of sources v asked ≡ unless (or_else (first_changed_misfit v (W t runs) v.cells) torn)
              so_far = planned ∙ ap (λ (o : Option Refusal). unless (or_else o (or_else (first_changed_misfit v (W t runs) v.cells) torn))) (ap (first_misfit (W t runs)) (fresh_placed t runs) ∙ fit)

              pub changed_refused : (r : Refusal) → first_changed_misfit v (W t runs) v.cells ≡ Some r → plan_of sources v asked ≡ Err r
              changed_refused r e = so_far ∙ ap (λ (o : Option Refusal). unless (or_else o torn)) e

              module _ (changed_fit : first_changed_misfit v (W t runs) v.cells ≡ None) where
                fits : plan_of sources v asked ≡ unless torn
                fits = so_far ∙ ap (λ (o : Option Refusal). unless (or_else o torn)) changed_fit

                pub torn_refused : (r : Refusal) → first_torn (changed_fields v (W t runs)) (filter is_ready v.tasks) ≡ Some r → plan_of sources v asked ≡ Err r
                torn_refused r e = fits ∙ ap unless e

                pub accepted : first_torn (changed_fields v (W t runs)) (filter is_ready v.tasks) ≡ None → plan_of sources v asked ≡ Ok plan
                accepted e = fits ∙ ap unless e

        -- there is no room, or an entry doesn't fit
        pub unplaced : (r : Refusal) → placing u new (pages_for words) ≡ Err r → plan_of sources v asked ≡ Err r
        unplaced r e = go (take_all u.base (page_table u) (objects_of new)) refl e
          where
            same : {A : Type 0} (a b : Refusal) → (let x : Outcome A = Err a in x) ≡ Err b → a ≡ b
            same a b k = cc

            unfit : (t : ManyTaken) (runs : take_all u.base (page_table u) (objects_of new) ≡ Ok t) (stack : Option ℕ) → extra_start u.base t.table (pages_for words) ≡ Ok stack
                → (o : Option Refusal) → first_misfit (placed_after t.starts u new) (placed_cells t.starts new) ≡ o → refused_by o ≡ Err r → plan_of sources v asked ≡ Err r
            unfit t runs stack at None is k = cc
            unfit t runs stack at (Some other) is k = overflows t runs stack at r (is ∙ ap Some (same other r k))

            stacked : (t : ManyTaken) → take_all u.base (page_table u) (objects_of new) ≡ Ok t → (o : Outcome (Option ℕ)) → extra_start u.base t.table (pages_for words) ≡ o
                → (o >> refused_by (first_misfit (placed_after t.starts u new) (placed_cells t.starts new))) ≡ Err r → plan_of sources v asked ≡ Err r
            stacked t runs (Err other) is k = no_stack t runs r (is ∙ ap (λ x. Err x) (same other r k))
            stacked t runs (Ok stack) is k = unfit t runs stack is (first_misfit (placed_after t.starts u new) (placed_cells t.starts new)) refl k

            go : (o : Outcome ManyTaken) → take_all u.base (page_table u) (objects_of new) ≡ o
                → (o >>= (λ t. extra_start u.base t.table (pages_for words) >> refused_by (first_misfit (placed_after t.starts u new) (placed_cells t.starts new)))) ≡ Err r → plan_of sources v asked ≡ Err r
            go (Err other) is k = full r (is ∙ ap (λ x. Err x) (same other r k))
            go (Ok t) is k = stacked t is (extra_start u.base t.table (pages_for words)) refl k
