-- A transfer within n turns is what its first n turns come to.
use Rattle.std.proofs.Common.{◌≡◌, refl, sym, ◌∙◌, ap, ℕ, zero, suc, Bool, true, false, List, [], ◌∷◌, Some, None, Option}
use Rattle.std.specs.Prelude.{◌==◌, if◌then◌else◌, option_map, unwrap_or}
use Rattle.cell_world.specs.declared.transfer.Failure.{Failure}
use Rattle.cell_num.specs.declared.ids.Why.{Why}
use Rattle.cell_num.specs.declared.ids.Why.TheVariants.{Budget, Returned, Trap}
use Rattle.cell_world.specs.declared.reply.TaskState.{TaskState}
use Rattle.cell_world.specs.declared.reply.TaskState.TheVariants.{Ready, Done, Fault as Faulted}
use Rattle.cell_world.specs.declared.transfer.Routine.{Routine}
use Rattle.cell_world.specs.World.{Region}
use Rattle.cell_world.specs.Running.Execute.{Seen}
use Rattle.cell_world.specs.Running.Move.{Hart, Move, move}
use Rattle.cell_world.specs.Running.Transfer.{Addresses, Ending, Transferred, routine_column, routine_from, is_success, transferred}
use Rattle.cell_laws.specs.Progress.{Running, Progress, Runs, Ended, starts, failed_in, moved_on, moved_in, turned, progress_after, cut_off}

module _ (addresses : Addresses) (m : Seen) (stack : ℕ) where
  -- n turns from there
  further : ℕ → Progress → Progress
  further zero p = p
  further (suc n) p = further n (turned addresses m stack p)

  further_last : (n : ℕ) (p : Progress) → turned addresses m stack (further n p) ≡ further (suc n) p
  unfolding further
  further_last zero p = refl
  further_last (suc n) p = further_last n (turned addresses m stack p)

  as_further : (routines : List Routine) (n : ℕ) → progress_after n addresses m stack routines ≡ further n (starts stack m.regions routines)
  unfolding further
  as_further routines zero = refl
  as_further routines (suc n) = ap (turned addresses m stack) (as_further routines n) ∙ further_last n (starts stack m.regions routines)

  stays_ended : (n : ℕ) (t : Transferred) → further n (Ended t) ≡ Ended t
  unfolding further
  stays_ended zero t = refl
  stays_ended (suc n) t = stays_ended n t

  abbrev over : List Region → Seen
  over regions = record m { regions = regions }

  -- the transfer where a routine ended so
  abbrev goes_on : Routine → List Routine → Ending → Transferred
  goes_on routine later ending =
      elim (is_success ending.why) [
        | true ↦ transferred ending.left addresses (over ending.regions) stack later
        | false ↦ failed_in routine ending.why ending.regions
      ]

  module _ (routine : Routine) (later : List Routine)
      (rest : (n : ℕ) (regions : List Region) → transferred n addresses (over regions) stack later ≡ cut_off (further n (starts stack regions later))) where
    abbrev at : List Region → Hart → Running
    at regions h = record { regions = regions; routine = routine; hart = h; later = later }

    returned : (n : ℕ) (regions : List Region) (code : ℕ) (b : Bool)
        → (elim b as (λ _. Transferred) [ true ↦ transferred n addresses (over regions) stack later | false ↦ failed_in routine (Returned code) regions ])
        ≡ cut_off (further n (if b then starts stack regions later else Ended (failed_in routine (Returned code) regions)))
    returned n regions code true = rest n regions
    returned n regions code false = sym (ap cut_off (stays_ended n (failed_in routine (Returned code) regions)))

    -- how a routine ends whose move left it so
    abbrev ended_by : ℕ → Move → TaskState → Ending
    ended_by n after state =
        elim state as (λ _. Ending) [
          | Ready ↦ routine_from n addresses (over after.regions) after.hart
          | Done code ↦ record { why = Returned code; regions = after.regions; left = n }
          | Faulted cause pc ↦ record { why = Trap cause pc; regions = after.regions; left = n }
        ]

    abbrev Tells : ℕ → List Region → Hart → Type 0
    Tells n regions h = goes_on routine later (routine_from n addresses (over regions) h) ≡ cut_off (further n (Runs (at regions h)))

    moves : (n : ℕ) (regions : List Region) (h : Hart) (after : Move) (state : TaskState) → Tells n after.regions after.hart
        → goes_on routine later (ended_by n after state) ≡ cut_off (further n (moved_on stack (at regions h) (record after { state = state })))
    moves n regions h after Ready on = on
    moves n regions h after (Done code) on = returned n after.regions code (code == 0)
    moves n regions h after (Faulted cause pc) on = sym (ap cut_off (stays_ended n (failed_in routine (Trap cause pc) after.regions)))

    -- of a routine that begins with that hart
    runs : (n : ℕ) (regions : List Region) (h : Hart) → Tells n regions h
    unfolding further
    runs zero regions h = refl
    runs (suc n) regions h =
        let after : Move = moved_in addresses m (at regions h) in
        moves n regions h after after.state (runs n after.regions after.hart)

  from_start : (routines : List Routine) (n : ℕ) (regions : List Region) → transferred n addresses (over regions) stack routines ≡ cut_off (further n (starts stack regions routines))
  from_start [] n regions = sym (ap cut_off (stays_ended n (record { regions = regions; failure = None })))
  from_start (routine ∷ later) n regions = runs routine later (from_start later) n regions _

  starts_over : (regions : List Region) (routines : List Routine) → (cut_off (starts stack regions routines)).regions ≡ regions
  starts_over regions [] = refl
  starts_over regions (routine ∷ later) = refl

  -- whatever comes of a move, it is told with the regions that the move leaves
  moved_over : (r : Running) (after : Move) (state : TaskState) → (cut_off (moved_on stack r (record after { state = state }))).regions ≡ after.regions
  moved_over r after Ready = refl
  moved_over r after (Done code) = go (code == 0)
    where
      go : (b : Bool) → (cut_off (if b then starts stack after.regions r.later else Ended (failed_in r.routine (Returned code) after.regions))).regions ≡ after.regions
      go true = starts_over after.regions r.later
      go false = refl
  moved_over r after (Faulted cause pc) = refl

  pub turn_by_turn : (n : ℕ) (routines : List Routine) → transferred n addresses m stack routines ≡ cut_off (progress_after n addresses m stack routines)
  turn_by_turn n routines = from_start routines n m.regions ∙ ap cut_off (sym (as_further routines n))

  -- what has ended doesn't tell that turns ran out
  abbrev IsTold : Progress → Type 0
  IsTold (Runs r) = Unit {0}
  IsTold (Ended t) = (name : ℕ) → t.failure ≡ Some (record { routine = name; why = Budget }) → ⊥

  no_budget : (name other : ℕ) (why : Why) → (why ≡ Budget → ⊥) → let some : Option Failure = Some (record { routine = other; why = why }) in some ≡ Some (record { routine = name; why = Budget }) → ⊥
  no_budget name other why differs e = differs (ap (λ (o : Option Failure). unwrap_or (option_map (λ (f : Failure). f.why) o) why) e)

  starts_told : (regions : List Region) (routines : List Routine) → IsTold (starts stack regions routines)
  starts_told regions [] = λ name e. cc
  starts_told regions (routine ∷ later) = tt

  moved_told : (r : Running) (after : Move) (state : TaskState) → IsTold (moved_on stack r (record after { state = state }))
  moved_told r after Ready = tt
  moved_told r after (Done code) = go (code == 0)
    where
      go : (b : Bool) → IsTold (if b then starts stack after.regions r.later else Ended (failed_in r.routine (Returned code) after.regions))
      go true = starts_told after.regions r.later
      go false = λ name. no_budget name r.routine.name (Returned code) (λ e. cc)
  moved_told r after (Faulted cause pc) = λ name. no_budget name r.routine.name (Trap cause pc) (λ e. cc)

  turned_told : (p : Progress) → IsTold p → IsTold (turned addresses m stack p)
  turned_told (Runs r) told = moved_told r (moved_in addresses m r) (moved_in addresses m r).state
  turned_told (Ended t) told = told

  progress_told : (n : ℕ) (routines : List Routine) → IsTold (progress_after n addresses m stack routines)
  progress_told zero routines = starts_told m.regions routines
  progress_told (suc n) routines = turned_told (progress_after n addresses m stack routines) (progress_told n routines)

  module _ (n : ℕ) (routines : List Routine) where
    next_by : (p : Progress) → progress_after n addresses m stack routines ≡ p → transferred (suc n) addresses m stack routines ≡ cut_off (turned addresses m stack p)
    next_by p e = turn_by_turn (suc n) routines ∙ ap (λ p. cut_off (turned addresses m stack p)) e

    now_by : (p : Progress) → progress_after n addresses m stack routines ≡ p → transferred n addresses m stack routines ≡ cut_off p
    now_by p e = turn_by_turn n routines ∙ ap cut_off e

    pub next_turn : (r : Running) → progress_after n addresses m stack routines ≡ Runs r
        → (transferred (suc n) addresses m stack routines).regions ≡ (move (routine_column addresses) (record m { regions = (transferred n addresses m stack routines).regions }) r.hart).regions
    next_turn r e =
        ap (λ (t : Transferred). t.regions) (next_by (Runs r) e)
        ∙ (moved_over r (moved_in addresses m r) (moved_in addresses m r).state
        ∙ ap (λ rs. (move (routine_column addresses) (over rs) r.hart).regions) (sym (ap (λ (t : Transferred). t.regions) (now_by (Runs r) e))))

    pub no_turn : (t : Transferred) → progress_after n addresses m stack routines ≡ Ended t → transferred (suc n) addresses m stack routines ≡ transferred n addresses m stack routines
    no_turn t e = next_by (Ended t) e ∙ sym (now_by (Ended t) e)

    pub runs_out : (name : ℕ) → (transferred n addresses m stack routines).failure ≡ Some (record { routine = name; why = Budget })
        → (r : Running) × (progress_after n addresses m stack routines ≡ Runs r) × (r.routine.name ≡ name)
    runs_out name e = go (progress_after n addresses m stack routines) refl (progress_told n routines)
      where
        go : (p : Progress) → progress_after n addresses m stack routines ≡ p → IsTold p → (r : Running) × (progress_after n addresses m stack routines ≡ Runs r) × (r.routine.name ≡ name)
        go (Runs r) is told =
            (r, is, ap (λ (o : Option Failure). unwrap_or (option_map (λ (f : Failure). f.routine) o) name) (sym (ap (λ (t : Transferred). t.failure) (now_by (Runs r) is)) ∙ e))
        go (Ended t) is told = absurd (told name (sym (ap (λ (t : Transferred). t.failure) (now_by (Ended t) is)) ∙ e))
