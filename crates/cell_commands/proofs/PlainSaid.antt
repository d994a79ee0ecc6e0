-- A change that replaces nothing as a load and a clone ask for it: no routine runs and no task begins again, so it is refused only
-- where there is no plan, and has counted nothing then.
use Rattle.std.proofs.Common.{◌≡◌, refl, sym, ap, ap₂, subst, arith, ◌∙◌, ℕ, ◌≤◌, Bool, false, List, [], map}
use Rattle.std.specs.Prelude.{Err, None, Ok, Option, Some}
use Rattle.cell_world.specs.declared.fail.Fail.TheVariants.{Refused}
use Rattle.cell_world.specs.declared.file.File.{File}
use Rattle.cell_world.specs.declared.refusal.Refusal.{Refusal}
use Rattle.cell_world.specs.declared.refusal.Refusal.TheVariants.{Unknown, NameTaken, NotRunnable, TooMany, NoObject, Ambiguous, BadObject, Duplicate, Missing, NoEntry, Exhausted, Overflow, Torn, Transfer, Held, NotFaulted, NoCrate, NoParent}
use Rattle.cell_world.specs.Change.{Change as ChangeSaid, Copy, Made as MadeSaid, Plan as PlanSaid, Want as Wanted, first_held_old, made_by, make_change, plan_of, with_sequel}
use Rattle.cell_world.specs.Gather.{Source, source_of}
use Rattle.cell_world.specs.Outcome.{Outcome, ◌>>=◌, ◌>>◌, refused_by}
use Rattle.cell_world.specs.World.{World}
use Rattle.cell_machine.specs.declared.machine.Machine.{Machine}
use Rattle.cell_machine.specs.Does.{HasGoneBack, LeavesParts, Most, counted_before, state_of}
use Rattle.cell_machine.specs.Machine.{world_of}
use Rattle.cell_machine.specs.Same.{IsSame, raised}
use Rattle.cell_machine.proofs.Same.{same_counted}
use Rattle.cell_change_law.proofs.Ending.{no_restart, no_routines}
use Rattle.cell_change.specs.declared.request.Change.{Change}
use Rattle.cell_change.specs.declared.request.Ending.{Ending}
use Rattle.cell_change.specs.declared.request.Ending.TheVariants.{Lenient}
use Rattle.cell_change.specs.declared.request.Options.{Options}
use Rattle.cell_change.specs.Asking.{IsAsked, as_said, is_strict, restart_by}
use Rattle.cell_change.specs.Counted.{most_by}
use Rattle.cell_change.specs.Exchanged.{Changes}
use Rattle.cell_change.specs.Transferring.{stacks_for}

abbrev nothing : Most
nothing = record { patches = 0; maps = 0 }

-- what counts nothing has counted nothing before any refusal
none_counted : (r : Refusal) → counted_before r nothing ≡ nothing
none_counted (Unknown word) = refl
none_counted (NameTaken word) = refl
none_counted (NotRunnable task cause pc) = refl
none_counted (TooMany kind limit) = refl
none_counted (NoObject stem) = refl
none_counted (Ambiguous one two) = refl
none_counted (BadObject file rule at) = refl
none_counted (Duplicate name holder) = refl
none_counted (Missing name needed_by) = refl
none_counted (NoEntry name) = refl
none_counted (Exhausted wanted largest) = refl
none_counted (Overflow cell section offset kind) = refl
none_counted (Torn task cell section offset) = refl
none_counted (Transfer name why) = refl
none_counted (Held cell holder) = refl
none_counted (NotFaulted task) = refl
none_counted (NoCrate task pc) = refl
none_counted (NoParent word) = refl

unraised : (old new : ℕ) → old ≤ new → new ≤ raised old 0 → new ≡ old
unraised old new low high = omega (arith, low, high)

-- where nothing was counted the machine is the same
still_same : (r : Refusal) (m n : Machine) → LeavesParts (Some nothing) r m n → IsSame m n
still_same r m n left =
    let back : HasGoneBack nothing (state_of m) (state_of n) = subst (λ (most : Most). HasGoneBack most (state_of m) (state_of n)) (none_counted r) left.1 in
    same_counted m n left.0 (unraised m.memory.patches n.memory.patches back.patches.0 back.patches.1) (unraised m.memory.maps n.memory.maps back.maps.0 back.maps.1)

-- what is asked for beside cells, where it is nothing
pub record IsPlain (o : Options) : Type 0 where
  pub reexport : o.reexport ≡ false
  pub routines : o.routines.now ≡ []
  pub budget : o.budget ≡ 0
  pub ending : o.ending ≡ Lenient

module _ (wants : List Wanted) (copies : List Copy) where
  abbrev saying : Bool → Ending → List (List ℕ) → ℕ → ChangeSaid
  saying reexport ending words turns =
      record { wants = wants; reexport = reexport; strict = is_strict ending; routines = words; budget = turns; restarts = restart_by ending; copies = copies }

  -- these cells and copies, and no more
  pub plain_is : (o : Options) → IsPlain o → as_said o wants copies ≡ (let x : ChangeSaid = record { wants = wants; reexport = false; strict = false; routines = []; budget = 0; restarts = None; copies = copies } in x)
  plain_is o plain =
      ap (λ (b : Bool). saying b o.ending o.routines.now o.budget) plain.reexport
      ∙ (ap (λ (e : Ending). saying false e o.routines.now o.budget) plain.ending
      ∙ ap₂ (λ (words : List (List ℕ)) (turns : ℕ). saying false Lenient words turns) plain.routines plain.budget)

module _ (files : List File) (before : Machine) (change : Change) (a : IsAsked (map source_of files) (world_of before) change) (plain : IsPlain change.options) where
  abbrev sources : List Source
  sources = map source_of files

  abbrev w : World
  w = world_of before

  abbrev c : ChangeSaid
  c = as_said change.options a.wants a.copies

  abbrev after_sequel : PlanSaid → World → Outcome MadeSaid
  after_sequel plan second = refused_by (first_held_old c second) >> Ok (made_by c plan second)

  abbrev after_plan : PlanSaid → Outcome MadeSaid
  after_plan plan = with_sequel c plan >>= after_sequel plan

  not_strict : (second : World) → first_held_old c second ≡ None
  not_strict second = ap (λ (x : ChangeSaid). first_held_old x second) (plain_is a.wants a.copies change.options plain)

  -- a plan is carried out: nothing is asked that could be refused then
  carried_out : (plan : PlanSaid) → plan_of sources w c ≡ Ok plan → make_change sources w c ≡ Ok (made_by c plan plan.linked)
  carried_out plan e =
      ap (λ (x : Outcome PlanSaid). x >>= after_plan) e
      ∙ (ap (λ (x : Outcome World). x >>= after_sequel plan) (no_restart sources w c plan plan.linked (ap restart_by plain.ending) e (no_routines sources w c plan plain.routines e))
      ∙ ap (λ (x : Option Refusal). refused_by x >> (let y : Outcome MadeSaid = Ok (made_by c plan plan.linked) in y)) (not_strict plan.linked))

  pub refused_same : (r : Refusal) (n : Machine) → Changes files change before a (Err (Refused r)) n → IsSame before n
  refused_same r n e = same (plan_of sources w c) refl e.1
    where
      apart_from : (made : MadeSaid) → (let o : Outcome MadeSaid = Ok made in o) ≡ Err r → ⊥
      apart_from made k = cc

      same : (o : Outcome PlanSaid) → plan_of sources w c ≡ o → LeavesParts (Some (most_by o (stacks_for change.options.routines.now))) r before n → IsSame before n
      same (Err other) p left = still_same r before n left
      same (Ok plan) p left = absurd (apart_from (made_by c plan plan.linked) (sym (carried_out plan p) ∙ e.0))
