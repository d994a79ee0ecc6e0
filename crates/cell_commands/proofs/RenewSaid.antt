-- A recovery is the change that renews the cells of its task, after which the task begins again.
use Rattle.std.proofs.Common.{◌≡◌, ◌<◌, refl, sym, ap, subst, arith, ◌∙◌, ℕ, Bool, true, false, not, List, [], length, map}
use Rattle.std.specs.Prelude.{◌==◌, Err, Ok, Result, Some}
use Rattle.cell_world.specs.declared.fail.Fail.{Fail}
use Rattle.cell_world.specs.declared.file.File.{File}
use Rattle.cell_world.specs.declared.refusal.Refusal.{Refusal}
use Rattle.cell_world.specs.declared.refusal.Refusal.TheVariants.{NoCrate}
use Rattle.cell_world.specs.declared.reply.Reply.{Reply}
use Rattle.cell_world.specs.declared.reply.Reply.TheVariants.{Rebuild as RebuildDone, Recover as RecoverDone}
use Rattle.cell_world.specs.Answer.{Done, done}
use Rattle.cell_world.specs.Commands.Asked.{exchange_reply, next_renewed, renewals, renewing}
use Rattle.cell_world.specs.Commands.Recovery.{faulted_task}
use Rattle.cell_world.specs.Change.{Change as ChangeSaid, Made as MadeSaid, Plan as PlanSaid, Want as Wanted, make_change, plan_of}
use Rattle.cell_world.specs.Following.{FailsAs}
use Rattle.cell_world.specs.Gather.{Source, source_of}
use Rattle.cell_world.specs.Outcome.{Outcome, ◌>>=◌, ◌>>◌, need}
use Rattle.cell_world.specs.World.{Cell, Task, World}
use Rattle.cell_machine.specs.declared.machine.Machine.{Machine}
use Rattle.cell_machine.specs.Does.{Counts, Does}
use Rattle.cell_machine.specs.Machine.{IsSound, world_of}
use Rattle.cell_change.specs.declared.request.Change.{Change}
use Rattle.cell_change.specs.declared.request.Options.{Options}
use Rattle.cell_change.specs.declared.made.Made.{Made}
use Rattle.cell_change.specs.Asking.{as_said}
use Rattle.cell_change.specs.Counted.{most_by}
use Rattle.cell_change.specs.Exchanged.{Changes, HasMade}
use Rattle.cell_change.specs.Transferring.{stacks_for}
use Rattle.cell_commands.specs.Counted.{renewal_counts}
use Rattle.cell_commands.specs.Renewals.{AreAskedAnew, wanted_anew}
use Rattle.cell_commands.proofs.ExchangeSaid.{IsSaying, Saying, counts, nothing_named, said, was_made, was_refused as was_refused_so}
use Rattle.cell_commands.proofs.Faulted.{same_number}

pub says_recovered : (number : ℕ) → IsSaying (RecoverDone number)
says_recovered number = record { fresh = λ n cells patched removed kept. refl; patched = λ n cells patched removed kept. refl }

pub says_rebuilt : (number : ℕ) → IsSaying (RebuildDone number)
says_rebuilt number = record { fresh = λ n cells patched removed kept. refl; patched = λ n cells patched removed kept. refl }

-- what follows on equal steps
bind_same : {A B : Type 0} (x : Outcome A) (f g : A → Outcome B) → ((a : A) → f a ≡ g a) → (x >>= f) ≡ (x >>= g)
bind_same (Ok a) f g same = same a
bind_same (Err r) f g same = refl

module _ (files : List File) (before : Machine) (number : ℕ) (set : World → Task → List Cell) (as_reply : Saying) (saying : IsSaying as_reply) where
  abbrev sources : List Source
  sources = map source_of files

  abbrev w : World
  w = world_of before

  abbrev all : Outcome (List Wanted)
  all = wanted_anew sources w number set

  abbrev answer : MadeSaid → Outcome Done
  answer made = done (exchange_reply as_reply made) made.world

  abbrev then_done : ℕ → List Wanted → Outcome Done
  then_done task wants = make_change sources w (renewing wants task) >>= answer

  -- the command of the definition
  abbrev pub renewed : Outcome Done
  renewed = faulted_task w number >>= (λ t. next_renewed sources w t (set w t) as_reply)

  by_wants : renewed ≡ (all >>= then_done number)
  by_wants = go (faulted_task w number) refl
    where
      needed : (b : Bool) (r : Refusal) (x : Outcome (List Wanted)) (f : List Wanted → Outcome Done) → (need b r >> (x >>= f)) ≡ ((need b r >> x) >>= f)
      needed true r x f = refl
      needed false r x f = refl

      go : (o : Outcome Task) → faulted_task w number ≡ o
          → (o >>= (λ t. next_renewed sources w t (set w t) as_reply)) ≡ ((o >>= (λ t. need (not (length (set w t) == 0)) (NoCrate t.number t.pc) >> renewals sources (set w t))) >>= then_done number)
      go (Err r) e = refl
      go (Ok t) e =
          needed (not (length (set w t) == 0)) (NoCrate t.number t.pc) (renewals sources (set w t)) (then_done t.number)
          ∙ ap (λ (n : ℕ). (need (not (length (set w t) == 0)) (NoCrate t.number t.pc) >> renewals sources (set w t)) >>= then_done n) (same_number w number t e)

  abbrev RenewDoes : Result Reply Fail → Machine → Type 0
  RenewDoes result n = Does renewed (renewal_counts sources w number set) before result n

  -- the words name nothing
  pub not_asked : IsSound before → (fail : Fail) → FailsAs fail all → RenewDoes (Err fail) before
  not_asked sound fail e =
      subst (λ (x : Outcome Done). Does x (renewal_counts sources w number set) before (Err fail) before) (sym by_wants)
      (nothing_named before sound all (then_done number) 0 (most_by (all >>= (λ wants. plan_of sources w (renewing wants number))) 0) fail e)

  module _ (change : Change) (x : AreAskedAnew sources w all 1 number change) where
    abbrev o : Options
    o = change.options

    no_words : o.routines.now ≡ []
    no_words = ap (λ (c : ChangeSaid). c.routines) (x.said [])

    said_is : said files before all as_reply saying o ≡ renewed
    said_is = bind_same all (λ wants. make_change sources w (as_said o wants []) >>= answer) (then_done number) (λ wants. ap (λ (c : ChangeSaid). make_change sources w c >>= answer) (x.said wants)) ∙ sym by_wants

    counts_are : counts files before all as_reply saying o ≡ renewal_counts sources w number set
    counts_are =
        ap (λ (words : List (List ℕ)). let c : Counts = record { stacks = stacks_for words; undone = Some (most_by (all >>= (λ wants. plan_of sources w (as_said o wants []))) (stacks_for words)) } in c) no_words
        ∙ ap (λ (p : Outcome PlanSaid). let c : Counts = record { stacks = 0; undone = Some (most_by p 0) } in c) (bind_same all (λ wants. plan_of sources w (as_said o wants [])) (λ wants. plan_of sources w (renewing wants number)) (λ wants. ap (plan_of sources w) (x.said wants)))

    as_renewal : (result : Result Reply Fail) (n : Machine) → Does (said files before all as_reply saying o) (counts files before all as_reply saying o) before result n → RenewDoes result n
    as_renewal result n does =
        subst (λ (c : Counts). Does renewed c before result n) counts_are
        (subst (λ (y : Outcome Done). Does y (counts files before all as_reply saying o) before result n) said_is does)

    enough : 0 < length change.replaced.items
    enough = let count = x.enough in omega (arith, count)

    pub was_refused : (fail : Fail) (n : Machine) → Changes files change before x.asked (Err fail) n → RenewDoes (Err fail) n
    was_refused fail n e = as_renewal (Err fail) n (was_refused_so files before all as_reply saying change x.asked x.none x.all_are enough fail n e)

    pub was_renewed : (made : Made) (n : Machine) → HasMade files change before x.asked made n → RenewDoes (Ok (as_reply n.swaps made.fresh made.patched made.removed made.aside)) n
    was_renewed made n has = as_renewal (Ok (as_reply n.swaps made.fresh made.patched made.removed made.aside)) n (was_made files before all as_reply saying change x.asked x.none x.all_are enough made n has)
