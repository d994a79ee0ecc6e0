-- `spawn` step by step: the namespace, room for a task, the entry, and then the start.
use Rattle.std.proofs.Common.{◌≡◌, refl, sym, ◌∙◌, ap, subst, ℕ, ◌≤◌, ◌<◌, Bool, true, false, List, length, Ok, Err, Result}
use Rattle.std.specs.Prelude.{nat_le, nat_lt}
use Rattle.std.proofs.lemmas.Bool.{leb-true, ltb-true}
use Rattle.cell_world.specs.declared.fail.Fail.{Fail}
use Rattle.cell_world.specs.declared.fail.Fail.TheVariants.{Refused, OutOfMemory}
use Rattle.cell_world.specs.Following.{FailsAs}
use Rattle.cell_world.specs.declared.refusal.Many.TheVariants.{Tasks as ManyTasks, TaskNumbers}
use Rattle.cell_world.specs.declared.refusal.Refusal.{Refusal}
use Rattle.cell_world.specs.declared.refusal.Refusal.TheVariants.{NoEntry, TooMany}
use Rattle.cell_world.specs.declared.reply.Reply.{Reply}
use Rattle.cell_world.specs.Answer.{Done, space_of}
use Rattle.cell_world.specs.Outcome.{Outcome, ◌>>=◌, ◌>>◌, found, need}
use Rattle.cell_world.specs.Commands.SpawnCommand.{entry_named, next_spawn}
use Rattle.cell_world.specs.declared.state.Origin.{Origin}
use Rattle.cell_world.specs.World.{World}
use Rattle.cell_lemmas.proofs.Outcomes.{need_ok, then_ok}
use Rattle.cell_task.specs.State.{TasksState}
use Rattle.cell_machine.specs.declared.machine.Machine.{Machine}
use Rattle.cell_machine.specs.Machine.{world_of}
use Rattle.cell_machine.proofs.Unchanged.{same_itself}
use Rattle.cell_machine.specs.Does.{Does, one_stack}
use Rattle.cell_schedule.specs.Starts.{may_start, started}

two_needs : {X : Type 0} (a b : Bool) (r s : Refusal) (more : Outcome X) → (need a r >> (need b s >> more)) ≡ ((need a r >> need b s) >> more)
two_needs true true r s more = refl
two_needs true false r s more = refl
two_needs false b r s more = refl

-- what is allowed of the tasks
pub room_left : (s : TasksState) (u : Unit {0}) → may_start s ≡ Ok u → (length s.tasks < 64) × (s.next ≤ 65535)
room_left s u e =
    let k = then_ok (need (nat_lt (length s.tasks) 64) (TooMany ManyTasks 64)) (need (nat_le s.next 65535) (TooMany TaskNumbers 65535)) u e in
    (ltb-true (length s.tasks) 64 (need_ok (nat_lt (length s.tasks) 64) (TooMany ManyTasks 64) k.0 k.1), leb-true s.next 65535 (need_ok (nat_le s.next 65535) (TooMany TaskNumbers 65535) u k.2))

module _ (m : Machine) (name symbol : List ℕ) (arg : ℕ) where
  abbrev w : World
  w = world_of m

  -- what the task keeps
  abbrev pub origin_in : ℕ → Origin
  origin_in ns = record { ns = ns; name = symbol; arg = arg }

  abbrev entered : ℕ → Outcome Done
  entered ns = found (entry_named w ns symbol) (NoEntry symbol) >>= (λ entry. started w entry (origin_in ns))

  next_is : next_spawn w name symbol arg ≡ (space_of w name >>= (λ ns. may_start m.tasks >> entered ns))
  next_is = go (space_of w name)
    where
      go : (o : Outcome ℕ) → (o >>= (λ ns. need (nat_lt (length m.tasks.tasks) 64) (TooMany ManyTasks 64) >> (need (nat_le m.tasks.next 65535) (TooMany TaskNumbers 65535) >> entered ns))) ≡ (o >>= (λ ns. may_start m.tasks >> entered ns))
      go (Err r) = refl
      go (Ok ns) = two_needs (nat_lt (length m.tasks.tasks) 64) (nat_le m.tasks.next 65535) (TooMany ManyTasks 64) (TooMany TaskNumbers 65535) (entered ns)

  -- a refusal that is said, or want of memory
  failed : (said : Outcome Done) → next_spawn w name symbol arg ≡ said → (fail : Fail) → FailsAs fail said → Does (next_spawn w name symbol arg) one_stack m (Err fail) m
  failed said is (Refused refusal) e = (is ∙ e, same_itself m)
  failed said is OutOfMemory e = same_itself m

  bind_fails : {X Y : Type 0} (fail : Fail) (o : Outcome X) (f : X → Outcome Y) → FailsAs fail o → FailsAs fail (o >>= f)
  bind_fails (Refused refusal) o f e = ap (λ x. x >>= f) e
  bind_fails OutOfMemory o f e = tt

  then_fails : {X Y : Type 0} (fail : Fail) (o : Outcome X) (more : Outcome Y) → FailsAs fail o → FailsAs fail (o >> more)
  then_fails (Refused refusal) o more e = ap (λ x. x >> more) e
  then_fails OutOfMemory o more e = tt

  pub no_space : (fail : Fail) → FailsAs fail (space_of w name) → Does (next_spawn w name symbol arg) one_stack m (Err fail) m
  no_space fail e = failed (space_of w name >>= (λ ns. may_start m.tasks >> entered ns)) next_is fail (bind_fails fail (space_of w name) (λ ns. may_start m.tasks >> entered ns) e)

  module _ (ns : ℕ) (in_space : space_of w name ≡ Ok ns) where
    in_it : next_spawn w name symbol arg ≡ (may_start m.tasks >> entered ns)
    in_it = next_is ∙ ap (λ o. o >>= (λ ns. may_start m.tasks >> entered ns)) in_space

    pub no_room : (fail : Fail) → FailsAs fail (may_start m.tasks) → Does (next_spawn w name symbol arg) one_stack m (Err fail) m
    no_room fail e = failed (may_start m.tasks >> entered ns) in_it fail (then_fails fail (may_start m.tasks) (entered ns) e)

    module _ (u : Unit {0}) (roomy : may_start m.tasks ≡ Ok u) where
      roomed : next_spawn w name symbol arg ≡ entered ns
      roomed = in_it ∙ ap (λ o. o >> entered ns) roomy

      pub no_entry : (fail : Fail) → FailsAs fail (found (entry_named w ns symbol) (NoEntry symbol)) → Does (next_spawn w name symbol arg) one_stack m (Err fail) m
      no_entry fail e = failed (entered ns) roomed fail (bind_fails fail (found (entry_named w ns symbol) (NoEntry symbol)) (λ entry. started w entry (origin_in ns)) e)

      -- then all is as it starts
      pub then_started : (entry : ℕ × ℕ) → found (entry_named w ns symbol) (NoEntry symbol) ≡ Ok entry → (result : Result Reply Fail) (new : Machine) → Does (started w entry (origin_in ns)) one_stack m result new → Does (next_spawn w name symbol arg) one_stack m result new
      then_started entry is result new d =
          subst (λ (said : Outcome Done). Does said one_stack m result new) (sym (roomed ∙ ap (λ o. o >>= (λ entry. started w entry (origin_in ns))) is)) d
