-- A command that puts cells in the place of others is the change that its words ask for, and answers by what that has made.
use Rattle.std.proofs.Common.{◌≡◌, ◌<◌, refl, sym, ap, ap₂, subst, arith, ◌∙◌, ℕ, ◌+◌, List, [], ◌∷◌, length, map}
use Rattle.std.specs.Prelude.{Err, Ok, Some, flat_map}
use Rattle.cell_num.specs.declared.ids.CellId.{CellId}
use Rattle.cell_world.specs.declared.fail.Fail.{Fail}
use Rattle.cell_world.specs.declared.fail.Fail.TheVariants.{Refused, OutOfMemory}
use Rattle.cell_world.specs.declared.file.File.{File}
use Rattle.cell_world.specs.declared.reply.Reply.{Reply}
use Rattle.cell_world.specs.Answer.{Done, done, fresh_by, ids, numbers_of}
use Rattle.cell_world.specs.Commands.Asked.{exchange_reply}
use Rattle.cell_world.specs.Change.{Copy, Change as ChangeSaid, Made as MadeSaid, Plan as PlanSaid, Want as Wanted, make_change, plan_of}
use Rattle.cell_world.specs.Following.{FailsAs}
use Rattle.cell_world.specs.Gather.{Source, source_of}
use Rattle.cell_world.specs.Outcome.{Outcome, ◌>>=◌}
use Rattle.cell_world.specs.Commands.UnloadCommand.{detached_of}
use Rattle.cell_world.specs.World.{World}
use Rattle.cell_machine.specs.declared.machine.Machine.{Machine}
use Rattle.cell_machine.specs.Does.{Counts, Does, LeavesParts, Most, cell_shapes, counted_before, new_runs, patched_by}
use Rattle.cell_machine.specs.Machine.{IsSound, world_of}
use Rattle.cell_machine.specs.Same.{raised}
use Rattle.cell_machine.proofs.Same.{counts_same}
use Rattle.cell_machine.proofs.Unchanged.{same_itself}
use Rattle.cell_change.specs.declared.request.Change.{Change}
use Rattle.cell_change.specs.declared.request.Options.{Options}
use Rattle.cell_change.specs.declared.made.Made.{Made}
use Rattle.cell_change.specs.Asking.{IsAsked, as_said}
use Rattle.cell_change.specs.Counted.{most_by}
use Rattle.cell_change.specs.Exchanged.{Changes, HasMade, are_aside, named_in}
use Rattle.cell_change.specs.Transferring.{stacks_for}
use Rattle.cell_change.proofs.Late.{unrisen}

-- how a command says what was made: the number, the new cells, the fields, the cells that went and those that are put aside
abbrev pub Saying : Type 0
Saying = ℕ → List CellId → ℕ → List CellId → List CellId → Reply

pub record IsSaying (as_reply : Saying) : Type 0 where
  pub fresh : (n : ℕ) (cells : List CellId) (patched : ℕ) (removed kept : List CellId) → fresh_by (as_reply n cells patched removed kept) ≡ cells
  pub patched : (n : ℕ) (cells : List CellId) (patched : ℕ) (removed kept : List CellId) → patched_by (as_reply n cells patched removed kept) ≡ patched

-- the words name nothing
pub nothing_named : (before : Machine) → IsSound before → (all : Outcome (List Wanted)) (then_done : List Wanted → Outcome Done) (stacks : ℕ) (most : Most) (fail : Fail) → FailsAs fail all
    → Does (all >>= then_done) (record { stacks = stacks; undone = Some most }) before (Err fail) before
nothing_named before sound all then_done stacks most (Refused r) e = (
  ap (λ (x : Outcome (List Wanted)). x >>= then_done) e,
  (
    counts_same before before (same_itself before),
    record {
      world = refl;
      patches = unrisen (counted_before r most).patches before.memory.patches sound.patches;
      maps = unrisen (counted_before r most).maps before.memory.maps sound.maps;
    },
  ),
)
nothing_named before sound all then_done stacks most OutOfMemory e = same_itself before

-- the words ask for all these wants
module _ (files : List File) (before : Machine) (all : Outcome (List Wanted)) (as_reply : Saying) (saying : IsSaying as_reply) where
  abbrev sources : List Source
  sources = map source_of files

  abbrev w : World
  w = world_of before

  module _ (o : Options) where
    abbrev answer : MadeSaid → Outcome Done
    answer made = done (exchange_reply as_reply made) made.world

    abbrev made_of : List Wanted → Outcome Done
    made_of wants = make_change sources w (as_said o wants []) >>= answer

    abbrev pub said : Outcome Done
    said = all >>= made_of

    abbrev pub plan : Outcome PlanSaid
    plan = all >>= (λ wants. plan_of sources w (as_said o wants []))

    abbrev most : Most
    most = most_by plan (stacks_for o.routines.now)

    abbrev pub counts : Counts
    counts = record { stacks = stacks_for o.routines.now; undone = Some most }

    pub not_asked : IsSound before → (fail : Fail) → FailsAs fail all → Does said counts before (Err fail) before
    not_asked sound fail e = nothing_named before sound all made_of (stacks_for o.routines.now) most fail e

  module _ (asked : Change) (a : IsAsked sources w asked) (none : a.copies ≡ []) (are : all ≡ Ok a.wants) (some : 0 < length asked.replaced.items) where
    abbrev o : Options
    o = asked.options

    abbrev change : ChangeSaid
    change = as_said o a.wants a.copies

    by_wants : said o ≡ (make_change sources w change >>= answer o)
    by_wants = ap (λ (x : Outcome (List Wanted)). x >>= made_of o) are ∙ ap (λ (copies : List Copy). make_change sources w (as_said o a.wants copies) >>= answer o) (sym none)

    plan_is : plan o ≡ plan_of sources w change
    plan_is = ap (λ (x : Outcome (List Wanted)). x >>= (λ wants. plan_of sources w (as_said o wants []))) are ∙ ap (λ (copies : List Copy). plan_of sources w (as_said o a.wants copies)) (sym none)

    pub was_refused : (fail : Fail) (n : Machine) → Changes files asked before a (Err fail) n → Does (said o) (counts o) before (Err fail) n
    was_refused (Refused r) n e = (
      by_wants ∙ ap (λ (x : Outcome MadeSaid). x >>= answer o) e.0,
      subst (λ (x : Outcome PlanSaid). LeavesParts (Some (most_by x (stacks_for o.routines.now))) r before n) (sym plan_is) e.1,
    )
    was_refused OutOfMemory n e = e

    some_aside : (old : List CellId) → 0 < length old → (u : World) → are_aside old u ≡ ids (detached_of u)
    some_aside [] lt u = absurd (omega (arith, lt))
    some_aside (c ∷ old) lt u = refl

    module _ (made : Made) (n : Machine) (has : HasMade files asked before a made n) where
      abbrev reply : Reply
      reply = as_reply n.swaps made.fresh made.patched made.removed made.aside

      reply_is : exchange_reply as_reply has.said ≡ reply
      reply_is =
          ap (λ (u : World). as_reply u.swaps (ids (numbers_of has.said.fresh)) has.said.patched (ids has.said.removed) (ids (detached_of u))) (sym has.changed.world)
          ∙ (ap (λ (kept : List CellId). as_reply n.swaps (ids (numbers_of has.said.fresh)) has.said.patched (ids has.said.removed) kept) (sym (has.changed.aside ∙ some_aside asked.replaced.items some (world_of n)))
          ∙ (ap (λ (removed : List CellId). as_reply n.swaps (ids (numbers_of has.said.fresh)) has.said.patched removed made.aside) (sym has.changed.removed)
          ∙ ap₂ (λ (fresh : List CellId) (patched : ℕ). as_reply n.swaps fresh patched made.removed made.aside) (sym has.changed.fresh) (sym has.changed.patched)))

      runs_are : (fresh : List CellId) → fresh_by reply ≡ fresh → raised before.memory.maps (length (flat_map cell_shapes (named_in fresh (world_of n))) + stacks_for o.routines.now) ≡ raised before.memory.maps (new_runs reply (world_of n) + stacks_for o.routines.now)
      runs_are fresh e = ap (λ (cells : List CellId). raised before.memory.maps (length (flat_map cell_shapes (named_in cells (world_of n))) + stacks_for o.routines.now)) (sym e)

      pub was_made : Does (said o) (counts o) before (Ok reply) n
      was_made = record {
        sound = has.changed.sound;
        is = record {
          step = by_wants ∙ (ap (λ (x : Outcome MadeSaid). x >>= answer o) has.is ∙ ap₂ (λ (r : Reply) (u : World). done r u) reply_is (sym has.changed.world));
          patches = has.changed.patches ∙ ap (raised before.memory.patches) (sym (saying.patched n.swaps made.fresh made.patched made.removed made.aside));
          maps = has.changed.maps ∙ runs_are made.fresh (saying.fresh n.swaps made.fresh made.patched made.removed made.aside);
        };
      }
