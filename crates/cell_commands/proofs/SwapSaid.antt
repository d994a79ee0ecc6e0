-- A swap is the change that its items ask for.
use Rattle.std.proofs.Common.{◌≡◌, ◌<◌, refl, subst, arith, Bool, true, false, List, [], length, map, Option, ℕ, None}
use Rattle.std.specs.Prelude.{Err, Ok, Result, Some}
use Rattle.cell_world.specs.declared.command.SwapItem.{SwapItem}
use Rattle.cell_world.specs.declared.fail.Fail.{Fail}
use Rattle.cell_world.specs.declared.file.File.{File}
use Rattle.cell_world.specs.declared.reply.Reply.{Reply}
use Rattle.cell_world.specs.declared.reply.Reply.TheVariants.{Swap as SwapDone}
use Rattle.cell_world.specs.Answer.{done}
use Rattle.cell_world.specs.Commands.Asked.{exchange_reply, next_swap, wants_of}
use Rattle.cell_world.specs.Change.{Change as ChangeSaid, Want as Wanted, make_change, plan_of}
use Rattle.cell_world.specs.Following.{FailsAs}
use Rattle.cell_world.specs.Gather.{Source, source_of}
use Rattle.cell_world.specs.Outcome.{◌>>=◌}
use Rattle.cell_world.specs.World.{World}
use Rattle.cell_machine.specs.declared.machine.Machine.{Machine}
use Rattle.cell_machine.specs.Does.{Does}
use Rattle.cell_machine.specs.Machine.{IsSound, world_of}
use Rattle.cell_change.specs.declared.request.Change.{Change}
use Rattle.cell_change.specs.declared.request.Options.{Options}
use Rattle.cell_change.specs.declared.made.Made.{Made}
use Rattle.cell_change.specs.Asking.{is_strict, restart_by}
use Rattle.cell_change.specs.Counted.{most_by}
use Rattle.cell_change.specs.Exchanged.{Changes, HasMade}
use Rattle.cell_change.specs.Transferring.{stacks_for}
use Rattle.cell_commands.specs.Counted.{swap_counts}
use Rattle.cell_commands.specs.declared.swapping.SwapWords.{SwapWords}
use Rattle.cell_commands.specs.Items.{AreAsked, ending_for, options_of}
use Rattle.cell_commands.proofs.ExchangeSaid.{IsSaying, counts, not_asked as not_asked_so, said, was_made, was_refused as was_refused_so}

pub saying : IsSaying SwapDone
saying = record { fresh = λ n cells patched removed kept. refl; patched = λ n cells patched removed kept. refl }

module _ (files : List File) (before : Machine) (items : List SwapItem) where
  abbrev sources : List Source
  sources = map source_of files

  abbrev w : World
  w = world_of before

  abbrev SwapDoes : SwapWords → Result Reply Fail → Machine → Type 0
  SwapDoes words result n =
      Does (next_swap sources w items words.reexport words.strict words.routines.now words.budget) (swap_counts sources w items words.reexport words.strict words.routines.now words.budget) before result n

  -- what is said of a change that ends so
  abbrev SaidFor : Options → Result Reply Fail → Machine → Type 0
  SaidFor o result n = Does (said files before (wants_of sources w items) SwapDone saying o) (counts files before (wants_of sources w items) SwapDone saying o) before result n

  -- and of one that is as strict, and has that task begin again
  abbrev EndsSo : SwapWords → Bool → Option ℕ → Result Reply Fail → Machine → Type 0
  EndsSo words strict again result n =
      let c : List Wanted → ChangeSaid = λ wants. record { wants = wants; reexport = words.reexport; strict = strict; routines = words.routines.now; budget = words.budget; restarts = again; copies = [] } in
      Does (wants_of sources w items >>= (λ wants. make_change sources w (c wants) >>= (λ made. done (exchange_reply SwapDone made) made.world)))
      (record { stacks = stacks_for words.routines.now; undone = Some (most_by (wants_of sources w items >>= (λ wants. plan_of sources w (c wants))) (stacks_for words.routines.now)) }) before result n

  strict_is : (strict : Bool) → is_strict (ending_for strict) ≡ strict
  strict_is true = refl
  strict_is false = refl

  none_again : (strict : Bool) → restart_by (ending_for strict) ≡ None
  none_again true = refl
  none_again false = refl

  as_swap : (words : SwapWords) (result : Result Reply Fail) (n : Machine) → SaidFor (options_of words) result n → SwapDoes words result n
  as_swap words result n does =
      subst (λ (again : Option ℕ). EndsSo words words.strict again result n) (none_again words.strict)
      (subst (λ (strict : Bool). EndsSo words strict (restart_by (ending_for words.strict)) result n) (strict_is words.strict) does)

  pub not_asked : (words : SwapWords) → IsSound before → (fail : Fail) → FailsAs fail (wants_of sources w items) → SwapDoes words (Err fail) before
  not_asked words sound fail e = as_swap words (Err fail) before (not_asked_so files before (wants_of sources w items) SwapDone saying (options_of words) sound fail e)

  -- by the options that the words give
  module _ (words : SwapWords) (some : 0 < length items) (asked : Change) (x : AreAsked sources w (wants_of sources w items) (length items) (options_of words) asked) where
    enough : 0 < length asked.replaced.items
    enough = let count = x.enough in omega (arith, some, count)

    pub was_refused : (fail : Fail) (n : Machine) → Changes files asked before x.asked (Err fail) n → SwapDoes words (Err fail) n
    was_refused fail n e =
        as_swap words (Err fail) n
        (subst (λ (o : Options). SaidFor o (Err fail) n) x.options (was_refused_so files before (wants_of sources w items) SwapDone saying asked x.asked x.none x.all_are enough fail n e))

    pub was_swapped : (made : Made) (n : Machine) → HasMade files asked before x.asked made n → SwapDoes words (Ok (SwapDone n.swaps made.fresh made.patched made.removed made.aside)) n
    was_swapped made n has =
        as_swap words (Ok (SwapDone n.swaps made.fresh made.patched made.removed made.aside)) n
        (subst (λ (o : Options). SaidFor o (Ok (SwapDone n.swaps made.fresh made.patched made.removed made.aside)) n) x.options
        (was_made files before (wants_of sources w items) SwapDone saying asked x.asked x.none x.all_are enough made n has))
