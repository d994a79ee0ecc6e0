-- The stack of the tests of tasks, and the one task that they start.
use Rattle.std.proofs.Common.{◌≡◌, refl, sym, ◌∙◌, ap, subst, inl, arith, ℕ, ◌+◌, ◌-◌, ◌*◌, ◌≤◌, ◌<◌, ◌^◌, Bool, true, false, List, length, replicate, take, Some}
use Rattle.std.specs.Prelude.{slice_range}
use Rattle.std.specs.List.{list_any}
use Rattle.std.proofs.lemmas.List.{drop-replicate, take-replicate}
use Rattle.std.proofs.lemmas.List.Elements.{All-replicate}
use Rattle.std.proofs.lemmas.List.Folds.{list_any_none}
use Rattle.cell_num.specs.Limits.{stack_size}
use Rattle.cell_mem.specs.State.{MemoryState, empty_memory, is_sealed, mapped, reserved}
use Rattle.cell_task.specs.Clearing.{CanClear}
use Rattle.cell_task.specs.State.{TasksState, live_in, no_tasks, with_new}
use Rattle.cell_world.specs.Commands.SpawnCommand.{new_task}
use Rattle.cell_world.specs.World.{Permission, Task}
use Rattle.cell_world.specs.declared.state.Origin.{Origin}

no_mark : (n from count : ℕ) → from + count ≤ n → list_any (λ sealed. sealed) (slice_range (replicate n false) from (from + count)) ≡ false
no_mark n from count inside =
    let few : from + count - from ≤ n - from = omega (arith, inside) in
    ap (λ (marks : List Bool). list_any (λ sealed. sealed) (take (from + count - from) marks)) (drop-replicate from n false)
    ∙ (ap (λ (marks : List Bool). list_any (λ sealed. sealed) marks) (take-replicate (from + count - from) (n - from) false few)
    ∙ list_any_none (λ sealed. sealed) (replicate (from + count - from) false) (All-replicate (λ sealed. sealed ≡ false) (from + count - from) false refl))

-- the one region of a memory may be cleared
pub may_clear : (start pages : ℕ) → 4 ≤ pages → start + stack_size < 2 ^ 64 → (m n o : MemoryState) (p : Permission) (bytes : List ℕ)
    → m ≡ empty_memory start pages → n ≡ reserved m 1 → p ≡ record { read = true; write = true; exec = false } → length bytes ≡ stack_size → o ≡ mapped n start p bytes → CanClear o start
may_clear start pages enough low m n o p bytes new room both long is =
    subst (λ (x : MemoryState). CanClear x start) (sym (is ∙ ap (λ (x : MemoryState). mapped x start p bytes) (room ∙ ap (λ (x : MemoryState). reserved x 1) new)))
    (record {
      region = record { start = start; permission = p; bytes = bytes };
      there = inl refl;
      start = refl;
      size = long;
      write = ap (λ (x : Permission). x.write) both;
      low = low;
      unsealed = open_at;
    })
  where
    open_at : (k : ℕ) → k < 2048 → is_sealed (mapped (reserved (empty_memory start pages) 1) start p bytes) (start + 8 * k) 8 ≡ false
    open_at k few =
        let at : start + 8 * k - start ≡ 8 * k = omega arith in
        ap (λ (i : ℕ). list_any (λ sealed. sealed) (slice_range (replicate (4096 * pages) false) i (i + 8))) at
        ∙ no_mark (4096 * pages) (8 * k) 8 (omega (arith, few, enough))

-- the first task that was started is the only one
module _ (none started : TasksState) (root entry stack : ℕ) (origin : Origin) (no : none ≡ no_tasks) (is : started ≡ with_new none (new_task none.next root entry origin stack)) where
  pub lives : live_in started 1 ≡ Some (new_task 1 root entry origin stack)
  lives = ap (λ (s : TasksState). live_in s 1) (is ∙ ap (λ (s : TasksState). with_new s (new_task s.next root entry origin stack)) no)

  same : (w : Task) → live_in started 1 ≡ Some w → Some (new_task 1 root entry origin stack) ≡ Some w
  same w live = sym lives ∙ live

  pub has_stack : (w : Task) → live_in started 1 ≡ Some w → stack ≡ w.stack
  has_stack w live = ap (λ (x : Task). x.stack) (injected (same w live))
    where
      injected : Some (new_task 1 root entry origin stack) ≡ Some w → new_task 1 root entry origin stack ≡ w
      injected e = cc
