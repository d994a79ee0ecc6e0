-- The commands that change cells, as changes that they ask for.
--     next_load     `load NS STEM`: the cell of the one file of that stem, beside the others
--     next_swap     `swap NS/OLD=FILE ...`: for each item a cell of the file in the place of the old one
--     next_recover  `recover T`: for the cell that the task stands in a fresh one of its own file, and the task begins again
--     next_rebuild  `rebuild T`: the same for all attached cells that the task holds
--     next_clone    `clone NS as NAME`: a sibling of the namespace, with a copy of each cell that is attached there
use Rattle.std.specs.Prelude.{ℕ, ◌==◌, Bool, true, false, not, ◌&&◌, List, [], ◌∷◌, ◌++◌, Option, Some, None, Ok, filter, length, map, option_and_then, slice_get}
use Rattle.cell_num.specs.declared.ids.CellId.{CellId}
use Rattle.cell_world.specs.declared.command.SwapItem.{SwapItem}
use Rattle.cell_world.specs.declared.refusal.Refusal.TheVariants.{Unknown, NoCrate, NoObject, NoParent}
use Rattle.cell_world.specs.declared.reply.Reply.{Reply}
use Rattle.cell_world.specs.declared.reply.Reply.TheVariants.{Load as LoadDone, Swap as SwapDone, Recover as RecoverDone, Rebuild as RebuildDone, Clone as CloneDone}
use Rattle.cell_world.specs.World.{World, Cell, Task, is_attached}
use Rattle.cell_world.specs.Gather.{Source, depot_files, one_file, file_named}
use Rattle.cell_world.specs.Commands.UnloadCommand.{attached_cell, detached_of}
use Rattle.cell_world.specs.Commands.Recovery.{faulted_task, recovery_of, rebuild_of}
use Rattle.cell_world.specs.Outcome.{Outcome, ◌>>=◌, ◌>>◌, need, found, each}
use Rattle.cell_world.specs.Answer.{Done, done, ids, numbers_of, space_of}
use Rattle.cell_world.specs.Commands.NsCommand.{if_new_space, with_namespace}
use Rattle.cell_world.specs.Change.{Change, Want, Copy, Made, adding, copying, make_change}

abbrev pub next_load : List Source → World → List ℕ → List ℕ → Outcome Done
next_load sources w name stem = do
  ns ← space_of w name
  file ← one_file (depot_files sources name stem) (NoObject stem)
  made ← make_change sources w (adding (record { file = file; ns = ns; replaces = None } ∷ []))
  done (LoadDone (ids (numbers_of made.fresh)) made.patched) made.world

abbrev pub want_of : List Source → World → SwapItem → Outcome Want
want_of sources w item = do
  old ← attached_cell w (record { ns = item.ns; stem = item.stem })
  file ← found (file_named sources item.file) (Unknown item.file)
  Ok (record { file = file; ns = old.ns; replaces = Some old })

abbrev pub wants_of : List Source → World → List SwapItem → Outcome (List Want)
wants_of sources w items = each (λ wants item. want_of sources w item >>= (λ want. Ok (wants ++ want ∷ []))) [] items

-- what is said of cells that came in the place of others
abbrev pub exchange_reply : (ℕ → List CellId → ℕ → List CellId → List CellId → Reply) → Made → Reply
exchange_reply said made =
    said made.world.swaps (ids (numbers_of made.fresh)) made.patched (ids made.removed) (ids (detached_of made.world))

abbrev pub swap_reply : Made → Reply
swap_reply made = exchange_reply SwapDone made

abbrev pub next_swap : List Source → World → List SwapItem → Bool → Bool → List (List ℕ) → ℕ → Outcome Done
next_swap sources w items reexport strict routines budget = do
  wants ← wants_of sources w items
  made ← make_change sources w (record { wants = wants; reexport = reexport; strict = strict; routines = routines; budget = budget; restarts = None; copies = [] })
  done (swap_reply made) made.world

-- a fresh instance of the cell's own file in the place of the cell
abbrev pub renewal : List Source → Cell → Outcome Want
renewal sources c = do
  file ← found (file_named sources c.file) (Unknown c.file)
  Ok (record { file = file; ns = c.ns; replaces = Some c })

abbrev pub renewals : List Source → List Cell → Outcome (List Want)
renewals sources cells = each (λ wants c. renewal sources c >>= (λ want. Ok (wants ++ want ∷ []))) [] cells

-- the swap of these cells with all their names, and a restart of the task
abbrev pub renewing : List Want → ℕ → Change
renewing wants task =
    record { wants = wants; reexport = true; strict = false; routines = []; budget = 0; restarts = Some task; copies = [] }

abbrev pub next_renewed : List Source → World → Task → List Cell → (ℕ → List CellId → ℕ → List CellId → List CellId → Reply) → Outcome Done
next_renewed sources w t cells said = do
  need (not (length cells == 0)) (NoCrate t.number t.pc)
  wants ← renewals sources cells
  made ← make_change sources w (renewing wants t.number)
  done (exchange_reply said made) made.world

abbrev pub next_recover : List Source → World → ℕ → Outcome Done
next_recover sources w number = do
  t ← faulted_task w number
  next_renewed sources w t (recovery_of w t) (RecoverDone number)

abbrev pub next_rebuild : List Source → World → ℕ → Outcome Done
next_rebuild sources w number = do
  t ← faulted_task w number
  next_renewed sources w t (rebuild_of w t) (RebuildDone number)

-- attached in the namespace itself
abbrev pub is_in_space : ℕ → Cell → Bool
is_in_space ns c = is_attached c.standing && c.ns == ns

abbrev pub cells_in : World → ℕ → List Cell
cells_in w ns = filter (is_in_space ns) w.cells

abbrev pub copies_into : ℕ → List Cell → List Copy
copies_into ns cells = map (λ c. record { original = c; ns = ns }) cells

abbrev pub parent_of : World → ℕ → Option ℕ
parent_of w ns = option_and_then (λ space. space.parent) (slice_get w.namespaces ns)

-- `k` has no parent, so it has no sibling. The new namespace has the next number
abbrev pub next_clone : List Source → World → List ℕ → List ℕ → Outcome Done
next_clone sources w name sibling = do
  ns ← space_of w name
  up ← found (parent_of w ns) (NoParent name)
  if_new_space w sibling (do
    made ← make_change sources (with_namespace w sibling up) (copying (copies_into (length w.namespaces) (cells_in w ns)))
    done (CloneDone sibling (ids (numbers_of made.fresh)) made.patched) made.world)
