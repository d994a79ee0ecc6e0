-- What becomes of the machine when cells come, beside the others or in the place of some of them. Each load, swap, clone and
-- recovery is such a change: the command says what it wants, and answers by what was made.
--     Want, Copy, Change             what is asked for
--     adding wants, copying copies   new cells beside the others, and no more; copies of cells, and no more
--     replaced c                     the cells that others come in the place of
--     set_aside w c                  w with these put aside, as a group of their own
--     gather sources w c             and with the new cells, wanted ones and those that they need, and then copies; not placed yet
--     first_uncovered w c gathered   the first need of another cell that has lost its provider
--     plan_of sources w c            all that is decided before anything changes, and the machine with the new cells linked
--     with_routines c plan           that machine after the routines
--     with_sequel c plan             and once the task has begun again, if one does
--     make_change sources w c        the machine after the change, or its first refusal
use Rattle.std.specs.Prelude.{ℕ, suc, ◌+◌, nat_lt, Bool, false, not, ◌&&◌, List, [], ◌∷◌, ◌++◌, Option, Some, None, Ok, filter, filter_map, length, option_and_then, option_map, if◌then◌else◌}
use Rattle.cell_num.specs.Lists.{holds}
use Rattle.cell_world.specs.declared.refusal.Refusal.{Refusal}
use Rattle.cell_world.specs.World.{World, Cell, Task, task_of}
use Rattle.cell_world.specs.declared.state.Standing.TheVariants.{Attached}
use Rattle.cell_world.specs.Linked.Relink.{field_count, relink}
use Rattle.cell_world.specs.Placed.Place.{place_all}
use Rattle.cell_world.specs.Gather.{Source, Need, append_cell, bring, fresh_cells, first_lack, if_room, missing, with_next}
use Rattle.cell_world.specs.Commands.UnloadCommand.{detach, garbage_of, without_cells, first_held}
use Rattle.cell_world.specs.Kept.{holding_of}
use Rattle.cell_world.specs.Reexport.{Exchange, with_reexports}
use Rattle.cell_world.specs.Changed.{FieldAt, changed_fields}
use Rattle.cell_world.specs.Linked.Linking.{link_refusal}
use Rattle.cell_world.specs.declared.transfer.Routine.{Routine}
use Rattle.cell_world.specs.Running.Transfer.{Addresses, transfer}
use Rattle.cell_world.specs.Running.Restart.{no_entry_again, restarted_in, restart_by}
use Rattle.cell_world.specs.Commands.SwapTransfer.{begins_of, stack_for, routines_in, addresses_in, transferred_by}
use Rattle.cell_world.specs.Outcome.{Outcome, ◌>>=◌, ◌>>◌, refused_by, each}
use Rattle.cell_world.specs.Answer.{numbers_of}

-- a cell that is to come: its file, its namespace, and the cell that it comes in the place of, if there is one
pub record Want : Type 0 where
  pub file : Source
  pub ns : ℕ
  pub replaces : Option Cell

-- a cell that a new one is to be a copy of, and the namespace of that
pub record Copy : Type 0 where
  pub original : Cell
  pub ns : ℕ

pub record Change : Type 0 where
  pub wants : List Want
  -- the new cells take on the names of the cells that they replace
  pub reexport : Bool
  -- none of the replaced cells may have to stay
  pub strict : Bool
  -- what runs once all is linked, and how many turns there are for all of it
  pub routines : List (List ℕ)
  pub budget : ℕ
  -- the number of the task that begins again after them, if one does
  pub restarts : Option ℕ
  pub copies : List Copy

-- new cells beside the others, and no more
abbrev pub adding : List Want → Change
adding wants = record { wants = wants; reexport = false; strict = false; routines = []; budget = 0; restarts = None; copies = [] }

abbrev pub copying : List Copy → Change
copying copies = record { wants = []; reexport = false; strict = false; routines = []; budget = 0; restarts = None; copies = copies }

abbrev pub replaced : Change → List Cell
replaced c = filter_map (λ want. want.replaces) c.wants

abbrev pub old_of : Change → List ℕ
old_of c = numbers_of (replaced c)

-- where there are such cells, that is a swap, which is counted
abbrev pub swapped_out : World → List ℕ → World
swapped_out w [] = w
swapped_out w (old ∷ more) = let k = suc w.swaps in record (detach k (old ∷ more) w) { swaps = k }

abbrev pub set_aside : World → Change → World
set_aside w c = swapped_out w (old_of c)

abbrev pub append_want : World → Want → Outcome World
append_want w want = append_cell w want.file want.ns

-- the wanted cells are appended one after the other, so they have the numbers from the next one on
abbrev pub exchange_at : ℕ → Option Cell → List Exchange
exchange_at number None = []
exchange_at number (Some old) = record { old = old; fresh = number } ∷ []

abbrev pub exchanges_from : ℕ → List Want → List Exchange
exchanges_from number [] = []
exchanges_from number (want ∷ wants) = exchange_at number want.replaces ++ exchanges_from (suc number) wants

abbrev pub with_names : ℕ → Change → World → World
with_names from c w = if c.reexport then with_reexports w (exchanges_from from c.wants) else w

-- the next cell, with the stem, the file, the object and the names of the original. It has no places yet
abbrev pub copy_of : World → Copy → Cell
copy_of w copy =
    record copy.original {
      placed = record copy.original.placed { id = record { 0 = w.next_cell }; ns = copy.ns; places = [] };
      standing = Attached;
    }

abbrev pub append_copy : World → Copy → Outcome World
append_copy w copy = if_room w (Ok (with_next w (copy_of w copy)))

-- nothing is brought for copies
abbrev pub gather : List Source → World → Change → Outcome World
gather sources w c = do
  appended ← each append_want (set_aside w c) c.wants
  brought ← bring sources w.next_cell (with_names w.next_cell c appended)
  each append_copy brought c.copies

-- the cells that are new since w
abbrev pub new_since : World → World → List Cell
new_since w after = fresh_cells w.next_cell after

-- neither new nor replaced
abbrev pub is_bystander : World → Change → Cell → Bool
is_bystander w c d = nat_lt d.id.0 w.next_cell && not (holds (old_of c) d.id.0)

-- the replaced cells keep each other
abbrev pub first_uncovered : World → Change → World → Option Need
first_uncovered w c gathered = first_lack gathered (filter (is_bystander w c) gathered.cells)

-- the live task that begins again
abbrev pub restarting : World → Change → Option Task
restarting w c = option_and_then (task_of w) c.restarts

-- what it is refused for, where it has no place to begin among these cells
abbrev pub restart_refusal : World → Change → World → Option Refusal
restart_refusal w c gathered = option_and_then (no_entry_again gathered) (restarting w c)

-- the task as it begins among them
abbrev pub restarted_task : World → Change → World → Option Task
restarted_task w c placed = option_and_then (restarted_in placed) (restarting w c)

-- a change that nothing stands in the way of: the new cells, the fields of others that change, the machine with all of it linked,
-- the routines that run then, on the stack that starts there, and the task that begins again, as it begins
pub record Plan : Type 0 where
  pub fresh : List Cell
  pub changed : List FieldAt
  pub linked : World
  pub stack : Option ℕ
  pub routines : List Routine
  pub restarted : Option Task

-- In this order: the new cells; each other cell still has what it needs; the routines are there, and the place where the task begins
-- again; there is room, for the new cells and then for the routines' stack; each entry of a new cell fits, and then each that changes; no task stands inside what changes
abbrev pub plan_of : List Source → World → Change → Outcome Plan
plan_of sources w c = do
  gathered ← gather sources w c
  refused_by (option_map missing (first_uncovered w c gathered))
  begins ← begins_of (new_since w gathered) c.routines
  refused_by (restart_refusal w c gathered)
  placed ← place_all gathered (new_since w gathered)
  stack ← stack_for placed c.routines
  refused_by (link_refusal w placed)
  Ok (record {
    fresh = new_since w placed;
    changed = changed_fields w placed;
    linked = relink placed;
    stack = stack;
    routines = routines_in placed begins;
    restarted = restarted_task w c placed;
  })

-- what the routines may ask for, in the change's order
abbrev pub addresses_of : Change → Plan → Addresses
addresses_of c plan = record { old = addresses_in (replaced c); new = addresses_in plan.fresh }

abbrev pub with_routines : Change → Plan → Outcome World
with_routines c plan =
    elim plan.stack [
      | None ↦ Ok plan.linked
      | Some stack ↦ transferred_by c.routines (transfer plan.linked stack (addresses_of c plan) plan.routines c.budget)
    ]

abbrev pub with_sequel : Change → Plan → Outcome World
with_sequel c plan = with_routines c plan >>= (λ second. Ok (restart_by plan.restarted second))

abbrev pub first_held_old : Change → World → Option Refusal
first_held_old c last = if c.strict then first_held (holding_of last) (old_of c) else None

-- where cells were replaced, every cell goes that is put aside and that nobody keeps
abbrev pub garbage_after : List ℕ → World → List ℕ
garbage_after [] last = []
garbage_after (old ∷ more) last = garbage_of last

-- the new cells, how many fields were written, the cells that went, and the machine without them
pub record Made : Type 0 where
  pub fresh : List Cell
  pub patched : ℕ
  pub removed : List ℕ
  pub world : World

abbrev pub made_by : Change → Plan → World → Made
made_by c plan last =
    let removed = garbage_after (old_of c) last in
    record {
      fresh = plan.fresh;
      patched = field_count plan.fresh + length plan.changed;
      removed = removed;
      world = without_cells last removed;
    }

-- Then the new cells are there. The routines end well, the task begins again, and no replaced cell is held where none may be
abbrev pub make_change : List Source → World → Change → Outcome Made
make_change sources w c = do
  plan ← plan_of sources w c
  last ← with_sequel c plan
  refused_by (first_held_old c last)
  Ok (made_by c plan last)
