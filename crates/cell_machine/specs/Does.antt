-- How a command was answered.
--     State, state_of m             the machine, and how many fields were patched and regions mapped
--     patched_by reply              how many fields the command patched
--     new_runs reply w              how many regions its new cells have in w
--     Counts                        what a command counts: no_stack, one_stack, or of a swap what it may have counted where it is refused
--     HasRisen most old new         a count rose by that much at most
--     IsDone said stacks old reply new    the reply that is said, and the machine after it
--     Answers said counts old result new  the same; or the refusal that is said, and the same machine, of which a refused swap may have raised the counts
--     answer_in w reply             what only shows something leaves the machine
--     Does said counts old result new     the same of a machine's parts, which are sound and but for room the same after a refusal
use Rattle.std.specs.Prelude.{ℕ, ◌≡◌, ◌≤◌, ◌+◌, List, [], ◌∷◌, Option, Some, None, Result, Ok, Err, filter, flat_map, length, map}
use Rattle.cell_num.specs.Lists.{holds}
use Rattle.cell_world.specs.declared.fail.Fail.{Fail}
use Rattle.cell_world.specs.declared.fail.Fail.TheVariants.{Refused, OutOfMemory}
use Rattle.cell_world.specs.declared.layout.Class.TheVariants.{Text, ReadOnly, Writable}
use Rattle.cell_world.specs.declared.refusal.Refusal.{Refusal}
use Rattle.cell_world.specs.declared.refusal.Refusal.TheVariants.{Held, Transfer}
use Rattle.cell_world.specs.declared.reply.Reply.{Reply}
use Rattle.cell_world.specs.declared.reply.Reply.TheVariants.{Load, Swap, Recover, Rebuild, Clone}
use Rattle.cell_world.specs.Answer.{Done, done, fresh_by}
use Rattle.cell_world.specs.Coherent.{Shape, class_shape}
use Rattle.cell_world.specs.Outcome.{Outcome}
use Rattle.cell_world.specs.World.{World, Cell}
use Rattle.cell_machine.specs.declared.machine.Machine.{Machine}
use Rattle.cell_machine.specs.Machine.{IsSound, world_of}
use Rattle.cell_machine.specs.Same.{IsSame, raised, without_counts}

pub record State : Type 0 where
  pub world : World
  pub patches : ℕ
  pub maps : ℕ

abbrev pub state_of : Machine → State
state_of m = record { world = world_of m; patches = m.memory.patches; maps = m.memory.maps }

abbrev pub patched_by : Reply → ℕ
patched_by (Load fresh patched) = patched
patched_by (Swap number fresh patched removed kept) = patched
patched_by (Recover task number fresh patched removed kept) = patched
patched_by (Rebuild task number fresh patched removed kept) = patched
patched_by (Clone name fresh patched) = patched
patched_by _ = 0

-- a region for each class that has a section
abbrev pub cell_shapes : Cell → List Shape
cell_shapes c = flat_map (class_shape c) (Text ∷ ReadOnly ∷ Writable ∷ [])

abbrev pub new_cells : Reply → World → List Cell
new_cells reply w = filter (λ c. holds (map (λ id. id.0) (fresh_by reply)) c.id.0) w.cells

abbrev pub new_runs : Reply → World → ℕ
new_runs reply w = length (flat_map cell_shapes (new_cells reply w))

-- each field of the reply was patched once, and each region of its new cells mapped, and so many stacks
pub record IsDone (said : Outcome Done) (stacks : ℕ) (old : State) (reply : Reply) (new : State) : Type 0 where
  pub step : said ≡ done reply new.world
  pub patches : new.patches ≡ raised old.patches (patched_by reply)
  pub maps : new.maps ≡ raised old.maps (new_runs reply new.world + stacks)

-- so many fields and regions
pub record Most : Type 0 where
  pub patches : ℕ
  pub maps : ℕ

-- `stacks` is how many stacks an accepted command maps, `undone` of a swap alone, how much it may have counted before it went back
pub record Counts : Type 0 where
  pub stacks : ℕ
  pub undone : Option Most

abbrev pub no_stack : Counts
no_stack = record { stacks = 0; undone = None }

abbrev pub one_stack : Counts
one_stack = record { stacks = 1; undone = None }

abbrev pub HasRisen : ℕ → ℕ → ℕ → Type 0
HasRisen most old new = (old ≤ new) × (new ≤ raised old most)

-- a swap went back from its new cells: only the counts may have risen
pub record HasGoneBack (most : Most) (old new : State) : Type 0 where
  pub world : new.world ≡ old.world
  pub patches : HasRisen most.patches old.patches new.patches
  pub maps : HasRisen most.maps old.maps new.maps

-- a swap has counted before it is refused where a routine failed or an old cell is kept, and at no other refusal
abbrev pub counted_before : Refusal → Most → Most
counted_before (Transfer name why) most = most
counted_before (Held cell holder) most = most
counted_before _ most = record { patches = 0; maps = 0 }

abbrev pub Leaves : Option Most → Refusal → State → State → Type 0
Leaves None refusal old new = new ≡ old
Leaves (Some most) refusal old new = HasGoneBack (counted_before refusal most) old new

abbrev pub Answers : Outcome Done → Counts → State → Result Reply Fail → State → Type 0
Answers said counts old (Ok reply) new = IsDone said counts.stacks old reply new
Answers said counts old (Err (Refused refusal)) new = (said ≡ Err refusal) × Leaves counts.undone refusal old new
Answers said counts old (Err OutOfMemory) new = new ≡ old

pub record HasDone (said : Outcome Done) (stacks : ℕ) (old : Machine) (reply : Reply) (new : Machine) : Type 0 where
  pub sound : IsSound new
  pub is : IsDone said stacks (state_of old) reply (state_of new)

-- the parts after a refusal
abbrev pub LeavesParts : Option Most → Refusal → Machine → Machine → Type 0
LeavesParts None refusal old new = IsSame old new
LeavesParts (Some most) refusal old new =
    IsSame old (without_counts old new) × HasGoneBack (counted_before refusal most) (state_of old) (state_of new)

abbrev pub Does : Outcome Done → Counts → Machine → Result Reply Fail → Machine → Type 0
Does said counts old (Ok reply) new = HasDone said counts.stacks old reply new
Does said counts old (Err (Refused refusal)) new = (said ≡ Err refusal) × LeavesParts counts.undone refusal old new
Does said counts old (Err OutOfMemory) new = IsSame old new

-- what is shown leaves the machine
abbrev pub answer_in : World → Reply → Done
answer_in w reply = record { reply = reply; world = w }
