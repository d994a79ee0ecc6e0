-- What running code leaves as it was.
--     KeepsCells v w           all of a machine but regions and tasks
--     KeepsFields v w          the bytes of each field of each present cell
--     KeepsShapes old new      of regions all but the bytes, one by one
--     KeepsReadOnly old new    each region that isn't writable
--     KeepsSealed m new        each byte that is sealed
--     regions_left             those that a turn of a task leaves
--     other_tasks number       the tasks of other numbers
use Rattle.std.specs.Prelude.{ℕ, ◌≡◌, ◌<◌, ◌+◌, ◌==◌, true, false, not, All, IsTrue, List, filter, map}
use Rattle.cell_num.specs.Kinds.{width_of}
use Rattle.cell_num.specs.Lists.{each_pair, In}
use Rattle.cell_world.specs.declared.reply.TaskState.{TaskState}
use Rattle.cell_world.specs.declared.reply.TaskState.TheVariants.{Ready, Done, Fault as Faulted}
use Rattle.cell_world.specs.World.{World, Region, Task}
use Rattle.cell_world.specs.Running.Memory.{read, read_in}
use Rattle.cell_world.specs.Linked.Field.{place_of, fields_of}
use Rattle.cell_world.specs.Coherent.{shape_of, ends_before}
use Rattle.cell_world.specs.Running.Execute.{Seen}
use Rattle.cell_world.specs.Running.Turn.{without_region}

-- w with the regions and tasks of v is v: cells, links, namespaces, space and numbers are the same
abbrev pub KeepsCells : World → World → Type 0
KeepsCells v w = record w { regions = v.regions; tasks = v.tasks } ≡ v

-- each field of each cell of v holds in w what it held
abbrev pub KeepsFields : World → World → Type 0
KeepsFields v w =
    All (λ c. All (λ f. read w (place_of c.placed f) (width_of f.kind) ≡ read v (place_of c.placed f) (width_of f.kind)) (fields_of c.object)) v.cells

-- starts, lengths and permissions are the same, and no region comes or goes
abbrev pub KeepsShapes : List Region → List Region → Type 0
KeepsShapes old new = map shape_of new ≡ map shape_of old

-- each old region that isn't writable is among the new ones as it was
abbrev pub KeepsReadOnly : List Region → List Region → Type 0
KeepsReadOnly old new = All (λ r. r.permission.write ≡ false → In r new) old

-- each byte that is sealed is in the new regions as it was
abbrev pub KeepsSealed : Seen → List Region → Type 0
KeepsSealed m new = (addr : ℕ) → m.is_sealed addr 1 ≡ true → read_in new addr 1 ≡ read_in m.regions addr 1

-- regions stand apart, and n bytes count as sealed where one of them is
pub record IsMemory (m : Seen) : Type 0 where
  pub apart : IsTrue (each_pair ends_before m.regions)
  pub sealed : (addr n k : ℕ) → k < n → m.is_sealed (addr + k) 1 ≡ true → m.is_sealed addr n ≡ true

-- all regions, but without the stack of a task that ends
abbrev pub regions_left : List Region → ℕ → TaskState → List Region
regions_left regions stack Ready = regions
regions_left regions stack (Done code) = without_region stack regions
regions_left regions stack (Faulted cause pc) = regions

abbrev pub other_tasks : ℕ → List Task → List Task
other_tasks number tasks = filter (λ u. not (u.number == number)) tasks
