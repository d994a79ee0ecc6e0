-- What a change's routines are given, and what they leave.
--     pages_for words                how many pages their stack has, where one is named
--     stacks_for words               how many stacks a change maps for them
--     AreOld m old                   the machine has the old cells
--     old_rows m old                 the names of the old cells with their addresses, cell by cell
--     new_rows cells names           those of the new cells, by what they are called
--     IsGiven m old p words budget t     the routines of these names with all that they take, by the plan p
--     Gives m old p words budget o       the same where there are routines
--     turns_in o                     how many turns they have
--     CanRun m o, HasRun m o result n    they may run, and have run, if there are any
use Rattle.std.specs.Prelude.{◌≡◌, ◌==◌, ℕ, nat_lt, All, IsSome, IsTrue, List, [], ◌∷◌, ◌++◌, Option, None, Some, Result, Ok, find, flat_map, map, option_map, replicate, unwrap_or}
use Rattle.cell_num.specs.declared.ids.CellId.{CellId}
use Rattle.cell_world.specs.declared.refusal.Refusal.{Refusal}
use Rattle.cell_world.specs.declared.state.NewCell.{NewCell}
use Rattle.cell_num.specs.Limits.{stack_size}
use Rattle.cell_world.specs.World.{Alias}
use Rattle.cell_mem.specs.State.{MemoryState}
use Rattle.cell_num.specs.Lists.{each_pair, In}
use Rattle.cell_placed.specs.Low.{IsLow}
use Rattle.cell_space.specs.Spaces.{HasCell}
use Rattle.cell_space.specs.Named.{cell_numbered}
use Rattle.cell_machine.specs.declared.machine.Machine.{Machine}
use Rattle.cell_xfer.specs.Carried.{CanCarry, IsCarried}
use Rattle.cell_xfer.specs.Named.{AnswersAs}
use Rattle.cell_xfer.specs.declared.carrying.Transfer.{Transfer}
use Rattle.cell_routines.specs.Begins.{begin_as}
use Rattle.cell_routines.specs.Placed.{addresses_by, routines_among}
use Rattle.cell_change.specs.declared.planning.Plan.{Plan}

abbrev pub pages_for : List (List ℕ) → ℕ
pages_for [] = 0
pages_for (word ∷ words) = 4

abbrev pub stacks_for : List (List ℕ) → ℕ
stacks_for [] = 0
stacks_for (word ∷ words) = 1

-- what the machine's cell of that number is called
abbrev pub names_in : Machine → ℕ → List Alias
names_in m n = unwrap_or (option_map (λ c. c.names) (cell_numbered m.spaces.cells n)) []

abbrev pub rows_in : Machine → CellId → List (List ℕ × ℕ)
rows_in m id = unwrap_or (option_map (λ c. addresses_by c (names_in m id.0)) (find (λ c. c.id.0 == id.0) m.cells.items)) []

abbrev pub old_rows : Machine → List CellId → List (List ℕ × ℕ)
old_rows m old = flat_map (rows_in m) old

abbrev pub new_rows : List NewCell → List (List Alias) → List (List ℕ × ℕ)
new_rows [] names = []
new_rows (c ∷ cells) [] = []
new_rows (c ∷ cells) (own ∷ names) = addresses_by c own ++ new_rows cells names

-- the machine has the old cells, and knows what they are called
pub record AreOld (m : Machine) (old : List CellId) : Type 0 where
  pub order : IsTrue (each_pair (λ a b. nat_lt a.id.0 b.id.0) m.cells.items)
  pub there : All (λ id. IsSome (find (λ c. c.id.0 == id.0) m.cells.items)) old
  pub known : All (λ id. HasCell m.spaces id.0) old
  pub low : (c : NewCell) → In c m.cells.items → IsLow c

pub record IsGiven (m : Machine) (old : List CellId) (p : Plan) (words : List (List ℕ)) (budget : ℕ) (t : Transfer) : Type 0 where
  pub names : t.names.items ≡ words
  pub routines : t.routines.items ≡ routines_among p.staged.cells.items (map begin_as p.begins.items)
  pub budget_is : t.budget ≡ budget
  pub stack : p.stack ≡ Some t.stack
  pub zeros : t.zeros.items ≡ replicate stack_size 0
  pub before : AnswersAs t.addresses.old (old_rows m old)
  pub after : AnswersAs t.addresses.new (new_rows p.staged.cells.items p.staged.names.items)

abbrev pub Gives : Machine → List CellId → Plan → List (List ℕ) → ℕ → Option Transfer → Type 0
Gives m old p words budget None = p.stack ≡ None
Gives m old p words budget (Some t) = IsGiven m old p words budget t

abbrev pub turns_in : Option Transfer → ℕ
turns_in None = 0
turns_in (Some t) = t.budget

abbrev pub CanRun : MemoryState → Option Transfer → Type 0
CanRun m None = Unit {0}
CanRun m (Some t) = CanCarry m t

abbrev pub HasRun : MemoryState → Option Transfer → Result (Unit {0}) Refusal → MemoryState → Type 0
HasRun m None result n = (n ≡ m) × (result ≡ Ok tt)
HasRun m (Some t) result n = IsCarried m t result n
