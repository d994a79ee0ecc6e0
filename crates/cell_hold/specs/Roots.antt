-- What is looked at, as a Holding.
--     holding_by cells graph memory places roots   the holding of these parts
--     AreCells cells places roots                  the numbers rise, and each cell that places or roots name is among them
--     HasRoom places roots room                    there is room for each cell that is named
use Rattle.std.specs.Prelude.{ℕ, ◌≤◌, ◌==◌, Bool, false, IsTrue, List, [], ◌∷◌, None, Some, flat_map, length, nat_lt}
use Rattle.std.specs.List.{list_all}
use Rattle.cell_num.specs.Lists.{each_pair, holds}
use Rattle.cell_graph.specs.Links.{Links}
use Rattle.cell_mem.specs.State.{MemoryState}
use Rattle.cell_world.specs.declared.state.Placed.{Placed}
use Rattle.cell_world.specs.Kept.{Claim, Holding}
use Rattle.cell_world.specs.Running.Words.{words_of}
use Rattle.cell_world.specs.World.{Region, Task as WorldTask}
use Rattle.cell_hold.specs.declared.roots.Root.{Root}
use Rattle.cell_hold.specs.declared.roots.Root.TheVariants.{Attached, Task, Word}
use Rattle.cell_hold.specs.declared.roots.TaskView.{TaskView}

-- the task of the machine that is viewed, whose words don't hang on its spawn
abbrev pub task_of : TaskView → WorldTask
task_of t = record { number = t.task; origin = record { ns = 0; name = []; arg = 0 }; root = t.root.0; stack = t.stack; pc = t.pc; registers = t.x; fault = None }

-- the root is that attached cell
abbrev pub is_attached : Root → ℕ → Bool
is_attached (Attached cell) c = cell.0 == c
is_attached (Task t) c = false
is_attached (Word task word) c = false

-- the attached cell, if the root is one
abbrev pub attached_by : Root → List ℕ
attached_by (Attached cell) = cell.0 ∷ []
attached_by (Task t) = []
attached_by (Word task word) = []

-- what a task holds by this root: its own cell and its words, or one word
abbrev pub claims_by : List Region → Root → List Claim
claims_by regions (Attached cell) = []
claims_by regions (Task t) = record { task = t.task; root = Some t.root.0; words = words_of regions (task_of t) } ∷ []
claims_by regions (Word task word) = record { task = task; root = None; words = word ∷ [] } ∷ []

abbrev pub holding_by : List ℕ → Links → MemoryState → List Placed → List Root → Holding
holding_by cells graph memory places roots =
    record {
      cells = cells;
      attached = flat_map attached_by roots;
      sections = places;
      links = graph.rows;
      regions = memory.regions;
      claims = flat_map (claims_by memory.regions) roots;
    }

-- the cell that a root names
abbrev pub named_by : Root → List ℕ
named_by (Attached cell) = cell.0 ∷ []
named_by (Task t) = t.root.0 ∷ []
named_by (Word task word) = []

pub record AreCells (cells : List ℕ) (places : List Placed) (roots : List Root) : Type 0 where
  pub rise : IsTrue (each_pair nat_lt cells)
  pub of_places : IsTrue (list_all (λ s. holds cells s.key.cell.0) places)
  pub of_roots : IsTrue (list_all (λ root. list_all (holds cells) (named_by root)) roots)

pub record HasRoom (places : List Placed) (roots : List Root) (room : ℕ) : Type 0 where
  pub cells : List ℕ
  pub named : AreCells cells places roots
  pub fits : length cells ≤ room
