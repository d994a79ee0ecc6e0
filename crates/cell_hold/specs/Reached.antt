-- Where words, links and roots lead, part by part.
--     touches places words c        one of the words lies in a section of the cell
--     links_lead graph a c          a link of the one cell has the other as target
--     section_leads .. s c          the section may be written, and an aligned word of it lies in the cell
--     cell_leads .. a s c           the same, where the section is one of a
--     words_reach .. a c            the same for any of its sections
--     reaches_on, reaches_anew      a link or a word leads there; a word does, or a link of a cell that isn't among some
--     root_holds .. root c          the cell is held by this root
--     claimant .. root c            the task that holds the cell by this root
--     linked, rooted                a Holding of no roots, and one of no links
use Rattle.std.specs.Prelude.{ℕ, ◌==◌, Bool, not, ◌&&◌, ◌||◌, List, [], Option, None, find, flat_map, option_map}
use Rattle.std.specs.List.{list_any}
use Rattle.cell_num.specs.declared.ids.CellId.{CellId}
use Rattle.cell_num.specs.declared.ids.Holder.{Holder}
use Rattle.cell_num.specs.declared.ids.Holder.TheVariants.{Cell}
use Rattle.cell_num.specs.Lists.{where_true}
use Rattle.cell_graph.specs.Links.{Links}
use Rattle.cell_mem.specs.State.{MemoryState}
use Rattle.cell_world.specs.declared.state.Placed.{Placed}
use Rattle.cell_world.specs.Kept.{Holding, reaches, words_inside}
use Rattle.cell_world.specs.Running.Words.{words_of}
use Rattle.cell_hold.specs.declared.roots.Root.{Root}
use Rattle.cell_hold.specs.declared.roots.Root.TheVariants.{Attached, Task, Word}
use Rattle.cell_hold.specs.declared.roots.TaskView.{TaskView}
use Rattle.cell_hold.specs.Adds.{has_cell}
use Rattle.cell_hold.specs.Places.{is_cells_at}
use Rattle.cell_hold.specs.Roots.{attached_by, claims_by, holding_by, task_of}

abbrev pub touches : List Placed → List ℕ → ℕ → Bool
touches places words c = list_any (λ word. is_cells_at c word places) words

abbrev pub links_lead : Links → ℕ → ℕ → Bool
links_lead graph a c = list_any (λ row. row.user.cell.0 == a && row.target.cell.0 == c) graph.rows

abbrev pub section_leads : MemoryState → List Placed → Placed → ℕ → Bool
section_leads memory places s c = s.write && touches places (words_inside memory.regions s) c

abbrev pub cell_leads : MemoryState → List Placed → ℕ → Placed → ℕ → Bool
cell_leads memory places a s c = s.key.cell.0 == a && section_leads memory places s c

-- a word of a writable section of the one cell lies in a section of the other that is one of these
abbrev pub words_reach : MemoryState → List Placed → List Placed → ℕ → ℕ → Bool
words_reach memory places others a c = list_any (λ s. cell_leads memory others a s c) places

-- a link leads there, or such a word
abbrev pub reaches_on : Links → MemoryState → List Placed → List Placed → ℕ → ℕ → Bool
reaches_on graph memory places others a c = links_lead graph a c || words_reach memory places others a c

-- the same, but for the links of some cells
abbrev pub reaches_anew : Links → MemoryState → List Placed → List Placed → List CellId → ℕ → ℕ → Bool
reaches_anew graph memory places others known a c = not (has_cell known a) && links_lead graph a c || words_reach memory places others a c

-- the task began in the cell or has a word in it
abbrev pub task_holds : MemoryState → List Placed → TaskView → ℕ → Bool
task_holds memory places t c = t.root.0 == c || touches places (words_of memory.regions (task_of t)) c

abbrev pub root_holds : MemoryState → List Placed → Root → ℕ → Bool
root_holds memory places (Attached cell) c = cell.0 == c
root_holds memory places (Task t) c = task_holds memory places t c
root_holds memory places (Word task word) c = is_cells_at c word places

abbrev pub claimant : MemoryState → List Placed → Root → ℕ → Option ℕ
claimant memory places (Attached cell) c = None
claimant memory places (Task t) c = where_true (task_holds memory places t c) t.task
claimant memory places (Word task word) c = where_true (is_cells_at c word places) task

abbrev pub linked : Links → MemoryState → List Placed → Holding
linked graph memory places = holding_by [] graph memory places []

abbrev pub rooted : MemoryState → List Placed → List Root → Holding
rooted memory places roots =
    record {
      cells = [];
      attached = flat_map attached_by roots;
      sections = places;
      links = [];
      regions = memory.regions;
      claims = flat_map (claims_by memory.regions) roots;
    }

-- the first of these cells, other than the cell itself, that reaches it
abbrev pub first_reaching : Holding → List ℕ → ℕ → Option Holder
first_reaching h cells c = option_map (λ a. Cell (record { 0 = a })) (find (λ a. not (a == c) && reaches h a c) cells)
