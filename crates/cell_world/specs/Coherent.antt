-- What holds of the machine between any two commands and any two turns.
--     IsCoherent w         all of it
--     IsReady w            all of it, but that memory and links are those of the objects
--     AreSound sources     each file's object is one that a coherent machine may hold
pub use Rattle.cell_object.specs.Sound.{IsLoadable}
use Rattle.std.specs.Prelude.{slice_index, ℕ, suc, ◌+◌, ◌-◌, ◌*◌, ◌%◌, ◌≡◌, ◌<◌, ◌≤◌, ◌==◌, nat_lt, nat_le, Bool, true, false, not, ◌&&◌, ◌||◌, IsTrue, List, [], ◌∷◌, ◌++◌, Result, Ok, Err, Some, None, All, is_some, is_none, map, flat_map, fold, length, codes, unwrap_or, if◌then◌else◌}
use Rattle.std.specs.List.{list_any, list_all}
use Rattle.cell_object.specs.declared.object.Object.{Object}
use Rattle.cell_object.specs.Bytes.{Broken}
use Rattle.cell_world.specs.declared.state.Namespace.{Namespace}
use Rattle.cell_num.specs.Limits.{max_cell_number, max_cells, max_namespaces, max_task_number, max_tasks, page_size, stack_size}
use Rattle.cell_world.specs.World.{World, Cell, Region, Permission, Task, Standing, is_attached, cell_of}
use Rattle.cell_world.specs.declared.state.Standing.TheVariants.{Attached, Detached}
use Rattle.cell_num.specs.Lists.{equals, holds_name, numbered, each_pair}
use Rattle.cell_world.specs.Placed.Pages.{IsSpace}
use Rattle.cell_world.specs.Names.{are_on_one_path, names_of, needs_of, provider_of, definitions_of, weak_definitions_of}
use Rattle.cell_world.specs.Linked.Target.{start_of}
use Rattle.cell_world.specs.Linked.Field.{misfit_of}
use Rattle.cell_world.specs.Linked.Relink.{class_start, bound_entries, relink}
use Rattle.cell_world.specs.Placed.Layout.{sections_in, image_of, permission_of, offset_in}
use Rattle.cell_world.specs.declared.layout.Class.TheVariants.{Text, ReadOnly, Writable}
use Rattle.cell_world.specs.declared.layout.Class.{Class}
use Rattle.cell_world.specs.Gather.{Source}

abbrev pub IsLoadableReading : Result Object Broken → Type 0
IsLoadableReading (Ok object) = IsLoadable object
IsLoadableReading (Err broken) = Unit {0}

abbrev pub AreSound : List Source → Type 0
AreSound sources = All (λ f. IsLoadableReading f.reading) sources

abbrev pub all_names : Cell → List (List ℕ)
all_names c = map (λ a. a.name) (names_of c)

-- neither stem nor name in common, where both are attached on one path
abbrev pub may_both_stand : World → Cell → Cell → Bool
may_both_stand w a b =
    not (is_attached a.standing && is_attached b.standing && are_on_one_path w.namespaces a.ns b.ns)
    || not (equals a.stem b.stem) && not (list_any (holds_name (all_names b)) (all_names a))

-- within one cell a name stands once, be it held strongly or weakly
abbrev pub has_each_name_once : Cell → Bool
has_each_name_once c = each_pair (λ a b. not (equals a b)) (map (λ a. a.name) (weak_definitions_of c.object) ++ all_names c)

-- what a region is apart from its bytes
pub record Shape : Type 0 where
  pub start : ℕ
  pub permission : Permission
  pub size : ℕ

abbrev pub shape_of : Region → Shape
shape_of r = record { start = r.start; permission = r.permission; size = length r.bytes }

abbrev pub with_shape : Shape → List Shape → List Shape
with_shape s [] = s ∷ []
with_shape s (t ∷ shapes) = if nat_lt s.start t.start then s ∷ t ∷ shapes else t ∷ with_shape s shapes

-- a class without a section has no region
abbrev pub class_shape : Cell → Class → List Shape
class_shape c class =
    elim (class_start c class) [
      | None ↦ []
      | Some start ↦
          record { start = start; permission = permission_of class; size = length (image_of (sections_in class c.object)) } ∷ []
    ]

abbrev pub stack_shape : Task → Shape
stack_shape t = record { start = t.stack; permission = permission_of Writable; size = stack_size }

-- the regions that there have to be, by their starts
abbrev pub wanted_shapes : World → List Shape
wanted_shapes w =
    fold (λ shapes s. with_shape s shapes) []
    (flat_map (λ c. flat_map (class_shape c) (Text ∷ ReadOnly ∷ Writable ∷ [])) w.cells ++ map stack_shape w.tasks)

-- one or more whole pages inside the space
abbrev pub is_in_space : World → Region → Bool
is_in_space w r =
    nat_le w.base r.start && ((r.start - w.base) % page_size == 0) && nat_lt 0 (length r.bytes)
    && (length r.bytes % page_size == 0) && nat_le (r.start + length r.bytes) (w.base + page_size * w.pages)

abbrev pub ends_before : Region → Region → Bool
ends_before r s = nat_le (r.start + length r.bytes) s.start

-- each section of the class stands at its offset behind the class's start
abbrev pub stands_by_rule : Cell → Class → Bool
stands_by_rule c class =
    let sections = sections_in class c.object in
    list_all (λ s. start_of c.placed s.number == unwrap_or (class_start c class) 0 + offset_in sections s.number) sections

abbrev pub is_placed : Cell → Bool
is_placed c =
    equals (map (λ p. p.section) c.places) (map (λ s. s.number) c.object.sections)
    && list_all (stands_by_rule c) (Text ∷ ReadOnly ∷ Writable ∷ [])

-- each need has a provider
abbrev pub is_supplied : World → Cell → Bool
is_supplied w c = list_all (λ name. is_some (provider_of w c name)) (needs_of c.object)

-- each entry fits
abbrev pub is_fitting : World → Cell → Bool
is_fitting w c = is_none (misfit_of c.placed (bound_entries w c))

-- only `k` has no parent, and a parent has a lower number
abbrev pub is_sound_parent : ℕ × Namespace → Bool
is_sound_parent p = elim p.1.parent [ None ↦ p.0 == 0 | Some parent ↦ nat_lt parent p.0 ]

-- namespace 0 is `k`
abbrev pub begins_with_k : List Namespace → Bool
begins_with_k [] = false
begins_with_k (space ∷ spaces) = equals space.name (codes "k")

abbrev pub is_sound_standing : World → Standing → Bool
is_sound_standing w Attached = true
is_sound_standing w (Detached k) = nat_le k w.swaps

-- its number was given, its namespace is there, and its aliases name definitions of its own
abbrev pub is_known_cell : World → Cell → Bool
is_known_cell w c =
    nat_lt c.id.0 w.next_cell && nat_lt c.ns (length w.namespaces) && is_sound_standing w c.standing
    && list_all (λ a. list_any (λ d. d.symbol == a.symbol) (definitions_of c.object)) c.aliases

abbrev pub is_sound_task : World → Task → Bool
is_sound_task w t =
    nat_lt t.number w.next_task && is_some (cell_of w t.root) && (length t.registers == 32) && (slice_index t.registers 0 == 0)

-- the namespace of its spawn is there
abbrev pub has_known_origin : World → Task → Bool
has_known_origin w t = nat_lt t.origin.ns (length w.namespaces)

-- The parts of a machine that a group of facts reads. What leaves those alone hands the group on as it is.
abbrev pub only_cells : World → World
only_cells w = record w { links = []; regions = []; tasks = []; base = 0; pages = 0; next_task = 0 }

abbrev pub only_regions : World → World
only_regions w = record w { namespaces = []; links = []; next_cell = 0; next_task = 0; swaps = 0 }

abbrev pub only_tasks : World → World
only_tasks w = record w { namespaces = []; links = []; regions = []; base = 0; pages = 0; next_cell = 0; swaps = 0 }

-- each cell by itself, in the order of their numbers
pub record AreSoundCells (cells : List Cell) : Type 0 where
  pub cell_order : IsTrue (each_pair (λ a b. nat_lt a.id.0 b.id.0) cells)
  pub placed : IsTrue (list_all is_placed cells)
  pub objects : All (λ c. IsLoadable c.object) cells

-- the cells among each other and in their namespaces: on one path a stem and a name belong to one attached cell
pub record AreSoundTogether (w : World) : Type 0 where
  pub names : IsTrue (each_pair (may_both_stand w) w.cells)
  pub own_names : IsTrue (list_all has_each_name_once w.cells)
  pub cells : IsTrue (list_all (is_known_cell w) w.cells)
  pub supplied : IsTrue (list_all (is_supplied w) w.cells)
  pub fitting : IsTrue (list_all (is_fitting w) w.cells)

-- how many cells there are and were, and swaps
pub record AreCounted (cells : List Cell) (next_cell swaps : ℕ) : Type 0 where
  pub few_cells : length cells ≤ max_cells
  pub cell_numbers : next_cell ≤ suc max_cell_number
  pub swap_numbers : swaps < next_cell

pub record AreSoundSpaces (namespaces : List Namespace) : Type 0 where
  pub spaces : IsTrue (begins_with_k namespaces && list_all is_sound_parent (numbered namespaces))
  pub space_names : IsTrue (each_pair (λ a b. not (equals a.name b.name)) namespaces)
  pub few_spaces : length namespaces ≤ max_namespaces

-- the regions are the classes of the cells and the stacks of the tasks, whole pages apart from each other
pub record AreSoundRegions (w : World) : Type 0 where
  pub regions : map shape_of w.regions ≡ wanted_shapes w
  pub in_space : IsTrue (list_all (is_in_space w) w.regions)
  pub apart : IsTrue (each_pair ends_before w.regions)

pub record AreSoundTasks (w : World) : Type 0 where
  pub task_order : IsTrue (each_pair (λ a b. nat_lt a.number b.number) w.tasks)
  pub tasks : IsTrue (list_all (is_sound_task w) w.tasks)
  pub few_tasks : length w.tasks ≤ max_tasks
  pub task_numbers : w.next_task ≤ suc max_task_number

-- all of a coherent machine that linking doesn't make
pub record IsReady (w : World) : Type 0 where
  pub alone : AreSoundCells w.cells
  pub open alone use *
  pub together : AreSoundTogether (only_cells w)
  pub open together use *
  pub counted : AreCounted w.cells w.next_cell w.swaps
  pub open counted use *
  pub parents : AreSoundSpaces w.namespaces
  pub open parents use *
  pub memory : AreSoundRegions (only_regions w)
  pub open memory use *
  pub running : AreSoundTasks (only_tasks w)
  pub open running use *
  pub origins : IsTrue (list_all (has_known_origin w) w.tasks)
  pub space : IsSpace w.base w.pages

-- memory and links are those of the objects
pub record IsCoherent (w : World) : Type 0 where
  pub ready : IsReady w
  pub linked : relink w ≡ w
