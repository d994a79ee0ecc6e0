-- Which cells must stay, and who holds them.
--     Holding                  what is looked at: cells with their sections, links, memory, and the claims of tasks
--     holding_of w             that of the machine
--     is_word_in h c word      the word lies in a section of the cell, its end included
--     is_held_directly h c     the cell is attached, is a task's root, or has a task's word in it
--     reaches h a b            a link or an aligned writable word of a leads into b
--     IsKept h c               a list of cells, each reached from the one before, leads from one that is held directly to c
--     kept_in h                the kept cells, ascending
--     holder_in h c            the lowest task, or else the lowest other kept cell, that leads into c
use Rattle.std.specs.Prelude.{ℕ, ◌+◌, ◌==◌, ◌≡◌, nat_le, Bool, not, ◌&&◌, ◌||◌, IsTrue, false, List, [], ◌∷◌, Option, Some, map, filter, flat_map, drop, find, option_map, unwrap_or}
use Rattle.std.specs.List.{list_any}
use Rattle.cell_num.specs.declared.ids.Holder.{Holder}
use Rattle.cell_num.specs.declared.ids.Holder.TheVariants.{Task as TaskHolder, Cell as CellHolder}
use Rattle.cell_num.specs.Lists.{holds, or_else}
use Rattle.cell_object.specs.declared.object.Section.{Section as ObjectSection}
use Rattle.cell_world.specs.declared.state.LinkRow.{LinkRow}
use Rattle.cell_world.specs.declared.state.Placed.{Placed}
use Rattle.cell_world.specs.World.{World, Cell, Region, Task, is_attached, key_of}
use Rattle.cell_world.specs.Closure.{closure}
use Rattle.cell_world.specs.Placed.Layout.{gap}
use Rattle.cell_world.specs.Linked.Target.{start_of}
use Rattle.cell_world.specs.Running.Memory.{read_in}
use Rattle.cell_world.specs.Running.Words.{words_in, words_of}
use Rattle.cell_world.specs.Answer.{numbers_of}

-- what a task holds: the cell that it began in, and the cells that its words lie in
pub record Claim : Type 0 where
  pub task : ℕ
  pub root : Option ℕ
  pub words : List ℕ

-- cells ascending by their numbers, claims by their tasks
pub record Holding : Type 0 where
  pub cells : List ℕ
  pub attached : List ℕ
  pub sections : List Placed
  pub links : List LinkRow
  pub regions : List Region
  pub claims : List Claim

abbrev pub placed_at : Cell → ObjectSection → Placed
placed_at c s = record { key = key_of c.id.0 s.number; start = start_of c.placed s.number; size = s.size; write = s.write }

abbrev pub placed_in : Cell → List Placed
placed_in c = map (placed_at c) c.object.sections

abbrev pub claim_of : World → Task → Claim
claim_of w t = record { task = t.number; root = Some t.root; words = words_of w.regions t }

abbrev pub holding_of : World → Holding
holding_of w =
    record {
      cells = numbers_of w.cells;
      attached = numbers_of (filter (λ c. is_attached c.standing) w.cells);
      sections = flat_map placed_in w.cells;
      links = w.links;
      regions = w.regions;
      claims = map (claim_of w) w.tasks;
    }

-- both ends of a section count
abbrev pub is_inside : ℕ → ℕ → Placed → Bool
is_inside c word s = s.key.cell.0 == c && nat_le s.start word && nat_le word (s.start + s.size)

abbrev pub is_word_in : Holding → ℕ → ℕ → Bool
is_word_in h c word = list_any (is_inside c word) h.sections

abbrev pub has_word_in : Holding → ℕ → List ℕ → Bool
has_word_in h c words = list_any (is_word_in h c) words

abbrev pub is_claimed_by : Holding → ℕ → Claim → Bool
is_claimed_by h c claim = unwrap_or (option_map (λ root. root == c) claim.root) false || has_word_in h c claim.words

abbrev pub is_held_directly : Holding → ℕ → Bool
is_held_directly h c = holds h.attached c || list_any (is_claimed_by h c) h.claims

-- the aligned 8-byte words that are whole within these bytes, which begin at the address
abbrev pub aligned_words : ℕ → List ℕ → List ℕ
aligned_words addr bytes = words_in (drop (gap addr 8) bytes)

abbrev pub words_inside : List Region → Placed → List ℕ
words_inside regions s = aligned_words s.start (unwrap_or (read_in regions s.start s.size) [])

-- the aligned words of the cell's writable sections
abbrev pub writable_words : Holding → ℕ → List ℕ
writable_words h c = flat_map (words_inside h.regions) (filter (λ s. s.key.cell.0 == c && s.write) h.sections)

abbrev pub has_link_to : Holding → ℕ → ℕ → Bool
has_link_to h a b = list_any (λ link. link.user.cell.0 == a && link.target.cell.0 == b) h.links

abbrev pub reaches : Holding → ℕ → ℕ → Bool
reaches h a b = has_link_to h a b || has_word_in h b (writable_words h a)

-- the path goes on from a, by present cells each of which is reached from the one before, and ends in last
abbrev pub Leads : Holding → ℕ → List ℕ → ℕ → Type 0
Leads h a [] last = a ≡ last
Leads h a (b ∷ path) last = IsTrue (holds h.cells b) × IsTrue (reaches h a b) × Leads h b path last

abbrev pub IsKept : Holding → ℕ → Type 0
IsKept h c = (start : ℕ) × (path : List ℕ) × IsTrue (holds h.cells start) × IsTrue (is_held_directly h start) × Leads h start path c

-- b is a itself or is reached from it
abbrev pub leads_to : Holding → ℕ → ℕ → Bool
leads_to h a b = a == b || reaches h a b

abbrev pub kept_in : Holding → List ℕ
kept_in h = closure (leads_to h) h.cells (is_held_directly h)

abbrev pub holding_task : Holding → ℕ → Option Holder
holding_task h c = option_map (λ claim. TaskHolder claim.task) (find (is_claimed_by h c) h.claims)

abbrev pub holding_cell : Holding → ℕ → Option Holder
holding_cell h c =
    option_map (λ a. CellHolder (record { 0 = a })) (find (λ a. not (a == c) && reaches h a c) (kept_in h))

abbrev pub holder_in : Holding → ℕ → Option Holder
holder_in h c = or_else (holding_task h c) (holding_cell h c)
