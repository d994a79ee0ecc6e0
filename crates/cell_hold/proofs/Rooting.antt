-- What roots hold, root by root.
use Rattle.std.proofs.Common.{◌≡◌, refl, sym, ◌∙◌, ap, ℕ, ◌≤◌, Bool, true, false, ◌||◌, List, [], ◌∷◌, length, take, drop, take_all}
use Rattle.std.specs.Prelude.{◌==◌, flat_map}
use Rattle.std.specs.List.{list_any}
use Rattle.std.proofs.lemmas.List.Folds.{list_any-append}
use Rattle.cell_num.specs.declared.ids.CellId.{CellId}
use Rattle.cell_num.specs.Lists.{holds}
use Rattle.cell_mem.specs.State.{MemoryState}
use Rattle.cell_world.specs.declared.state.Placed.{Placed}
use Rattle.cell_world.specs.Kept.{is_claimed_by, is_held_directly}
use Rattle.cell_world.specs.Running.Words.{stack_words}
use Rattle.cell_hold.specs.declared.roots.Root.{Root}
use Rattle.cell_hold.specs.declared.roots.Root.TheVariants.{Attached, Task, Word}
use Rattle.cell_hold.specs.declared.roots.TaskView.{TaskView}
use Rattle.cell_hold.specs.Adds.{Adds}
use Rattle.cell_hold.specs.Places.{is_cells_at}
use Rattle.cell_hold.specs.Reached.{root_holds, rooted, task_holds, touches}
use Rattle.cell_hold.specs.Roots.{attached_by, claims_by, task_of}
use Rattle.cell_hold.proofs.Adding.{added_same, added_then, in_room}

or_false : (b : Bool) → (b || false) ≡ b
or_false true = refl
or_false false = refl

or_group : (x y z : Bool) → (x || (y || z)) ≡ ((x || y) || z)
or_group true y z = refl
or_group false y z = refl

or_swap : (x y z : Bool) → (x || (y || z)) ≡ (y || (x || z))
or_swap true true z = refl
or_swap true false z = refl
or_swap false y z = refl

-- a cell is held directly exactly where a root holds it
pub by_roots : (memory : MemoryState) (places : List Placed) (c : ℕ) (roots : List Root)
    → list_any (λ root. root_holds memory places root c) roots
    ≡ (holds (flat_map attached_by roots) c || list_any (is_claimed_by (rooted memory places []) c) (flat_map (claims_by memory.regions) roots))
by_roots memory places c [] = refl
by_roots memory places c (Attached cell ∷ roots) =
    ap (λ b. cell.0 == c || b) (by_roots memory places c roots)
    ∙ or_group (cell.0 == c) (holds (flat_map attached_by roots) c) (list_any (is_claimed_by (rooted memory places []) c) (flat_map (claims_by memory.regions) roots))
by_roots memory places c (Task t ∷ roots) =
    ap (λ b. task_holds memory places t c || b) (by_roots memory places c roots)
    ∙ or_swap (task_holds memory places t c) (holds (flat_map attached_by roots) c) (list_any (is_claimed_by (rooted memory places []) c) (flat_map (claims_by memory.regions) roots))
by_roots memory places c (Word task word ∷ roots) =
    ap (λ b. is_cells_at c word places || b) (by_roots memory places c roots)
    ∙ (or_swap (is_cells_at c word places) (holds (flat_map attached_by roots) c) (list_any (is_claimed_by (rooted memory places []) c) (flat_map (claims_by memory.regions) roots))
    ∙ ap (λ b. holds (flat_map attached_by roots) c || (b || list_any (is_claimed_by (rooted memory places []) c) (flat_map (claims_by memory.regions) roots))) (sym (or_false (is_cells_at c word places))))

pub roots_added : (memory : MemoryState) (places : List Placed) (roots : List Root) (i room : ℕ) (old new : List CellId) → length roots ≤ i
    → Adds (λ c. list_any (λ root. root_holds memory places root c) (take i roots)) room old new → Adds (is_held_directly (rooted memory places roots)) room old new
roots_added memory places roots i room old new le =
    added_same (λ c. list_any (λ root. root_holds memory places root c) (take i roots)) (is_held_directly (rooted memory places roots)) room old new
    (λ c. ap (λ rs. list_any (λ root. root_holds memory places root c) rs) (take_all i roots le) ∙ by_roots memory places c roots)

or_chain : (a b c d : Bool) → (((a || b) || c) || d) ≡ (a || (b || (c || d)))
or_chain true b c d = refl
or_chain false true c d = refl
or_chain false false c d = refl

-- what a task holds, part by part
pub task_parts : (memory : MemoryState) (places : List Placed) (t : TaskView) (numbers words : List ℕ) → numbers ≡ take 31 (drop 1 t.x) → words ≡ stack_words memory.regions (task_of t) → (c : ℕ)
    → (((t.root.0 == c || is_cells_at c t.pc places) || touches places numbers c) || touches places words c) ≡ task_holds memory places t c
task_parts memory places t numbers words e f c =
    or_chain (t.root.0 == c) (is_cells_at c t.pc places) (touches places numbers c) (touches places words c)
    ∙ (ap (λ ws. t.root.0 == c || (is_cells_at c t.pc places || (touches places ws c || touches places words c))) e
    ∙ (ap (λ ws. t.root.0 == c || (is_cells_at c t.pc places || (touches places (take 31 (drop 1 t.x)) c || touches places ws c))) f
    ∙ ap (λ b. t.root.0 == c || (is_cells_at c t.pc places || b)) (sym (list_any-append (λ w. is_cells_at c w places) (take 31 (drop 1 t.x)) (stack_words memory.regions (task_of t))))))

pub task_added : (memory : MemoryState) (places : List Placed) (t : TaskView) (numbers words : List ℕ) (room first second third : ℕ) (old one two three new : List CellId)
    → numbers ≡ take 31 (drop 1 t.x) → words ≡ stack_words memory.regions (task_of t) → first ≡ room → second ≡ first → third ≡ second
    → Adds (λ c. t.root.0 == c) room old one → Adds (λ c. is_cells_at c t.pc places) first one two → Adds (touches places numbers) second two three → Adds (touches places words) third three new
    → Adds (task_holds memory places t) room old new
task_added memory places t numbers words room first second third old one two three new e f g h i a b c d =
    added_same (λ k. ((t.root.0 == k || is_cells_at k t.pc places) || touches places numbers k) || touches places words k) (task_holds memory places t) room old new (task_parts memory places t numbers words e f)
    (added_then (λ k. (t.root.0 == k || is_cells_at k t.pc places) || touches places numbers k) (touches places words) room old three new
    (added_then (λ k. t.root.0 == k || is_cells_at k t.pc places) (touches places numbers) room old two three
    (added_then (λ k. t.root.0 == k) (λ k. is_cells_at k t.pc places) room old one two a (in_room (λ k. is_cells_at k t.pc places) first room one two g b))
    (in_room (touches places numbers) second room two three (h ∙ g) c))
    (in_room (touches places words) third room three new (i ∙ (h ∙ g)) d))
