-- The first of the tasks, and of the cells, that holds a cell.
use Rattle.std.proofs.Common.{◌≡◌, refl, sym, ◌∙◌, ap, ℕ, ◌<◌, ◌≤◌, ◌+◌, Bool, true, false, cond, ◌||◌, ◌&&◌, not, List, [], ◌∷◌, map, length, drop, get_or}
use Rattle.std.specs.Prelude.{◌==◌, Option, Some, None, find, flat_map, option_map}
use Rattle.std.proofs.lemmas.List.{drop_all, drop_more}
use Rattle.cell_num.specs.declared.ids.CellId.{CellId}
use Rattle.cell_num.specs.declared.ids.Holder.{Holder}
use Rattle.cell_num.specs.declared.ids.Holder.TheVariants.{Task as TaskHolder, Cell as CellHolder}
use Rattle.cell_num.specs.Lists.{or_else, where_true}
use Rattle.cell_graph.specs.Links.{Links}
use Rattle.cell_mem.specs.State.{MemoryState}
use Rattle.cell_world.specs.declared.state.Placed.{Placed}
use Rattle.cell_world.specs.Kept.{Claim, Holding, holder_in, holding_cell, holding_task, is_claimed_by, kept_in, reaches}
use Rattle.cell_world.specs.Running.Words.{words_of}
use Rattle.cell_hold.specs.declared.roots.Root.{Root}
use Rattle.cell_hold.specs.declared.roots.Root.TheVariants.{Attached, Task, Word}
use Rattle.cell_hold.specs.Places.{is_cells_at}
use Rattle.cell_hold.specs.Reached.{claimant, first_reaching, linked, rooted, task_holds}
use Rattle.cell_hold.specs.Roots.{claims_by, holding_by, task_of}

module _ (memory : MemoryState) (places : List Placed) (c : ℕ) where
  abbrev is_claim : Claim → Bool
  is_claim = is_claimed_by (rooted memory places []) c

  abbrev named : Option Claim → Option Holder
  named o = option_map (λ (claim : Claim). TaskHolder claim.task) o

  or_false : (b : Bool) → (b || false) ≡ b
  or_false true = refl
  or_false false = refl

  some_claim : (claim : Claim) (claims : List Claim) (b : Bool) (task : ℕ) → is_claim claim ≡ b → where_true b claim.task ≡ Some task → named (find is_claim (claim ∷ claims)) ≡ Some (TaskHolder task)
  some_claim claim claims true task e k = ap (λ d. named (cond d (Some claim) (find is_claim claims))) e ∙ ap (λ (o : Option ℕ). option_map (λ (t : ℕ). TaskHolder t) o) k
  some_claim claim claims false task e k = cc

  other_claim : (claim : Claim) (claims : List Claim) (b : Bool) → is_claim claim ≡ b → where_true b claim.task ≡ None → named (find is_claim (claim ∷ claims)) ≡ named (find is_claim claims)
  other_claim claim claims true e k = cc
  other_claim claim claims false e k = ap (λ d. named (cond d (Some claim) (find is_claim claims))) e

  pub claimed_first : (root : Root) (roots : List Root) (task : ℕ) → claimant memory places root c ≡ Some task → holding_task (rooted memory places (root ∷ roots)) c ≡ Some (TaskHolder task)
  claimed_first (Attached cell) roots task k = cc
  claimed_first (Task t) roots task k =
      some_claim (record { task = t.task; root = Some t.root.0; words = words_of memory.regions (task_of t) }) (flat_map (claims_by memory.regions) roots) (task_holds memory places t c) task refl k
  claimed_first (Word number word) roots task k =
      some_claim (record { task = number; root = None; words = word ∷ [] }) (flat_map (claims_by memory.regions) roots) (is_cells_at c word places) task (or_false (is_cells_at c word places)) k

  pub claimed_later : (root : Root) (roots : List Root) → claimant memory places root c ≡ None → holding_task (rooted memory places (root ∷ roots)) c ≡ holding_task (rooted memory places roots) c
  claimed_later (Attached cell) roots k = refl
  claimed_later (Task t) roots k =
      other_claim (record { task = t.task; root = Some t.root.0; words = words_of memory.regions (task_of t) }) (flat_map (claims_by memory.regions) roots) (task_holds memory places t c) refl k
  claimed_later (Word number word) roots k =
      other_claim (record { task = number; root = None; words = word ∷ [] }) (flat_map (claims_by memory.regions) roots) (is_cells_at c word places) (or_false (is_cells_at c word places)) k

  pub root_holding : (roots : List Root) (i : ℕ) (d : Root) (task : ℕ) → i < length roots → claimant memory places (get_or roots i d) c ≡ Some task
      → holding_task (rooted memory places roots) c ≡ holding_task (rooted memory places (drop i roots)) c → Some (TaskHolder task) ≡ holding_task (rooted memory places roots) c
  root_holding roots i d task lt k e =
      sym (e ∙ (ap (λ rs. holding_task (rooted memory places rs) c) (drop_more roots i d lt) ∙ claimed_first (get_or roots i d) (drop (i + 1) roots) task k))

  pub root_passed : (roots : List Root) (i : ℕ) (d : Root) → i < length roots → claimant memory places (get_or roots i d) c ≡ None
      → holding_task (rooted memory places roots) c ≡ holding_task (rooted memory places (drop i roots)) c → holding_task (rooted memory places roots) c ≡ holding_task (rooted memory places (drop (i + 1) roots)) c
  root_passed roots i d lt k e = e ∙ (ap (λ rs. holding_task (rooted memory places rs) c) (drop_more roots i d lt) ∙ claimed_later (get_or roots i d) (drop (i + 1) roots) k)

  pub no_root : (roots : List Root) (i : ℕ) → length roots ≤ i → holding_task (rooted memory places roots) c ≡ holding_task (rooted memory places (drop i roots)) c → None ≡ holding_task (rooted memory places roots) c
  no_root roots i le e = sym (e ∙ ap (λ rs. holding_task (rooted memory places rs) c) (drop_all i roots le))

module _ (h : Holding) (c : ℕ) where
  abbrev is_other : ℕ → Bool
  is_other a = not (a == c) && reaches h a c

  abbrev found_cell : Option ℕ → Option Holder
  found_cell o = option_map (λ a. CellHolder (record { 0 = a })) o

  abbrev pub cells_left : List CellId → Option Holder
  cells_left cells = first_reaching h (map (λ (x : CellId). x.0) cells) c

  pub cell_holding : (cells : List CellId) (i : ℕ) (d : CellId) → i < length cells → is_other (get_or cells i d).0 ≡ true
      → cells_left cells ≡ cells_left (drop i cells) → Some (CellHolder (get_or cells i d)) ≡ cells_left cells
  cell_holding cells i d lt k e =
      sym (e ∙ (ap cells_left (drop_more cells i d lt)
      ∙ ap (λ b. found_cell (cond b (Some (get_or cells i d).0) (find is_other (map (λ (x : CellId). x.0) (drop (i + 1) cells))))) k))

  pub cell_passed : (cells : List CellId) (i : ℕ) (d : CellId) → i < length cells → is_other (get_or cells i d).0 ≡ false
      → cells_left cells ≡ cells_left (drop i cells) → cells_left cells ≡ cells_left (drop (i + 1) cells)
  cell_passed cells i d lt k e =
      e ∙ (ap cells_left (drop_more cells i d lt)
      ∙ ap (λ b. found_cell (cond b (Some (get_or cells i d).0) (find is_other (map (λ (x : CellId). x.0) (drop (i + 1) cells))))) k)

  pub no_cell : (cells : List CellId) (i : ℕ) → length cells ≤ i → cells_left cells ≡ cells_left (drop i cells) → None ≡ cells_left cells
  no_cell cells i le e = sym (e ∙ ap cells_left (drop_all i cells le))

module _ (graph : Links) (memory : MemoryState) (places : List Placed) (roots : List Root) (cells : List ℕ) (c : ℕ) where
  abbrev all : Holding
  all = holding_by cells graph memory places roots

  -- a task comes before any cell
  pub holder_is_task : (task : Holder) → Some task ≡ holding_task (rooted memory places roots) c → Some task ≡ holder_in all c
  holder_is_task task e = ap (λ (o : Option Holder). or_else o (holding_cell all c)) e

  pub holder_is_cell : (kept : List ℕ) (r : Option Holder) → None ≡ holding_task (rooted memory places roots) c → r ≡ first_reaching (linked graph memory places) kept c → kept ≡ kept_in all → r ≡ holder_in all c
  holder_is_cell kept r none is e =
      is ∙ (ap (λ ks. first_reaching (linked graph memory places) ks c) e ∙ ap (λ (o : Option Holder). or_else o (holding_cell all c)) none)
