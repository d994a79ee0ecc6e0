-- What is left to look at where some cells are found: the sections of the others.
use Rattle.std.proofs.Common.{◌≡◌, sym, ◌∙◌, ap, subst, ℕ, ◌+◌, ◌⊎◌, inl, inr, Bool, true, false, ◌&&◌, ◌||◌, not, List}
use Rattle.std.specs.Prelude.{◌==◌, nat_le, filter}
use Rattle.std.specs.List.{list_any}
use Rattle.std.specs.List.Sorted.{IsPermutation}
use Rattle.std.proofs.lemmas.Bool.{and_parts, and_from, or_cases, or_left, or_right, eqb-true}
use Rattle.std.proofs.lemmas.List.Sorted.{list_any-IsPermutation}
use Rattle.cell_num.specs.declared.ids.CellId.{CellId}
use Rattle.cell_mem.specs.State.{MemoryState}
use Rattle.cell_world.specs.declared.state.Placed.{Placed}
use Rattle.cell_world.specs.Kept.{is_inside, words_inside}
use Rattle.cell_world.specs.Running.Words.{words_of}
use Rattle.cell_hold.specs.declared.roots.Root.{Root}
use Rattle.cell_hold.specs.declared.roots.Root.TheVariants.{Attached, Task, Word}
use Rattle.cell_hold.specs.Adds.{has_cell}
use Rattle.cell_hold.specs.Places.{is_cells_at}
use Rattle.cell_hold.specs.Reached.{cell_leads, root_holds, section_leads, touches, words_reach}
use Rattle.cell_hold.specs.Roots.{task_of}
use Rattle.cell_hold.proofs.Rows.{any_filtered}
use Rattle.cell_hold.proofs.Using.{any_goes}

-- the sections that a sort by starts has put in order are those that were filtered
pub unfound_by : (cells : List CellId) (places kept sorted items : List Placed) → kept ≡ filter (λ s. not (has_cell cells s.key.cell.0)) places → IsPermutation kept sorted → items ≡ sorted
    → (p : Placed → Bool) → list_any p items ≡ list_any (λ s. not (has_cell cells s.key.cell.0) && p s) places
unfound_by cells places kept sorted items is moved same p =
    ap (list_any p) same ∙ (sym (list_any-IsPermutation p kept sorted moved) ∙ (ap (list_any p) is ∙ any_filtered p (λ s. not (has_cell cells s.key.cell.0)) places))

module _ (memory : MemoryState) (places others : List Placed) (known : List CellId) (unfound : (p : Placed → Bool) → list_any p others ≡ list_any (λ s. not (has_cell known s.key.cell.0) && p s) places) where
  -- a section of the others is a section
  pub others_within : (p : Placed → Bool) → list_any p others ≡ true → list_any p places ≡ true
  others_within p h = any_goes (λ s. not (has_cell known s.key.cell.0) && p s) p places (λ s t. (and_parts (not (has_cell known s.key.cell.0)) (p s) t).1) (sym (unfound p) ∙ h)

  -- a section of a cell that isn't known is one of the others
  pub in_others : (c : ℕ) → has_cell known c ≡ false → (p : Placed → Bool) → ((s : Placed) → p s ≡ true → s.key.cell.0 ≡ c) → list_any p places ≡ true → list_any p others ≡ true
  in_others c none p of h =
      unfound p
      ∙ any_goes p (λ s. not (has_cell known s.key.cell.0) && p s) places
      (λ s t. and_from (not (has_cell known s.key.cell.0)) (p s) (ap not (subst (λ n. has_cell known n ≡ false) (sym (of s t)) none)) t) h

  abbrev inside_of : (c w : ℕ) (s : Placed) → is_inside c w s ≡ true → s.key.cell.0 ≡ c
  inside_of c w s h = eqb-true s.key.cell.0 c (and_parts (s.key.cell.0 == c) (nat_le s.start w) (and_parts (s.key.cell.0 == c && nat_le s.start w) (nat_le w (s.start + s.size)) h).0).0

  touches_within : (words : List ℕ) (c : ℕ) → touches others words c ≡ true → touches places words c ≡ true
  touches_within words c h = any_goes (λ w. is_cells_at c w others) (λ w. is_cells_at c w places) words (λ w t. others_within (is_inside c w) t) h

  touches_others : (words : List ℕ) (c : ℕ) → has_cell known c ≡ false → touches places words c ≡ true → touches others words c ≡ true
  touches_others words c none h = any_goes (λ w. is_cells_at c w places) (λ w. is_cells_at c w others) words (λ w t. in_others c none (is_inside c w) (inside_of c w) t) h

  pub root_within : (root : Root) (c : ℕ) → root_holds memory others root c ≡ true → root_holds memory places root c ≡ true
  root_within (Attached cell) c h = h
  root_within (Task t) c h = go (or_cases (t.root.0 == c) (touches others (words_of memory.regions (task_of t)) c) h)
    where
      go : ((t.root.0 == c) ≡ true) ⊎ (touches others (words_of memory.regions (task_of t)) c ≡ true) → (t.root.0 == c || touches places (words_of memory.regions (task_of t)) c) ≡ true
      go (inl k) = or_left (t.root.0 == c) (touches places (words_of memory.regions (task_of t)) c) k
      go (inr k) = or_right (t.root.0 == c) (touches places (words_of memory.regions (task_of t)) c) (touches_within (words_of memory.regions (task_of t)) c k)
  root_within (Word task word) c h = others_within (is_inside c word) h

  pub root_others : (root : Root) (c : ℕ) → has_cell known c ≡ false → root_holds memory places root c ≡ true → root_holds memory others root c ≡ true
  root_others (Attached cell) c none h = h
  root_others (Task t) c none h = go (or_cases (t.root.0 == c) (touches places (words_of memory.regions (task_of t)) c) h)
    where
      go : ((t.root.0 == c) ≡ true) ⊎ (touches places (words_of memory.regions (task_of t)) c ≡ true) → (t.root.0 == c || touches others (words_of memory.regions (task_of t)) c) ≡ true
      go (inl k) = or_left (t.root.0 == c) (touches others (words_of memory.regions (task_of t)) c) k
      go (inr k) = or_right (t.root.0 == c) (touches others (words_of memory.regions (task_of t)) c) (touches_others (words_of memory.regions (task_of t)) c none k)
  root_others (Word task word) c none h = in_others c none (is_inside c word) (inside_of c word) h

  abbrev leads_in : List Placed → ℕ → ℕ → Placed → Bool
  leads_in targets a c s = cell_leads memory targets a s c

  leads_goes : (from to : List Placed) (a c : ℕ) → ((words : List ℕ) → touches from words c ≡ true → touches to words c ≡ true) → (s : Placed) → leads_in from a c s ≡ true → leads_in to a c s ≡ true
  leads_goes from to a c f s h =
      let p = and_parts (s.key.cell.0 == a) (section_leads memory from s c) h in
      let q = and_parts s.write (touches from (words_inside memory.regions s) c) p.1 in
      and_from (s.key.cell.0 == a) (section_leads memory to s c) p.0 (and_from s.write (touches to (words_inside memory.regions s) c) q.0 (f (words_inside memory.regions s) q.1))

  pub words_within : (a c : ℕ) → words_reach memory places others a c ≡ true → words_reach memory places places a c ≡ true
  words_within a c h = any_goes (leads_in others a c) (leads_in places a c) places (leads_goes others places a c (λ words t. touches_within words c t)) h

  pub words_others : (a c : ℕ) → has_cell known c ≡ false → words_reach memory places places a c ≡ true → words_reach memory places others a c ≡ true
  words_others a c none h = any_goes (leads_in places a c) (leads_in others a c) places (leads_goes places others a c (λ words t. touches_others words c none t)) h
