-- The cells whose sections are left, while those before them are added.
use Rattle.std.proofs.Common.{◌≡◌, sym, ap, ◌∙◌, subst, ℕ, ◌+◌, ◌<◌, ◌≤◌, List, ◌∷◌, ◌++◌, length, drop, get_or, append_assoc, append-nil}
use Rattle.std.specs.Prelude.{All, flat_map}
use Rattle.std.specs.List.Sorted.{IsStrictlyIncreasing}
use Rattle.std.proofs.lemmas.List.{drop_more, drop_all}
use Rattle.cell_num.specs.declared.ids.SecKey.{SecKey}
use Rattle.cell_commit.specs.declared.sections.CellSections.{CellSections}
use Rattle.cell_commit.specs.Cells.{AreAbove, keys_in, section_count}

-- the next cell
pub next_left : (cells : List CellSections) (i : ℕ) (c : CellSections) → i < length cells → c ≡ get_or cells i c → drop i cells ≡ c ∷ drop (i + 1) cells
next_left cells i c lt is = drop_more cells i c lt ∙ ap (λ (d : CellSections). d ∷ drop (i + 1) cells) (sym is)

module _ (cells : List CellSections) (i : ℕ) (c : CellSections) (left : drop i cells ≡ c ∷ drop (i + 1) cells) where
  above : (keys : List SecKey) → AreAbove keys (drop i cells) → AreAbove keys (c ∷ drop (i + 1) cells)
  above keys are = subst (AreAbove keys) left are

  pub above_here : (keys : List SecKey) → AreAbove keys (drop i cells) → All (λ k. k.cell.0 < c.cell.0) keys
  above_here keys are = (above keys are).0

  pub rising_here : (keys : List SecKey) → AreAbove keys (drop i cells) → IsStrictlyIncreasing c.sections.items
  rising_here keys are = (above keys are).1

  pub above_more : (keys new : List SecKey) → new ≡ keys ++ keys_in c → AreAbove keys (drop i cells) → AreAbove new (drop (i + 1) cells)
  above_more keys new e are = subst (λ (ks : List SecKey). AreAbove ks (drop (i + 1) cells)) (sym e) (above keys are).2

  pub sections_more : (keys new all : List SecKey) → new ≡ keys ++ keys_in c → keys ++ flat_map keys_in (drop i cells) ≡ all → new ++ flat_map keys_in (drop (i + 1) cells) ≡ all
  sections_more keys new all e before =
      ap (λ (ks : List SecKey). ks ++ flat_map keys_in (drop (i + 1) cells)) e
      ∙ append_assoc keys (keys_in c) (flat_map keys_in (drop (i + 1) cells))
      ∙ ap (λ (cs : List CellSections). keys ++ flat_map keys_in cs) (sym left)
      ∙ before

  pub count_here : section_count (drop i cells) ≡ length c.sections.items + section_count (drop (i + 1) cells)
  count_here = ap section_count left

pub sections_done : (keys all : List SecKey) (cells : List CellSections) (i : ℕ) → length cells ≤ i → keys ++ flat_map keys_in (drop i cells) ≡ all → keys ≡ all
sections_done keys all cells i le before =
    sym (append-nil keys) ∙ ap (λ (cs : List CellSections). keys ++ flat_map keys_in cs) (sym (drop_all i cells le)) ∙ before
