-- Cells where they stand, one after another.
use Rattle.std.proofs.Common.{◌≡◌, ℕ, List, [], ◌∷◌, ◌++◌, map, Option, Some, sym, ap, ◌∙◌, append_assoc}
use Rattle.cell_num.specs.Lists.{or_else}
use Rattle.cell_object.specs.declared.object.Object.{Object}
use Rattle.cell_described.specs.declared.cell.DescribedCell.{DescribedCell}
use Rattle.cell_described.specs.declared.finding.FoundCell.{FoundCell}
use Rattle.cell_described.specs.Faults.{cell_fault, cells_fault, object_at, taken_with}
use Rattle.cell_described.specs.Placing.{IsPlaced, described_of}
use Rattle.cell_described.specs.Taken.{TakenState}

module _ (objects : List Object) (f : FoundCell) (left rest found : List FoundCell) (is : left ≡ f ∷ rest) (t : TakenState) (first : TakenState)
    (so_far : cells_fault t objects left ≡ cells_fault first objects found) where
  head_first : cells_fault first objects found ≡ or_else (cell_fault t (object_at objects f.object) f.cell) (cells_fault (taken_with t objects f) objects rest)
  head_first = sym so_far ∙ ap (cells_fault t objects) is

  -- the cell has the first fault of all
  pub fault_here : (line : ℕ) → cell_fault t (object_at objects f.object) f.cell ≡ Some line → cells_fault first objects found ≡ Some line
  fault_here line e = head_first ∙ ap (λ (o : Option ℕ). or_else o (cells_fault (taken_with t objects f) objects rest)) e

  -- the first fault of all is one of those that follow
  pub fault_later : (cell : DescribedCell) (after : TakenState) → IsPlaced objects t f cell after → cells_fault after objects rest ≡ cells_fault first objects found
  fault_later cell after p =
      ap (λ (u : TakenState). cells_fault u objects rest) p.taken
      ∙ sym (head_first ∙ ap (λ (o : Option ℕ). or_else o (cells_fault (taken_with t objects f) objects rest)) p.fault)

-- one more cell
pub one_placed : (f : FoundCell) (left rest found : List FoundCell) → left ≡ f ∷ rest → (cell : DescribedCell) → cell ≡ described_of f → (cells : List DescribedCell)
    → cells ++ map described_of left ≡ map described_of found → (cells ++ cell ∷ []) ++ map described_of rest ≡ map described_of found
one_placed f left rest found is cell e cells so_far =
    append_assoc cells (cell ∷ []) (map described_of rest)
    ∙ ap (λ (c : DescribedCell). cells ++ c ∷ map described_of rest) e
    ∙ ap (λ (fs : List FoundCell). cells ++ map described_of fs) (sym is)
    ∙ so_far
