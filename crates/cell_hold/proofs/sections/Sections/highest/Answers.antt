use Rattle.std.proofs.Common.{◌≤◌, All, List, subst}
use Rattle.std.proofs.lemmas.List.Sorted.{All-permutation, IsPermutation-sym}
use Rattle.cell_world.specs.declared.state.Placed.{Placed}
use Rattle.cell_hold.proofs.sections.Sections.highest.Goals as goal

pub returns : goal.returns
returns c =
    subst (λ (places : List Placed). All (λ s. s.key.cell.0 ≤ c.highest_of.result) places) c.self.view_is
    (All-permutation (λ (s : Placed). s.key.cell.0 ≤ c.highest_of.result) c.self.inside.by_cell.items c.self.inside.list.items
    (IsPermutation-sym c.self.inside.list.items c.self.inside.by_cell.items c.self.invariant.of_cells)
    (subst (λ (places : List Placed). All (λ s. s.key.cell.0 ≤ c.highest_of.result) places) c.deref.ensures.value c.highest_of.ensures))
