use Rattle.std.proofs.Common.{◌≡◌, ◌∙◌, ◌<◌, Some, ap, length, subst, sym}
use Rattle.std.specs.Prelude.{option_map}
use Rattle.cell_space.specs.Named.{cell_numbered}
use Rattle.cell_space.specs.Spaces.{SpacesState}
use Rattle.cell_space.proofs.Changes.{found_inside}
use Rattle.cell_space.proofs.spaces.Spaces.provider.Goals as goal

pub provider_for-requires-in-Some : goal.provider_for-requires-in-Some
provider_for-requires-in-Some c =
    let found : cell_numbered c.self.inside.cells.items c.in-Cell.cell.0 ≡ Some c.in-Some.found.now =
    ap (λ cells. cell_numbered cells c.in-Cell.cell.0) (sym c.deref.ensures.value) ∙ sym c.cell_numbered.ensures ∙ ap (option_map (λ r. r.now)) c.in-Some.is
    in
    let IsInside : SpacesState → Type 0 = λ s. c.in-Some.found.now.ns < length s.namespaces in
    subst IsInside c.self.view_is (found_inside c.self.inside.namespaces.items c.self.inside.cells.items c.self.invariant.sound c.in-Cell.cell.0 c.in-Some.found.now found)
