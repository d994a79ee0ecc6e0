-- Cells that have a WEAK symbol, of two lists of cells.
use Rattle.std.proofs.Common.{◌≡◌, ◌∙◌, ap, not, List, ◌++◌, map}
use Rattle.std.specs.Prelude.{filter}
use Rattle.std.proofs.lemmas.List.{map-append}
use Rattle.std.proofs.lemmas.List.Elements.{filter-append}
use Rattle.cell_object.specs.Parts.{has_no_weak}
use Rattle.cell_world.specs.declared.state.NewCell.{NewCell}
use Rattle.cell_machine.specs.Machine.{soft_of}

pub soft_append : (xs ys : List NewCell) → soft_of (xs ++ ys) ≡ soft_of xs ++ soft_of ys
soft_append xs ys =
    ap (map (λ (c : NewCell). c.id)) (filter-append (λ (c : NewCell). not (has_no_weak c.object)) xs ys)
    ∙ map-append (λ (c : NewCell). c.id) (filter (λ (c : NewCell). not (has_no_weak c.object)) xs) (filter (λ (c : NewCell). not (has_no_weak c.object)) ys)
