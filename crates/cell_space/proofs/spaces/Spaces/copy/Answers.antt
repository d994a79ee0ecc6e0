use Rattle.std.proofs.Common.{◌∙◌, subst}
use Rattle.cell_space.specs.Index.{held, IsWhole}
use Rattle.cell_space.proofs.Keeping.{kept_copy}
use Rattle.cell_space.proofs.spaces.Spaces.copy.Goals as goal

pub invariant_of-result : goal.invariant_of-result
invariant_of-result c =
    let g = held c.in_ok-index.index in
    kept_copy c.self.inside.namespaces.items c.in_ok-copy_namespaces.field-0.items c.self.inside.cells.items c.in_ok-cells.cells.items (held c.self.inside.index) g c.self.invariant
    (c.in_ok-copy_namespaces.ensures ∙ c.deref-3.ensures.value) (c.in_ok-cells.ensures ∙ c.deref.ensures.value) (subst (IsWhole g) c.deref-2.ensures.value c.in_ok-index.ensures)
