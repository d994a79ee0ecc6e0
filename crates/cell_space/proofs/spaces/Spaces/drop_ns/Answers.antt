use Rattle.std.proofs.Common.{◌≡◌, ◌+◌, ◌-◌, ◌<◌, sym, subst, arith, length, take}
use Rattle.std.specs.Prelude.{All, IsSome}
use Rattle.cell_space.specs.declared.cell.SpaceCell.{SpaceCell}
use Rattle.cell_space.specs.Index.{held}
use Rattle.cell_space.specs.Spaces.{SpacesState}
use Rattle.cell_space.proofs.Keeping.{kept_popped, popped}
use Rattle.cell_space.proofs.spaces.Spaces.drop_ns.Goals as goal

pub invariant_of-self : goal.invariant_of-self
invariant_of-self c =
    let old = c.self.inside in
    let IsMore : SpacesState → Type 0 = λ s. 1 < length s.namespaces in
    let more = subst IsMore (sym c.self.view_is) c.requires.more in
    let IsEmptied : SpacesState → Type 0 = λ s. All (λ (d : SpaceCell). d.ns + 1 < length s.namespaces) s.cells in
    let empty = subst IsEmptied (sym c.self.view_is) c.requires.empty in
    kept_popped old.namespaces.items old.cells.items (held old.index) c.self.invariant c.pop.new.self.items c.pop.result (c.pop.ensures.variant.1 (omega (arith, more, old.namespaces.ok.0))) c.pop.ensures.items empty

pub returns-clause-namespaces : goal.returns-clause-namespaces
returns-clause-namespaces c =
    let old = c.self.inside in
    let IsMore : SpacesState → Type 0 = λ s. 1 < length s.namespaces in
    let more = subst IsMore (sym c.self.view_is) c.requires.more in
    let AreLeft : SpacesState → Type 0 = λ s. c.pop.new.self.items ≡ take (length s.namespaces - 1) s.namespaces in
    subst AreLeft c.self.view_is (popped old.namespaces.items c.pop.new.self.items c.pop.result (c.pop.ensures.variant.1 (omega (arith, more, old.namespaces.ok.0))) c.pop.ensures.items)
