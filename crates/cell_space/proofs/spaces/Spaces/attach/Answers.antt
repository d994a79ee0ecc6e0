use Rattle.std.proofs.Common.{◌≡◌, ◌<◌, List, None, sym, subst, length}
use Rattle.cell_world.specs.declared.state.Standing.TheVariants.{Attached}
use Rattle.cell_space.specs.declared.cell.SpaceCell.{SpaceCell}
use Rattle.cell_space.specs.Named.{cell_numbered}
use Rattle.cell_space.specs.Spaces.{SpacesState}
use Rattle.cell_space.specs.Index.{held, Grows}
use Rattle.cell_space.proofs.Keeping.{kept_with}
use Rattle.cell_space.proofs.spaces.Spaces.attach.Goals as goal

pub invariant_of-self : goal.invariant_of-self
invariant_of-self c =
    let f = held c.self.inside.index in
    let g = held c.claim_reserved.new.self in
    let row : SpaceCell = record { cell = c.args.cell; ns = c.args.ns; stem = c.args.stem; state = Attached; names = c.args.names; weak = c.args.weak } in
    let IsInside : SpacesState → Type 0 = λ s. c.args.ns < length s.namespaces in
    let there = subst IsInside (sym c.self.view_is) c.requires.there in
    let IsNew : SpacesState → Type 0 = λ s. cell_numbered s.cells c.args.cell.0 ≡ None in
    let new = subst IsNew (sym c.self.view_is) c.requires.new in
    let Grown : List SpaceCell → Type 0 = λ cells. Grows cells c.args.cell.0 f g in
    rw c.insert_cell.ensures.items
    (kept_with c.self.inside.namespaces.items c.self.inside.cells.items f c.self.invariant g row there new
    (subst Grown c.deref.ensures.value c.claim_reserved.ensures.grows) c.claim_reserved.ensures.taken)
