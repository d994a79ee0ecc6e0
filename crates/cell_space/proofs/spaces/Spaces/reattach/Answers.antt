use Rattle.std.proofs.Common.{◌≡◌, List, Some, true, subst}
use Rattle.cell_space.specs.declared.cell.SpaceCell.{SpaceCell}
use Rattle.cell_space.specs.Named.{cell_numbered}
use Rattle.cell_space.specs.Index.{held, Grows, IsCellTaken}
use Rattle.cell_space.proofs.Keeping.{kept_back}
use Rattle.cell_space.proofs.spaces.Spaces.reattach.Goals as goal

pub claim_again-requires-clause-whole : goal.claim_again-requires-clause-whole
claim_again-requires-clause-whole c = rw c.deref.ensures.value c.self.invariant.whole

pub invariant_of-self : goal.invariant_of-self
invariant_of-self c =
    let f = held c.self.inside.index in
    let g = held c.claim_again.new.index in
    let Grown : List SpaceCell → Type 0 = λ cells. Grows cells c.args.cell.0 f g in
    let Again : List SpaceCell → Type 0 = λ cells. (d : SpaceCell) → cell_numbered cells c.args.cell.0 ≡ Some d → IsCellTaken g true d in
    rw c.set_state.ensures.items
    (kept_back c.self.inside.namespaces.items c.self.inside.cells.items f c.self.invariant g c.args.cell.0
    (subst Grown c.deref.ensures.value c.claim_again.ensures.grows) (subst Again c.deref.ensures.value c.claim_again.ensures.taken))
