use Rattle.std.proofs.Common.{◌≡◌, ◌<◌, List, length, refl, sym, subst}
use Rattle.std.specs.Prelude.{All}
use Rattle.cell_space.specs.Ahead.{AheadState, AreAhead}
use Rattle.cell_world.specs.declared.state.Standing.TheVariants.{Attached}
use Rattle.cell_space.specs.declared.cell.SpaceCell.{SpaceCell}
use Rattle.cell_space.specs.Index.{held, Grows}
use Rattle.cell_space.proofs.Appended.{Below, below_later, ahead_more, ahead_with}
use Rattle.cell_space.proofs.ahead.Ahead.append.Goals as goal

pub invariant_of-self : goal.invariant_of-self
invariant_of-self c =
    let i = c.self.inside in
    let Grown : List SpaceCell → Type 0 = λ cells. Grows cells c.args.cell.0 (held i.index) (held c.claim_all.new.self) in
    ahead_more i.present.now i.namespaces.now i.fresh.items (held i.index) c.self.invariant (held c.claim_all.new.self) c.args.cell.0
    (subst Grown c.deref.ensures.value c.claim_all.ensures.grows)

pub invariant_of-self-in_err-push : goal.invariant_of-self-in_err-push
invariant_of-self-in_err-push c =
    let i = c.self.inside in
    let Grown : List SpaceCell → Type 0 = λ cells. Grows cells c.args.cell.0 (held i.index) (held c.claim_all.new.self) in
    let same : c.push.new.self.items ≡ i.fresh.items = c.in_err-push.ensures.items in
    subst (λ cells. AreAhead i.present.now i.namespaces.now cells (held c.claim_all.new.self)) (sym same)
    (ahead_more i.present.now i.namespaces.now i.fresh.items (held i.index) c.self.invariant (held c.claim_all.new.self) c.args.cell.0
    (subst Grown c.deref.ensures.value c.claim_all.ensures.grows))

pub invariant_of-self-2 : goal.invariant_of-self-2
invariant_of-self-2 c =
    let i = c.self.inside in
    let row : SpaceCell = record { cell = c.args.cell; ns = c.args.ns; stem = c.args.stem; state = Attached; names = c.args.names; weak = c.args.weak } in
    let Grown : List SpaceCell → Type 0 = λ cells. Grows cells c.args.cell.0 (held i.index) (held c.claim_all.new.self) in
    let IsInside : AheadState → Type 0 = λ s. c.args.ns < length s.namespaces in
    let there : c.args.ns < length i.namespaces.now = subst (λ spaces. c.args.ns < length spaces) (sym c.self.invariant.same) (subst IsInside (sym c.self.view_is) c.requires.there) in
    let AreBelow : AheadState → Type 0 = λ s. All (Below c.args.cell.0) s.cells in
    let below = below_later c.args.cell.0 i.present.now.cells i.fresh.items (subst AreBelow (sym c.self.view_is) c.requires.above) in
    subst (λ cells. AreAhead i.present.now i.namespaces.now cells (held c.claim_all.new.self)) (sym c.in_ok-push.ensures.items)
    (ahead_with i.present.now i.namespaces.now i.fresh.items (held i.index) c.self.invariant (held c.claim_all.new.self) row there below
    (subst Grown c.deref.ensures.value c.claim_all.ensures.grows) c.in_ok-claim_all.ensures.taken refl)
