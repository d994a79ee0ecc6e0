use Rattle.std.proofs.Common.{◌≡◌, sym, subst, List}
use Rattle.std.specs.Prelude.{Some, option_map}
use Rattle.cell_world.specs.World.{Alias}
use Rattle.cell_space.specs.declared.cell.SpaceCell.{SpaceCell}
use Rattle.cell_space.specs.Ahead.{AheadState, AreAhead}
use Rattle.cell_space.specs.Index.{Grows, held}
use Rattle.cell_space.specs.Named.{cell_numbered, with_name}
use Rattle.cell_space.proofs.Appended.{ahead_more}
use Rattle.cell_space.proofs.Renaming.{ahead_named, either_way, ns_found}
use Rattle.cell_space.proofs.ahead.Ahead.add_name.Goals as goal

pub invariant_of-self : goal.invariant_of-self
invariant_of-self c =
    let i = c.self.inside in
    let Grown : List SpaceCell → Type 0 = λ cells. Grows cells c.args.cell.0 (held i.index) (held c.claim_name.new.self) in
    ahead_more i.present.now i.namespaces.now i.fresh.items (held i.index) c.self.invariant (held c.claim_name.new.self) c.args.cell.0
    (subst Grown c.deref.ensures.value c.claim_name.ensures.grows)

pub invariant_of-self-2 : goal.invariant_of-self-2
invariant_of-self-2 c =
    let i = c.self.inside in
    let g = held c.claim_name.new.self in
    let a : Alias = record { name = c.args.name.now; symbol = c.args.symbol } in
    let Grown : List SpaceCell → Type 0 = λ cells. Grows cells c.args.cell.0 (held i.index) g in
    let grows = subst Grown c.deref.ensures.value c.claim_name.ensures.grows in
    let At : AheadState → Type 0 = λ s. option_map (λ (d : SpaceCell). d.ns) (cell_numbered s.fresh c.args.cell.0) ≡ Some c.ns_of-ns.result in
    let found = subst At (sym c.self.view_is) c.ns_of-ns.ensures in
    either_way (λ cells. AreAhead i.present.now i.namespaces.now cells g) c.add_name.result c.add_name.new.cells.items (with_name c.args.cell.0 a i.fresh.items) i.fresh.items c.add_name.ensures.added c.add_name.ensures.unchanged
    (ahead_named i.present.now i.namespaces.now i.fresh.items (held i.index) c.self.invariant g c.args.cell.0 c.ns_of-ns.result a (ns_found i.fresh.items c.args.cell.0 c.ns_of-ns.result found) grows (c.in_ok-claim_name.ensures {u = tt}).taken)
    (ahead_more i.present.now i.namespaces.now i.fresh.items (held i.index) c.self.invariant g c.args.cell.0 grows)
