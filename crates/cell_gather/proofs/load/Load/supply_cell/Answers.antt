use Rattle.std.proofs.Common.{◌≡◌, ◌<◌, ◌∙◌, ap, arith, length, subst, sym}
use Rattle.cell_world.specs.declared.state.NewCell.{NewCell}
use Rattle.cell_world.specs.Names.{needs_of}
use Rattle.cell_world.specs.declared.state.Standing.TheVariants.{Attached}
use Rattle.cell_gather.specs.Growing.{new_of}
use Rattle.cell_gather.proofs.Growths.{as_many, cell_there}
use Rattle.cell_gather.proofs.Lacks.{at_slice}
use Rattle.cell_gather.proofs.load.Load.supply_cell.Goals as goal

pub index-cell-requires : goal.index-cell-requires
index-cell-requires c =
    let many = as_many c.args.self.now.spaces.now c.args.self.now.next c.args.gathered.now c.requires.growing in
    omega (arith, c.requires.there, c.args.gathered.now.cells.ok.0)

pub supply_needs-requires-clause-there : goal.supply_needs-requires-clause-there
supply_needs-requires-clause-there c =
    let g = c.args.gathered.now in
    let spaces = c.args.self.now.spaces.now.namespaces in
    let there = cell_there c.args.self.now.spaces.now c.args.self.now.next g c.requires.growing c.args.place c.index-cell.result.now c.requires.there c.index-cell.ensures in
    subst (λ (p : NewCell). p.ns < length spaces) there.2 (at_slice (λ x. x.ns < length spaces) (new_of g) c.args.place there.0 c.requires.growing.inside there.1)

pub supply_needs-requires-clause-turn : goal.supply_needs-requires-clause-turn
supply_needs-requires-clause-turn c =
    let g = c.args.gathered.now in
    let there = cell_there c.args.self.now.spaces.now c.args.self.now.next g c.requires.growing c.args.place c.index-cell.result.now c.requires.there c.index-cell.ensures in
    record {
      cell = there.0;
      at = there.1;
      on = at_slice (λ x. x.standing ≡ Attached) (new_of g) c.args.place there.0 c.requires.growing.attached there.1;
      ns_is = ap (λ (p : NewCell). p.ns) there.2;
      id_is = ap (λ (p : NewCell). p.id) there.2;
      needs_are = ap (λ (p : NewCell). needs_of p.object) there.2 ∙ sym (c.deref.ensures.value ∙ c.in_ok-needs.ensures);
      supplied = c.requires.supplied;
    }
