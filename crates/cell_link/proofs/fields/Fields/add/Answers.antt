use Rattle.std.specs.BTreeMap.{get}
use Rattle.cell_world.specs.Linked.Field.{Bound}
use Rattle.cell_link.specs.Linked.{bound_in}
use Rattle.cell_link.specs.Tables.{spot_cmp}
use Rattle.cell_link.proofs.AppliedLemmas.{held_step}
use Rattle.cell_link.proofs.fields.Fields.add.Goals as goal

pub returns-clause-held : goal.returns-clause-held
returns-clause-held c =
    let cell = c.args.linker.now.numbers.places.cell.now in
    let b : Bound = record { entry = c.args.entry.now; target = c.args.target.now } in
    held_step cell (bound_in cell c.args.linker.now.numbers.targets.now) b c.spot.result c.in_ok-held.held c.in-Ok.number c.insert_field.result (get spot_cmp c.args.self.now.held) (get spot_cmp c.insert.new.self) c.spot.ensures
    (rw c.args.linker.now.same at c.in_ok-held.ensures.held)
    c.in-Ok.ensures.1 c.insert_field.ensures
    (λ q. rw (← c.in_ok-held.ensures.others) (c.in_ok-insert.ensures.updates.0 q))
