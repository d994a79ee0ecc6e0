use Rattle.std.proofs.Common.{◌∙◌, ap, sym}
use Rattle.std.specs.Prelude.{Option, unwrap_or}
use Rattle.cell_world.specs.World.{Standing}
use Rattle.cell_world.specs.declared.state.Standing.TheVariants.{Attached}
use Rattle.cell_plan.specs.Viewed.{view_of}
use Rattle.cell_plan.proofs.Exchanging.{taken_in}
use Rattle.cell_plan.proofs.exchange.Exchange.add.Goals as goal

pub returns-clause-adds : goal.returns-clause-adds
returns-clause-adds c =
    taken_in (view_of c.args.self.now) c.args.cell.now c.state-state.result c.deref.result.now c.deref-2.result.now c.args.changed.now c.take_in.new.self (sym (ap (λ (o : Option Standing). unwrap_or o Attached) c.state-state.ensures)) (c.deref.ensures.value ∙ c.in_ok-find_targets.ensures.targets) (c.deref-2.ensures.value ∙ c.in_ok-list_links.ensures)
    (c.in_ok-take_in.ensures {u = tt})
