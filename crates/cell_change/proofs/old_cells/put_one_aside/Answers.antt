use Rattle.std.proofs.Common.{◌∙◌, ap, refl}
use Rattle.std.specs.Prelude.{Some}
use Rattle.cell_world.specs.World.{Standing}
use Rattle.cell_world.specs.declared.state.Standing.TheVariants.{Attached}
use Rattle.cell_space.specs.Named.{is_state}
use Rattle.cell_change.proofs.Return.Returning.{aside_again, found_in, is_put, more_aside}
use Rattle.cell_change.proofs.old_cells.put_one_aside.Goals as goal

pub detach-requires : goal.detach-requires
detach-requires c = found_in (is_state Attached) c.args.spaces.now.cells c.args.cell.0 Attached (c.state.ensures ∙ ap (λ (s : Standing). Some s) c.in-Attached.is) refl

pub returns-in-Attached-clause-known : goal.returns-in-Attached-clause-known
returns-in-Attached-clause-known c before p put at = more_aside before c.args.swap p c.args.spaces.now.cells put c.args.cell.0 c.detach.new.self.cells c.detach.ensures.state

pub returns-in-Detached-clause-known : goal.returns-in-Detached-clause-known
returns-in-Detached-clause-known c before p put at =
    aside_again before c.args.swap p c.args.spaces.now.cells put c.args.cell.0
    (is_put before c.args.swap p c.args.spaces.now.cells put c.args.cell.0 c.in-Detached.field-0 at (c.state.ensures ∙ ap (λ (s : Standing). Some s) c.in-Detached.is))
