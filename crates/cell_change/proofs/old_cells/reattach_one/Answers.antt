use Rattle.std.proofs.Common.{◌∙◌, ap, refl}
use Rattle.std.specs.Prelude.{Some, not}
use Rattle.cell_world.specs.World.{Standing}
use Rattle.cell_world.specs.declared.state.Standing.TheVariants.{Attached, Detached}
use Rattle.cell_space.specs.Named.{is_state}
use Rattle.cell_change.proofs.Return.Returning.{attached_again, found_in, less_aside}
use Rattle.cell_change.proofs.old_cells.reattach_one.Goals as goal

pub reattach-requires-clause-detached : goal.reattach-requires-clause-detached
reattach-requires-clause-detached c =
    found_in (λ s. not (is_state Attached s)) c.args.spaces.now.cells c.args.cell.0 (Detached c.in-Detached.field-0) (c.state.ensures ∙ ap (λ (s : Standing). Some s) c.in-Detached.is) refl

pub reattach-requires-clause-free : goal.reattach-requires-clause-free
reattach-requires-clause-free c = c.requires.free (reattach-requires-clause-detached c)

pub returns-in-Attached-clause-known : goal.returns-in-Attached-clause-known
returns-in-Attached-clause-known c before k p put attached =
    attached_again before k p c.args.spaces.now.cells put c.args.cell.0 attached (c.state.ensures ∙ ap (λ (s : Standing). Some s) c.in-Attached.is)

pub returns-in-Detached-clause-known : goal.returns-in-Detached-clause-known
returns-in-Detached-clause-known c before k p put attached =
    less_aside before k p c.args.spaces.now.cells put c.args.cell.0 c.reattach.new.self.cells attached c.reattach.ensures.state
