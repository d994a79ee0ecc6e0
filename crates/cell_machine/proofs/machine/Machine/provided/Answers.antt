use Rattle.std.specs.Prelude.{None, Some}
use Rattle.cell_space.specs.Named.{provider_as}
use Rattle.cell_machine.proofs.Looked.{found_low, nobody, somebody}
use Rattle.cell_machine.proofs.machine.Machine.provided.Goals as goal

pub returns-in_err-provider : goal.returns-in_err-provider
returns-in_err-provider c =
    nobody c.args.self.now c.requires.sound c.args.ns c.args.name.now c.from_residual.result c.from_residual.ensures (c.in_err-provider.ensures {u = tt})

pub returns-in_err-cell : goal.returns-in_err-cell
returns-in_err-cell c =
    somebody c.args.self.now c.requires.sound c.args.ns c.args.name.now _ (provider_as c.in_ok-provider.provider) (c.in_ok-provider.ensures {u = tt}) None (c.in_err-cell.ensures {u = tt}) c.from_residual-in_err-cell.ensures

pub target_in-requires : goal.target_in-requires
target_in-requires c = found_low c.args.self.now c.requires.sound c.in_ok-provider.provider.cell.0 c.in_ok-cell.cell.now (c.in_ok-cell.ensures {u = tt})

pub returns : goal.returns
returns c =
    somebody c.args.self.now c.requires.sound c.args.ns c.args.name.now _ (provider_as c.in_ok-provider.provider) (c.in_ok-provider.ensures {u = tt}) (Some c.in_ok-cell.cell.now) (c.in_ok-cell.ensures {u = tt}) c.target_in.ensures
