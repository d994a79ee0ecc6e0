use Rattle.std.proofs.Common.{◌++◌}
use Rattle.cell_space.specs.Named.{provider_as}
use Rattle.cell_target.proofs.Lookups.{nobody_there, somebody_there}
use Rattle.cell_target.proofs.scene.Scene.provided.Goals as goal

pub returns-in_err-provider : goal.returns-in_err-provider
returns-in_err-provider c =
    nobody_there c.args.self.now.ahead.now.namespaces c.args.self.now.ahead.now.cells (c.args.self.now.present.now ++ c.args.self.now.fresh.now) c.args.self.now.cells c.args.ns c.args.state c.args.name.now c.args.asked c.from_residual.result
    c.from_residual.ensures (c.in_err-provider.ensures {u = tt})

pub returns : goal.returns
returns c =
    somebody_there c.args.self.now.ahead.now.namespaces c.args.self.now.ahead.now.cells (c.args.self.now.present.now ++ c.args.self.now.fresh.now) c.args.self.now.cells c.args.ns c.args.state c.args.name.now c.args.asked c.provided_target.result
    (provider_as c.in_ok-provider.provider) (c.in_ok-provider.ensures {u = tt}) c.provided_target.ensures
