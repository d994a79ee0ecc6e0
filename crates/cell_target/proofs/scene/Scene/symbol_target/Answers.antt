use Rattle.std.proofs.Common.{◌∙◌, sym}
use Rattle.cell_target.specs.Named.{world_of}
use Rattle.cell_target.proofs.Asking.{own_is, undefined_is, yielding_is}
use Rattle.cell_target.proofs.scene.Scene.symbol_target.Goals as goal

pub returns-then-is_undefined-clause-target : goal.returns-then-is_undefined-clause-target
returns-then-is_undefined-clause-target c =
    c.undefined_target.ensures.target
    ∙ undefined_is (world_of c.args.self.now) c.args.cell.now c.args.state c.args.symbol.now c.args.symbol.now.home (sym c.is_undefined.ensures ∙ c.if-is_undefined.true)

pub returns-then-is_weak_definition-clause-target : goal.returns-then-is_weak_definition-clause-target
returns-then-is_weak_definition-clause-target c =
    c.yielding_target.ensures.target
    ∙ yielding_is (world_of c.args.self.now) c.args.cell.now c.args.state c.args.symbol.now c.args.symbol.now.home (sym c.is_weak_definition.ensures ∙ c.if-is_weak_definition.true)

pub returns-clause-target : goal.returns-clause-target
returns-clause-target c =
    c.own_target.ensures
    ∙ own_is (world_of c.args.self.now) c.args.cell.now c.args.state c.args.symbol.now c.args.symbol.now.home (sym c.is_undefined.ensures ∙ c.if-is_undefined.false) (sym c.is_weak_definition.ensures ∙ c.if-is_weak_definition.false)
