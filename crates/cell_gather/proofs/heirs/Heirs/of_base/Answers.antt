use Rattle.std.proofs.Common.{◌∙◌, ap, sym, cond}
use Rattle.std.specs.Prelude.{is_some, None}
use Rattle.cell_space.proofs.NameTables.{is_some_symbol}
use Rattle.cell_world.specs.Names.{symbol_in}
use Rattle.cell_gather.proofs.HeirTables.{heir_is}
use Rattle.cell_gather.proofs.heirs.Heirs.of_base.Goals as goal

pub returns-then-is_some : goal.returns-then-is_some
returns-then-is_some c = λ rows are.
    sym (ap (λ b. cond b None (symbol_in c.args.self.now.once c.args.base.now)) (sym (is_some_symbol c.args.self.now.several c.args.base.now) ∙ ap is_some (sym c.symbol_of.ensures) ∙ sym (c.if-is_some.ensures {u = tt})))
    ∙ heir_is rows c.args.self.now c.args.base.now are

pub returns : goal.returns
returns c = λ rows are.
    c.symbol_of-2.ensures
    ∙ sym (ap (λ b. cond b None (symbol_in c.args.self.now.once c.args.base.now)) (sym (is_some_symbol c.args.self.now.several c.args.base.now) ∙ ap is_some (sym c.symbol_of.ensures) ∙ sym (c.if-is_some.ensures {u = tt})))
    ∙ heir_is rows c.args.self.now c.args.base.now are
