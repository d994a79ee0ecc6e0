use Rattle.std.proofs.Common.{◌∙◌, ap, sym, refl}
use Rattle.std.specs.Prelude.{is_some}
use Rattle.cell_space.proofs.NameTables.{is_some_symbol}
use Rattle.cell_gather.proofs.HeirTables.{noted_first, noted_second, noted_again, none_of}
use Rattle.cell_gather.proofs.heirs.Heirs.note_base.Goals as goal

pub add-requires : goal.add-requires
add-requires c =
    sym (is_some_symbol c.args.self.now.once c.args.base.now) ∙ ap is_some (sym c.symbol_of.ensures) ∙ c.if-is_none.ensures {u = tt}

pub add-requires-then-is_none-2 : goal.add-requires-then-is_none-2
add-requires-then-is_none-2 c =
    sym (is_some_symbol c.args.self.now.several c.args.base.now) ∙ ap is_some (sym c.symbol_of-else-is_none.ensures) ∙ c.if-is_none-2.ensures {u = tt}

pub returns-in_ok-add : goal.returns-in_ok-add
returns-in_ok-add c = λ rows name is are.
    noted_first rows (record { name = name; symbol = c.args.symbol }) c.args.base.now is c.args.self.now (record { once = c.add.new.self; several = c.args.self.now.several }) are
    (none_of _ (ap is_some (sym c.symbol_of.ensures) ∙ c.if-is_none.ensures {u = tt})) (c.in_ok-add.ensures {u = tt}).added refl

pub returns-in_ok-add-2 : goal.returns-in_ok-add-2
returns-in_ok-add-2 c = λ rows name is are.
    noted_second rows (record { name = name; symbol = c.args.symbol }) c.args.base.now is c.args.self.now (record { once = c.args.self.now.once; several = c.add-then-is_none-2.new.self }) are
    (ap is_some (sym c.symbol_of.ensures) ∙ c.if-is_none.ensures {u = tt}) refl (c.in_ok-add-2.ensures {u = tt}).added

pub returns-else-is_none-2 : goal.returns-else-is_none-2
returns-else-is_none-2 c = λ rows name is are.
    noted_again rows (record { name = name; symbol = c.args.symbol }) c.args.base.now is c.args.self.now c.args.self.now are
    (ap is_some (sym c.symbol_of.ensures) ∙ c.if-is_none.ensures {u = tt})
    (sym (is_some_symbol c.args.self.now.several c.args.base.now) ∙ ap is_some (sym c.symbol_of-else-is_none.ensures) ∙ c.if-is_none-2.ensures {u = tt}) refl refl
