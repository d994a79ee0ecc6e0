use Rattle.std.proofs.Common.{◌∙◌, ap, sym}
use Rattle.cell_space.specs.Rows.{are_apart}
use Rattle.cell_space.proofs.Apart.{apart_more}
use Rattle.cell_space.proofs.NameTables.{with_row}
use Rattle.cell_space.proofs.names.NameRows.add.Goals as goal

pub returns-clause-added : goal.returns-clause-added
returns-clause-added c =
    with_row (λ k. k.items) c.self.inside.rows c.insert.new.self c.in_ok-key.key c.args.symbol c.args.name.now c.args.self.now c.in_ok-key.ensures.items c.requires c.self.view_is c.in_ok-insert.ensures.entries

pub invariant_of-self-2 : goal.invariant_of-self-2
invariant_of-self-2 c =
    ap are_apart (with_row (λ k. k.items) c.self.inside.rows c.insert.new.self c.in_ok-key.key c.args.symbol c.args.name.now c.args.self.now c.in_ok-key.ensures.items c.requires c.self.view_is c.in_ok-insert.ensures.entries)
    ∙ apart_more c.args.self.now (record { name = c.args.name.now; symbol = c.args.symbol }) (sym (ap are_apart c.self.view_is) ∙ c.self.invariant) c.requires
