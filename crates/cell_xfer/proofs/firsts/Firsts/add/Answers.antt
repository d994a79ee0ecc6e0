use Rattle.std.proofs.Common.{◌∙◌, sym, ap, is_some}
use Rattle.cell_xfer.specs.Named.{first_named}
use Rattle.cell_xfer.proofs.NameTables.{known, none_is, with_row}
use Rattle.cell_xfer.proofs.firsts.Firsts.add.Goals as goal

pub returns-then-is_some-clause-added : goal.returns-then-is_some-clause-added
returns-then-is_some-clause-added g c =
    known c.args.self.now (c.args.name.now, c.args.value) (sym (c.is_some.ensures ∙ ap is_some c.get.ensures) ∙ c.if-is_some.true)

pub returns-clause-added : goal.returns-clause-added
returns-clause-added g c = λ name.
    let none = none_is (first_named c.args.self.now c.args.name.now) (sym (c.is_some.ensures ∙ ap is_some c.get.ensures) ∙ c.if-is_some.false) in
    ap (λ rows. first_named rows name)
    (with_row (λ k. k.items) c.self.inside.rows c.insert.new.self c.in_ok-key.key c.args.value c.args.name.now c.args.self.now c.in_ok-key.ensures.items none c.self.view_is c.in_ok-insert.ensures.entries)
