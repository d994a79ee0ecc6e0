use Rattle.std.proofs.Common.{◌∙◌, sym}
use Rattle.cell_gather.specs.Appending.{is_need}
use Rattle.cell_gather.proofs.Symbols.{its_name, none_added, one_added}
use Rattle.cell_gather.proofs.used.Used.add_need.Goals as goal

pub returns-in_ok-push : goal.returns-in_ok-push
returns-in_ok-push c =
    one_added (is_need c.args.self.now.object.now) its_name c.args.number c.args.symbol.now c.in_ok-name.name c.args.names.now.items c.push.new.self.items (sym c.is_need.ensures ∙ c.if-is_need.true)
    (c.in_ok-name.ensures ∙ c.as_slice.ensures) c.in_ok-push.ensures.items

pub returns-else-is_need : goal.returns-else-is_need
returns-else-is_need c = none_added (is_need c.args.self.now.object.now) its_name c.args.number c.args.symbol.now c.args.names.now.items (sym c.is_need.ensures ∙ c.if-is_need.false)
