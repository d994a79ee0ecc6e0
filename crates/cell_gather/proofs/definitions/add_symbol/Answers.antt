use Rattle.std.proofs.Common.{◌∙◌, ap, sym}
use Rattle.cell_world.specs.World.{Alias}
use Rattle.cell_gather.proofs.Symbols.{as_alias, defines, none_added, one_added}
use Rattle.cell_gather.proofs.definitions.add_symbol.Goals as goal

pub returns-in_ok-add : goal.returns-in_ok-add
returns-in_ok-add c =
    let row : Alias = record { name = c.as_slice.result.now; symbol = c.args.number } in
    one_added (defines c.args.bind) as_alias c.args.number c.args.symbol.now row c.args.names.now c.add.new.self (sym c.is_defined_as.ensures ∙ c.if-is_defined_as.true)
    (ap (λ n. let a : Alias = record { name = n; symbol = c.args.number } in a) c.as_slice.ensures) (c.in_ok-add.ensures {u = tt}).added

pub returns-else-is_defined_as : goal.returns-else-is_defined_as
returns-else-is_defined_as c = none_added (defines c.args.bind) as_alias c.args.number c.args.symbol.now c.args.names.now (sym c.is_defined_as.ensures ∙ c.if-is_defined_as.false)
