use Rattle.std.proofs.Common.{◌∙◌, ap}
use Rattle.cell_world.specs.Names.{symbol_in}
use Rattle.cell_space.proofs.NameTables.{lookup-rows}
use Rattle.cell_space.proofs.names.NameRows.symbol_of.Goals as goal

pub returns : goal.returns
returns c =
    c.copied.ensures ∙ c.get.ensures.value ∙ lookup-rows (λ k. k.items) c.args.name.now c.self.inside.rows.entries ∙ ap (λ rows. symbol_in rows c.args.name.now) c.self.view_is
