use Rattle.std.proofs.Common.{◌∙◌, ap}
use Rattle.cell_xfer.specs.Named.{first_named}
use Rattle.cell_xfer.proofs.NameTables.{lookup-rows}
use Rattle.cell_xfer.proofs.firsts.Firsts.get.Goals as goal

pub returns : goal.returns
returns g c =
    c.copied.ensures ∙ c.get.ensures.value ∙ lookup-rows (λ k. k.items) c.args.name.now c.self.inside.rows.entries ∙ ap (λ rows. first_named rows c.args.name.now) c.self.view_is
