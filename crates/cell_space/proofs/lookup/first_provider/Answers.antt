use Rattle.std.proofs.Common.{◌∙◌, sym, ap}
use Rattle.std.specs.Prelude.{filter_map}
use Rattle.cell_num.specs.Lists.{first, holds}
use Rattle.cell_world.specs.Names.{chain}
use Rattle.cell_space.specs.Named.{provider_at, is_holder, is_in}
use Rattle.cell_space.proofs.Searches.{filter-filter, filter_map-filter}
use Rattle.cell_space.proofs.lookup.first_provider.Goals as goal

pub returns : goal.returns
returns c =
    let way = chain c.args.namespaces.now c.args.ns in
    c.first_offer.ensures
    ∙ ap first (
    sym (filter_map-filter (provider_at c.args.name.now) (is_holder way c.args.state) c.args.cells.now)
    ∙ ap (filter_map (provider_at c.args.name.now)) (sym (filter-filter (is_in c.args.state) (λ d. holds way d.ns) c.args.cells.now)))
