use Rattle.std.proofs.Common.{ap, sym, ◌∙◌}
use Rattle.std.specs.Prelude.{option_copied}
use Rattle.cell_num.specs.Lists.{first}
use Rattle.cell_depot.specs.Files.{places_where, has_name}
use Rattle.cell_depot.proofs.Depots.{named_at, named_nowhere}
use Rattle.cell_depot.proofs.depot.Depot.named.Goals as goal

pub at-requires : goal.at-requires
at-requires c =
    let noted = c.get.ensures ∙ c.self.invariant.named c.args.name.now ∙ ap (λ files. first (places_where (has_name c.args.name.now) files)) c.self.view_is in
    (named_at (has_name c.args.name.now) c.args.self.now c.in-Some.place.now (sym noted ∙ ap option_copied c.in-Some.is)).inside

pub returns-in-None : goal.returns-in-None
returns-in-None c =
    let noted = c.get.ensures ∙ c.self.invariant.named c.args.name.now ∙ ap (λ files. first (places_where (has_name c.args.name.now) files)) c.self.view_is in
    sym (named_nowhere (has_name c.args.name.now) c.args.self.now (sym noted ∙ ap option_copied c.in-None.is))

pub returns-in-Some : goal.returns-in-Some
returns-in-Some c =
    let noted = c.get.ensures ∙ c.self.invariant.named c.args.name.now ∙ ap (λ files. first (places_where (has_name c.args.name.now) files)) c.self.view_is in
    let at = named_at (has_name c.args.name.now) c.args.self.now c.in-Some.place.now (sym noted ∙ ap option_copied c.in-Some.is) in
    sym c.at.ensures ∙ at.at ∙ sym at.found
