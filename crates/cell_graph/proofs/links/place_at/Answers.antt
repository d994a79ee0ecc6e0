use Rattle.std.proofs.Common.{ap, subst, sym, Contains}
use Rattle.cell_graph.proofs.Listing.{place_named}
use Rattle.cell_graph.proofs.links.place_at.Goals as goal

pub returns-clause-place : goal.returns-clause-place
returns-clause-place g c =
    let s = c.at.result in
    subst (λ n. Contains c.args.list.now.items (record { key = c.args.key; place = n })) (sym (ap (λ x. x.place) (c.at.ensures.place s)))
    (place_named c.args.list.now.items c.args.index c.args.key s c.requires)
