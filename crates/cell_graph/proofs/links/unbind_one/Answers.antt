use Rattle.std.proofs.Common.{Contains, ap, sym, subst, ◌∙◌}
use Rattle.slab.specs.Slab.{get}
use Rattle.cell_graph.specs.declared.order.RowPlace.{RowPlace}
use Rattle.cell_graph.proofs.Rising.{at_index}
use Rattle.cell_graph.proofs.Unbinding.{seen_next, still_named, still_stands, whole_next}
use Rattle.cell_graph.proofs.links.unbind_one.Goals as goal

pub index_near-index-requires-clause-bound : goal.index_near-index-requires-clause-bound
index_near-index-requires-clause-bound g c = still_named (get c.args.rows.now) c.args.row_list.now.items c.args.row c.requires.there

pub drop_row-old-requires-clause-stands : goal.drop_row-old-requires-clause-stands
drop_row-old-requires-clause-stands g c =
    let list = c.args.row_list.now.items in
    let r = c.at-place.result in
    let named = c.index_near-index.ensures.named in
    let is = c.at-place.ensures.place r in
    still_stands (get c.args.rows.now) list r c.args.row c.requires.rise
    (subst (λ (x : RowPlace). Contains list x) (sym is) (at_index list c.index_near-index.result r named.within))
    (ap (λ (x : RowPlace). x.user) is ∙ named.user_is r) (ap (λ (x : RowPlace). x.entry) is ∙ named.entry_is r) c.requires.there

pub returns-clause-whole : goal.returns-clause-whole
returns-clause-whole g c =
    let list = c.args.row_list.now.items in
    let r = c.at-place.result in
    let named = c.index_near-index.ensures.named in
    let is = c.at-place.ensures.place r in
    whole_next (get c.args.rows.now) list r c.args.row c.requires.rise
    (subst (λ (x : RowPlace). Contains list x) (sym is) (at_index list c.index_near-index.result r named.within))
    (ap (λ (x : RowPlace). x.user) is ∙ named.user_is r) (ap (λ (x : RowPlace). x.entry) is ∙ named.entry_is r) c.requires.there
    (get c.drop_row-old.new.rows) (get c.args.sections.now) c.args.section_list.now.items c.requires.whole c.drop_row-old.ensures.links
    (get c.drop_row-old.new.sections) c.drop_row-old.ensures.keys c.drop_row-old.ensures.chained

pub returns-clause-left : goal.returns-clause-left
returns-clause-left g c =
    let list = c.args.row_list.now.items in
    let r = c.at-place.result in
    let named = c.index_near-index.ensures.named in
    let is = c.at-place.ensures.place r in
    seen_next (get c.args.rows.now) list r c.args.row c.requires.rise
    (subst (λ (x : RowPlace). Contains list x) (sym is) (at_index list c.index_near-index.result r named.within))
    (ap (λ (x : RowPlace). x.user) is ∙ named.user_is r) (ap (λ (x : RowPlace). x.entry) is ∙ named.entry_is r) c.requires.there
    (get c.drop_row-old.new.rows) (get c.args.sections.now) c.args.section_list.now.items c.requires.whole c.drop_row-old.ensures.links
