use Rattle.std.proofs.Common.{◌∙◌, ap, arith, drop, subst, take, List}
use Rattle.std.specs.List.{insert}
use Rattle.slab.specs.Slab.{get}
use Rattle.cell_graph.specs.declared.order.RowPlace.{RowPlace}
use Rattle.cell_graph.specs.Gaps.{around}
use Rattle.cell_graph.specs.Order.{IsCut, below_row}
use Rattle.cell_graph.proofs.Gapped.{above_all}
use Rattle.cell_graph.proofs.Wholes.{seen_bound, whole_bound}
use Rattle.cell_graph.proofs.links.bind_at_gap.Goals as goal

pub returns-clause-whole : goal.returns-clause-whole
returns-clause-whole g c =
    let list = around c.args.gap c.args.row_list.now.items in
    whole_bound (get c.args.rows.now) (get c.place_row-at.new.rows) (get c.args.sections.now) (get c.place_row-at.new.sections)
    c.args.section_list.now.items list _ c.move_gap-there.result.front c.place_row-at.result.0 c.args.row c.requires.whole
    c.place_row-at.ensures.was_empty c.place_row-at.ensures.links c.requires.unbound
    (subst (λ (l : List RowPlace). IsCut (λ (r : RowPlace). below_row r.user r.entry c.args.row.user c.args.row.entry) l c.move_gap-there.result.front)
    c.move_gap-there.ensures.items c.move_gap-there.ensures.cut)
    (c.fill_gap-rest.ensures.items ∙ (ap (λ (l : List RowPlace). insert l c.move_gap-there.result.front c.of.result) c.move_gap-there.ensures.items
    ∙ ap (λ (x : RowPlace). insert list c.move_gap-there.result.front x) c.of.ensures)) c.place_row-at.ensures.keys c.place_row-at.ensures.chained

pub returns-clause-added : goal.returns-clause-added
returns-clause-added g c =
    let list = around c.args.gap c.args.row_list.now.items in
    seen_bound (get c.args.rows.now) (get c.place_row-at.new.rows) (get c.args.sections.now) (get c.place_row-at.new.sections)
    c.args.section_list.now.items list _ c.move_gap-there.result.front c.place_row-at.result.0 c.args.row c.requires.whole
    c.place_row-at.ensures.was_empty c.place_row-at.ensures.links c.requires.unbound
    (subst (λ (l : List RowPlace). IsCut (λ (r : RowPlace). below_row r.user r.entry c.args.row.user c.args.row.entry) l c.move_gap-there.result.front)
    c.move_gap-there.ensures.items c.move_gap-there.ensures.cut)
    (c.fill_gap-rest.ensures.items ∙ (ap (λ (l : List RowPlace). insert l c.move_gap-there.result.front c.of.result) c.move_gap-there.ensures.items
    ∙ ap (λ (x : RowPlace). insert list c.move_gap-there.result.front x) c.of.ensures))

pub returns-clause-behind : goal.returns-clause-behind
returns-clause-behind g c = λ r below.
    let there = c.move_gap-there in
    let rest = c.fill_gap-rest in
    above_all c.args.row r c.of.result (take rest.result.front rest.new.self.items) (drop rest.result.back rest.new.self.items) (drop there.result.back there.new.self.items)
    (ap (λ (x : RowPlace). x.user) c.of.ensures) (ap (λ (x : RowPlace). x.entry) c.of.ensures) (returns-clause-whole g c).rows_listed.rise rest.ensures.behind below

pub fill_gap-rest-requires-clause-left : goal.fill_gap-rest-requires-clause-left
fill_gap-rest-requires-clause-left g c = omega (arith, c.move_gap-there.ensures.size, c.requires.left)

pub returns-clause-size : goal.returns-clause-size
returns-clause-size g c = omega (arith, c.fill_gap-rest.ensures.size, c.fill_gap-rest.ensures.front, c.move_gap-there.ensures.size)

pub returns-clause-steps : goal.returns-clause-steps
returns-clause-steps g c = omega (arith, c.fill_gap-rest.ensures.step, c.fill_gap-rest.ensures.front, c.move_gap-there.ensures.steps)
