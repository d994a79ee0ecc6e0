use Rattle.std.proofs.Common.{◌-◌, ◌∙◌, ap, arith, drop, length, subst, sym, take, List}
use Rattle.cell_graph.specs.declared.order.RowPlace.{RowPlace}
use Rattle.cell_graph.specs.Gaps.{around}
use Rattle.cell_graph.specs.Lists.{RowsRise, below_row_place}
use Rattle.cell_graph.specs.Order.{IsCut, below_row}
use Rattle.cell_graph.proofs.Gapped.{cut_longer, cut_low, moved, none_before, rises_front}
use Rattle.cell_graph.proofs.row_list.RowList.move_gap.Goals as goal

pub row_cut-front-requires : goal.row_cut-front-requires
row_cut-front-requires g c =
    let same = c.deref.ensures.value ∙ ap (λ v. v.items) c.self.view_is in
    let items = c.args.self.now.items in
    subst (λ (l : List RowPlace). RowsRise (take c.args.gap.front l)) (sym same)
    (rises_front below_row_place (take c.args.gap.front items) (drop c.args.gap.back items) c.requires.rise)

pub overflow_sub-passed : goal.overflow_sub-passed
overflow_sub-passed g c = cut_low _ c.deref.result.now c.row_cut-front.result c.args.gap.front c.row_cut-front.ensures

pub copy_within-requires-clause-start_le_end : goal.copy_within-requires-clause-start_le_end
copy_within-requires-clause-start_le_end g c = cut_low _ c.deref.result.now c.row_cut-front.result c.args.gap.front c.row_cut-front.ensures

pub returns-clause-items : goal.returns-clause-items
returns-clause-items g c =
    let low = cut_low _ c.deref.result.now c.row_cut-front.result c.args.gap.front c.row_cut-front.ensures in
    (moved c.self.inside.list.items c.copy_within.new.self.items c.row_cut-front.result c.args.gap.front
    (c.args.gap.back - (c.args.gap.front - c.row_cut-front.result)) c.args.gap.back
    low c.requires.gap.ordered (omega (arith, c.requires.gap.within, ap (λ v. length v.items) c.self.view_is))
    (omega (arith, low, c.requires.gap.ordered)) c.copy_within.ensures.items).0
    ∙ ap (λ v. around c.args.gap v.items) c.self.view_is

pub returns-clause-gap : goal.returns-clause-gap
returns-clause-gap g c =
    let low = cut_low _ c.deref.result.now c.row_cut-front.result c.args.gap.front c.row_cut-front.ensures in
    let within = c.requires.gap.within in
    let seen = ap (λ v. length v.items) c.self.view_is in
    let long = (moved c.self.inside.list.items c.copy_within.new.self.items c.row_cut-front.result c.args.gap.front
    (c.args.gap.back - (c.args.gap.front - c.row_cut-front.result)) c.args.gap.back
    low c.requires.gap.ordered (omega (arith, within, seen)) (omega (arith, low, c.requires.gap.ordered)) c.copy_within.ensures.items).1 in
    record { ordered = omega (arith, low, c.requires.gap.ordered); within = omega (arith, within, seen, long) }

pub returns-clause-cut : goal.returns-clause-cut
returns-clause-cut g c =
    let same = c.deref.ensures.value ∙ ap (λ v. v.items) c.self.view_is in
    let items = c.args.self.now.items in
    subst (λ (l : List RowPlace). IsCut (λ (r : RowPlace). below_row r.user r.entry c.args.user c.args.entry) l c.row_cut-front.result)
    (sym (returns-clause-items g c))
    (cut_longer (λ (r : RowPlace). below_row r.user r.entry c.args.user c.args.entry) (take c.args.gap.front items) (drop c.args.gap.back items) c.row_cut-front.result
    (subst (λ (l : List RowPlace). IsCut (λ (r : RowPlace). below_row r.user r.entry c.args.user c.args.entry) (take c.args.gap.front l) c.row_cut-front.result)
    same c.row_cut-front.ensures)
    (none_before c.args.user c.args.entry (drop c.args.gap.back items) c.requires.before))

pub returns-clause-size : goal.returns-clause-size
returns-clause-size g c = omega (arith, cut_low _ c.deref.result.now c.row_cut-front.result c.args.gap.front c.row_cut-front.ensures, c.requires.gap.ordered)

pub returns-clause-steps : goal.returns-clause-steps
returns-clause-steps g c = omega (arith, cut_low _ c.deref.result.now c.row_cut-front.result c.args.gap.front c.row_cut-front.ensures, c.ticks.ensures)
