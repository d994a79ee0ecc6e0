use Rattle.std.proofs.Common.{◌∙◌, List, map, ap, sym, subst, refl, arith}
use Rattle.slab.specs.Slab.{get}
use Rattle.cell_graph.specs.declared.order.RowPlace.{RowPlace}
use Rattle.cell_graph.specs.Listed.{IsWhole}
use Rattle.cell_graph.specs.Places.{link_at}
use Rattle.cell_graph.specs.Several.{AreThere, all_unlinked, unlinked}
use Rattle.cell_graph.specs.Standing.{standing}
use Rattle.cell_graph.proofs.Unbinding.{all_stand, fold_done, fold_more, there_here, there_more}
use Rattle.cell_graph.proofs.links.unbind_each.Goals as goal

pub loop-row-init : goal.loop-row-init
loop-row-init g c =
    let at = get c.args.rows.now in
    let list = c.args.row_list.now.items in
    let same = sym (all_stand at list c.requires.whole.rows_listed.stand) in
    record {
      whole = subst (λ (l : List RowPlace). IsWhole at (get c.args.sections.now) c.args.section_list.now.items l) same c.requires.whole;
      left = ap (λ (l : List RowPlace). all_unlinked (map (link_at at) l) c.args.gone.now) (sym same);
      there = subst (λ (l : List RowPlace). AreThere (map (link_at at) l) c.args.gone.now) same c.requires.there;
      steps = omega arith;
      row_count = omega arith;
      section_count = refl;
      row_capacity = refl;
      section_capacity = refl;
    }

pub unbind_one-near-requires-clause-there : goal.unbind_one-near-requires-clause-there
unbind_one-near-requires-clause-there g c =
    let at = get c.loop-row.rows in
    there_here c.args.gone.now c.loop-row.row-index c.loop-row-test.true (map (link_at at) (standing at c.args.row_list.now.items)) c.loop-row.invariant.there

pub loop-row-preserved : goal.loop-row-preserved
loop-row-preserved g c =
    let inv = c.loop-row.invariant in
    let step = c.unbind_one-near.ensures in
    let list = c.args.row_list.now.items in
    let now = map (link_at (get c.loop-row.rows)) (standing (get c.loop-row.rows) list) in
    let later = map (link_at (get c.unbind_one-near.new.rows)) (standing (get c.unbind_one-near.new.rows) list) in
    record {
      whole = step.whole;
      left = fold_more unlinked c.args.gone.now c.loop-row.row-index now later c.loop-row-test.true step.left ∙ inv.left;
      there = there_more c.args.gone.now c.loop-row.row-index c.loop-row-test.true now inv.there later step.left;
      steps = omega (arith, step.steps, inv.steps);
      row_count = omega (arith, step.row_count, inv.row_count);
      section_count = step.section_count ∙ inv.section_count;
      row_capacity = step.row_capacity ∙ inv.row_capacity;
      section_capacity = step.section_capacity ∙ inv.section_capacity;
    }

pub returns-clause-left : goal.returns-clause-left
returns-clause-left g c =
    let at = get c.loop-row.rows in
    fold_done unlinked c.args.gone.now c.loop-row.row-index (map (link_at at) (standing at c.args.row_list.now.items)) _ c.loop-row-test.false c.loop-row.invariant.left
