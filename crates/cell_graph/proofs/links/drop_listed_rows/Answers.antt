use Rattle.std.proofs.Common.{◌≡◌, ◌∙◌, true, List, refl, ap, sym, subst, take_all, arith}
use Rattle.std.specs.Prelude.{is_some}
use Rattle.slab.specs.Slab.{ContainsKey, get}
use Rattle.cell_graph.specs.Dropped.{AreDropped, DropsIf, links_at}
use Rattle.cell_graph.specs.Removal.{is_listed}
use Rattle.cell_graph.specs.declared.order.RowPlace.{RowPlace}
use Rattle.cell_graph.proofs.Dropping.{dropped_more, next_stands, no_row, none_dropped}
use Rattle.cell_graph.proofs.Wholes.{sections_same}
use Rattle.cell_graph.proofs.links.drop_listed_rows.Goals as goal

pub loop-index-init : goal.loop-index-init
loop-index-init g c = record {
  chained = c.requires.chained;
  links = none_dropped (λ (r : RowPlace). r.place) (λ r. is_listed c.args.cells.now r.user) (links_at (get c.args.rows.now)) c.args.row_list.now.items;
  steps = omega arith;
  keys = λ p. refl;
  row_count = omega arith;
  section_count = refl;
  row_capacity = refl;
  section_capacity = refl;
}

pub drop_listed_row-requires-clause-listed : goal.drop_listed_row-requires-clause-listed
drop_listed_row-requires-clause-listed g c =
    sections_same (get c.args.sections.now) (get c.loop-index.sections) c.args.section_list.now.items c.loop-index.invariant.keys c.requires.sections_listed

pub drop_listed_row-requires-clause-stands : goal.drop_listed_row-requires-clause-stands
drop_listed_row-requires-clause-stands g c =
    subst (λ (r : RowPlace). is_listed c.args.cells.now r.user ≡ true → ContainsKey c.loop-index.rows r.place) (sym (c.at-at.ensures.place no_row))
    (λ h.
    ap is_some (next_stands (get c.args.rows.now) (get c.loop-index.rows) c.args.row_list.now.items c.requires.rows_listed (λ r. is_listed c.args.cells.now r.user)
    c.loop-index.index no_row (omega (arith, c.loop-index-test.true, c.len-index-end.ensures)) c.loop-index.invariant.links).1)

pub loop-index-preserved : goal.loop-index-preserved
loop-index-preserved g c =
    let inv = c.loop-index.invariant in
    let step = c.drop_listed_row.ensures in
    let out = λ (r : RowPlace). is_listed c.args.cells.now r.user in
    let drops = subst (λ (r : RowPlace). DropsIf (out r) (links_at (get c.loop-index.rows)) (links_at (get c.drop_listed_row.new.rows)) r.place) (c.at-at.ensures.place no_row) step.links in
    record {
      chained = step.chained;
      links = dropped_more (λ (r : RowPlace). r.place) out (links_at (get c.args.rows.now)) c.args.row_list.now.items c.loop-index.index no_row
          (links_at (get c.loop-index.rows)) (links_at (get c.drop_listed_row.new.rows)) (omega (arith, c.loop-index-test.true, c.len-index-end.ensures)) inv.links drops;
      steps = omega (arith, step.steps, c.at-at.ensures.step, inv.steps);
      keys = λ p. step.keys p ∙ inv.keys p;
      row_count = omega (arith, step.row_count, inv.row_count);
      section_count = step.section_count ∙ inv.section_count;
      row_capacity = step.row_capacity ∙ inv.row_capacity;
      section_capacity = step.section_capacity ∙ inv.section_capacity;
    }

pub returns-clause-links : goal.returns-clause-links
returns-clause-links g c =
    subst (λ (l : List RowPlace). AreDropped (λ (r : RowPlace). r.place) (λ r. is_listed c.args.cells.now r.user) (links_at (get c.args.rows.now)) (links_at (get c.loop-index.rows)) l)
    (take_all c.loop-index.index c.args.row_list.now.items (omega (arith, c.loop-index-test.false, c.len-index-end.ensures))) c.loop-index.invariant.links
