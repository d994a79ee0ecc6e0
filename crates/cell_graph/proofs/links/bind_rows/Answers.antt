use Rattle.std.proofs.Common.{◌≡◌, ◌+◌, ◌-◌, ◌<◌, ◌∙◌, ℕ, List, [], Contains, arith, ap, drop, get_or, length, map, refl, subst, sym, take}
use Rattle.std.proofs.lemmas.List.{drop_all}
use Rattle.slab.specs.Slab.{get}
use Rattle.cell_world.specs.declared.state.LinkRow.{LinkRow}
use Rattle.cell_graph.specs.declared.order.RowPlace.{RowPlace}
use Rattle.cell_graph.specs.Gaps.{AreAbove, around}
use Rattle.cell_graph.specs.Links.{is_bound}
use Rattle.cell_graph.specs.Listed.{IsWhole}
use Rattle.cell_graph.specs.Order.{below_link, with_link}
use Rattle.cell_graph.specs.Places.{link_at}
use Rattle.cell_graph.specs.Several.{all_linked}
use Rattle.cell_graph.proofs.Dropping.{taken_below}
use Rattle.cell_graph.proofs.Gapped.{closed}
use Rattle.cell_graph.proofs.Joining.{among_first, next_free, next_linked}
use Rattle.cell_graph.proofs.Listing.{bound_listed}
use Rattle.cell_graph.proofs.Unbinding.{no_link}
use Rattle.cell_graph.proofs.links.bind_rows.Goals as goal

pub loop-index-init : goal.loop-index-init
loop-index-init g c =
    let at = get c.args.rows.now in
    let list = c.args.row_list.now.items in
    let new = c.args.new.now in
    let opens = c.open_gap-gap.ensures in
    let none = drop_all (length new) new (omega arith) in
    let behind : drop c.open_gap-gap.result.back c.open_gap-gap.new.self.items ≡ [] =
    drop_all c.open_gap-gap.result.back c.open_gap-gap.new.self.items (omega (arith, opens.end)) in
    record {
      whole = subst (λ (l : List RowPlace). IsWhole at (get c.args.sections.now) c.args.section_list.now.items l) (sym opens.items) c.requires.whole;
      seen = ap (map (link_at at)) opens.items ∙ sym (ap (all_linked (map (link_at at) list)) none);
      gap = opens.gap;
      size = opens.size;
      before = λ r has. subst (λ (l : List RowPlace). AreAbove r.user r.entry l) (sym behind) tt;
      steps = omega (arith, opens.steps, opens.front);
      row_count = omega arith;
      section_count = refl;
      row_capacity = refl;
      section_capacity = refl;
      list_room = opens.spare;
    }

pub bind_at_gap-requires-clause-before : goal.bind_at_gap-requires-clause-before
bind_at_gap-requires-clause-before g c =
    let new = c.args.new.now in
    let rows = map (link_at (get c.args.rows.now)) c.args.row_list.now.items in
    let i = c.loop-index.index - 1 in
    let lt : i < length new = omega (arith, c.loop-index-test.true, c.loop-index.auto.index) in
    let next : i + 1 ≡ c.loop-index.index = omega (arith, c.loop-index-test.true) in
    c.loop-index.invariant.before (get_or new i no_link) (subst (λ (n : ℕ). Contains (take n new) (get_or new i no_link)) next (among_first rows new i lt c.requires.rising))

pub bind_at_gap-requires-clause-unbound : goal.bind_at_gap-requires-clause-unbound
bind_at_gap-requires-clause-unbound g c =
    let new = c.args.new.now in
    let at = get c.loop-index.rows in
    let rows = map (link_at (get c.args.rows.now)) c.args.row_list.now.items in
    let i = c.loop-index.index - 1 in
    let lt : i < length new = omega (arith, c.loop-index-test.true, c.loop-index.auto.index) in
    let next : c.loop-index.index ≡ i + 1 = omega (arith, c.loop-index-test.true) in
    let row = get_or new i no_link in
    sym (bound_listed at (around c.loop-index.gap c.loop-index.row_list.items) row.user row.entry)
    ∙ ap (λ (ls : List LinkRow). is_bound ls row.user row.entry) (c.loop-index.invariant.seen ∙ ap (λ (n : ℕ). all_linked rows (drop n new)) next)
    ∙ next_free rows new i lt c.requires.rising c.requires.unbound

pub loop-index-preserved : goal.loop-index-preserved
loop-index-preserved g c =
    let inv = c.loop-index.invariant in
    let step = c.bind_at_gap.ensures in
    let new = c.args.new.now in
    let rows = map (link_at (get c.args.rows.now)) c.args.row_list.now.items in
    let i = c.loop-index.index - 1 in
    let test = c.loop-index-test.true in
    let lt : i < length new = omega (arith, test, c.loop-index.auto.index) in
    let next : c.loop-index.index ≡ i + 1 = omega (arith, test) in
    record {
      whole = step.whole;
      seen =
          step.added
          ∙ ap (with_link (get_or new i no_link)) (inv.seen ∙ ap (λ (n : ℕ). all_linked rows (drop n new)) next)
          ∙ sym (next_linked rows new i lt c.requires.rising);
      gap = step.gap;
      size = omega (arith, test, step.size, inv.size);
      before = λ r has. step.behind r (taken_below below_link new i no_link r c.requires.rising lt has);
      steps = omega (arith, test, step.steps, inv.steps);
      row_count = omega (arith, test, step.row_count, inv.row_count);
      section_count = step.section_count ∙ inv.section_count;
      row_capacity = step.row_capacity ∙ inv.row_capacity;
      section_capacity = step.section_capacity ∙ inv.section_capacity;
      list_room = omega (arith, step.list_room, inv.list_room);
    }

pub returns-clause-whole : goal.returns-clause-whole
returns-clause-whole g c =
    let inv = c.loop-index.invariant in
    let gap = c.loop-index.gap in
    subst (λ (l : List RowPlace). IsWhole (get c.loop-index.rows) (get c.loop-index.sections) c.args.section_list.now.items l)
    (closed c.loop-index.row_list.items gap.front gap.back (omega (arith, inv.size, c.loop-index-test.false))) inv.whole

pub returns-clause-added : goal.returns-clause-added
returns-clause-added g c =
    let inv = c.loop-index.invariant in
    let gap = c.loop-index.gap in
    let none : c.loop-index.index ≡ 0 = omega (arith, c.loop-index-test.false) in
    ap (map (link_at (get c.loop-index.rows))) (sym (closed c.loop-index.row_list.items gap.front gap.back (omega (arith, inv.size, c.loop-index-test.false))))
    ∙ inv.seen
    ∙ ap (λ (n : ℕ). all_linked (map (link_at (get c.args.rows.now)) c.args.row_list.now.items) (drop n c.args.new.now)) none

pub bind_at_gap-requires-clause-left : goal.bind_at_gap-requires-clause-left
bind_at_gap-requires-clause-left g c = omega (arith, c.loop-index-test.true, c.loop-index.invariant.size)

pub bind_at_gap-requires-clause-present : goal.bind_at_gap-requires-clause-present
bind_at_gap-requires-clause-present g c = c.requires.present (c.loop-index.index - 1) no_link (omega (arith, c.loop-index-test.true, c.loop-index.auto.index))

pub bind_at_gap-requires-clause-room : goal.bind_at_gap-requires-clause-room
bind_at_gap-requires-clause-room g c =
    let inv = c.loop-index.invariant in
    omega (arith, c.loop-index-test.true, inv.row_count, inv.row_capacity, c.requires.room)

pub returns-clause-steps : goal.returns-clause-steps
returns-clause-steps g c = omega (arith, c.loop-index.invariant.steps)

pub returns-clause-row_count : goal.returns-clause-row_count
returns-clause-row_count g c = omega (arith, c.loop-index-test.false, c.loop-index.invariant.row_count)
