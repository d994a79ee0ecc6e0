use Rattle.std.proofs.Common.{sym, ◌∙◌, ap, arith, ◌+◌, ◌-◌, ◌<◌, get_or, length}
use Rattle.cell_num.specs.declared.ids.CellId.{CellId}
use Rattle.cell_machine.specs.declared.machine.Machine.{Machine}
use Rattle.cell_machine.specs.Same.{without_counts}
use Rattle.cell_change.proofs.Decision.OldRivals.{are_attached, no_rival}
use Rattle.cell_load.proofs.Empty.{empty_if, some_if}
use Rattle.cell_change.proofs.NoneAside.{none_back, some_swap}
use Rattle.cell_change.proofs.Return.Returning.{has_state, left_next, none_left, put_none, put_same, still_aside, told}
use Rattle.cell_change.proofs.old_cells.reattach.Goals as goal

pub returns-then-is_empty-clause-same : goal.returns-then-is_empty-clause-same
returns-then-is_empty-clause-same c r = none_back c.args.machine.now c.args.old.now (empty_if c.args.old.now (sym c.is_empty.ensures ∙ c.if-is_empty.true)) r

pub reattach_one-requires-clause-there : goal.reattach_one-requires-clause-there
reattach_one-requires-clause-there c =
    let none : CellId = record { 0 = 0 } in
    let old = c.args.old.now in
    let place = c.loop-cell.cell-index in
    let r = c.requires in
    let put = told r.before.spaces.cells (r.before.swaps + 1) (still_aside old place) c.loop-cell.machine.spaces.cells (c.loop-cell.invariant.known r)
    (get_or old place none).0 (r.there place none (omega arith)) in
    has_state c.loop-cell.machine.spaces.cells (get_or old place none).0 _ put

pub reattach_one-requires-clause-free : goal.reattach_one-requires-clause-free
reattach_one-requires-clause-free c =
    let none : CellId = record { 0 = 0 } in
    let old = c.args.old.now in
    let place = c.loop-cell.cell-index in
    let r = c.requires in
    no_rival r.before r.sound (r.before.swaps + 1) (still_aside old place) c.loop-cell.machine.spaces (c.loop-cell.invariant.namespaces ∙ r.aside.namespaces)
    (c.loop-cell.invariant.known r) (get_or old place none).0 (r.there place none (omega arith))

pub loop-cell-preserved : goal.loop-cell-preserved
loop-cell-preserved c =
    let none : CellId = record { 0 = 0 } in
    let old = c.args.old.now in
    let place = c.loop-cell.cell-index in
    let below : place < length old = omega arith in
    record {
      known = λ r. put_same r.before.spaces.cells (r.before.swaps + 1) _ (still_aside old (place + 1)) c.reattach_one.new.spaces.cells (λ n. left_next old place below n)
          (c.reattach_one.ensures.known r.before.spaces.cells (r.before.swaps + 1) (still_aside old place) (c.loop-cell.invariant.known r)
          (are_attached r.before r.sound (get_or old place none).0 (r.there place none below)));
      namespaces = c.reattach_one.ensures.namespaces ∙ c.loop-cell.invariant.namespaces;
      others = ap (λ (m : Machine). record m { spaces = c.reattach_one.new.spaces }) c.loop-cell.invariant.others;
    }

pub returns-clause-memory : goal.returns-clause-memory
returns-clause-memory c = ap (λ (x : Machine). x.memory) c.loop-cell.invariant.others

pub returns-clause-same : goal.returns-clause-same
returns-clause-same c r =
    let old = c.args.old.now in
    let place = c.loop-cell.cell-index in
    let same = c.loop-cell.invariant.others in
    record {
      cells = ap (λ (x : Machine). x.cells.items) same ∙ r.aside.cells;
      soft = ap (λ (x : Machine). x.soft.items) same ∙ r.aside.soft;
      next = ap (λ (x : Machine). x.next) same ∙ r.aside.next;
      swaps = ap (λ (x : Machine). x.swaps - 1) same ∙ (ap (λ n. n - 1) (r.aside.swaps ∙ ap (λ n. r.before.swaps + n) (some_swap old (some_if old (sym c.is_empty.ensures ∙ c.if-is_empty.false)))) ∙ omega arith);
      namespaces = c.loop-cell.invariant.namespaces ∙ r.aside.namespaces;
      known = put_none r.before.spaces.cells (r.before.swaps + 1) (still_aside old place) c.loop-cell.machine.spaces.cells (λ n. none_left old place n (omega arith)) (c.loop-cell.invariant.known r);
      space = ap (λ (x : Machine). x.space) same ∙ r.aside.space;
      spare = r.aside.spare;
      memory = ap (λ (x : Machine). (without_counts r.before x).memory) same ∙ r.aside.memory;
      sections = ap (λ (x : Machine). x.graph.sections) same ∙ r.aside.sections;
      rows = ap (λ (x : Machine). x.graph.rows) same ∙ r.aside.rows;
      tasks = ap (λ (x : Machine). x.tasks) same ∙ r.aside.tasks;
    }
