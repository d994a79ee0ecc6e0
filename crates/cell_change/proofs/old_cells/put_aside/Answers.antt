use Rattle.std.proofs.Common.{◌∙◌, ap, arith, refl, subst, sym, ◌+◌, ◌<◌, List, get_or, length, take}
use Rattle.std.proofs.lemmas.List.{take_all}
use Rattle.cell_num.specs.declared.ids.CellId.{CellId}
use Rattle.cell_machine.specs.declared.machine.Machine.{Machine}
use Rattle.cell_change.specs.OldCells.{IsPut, among}
use Rattle.cell_load.proofs.Empty.{empty_if, some_if}
use Rattle.cell_change.proofs.NoneAside.{none_aside, some_swap}
use Rattle.cell_change.proofs.Return.Returning.{among_next, has_state, put_first, put_same, told}
use Rattle.cell_change.proofs.old_cells.put_aside.Goals as goal

pub returns-then-is_empty : goal.returns-then-is_empty
returns-then-is_empty c = none_aside c.args.machine.now c.args.old.now (empty_if c.args.old.now (sym c.is_empty.ensures ∙ c.if-is_empty.true))

pub loop-cell-init : goal.loop-cell-init
loop-cell-init c = record { known = put_first c.args.machine.now.spaces.cells (c.args.machine.now.swaps + 1); namespaces = refl; others = refl }

pub put_one_aside-requires : goal.put_one_aside-requires
put_one_aside-requires c =
    let none : CellId = record { 0 = 0 } in
    let old = c.args.old.now in
    let place = c.loop-cell.cell-index in
    let cells = c.args.machine.now.spaces.cells in
    let put = told cells (c.args.machine.now.swaps + 1) (among (take place old)) c.loop-cell.machine.spaces.cells c.loop-cell.invariant.known (get_or old place none).0 (c.requires.there place none (omega arith)) in
    record { there = has_state c.loop-cell.machine.spaces.cells (get_or old place none).0 _ put }

pub loop-cell-preserved : goal.loop-cell-preserved
loop-cell-preserved c =
    let none : CellId = record { 0 = 0 } in
    let old = c.args.old.now in
    let place = c.loop-cell.cell-index in
    let cells = c.args.machine.now.spaces.cells in
    let below : place < length old = omega arith in
    record {
      known = put_same cells (c.args.machine.now.swaps + 1) _ (among (take (place + 1) old)) c.put_one_aside.new.spaces.cells (λ n. among_next old place below n)
          (c.put_one_aside.ensures.known cells (among (take place old)) c.loop-cell.invariant.known (c.requires.there place none below));
      namespaces = c.put_one_aside.ensures.namespaces ∙ c.loop-cell.invariant.namespaces;
      others = ap (λ (m : Machine). record m { spaces = c.put_one_aside.new.spaces }) c.loop-cell.invariant.others;
    }

pub returns : goal.returns
returns c =
    let before = c.args.machine.now in
    let old = c.args.old.now in
    let place = c.loop-cell.cell-index in
    let m = c.loop-cell.machine in
    let same = c.loop-cell.invariant.others in
    record {
      cells = ap (λ (x : Machine). x.cells.items) same;
      soft = ap (λ (x : Machine). x.soft.items) same;
      next = ap (λ (x : Machine). x.next) same;
      swaps = ap (λ (x : Machine). x.swaps) same ∙ ap (λ n. before.swaps + n) (sym (some_swap old (some_if old (sym c.is_empty.ensures ∙ c.if-is_empty.false))));
      namespaces = c.loop-cell.invariant.namespaces;
      known = subst (λ (cells : List CellId). IsPut before.spaces.cells (before.swaps + 1) (among cells) m.spaces.cells) (take_all place old (omega arith)) c.loop-cell.invariant.known;
      space = ap (λ (x : Machine). x.space) same;
      spare = before.memory.spare;
      memory = ap (λ (x : Machine). x.memory) same;
      sections = ap (λ (x : Machine). x.graph.sections) same;
      rows = ap (λ (x : Machine). x.graph.rows) same;
      tasks = ap (λ (x : Machine). x.tasks) same;
    }
