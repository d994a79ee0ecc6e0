use Rattle.std.proofs.Common.{◌++◌, ◌∙◌, List, sym, ap, map, arith}
use Rattle.std.proofs.lemmas.Result.{err_from_is_err_and}
use Rattle.std.proofs.lemmas.List.{nil_from_length}
use Rattle.cell_world.specs.Gather.{source_of}
use Rattle.cell_audit.specs.declared.written.WrittenCell.{WrittenCell}
use Rattle.cell_described.specs.declared.finding.FoundCell.{FoundCell}
use Rattle.cell_described.proofs.Founds.{finished, none_yet, one_more, rest_same, stops_here}
use Rattle.cell_described.proofs.finding.find_objects.Goals as goal

pub loop-cell-init : goal.loop-cell-init
loop-cell-init c =
    let sources = map source_of c.args.depot.now in
    let none = (c.in_ok-found.ensures {u = tt}).items in
    record {
      so_far = ap (λ (fs : List FoundCell). map (λ f. f.cell) fs ++ c.into_iter-cell-iterator.result.rest.items) none ∙ c.into_iter-cell-iterator.ensures.into_iter_gives.0;
      finding = none_yet sources c.new-objects.result c.in_ok-found.found.items none c.new-objects.ensures.empty (c.new-objects.ensures.kept sources);
    }

pub find_object-requires-clause-kept : goal.find_object-requires-clause-kept
find_object-requires-clause-kept c = c.loop-cell.invariant.finding.kept

pub returns-in_err-one : goal.returns-in_err-one
returns-in_err-one c =
    let p = err_from_is_err_and c.from_residual-in_err-one.result c.from_residual-in_err-one.ensures.1 in
    let so_far = ap (λ (cs : List WrittenCell). map (λ (f : FoundCell). f.cell) c.loop-cell.found.items ++ cs) (sym c.in-Some.ensures.steps.0) ∙ c.loop-cell.invariant.so_far in
    rw (p.1, p.2)
    (stops_here (map source_of c.args.depot.now) c.args.cells.items c.loop-cell.objects c.loop-cell.found.items c.in-Some.cell c.next.new.self.rest.items so_far c.loop-cell.invariant.finding
    c.find_object.new.objects c.in_err-one.field-0.0 (c.in_err-one.ensures {u = tt}))

pub loop-cell-preserved : goal.loop-cell-preserved
loop-cell-preserved c =
    let sources = map source_of c.args.depot.now in
    let pushed = (c.in_ok-push.ensures {u = tt}).items in
    let found = c.in_ok-one.ensures {u = tt} in
    let so_far = ap (λ (cs : List WrittenCell). map (λ (f : FoundCell). f.cell) c.loop-cell.found.items ++ cs) (sym c.in-Some.ensures.steps.0) ∙ c.loop-cell.invariant.so_far in
    record {
      so_far =
          rest_same sources c.loop-cell.objects c.find_object.new.objects c.loop-cell.found.items c.in-Some.cell c.in_ok-one.one c.loop-cell.invariant.finding found c.push.new.self.items pushed
          c.next.new.self.rest.items c.args.cells.items so_far;
      finding = one_more sources c.loop-cell.objects c.find_object.new.objects c.loop-cell.found.items c.in-Some.cell c.in_ok-one.one c.loop-cell.invariant.finding found c.push.new.self.items pushed;
    }

pub returns : goal.returns
returns c =
    let left = c.loop-cell.cell-iterator.rest in
    let none = (c.in-None.ensures {u = tt}).steps.0 in
    finished (map source_of c.args.depot.now) c.loop-cell.objects c.loop-cell.found.items left.items c.args.cells.items c.loop-cell.invariant.finding c.loop-cell.invariant.so_far
    (nil_from_length left.items (omega (arith, none, left.ok.0)))
