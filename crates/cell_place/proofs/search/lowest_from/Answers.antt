use Rattle.std.proofs.Common.{arith}
use Rattle.cell_place.proofs.Table.{first_run, no_run, run_found, run_goes_on}
use Rattle.cell_place.proofs.search.lowest_from.Goals as goal

pub loop-page-init : goal.loop-page-init
loop-page-init c = record { run = first_run c.args.taken.now c.args.count c.requires.wanted c.args.from c.requires.inside c.requires.before; inside = c.requires.inside }

pub returns-then-free-count : goal.returns-then-free-count
returns-then-free-count c =
    run_found c.args.taken.now c.args.count c.requires.wanted c.loop-page.page c.loop-page.free c.with_page-free.result c.loop-page.invariant.run (omega arith) c.with_page-free.ensures (omega arith)

pub loop-page-preserved : goal.loop-page-preserved
loop-page-preserved c = record {
  run = run_goes_on c.args.taken.now c.args.count c.requires.wanted c.loop-page.page c.loop-page.free c.with_page-free.result c.loop-page.invariant.run (omega arith) c.with_page-free.ensures (omega arith);
  inside = omega arith;
}

pub returns : goal.returns
returns c = no_run c.args.taken.now c.args.count c.requires.wanted c.loop-page.page c.loop-page.free c.loop-page.invariant.run (omega arith) c.loop-page.invariant.inside
