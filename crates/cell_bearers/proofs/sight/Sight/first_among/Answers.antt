use Rattle.std.proofs.Common.{sym, ◌∙◌, ◌+◌, take}
use Rattle.cell_bearers.specs.Bearers.{answer_of}
use Rattle.cell_bearers.specs.Sight.{sees_by}
use Rattle.cell_bearers.proofs.Sooner.{first_so_far, nobody, within_some}
use Rattle.cell_bearers.proofs.Stopping.{stopped}
use Rattle.cell_bearers.proofs.sight.Sight.first_among.Goals as goal

pub loop-index-init : goal.loop-index-init
loop-index-init c = record {
  found = sym (nobody (sees_by c.args.self.now) 0 c.args.self.now.cells.now);
  there = tt;
}

pub loop-index-preserved : goal.loop-index-preserved
loop-index-preserved c =
    let s = c.args.self.now in
    let found =
    c.sooner-first.ensures
    ∙ first_so_far (sees_by s) s.cells.now c.args.bearers.now c.loop-index.index _ c.loop-index-test.true c.loop-index.first c.cell_of.result c.loop-index.invariant.found c.cell_of.ensures in
    record { found = found; there = within_some s (answer_of (take (c.loop-index.index + 1) c.args.bearers.now)) c.sooner-first.result found }

pub returns-then-is_past-clause-first : goal.returns-then-is_past-clause-first
returns-then-is_past-clause-first c = λ rises.
    stopped c.args.self.now c.requires c.args.bearers.now c.loop-index.index _ c.loop-index.first c.loop-index-test.true rises c.loop-index.invariant.found (sym c.is_past.ensures ∙ c.if-is_past.true)
