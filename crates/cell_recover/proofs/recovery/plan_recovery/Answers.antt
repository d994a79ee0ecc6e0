use Rattle.std.proofs.Common.{Bor, Option, Some, ap, arith, sym, ◌∙◌}
use Rattle.std.specs.Prelude.{IsTrue, nat_lt}
use Rattle.cell_num.specs.Lists.{each_pair}
use Rattle.cell_world.specs.Commands.Recovery.{runs_at}
use Rattle.cell_world.specs.World.{attached}
use Rattle.cell_world.specs.declared.state.NewCell.{NewCell}
use Rattle.cell_recover.proofs.Lists.{all_at, found_here, none_at_all, none_more, same_at}
use Rattle.cell_recover.proofs.recovery.plan_recovery.Goals as goal

pub runs_at-requires : goal.runs_at-requires
runs_at-requires c =
    all_at (λ (x : Bor NewCell). IsTrue (each_pair (λ a b. nat_lt a.section b.section) x.now.places)) c.args.cells.now c.requires c.loop-place.place c.loop-place-test.true c.index-cells-place.result c.index-cells-place.is

pub returns-then-runs_at : goal.returns-then-runs_at
returns-then-runs_at c =
    ap (λ (x : Bor NewCell). let o : Option NewCell = Some x.now in o)
    (same_at c.args.cells.now c.loop-place.place c.loop-place-test.true c.index-cells-place-then-runs_at.result c.index-cells-place.result c.index-cells-place-then-runs_at.is c.index-cells-place.is)
    ∙ found_here (λ p. runs_at c.args.pc (attached p)) c.args.cells.now c.loop-place.place c.loop-place-test.true c.index-cells-place.result c.index-cells-place.is c.loop-place.invariant (sym c.runs_at.ensures ∙ c.if-runs_at.true)

pub loop-place-preserved : goal.loop-place-preserved
loop-place-preserved c =
    none_more (λ p. runs_at c.args.pc (attached p)) c.args.cells.now c.loop-place.place c.loop-place-test.true c.index-cells-place.result c.index-cells-place.is c.loop-place.invariant (sym c.runs_at.ensures ∙ c.if-runs_at.false)

pub returns : goal.returns
returns c = none_at_all (λ p. runs_at c.args.pc (attached p)) c.args.cells.now c.loop-place.place (omega (arith, c.loop-place-test.false)) c.loop-place.invariant
