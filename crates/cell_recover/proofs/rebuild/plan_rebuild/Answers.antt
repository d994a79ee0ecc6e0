use Rattle.std.proofs.Common.{Bor, arith, map}
use Rattle.std.specs.Prelude.{IsTrue, nat_lt}
use Rattle.cell_num.specs.Lists.{each_pair}
use Rattle.cell_world.specs.declared.state.NewCell.{NewCell}
use Rattle.cell_recover.specs.Rebuild.{is_held_by}
use Rattle.cell_recover.proofs.Lists.{all_at, all_picked, picked_more}
use Rattle.cell_recover.proofs.rebuild.plan_rebuild.Goals as goal

pub add_held-requires : goal.add_held-requires
add_held-requires c =
    all_at (λ (x : Bor NewCell). IsTrue (each_pair (λ a b. nat_lt a.section b.section) x.now.places)) c.args.cells.now c.requires c.loop-place.place c.loop-place-test.true c.index-cells-place.result c.index-cells-place.is

pub loop-place-preserved : goal.loop-place-preserved
loop-place-preserved c =
    picked_more (is_held_by c.args.root.0 c.args.words.now) c.args.cells.now c.loop-place.place c.loop-place-test.true c.index-cells-place.result c.index-cells-place.is (map (λ x. x.now) c.loop-place.items.items) _ c.loop-place.invariant (c.in_ok-add_held.ensures {u = tt})

pub returns : goal.returns
returns c = all_picked (is_held_by c.args.root.0 c.args.words.now) c.args.cells.now c.loop-place.place (omega (arith, c.loop-place-test.false)) (map (λ x. x.now) c.loop-place.items.items) c.loop-place.invariant
