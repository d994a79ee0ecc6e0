use Rattle.std.proofs.Common.{arith}
use Rattle.cell_space.proofs.Crates.{crate_here, crate_behind, crate_none}
use Rattle.cell_space.proofs.symbol_name.crate_of.Goals as goal

pub loop-place-preserved : goal.loop-place-preserved
loop-place-preserved c = record {
  inside = omega arith;
  text = crate_behind c.args.name.now c.loop-place.place c.is_path_at.result _ (omega arith) c.is_path_at.ensures c.if-is_path_at.false c.loop-place.invariant.text;
}

pub returns-then-is_path_at-clause-front : goal.returns-then-is_path_at-clause-front
returns-then-is_path_at-clause-front c = crate_here c.args.name.now c.loop-place.place c.is_path_at.result _ (omega arith) c.is_path_at.ensures c.if-is_path_at.true c.loop-place.invariant.text

pub returns-clause-front : goal.returns-clause-front
returns-clause-front c = crate_none c.args.name.now c.loop-place.place _ (omega arith) c.loop-place.invariant.text
