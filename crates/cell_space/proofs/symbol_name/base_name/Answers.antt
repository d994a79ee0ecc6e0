use Rattle.std.proofs.Common.{◌-◌, length, drop, arith}
use Rattle.std.proofs.lemmas.List.{take_all, length-drop}
use Rattle.cell_space.proofs.Crates.{base_behind}
use Rattle.cell_space.proofs.symbol_name.base_name.Goals as goal

pub loop-place-preserved : goal.loop-place-preserved
loop-place-preserved c = record {
  inside = omega arith;
  text =
      let name = c.args.name.now in
      let i = c.loop-place.place in
      base_behind name _ i c.is_hash.result (omega arith) (take_all (length name - i) (drop i name) (omega (arith, length-drop i name))) c.is_hash.ensures c.if-is_hash.false c.loop-place.invariant.text;
}
