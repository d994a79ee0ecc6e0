use Rattle.std.proofs.Common.{◌++◌, ap, arith, length}
use Rattle.std.specs.Prelude.{filter_map}
use Rattle.cell_num.specs.Lists.{numbered}
use Rattle.cell_bearers.specs.Namings.{symbol_naming}
use Rattle.cell_bearers.proofs.Stepping.{numbered_done, numbered_more}
use Rattle.cell_bearers.proofs.adding.add_object.Goals as goal

pub loop-index-preserved : goal.loop-index-preserved
loop-index-preserved c =
    let xs = c.args.object.now.symbols in
    numbered_more (c.args.namings.now.items ++ filter_map (symbol_naming c.args.place) (numbered xs)) c.loop-index.namings.items c.add_symbol.new.namings.items
    c.as_slice-symbols.result.now xs c.as_slice-symbols.ensures c.loop-index.index c.index-symbols-index.result c.loop-index-test.true c.index-symbols-index.is
    (symbol_naming c.args.place) c.in_ok-add_symbol.ensures c.loop-index.invariant

pub returns : goal.returns
returns c =
    let xs = c.args.object.now.symbols in
    let past = c.loop-index-test.false in
    let size = ap length c.as_slice-symbols.ensures in
    numbered_done (c.args.namings.now.items ++ filter_map (symbol_naming c.args.place) (numbered xs)) c.loop-index.namings.items
    xs c.loop-index.index (omega (arith, past, size)) (symbol_naming c.args.place) c.loop-index.invariant
