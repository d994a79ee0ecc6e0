use Rattle.std.proofs.Common.{◌++◌, ◌<◌, arith, length, map, refl}
use Rattle.cell_num.specs.Lists.{numbered}
use Rattle.cell_bearers.specs.Namings.{alias_naming}
use Rattle.cell_bearers.proofs.Stepping.{mapped_done, mapped_more}
use Rattle.cell_bearers.proofs.adding.add_cell.Goals as goal

pub loop-index-preserved : goal.loop-index-preserved
loop-index-preserved c =
    let xs = c.args.cell.now.aliases.items in
    let test = c.loop-index-test.true in
    let end = c.len-index-end.ensures in
    let size = c.args.cell.now.aliases.ok.0 in
    let lt : c.loop-index.index < length xs = omega (arith, test, end, size) in
    mapped_more (c.args.namings.now.items ++ map (alias_naming c.args.file.now c.args.place) (numbered xs)) c.loop-index.namings.items c.add_alias.new.namings.items
    xs xs refl c.loop-index.index c.index.result.now lt c.index.ensures
    (alias_naming c.args.file.now c.args.place) c.in_ok-add_alias.ensures c.loop-index.invariant

pub returns : goal.returns
returns c =
    let xs = c.args.cell.now.aliases.items in
    let past = c.loop-index-test.false in
    let end = c.len-index-end.ensures in
    let size = c.args.cell.now.aliases.ok.0 in
    mapped_done (c.args.namings.now.items ++ map (alias_naming c.args.file.now c.args.place) (numbered xs)) c.loop-index.namings.items
    xs c.loop-index.index (omega (arith, past, end, size)) (alias_naming c.args.file.now c.args.place) c.loop-index.invariant
