use Rattle.std.proofs.Common.{arith}
use Rattle.cell_gather.specs.Appending.{definitions_from}
use Rattle.cell_gather.proofs.Symbols.{as_alias, at_end, defines, definition_new, one_taken}
use Rattle.cell_gather.proofs.definitions.definitions_among.Goals as goal

pub add_symbol-requires : goal.add_symbol-requires
add_symbol-requires c =
    definition_new c.args.bind c.requires.named c.args.symbols.now c.loop-place.place c.index-symbols-place.result c.loop-place.names c.requires.apart (omega arith) c.index-symbols-place.is c.loop-place.invariant

pub loop-place-preserved : goal.loop-place-preserved
loop-place-preserved c =
    one_taken (defines c.args.bind) as_alias c.args.symbols.now c.loop-place.place c.index-symbols-place.result c.loop-place.names c.add_symbol.new.names (definitions_from c.args.bind 1 c.args.symbols.now) (omega arith) c.index-symbols-place.is
    (c.in_ok-add_symbol.ensures {u = tt}) c.loop-place.invariant

pub returns : goal.returns
returns c = at_end (defines c.args.bind) as_alias c.args.symbols.now c.loop-place.place c.loop-place.names (definitions_from c.args.bind 1 c.args.symbols.now) (omega arith) c.loop-place.invariant
