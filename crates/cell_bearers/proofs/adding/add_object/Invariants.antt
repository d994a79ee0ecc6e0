use Rattle.std.proofs.Common.{◌≡◌, ◌++◌, drop}
use Rattle.std.specs.Prelude.{filter_map}
use Rattle.cell_num.specs.Lists.{numbered, numbered_from}
use Rattle.cell_bearers.specs.Namings.{symbol_naming}
use Rattle.cell_bearers.proofs.adding.add_object.Given as goal

-- the names so far, and those that are left, are all of them
abbrev pub invariant-loop-index : goal.invariant-loop-index
invariant-loop-index l =
    l.namings.items ++ filter_map (symbol_naming l.place) (numbered_from l.index (drop l.index l.object.symbols)) ≡ l.fn.namings.items ++ filter_map (symbol_naming l.place) (numbered l.object.symbols)
