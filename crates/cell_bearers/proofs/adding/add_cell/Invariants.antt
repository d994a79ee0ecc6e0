use Rattle.std.proofs.Common.{◌≡◌, ◌++◌, drop, map}
use Rattle.cell_num.specs.Lists.{numbered, numbered_from}
use Rattle.cell_bearers.specs.Namings.{alias_naming}
use Rattle.cell_bearers.proofs.adding.add_cell.Given as goal

-- the aliases so far, and those that are left, are all of them
abbrev pub invariant-loop-index : goal.invariant-loop-index
invariant-loop-index l =
    l.namings.items ++ map (alias_naming l.file l.place) (numbered_from l.index (drop l.index l.cell.aliases.items)) ≡ l.fn.namings.items ++ map (alias_naming l.file l.place) (numbered l.cell.aliases.items)
