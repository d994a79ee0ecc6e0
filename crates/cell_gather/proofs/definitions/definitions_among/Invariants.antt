use Rattle.std.proofs.Common.{◌≡◌, suc, ◌++◌, drop}
use Rattle.cell_gather.specs.Appending.{definitions_from}
use Rattle.cell_gather.proofs.definitions.definitions_among.Given as goal

-- those so far, and those that are left
abbrev pub invariant-loop-place : goal.invariant-loop-place
invariant-loop-place l = l.names ++ definitions_from l.bind (suc l.place) (drop l.place l.symbols) ≡ definitions_from l.bind 1 l.symbols
