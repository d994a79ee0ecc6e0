use Rattle.std.proofs.Common.{◌≡◌, suc, ◌++◌, drop}
use Rattle.cell_gather.specs.Appending.{needs_from}
use Rattle.cell_gather.proofs.used.Used.needs_among.Given as goal

-- those so far, and those that are left
abbrev pub invariant-loop-place : goal.invariant-loop-place
invariant-loop-place l = l.names.items ++ needs_from l.self.object.now (suc l.place) (drop l.place l.symbols) ≡ needs_from l.self.object.now 1 l.symbols
