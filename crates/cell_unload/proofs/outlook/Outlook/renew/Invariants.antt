use Rattle.std.proofs.Common.{◌≡◌, ◌++◌, take, drop, map}
use Rattle.cell_unload.specs.Begun.{renewed_root}
use Rattle.cell_unload.proofs.outlook.Outlook.renew.Given as goal

-- the roots so far, and the others as they were
abbrev pub invariant-loop-root : goal.invariant-loop-root
invariant-loop-root l = l.root-items ≡ map (renewed_root l.view) (take l.root-index l.initial.root-items) ++ drop l.root-index l.initial.root-items
