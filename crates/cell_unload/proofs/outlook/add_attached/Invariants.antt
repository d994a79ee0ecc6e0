use Rattle.std.proofs.Common.{◌≡◌, ◌++◌, map, take}
use Rattle.cell_hold.specs.declared.roots.Root.TheVariants.{Attached}
use Rattle.cell_unload.proofs.outlook.add_attached.Given as goal

-- the cells so far
abbrev pub invariant-loop-cell : goal.invariant-loop-cell
invariant-loop-cell l = l.roots.items ≡ l.fn.roots.items ++ map (λ c. Attached c.id) (take l.cell-index l.fresh)
