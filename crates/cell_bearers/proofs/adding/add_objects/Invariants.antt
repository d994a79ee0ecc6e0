use Rattle.std.proofs.Common.{◌≡◌, ◌++◌, drop}
use Rattle.std.specs.Prelude.{flat_map}
use Rattle.cell_num.specs.Lists.{numbered, numbered_from}
use Rattle.cell_bearers.specs.Namings.{object_namings}
use Rattle.cell_bearers.proofs.adding.add_objects.Given as goal

-- the names so far, and those that are left, are all of them
abbrev pub invariant-loop-place : goal.invariant-loop-place
invariant-loop-place l = l.namings.items ++ flat_map object_namings (numbered_from l.place (drop l.place l.objects)) ≡ l.fn.namings.items ++ flat_map object_namings (numbered l.objects)
