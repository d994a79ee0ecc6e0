use Rattle.std.proofs.Common.{◌≡◌, map, drop, string_bytes}
use Rattle.std.specs.Prelude.{bytes_eq}
use Rattle.std.specs.List.{list_any}
use Rattle.cell_io.proofs.within.is_listed.Given as goal

-- the name is among those that are left, if it is among all
abbrev pub invariant-loop-other : goal.invariant-loop-other
invariant-loop-other l = list_any (bytes_eq l.name) (map string_bytes (drop l.other-index l.names)) ≡ list_any (bytes_eq l.name) (map string_bytes l.names)
