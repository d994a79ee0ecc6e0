use Rattle.std.proofs.Common.{◌≡◌, map, drop, string_bytes}
use Rattle.std.specs.Prelude.{filter, fold}
use Rattle.std.specs.Ordering.{nat_cmp}
use Rattle.std.specs.Cmp.Lexicographic.{slice_cmp}
use Rattle.std.specs.BTreeSet.{insert_key}
use Rattle.cell_depot.specs.ObjectName.{is_object_name}
use Rattle.cell_input.specs.Objects.{objects_of}
use Rattle.cell_input.proofs.folder.object_names.Given as goal

-- the names so far, with those that are left put in, are all of them
abbrev pub invariant-loop-name : goal.invariant-loop-name
invariant-loop-name l = fold (insert_key (slice_cmp nat_cmp)) (map string_bytes l.objects.keys) (filter is_object_name (map string_bytes (drop l.name-index l.names))) ≡ objects_of (map string_bytes l.names)
