-- The names that are taken.
use Rattle.std.specs.Prelude.{ℕ, Bool, List}
use Rattle.std.specs.List.{list_any}
use Rattle.std.specs.Str.{bytes_eq}
use Rattle.std.specs.BTreeSet.{keys}
use Rattle.cell_file.specs.declared.names.Names.{Names}

abbrev pub is_named : Names → List ℕ → Bool
is_named names q = list_any (λ k. bytes_eq q k.now) (keys names.set)
