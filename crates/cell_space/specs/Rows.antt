-- The rows of a table of names.
use Rattle.std.specs.Prelude.{Bool, not, List}
use Rattle.cell_num.specs.Lists.{equals, each_pair}
use Rattle.cell_world.specs.World.{Alias}

-- no name stands twice
abbrev pub are_apart : List Alias → Bool
are_apart rows = each_pair (λ a b. not (equals a.name b.name)) rows
