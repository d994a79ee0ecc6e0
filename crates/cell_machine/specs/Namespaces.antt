-- When a namespace may be added.
use Rattle.std.specs.Prelude.{ℕ, nat_lt, is_none, List, length}
use Rattle.cell_world.specs.declared.refusal.Many.TheVariants.{Namespaces}
use Rattle.cell_world.specs.declared.refusal.Refusal.TheVariants.{NameTaken, TooMany}
use Rattle.cell_world.specs.declared.state.Namespace.{Namespace}
use Rattle.cell_num.specs.Limits.{max_namespaces}
use Rattle.cell_world.specs.Outcome.{Outcome, ◌>>◌, need}
use Rattle.cell_space.specs.Spaces.{namespace_named}

-- the name is free, and there are not too many namespaces
abbrev pub may_add : List Namespace → List ℕ → Outcome (Unit {0})
may_add spaces name =
    need (is_none (namespace_named spaces name)) (NameTaken name) >> need (nat_lt (length spaces) max_namespaces) (TooMany Namespaces max_namespaces)
