-- The namespaces that are on one path with one of them.
use Rattle.std.specs.Prelude.{◌≡◌, ◌<◌, ℕ, Bool, false, List, length, slice_index_or}
use Rattle.cell_world.specs.declared.state.Namespace.{Namespace}
use Rattle.cell_world.specs.Names.{are_on_one_path}

-- a namespace, and a mark for each that is on one path with it
pub record PathState : Type 0 where
  pub ns : ℕ
  pub marks : List Bool

pub record IsPath (spaces : List Namespace) (p : PathState) : Type 0 where
  pub there : p.ns < length spaces
  pub whole : length p.marks ≡ length spaces
  pub marked : (k : ℕ) → k < length p.marks → slice_index_or p.marks k false ≡ are_on_one_path spaces p.ns k
