-- Namespaces with parents, and the way up.
use Rattle.std.specs.Prelude.{◌≡◌, ◌<◌, ℕ, List, [], Option, Some, None, length, slice_get}
use Rattle.cell_world.specs.declared.state.Namespace.{Namespace}
use Rattle.cell_world.specs.Names.{chain}

-- each parent has a lower number
pub record AreRooted (spaces : List Namespace) : Type 0 where
  pub lower : (k : ℕ) (space : Namespace) (parent : ℕ) → slice_get spaces k ≡ Some space → space.parent ≡ Some parent → parent < k

-- the chain of the next namespace, where there is one
abbrev pub chain_from : List Namespace → Option ℕ → List ℕ
chain_from spaces None = []
chain_from spaces (Some ns) = chain spaces ns

-- the next namespace is there, and each parent is
pub record IsOnTheWay (spaces : List Namespace) (next : Option ℕ) : Type 0 where
  pub rooted : AreRooted spaces
  pub there : (ns : ℕ) → next ≡ Some ns → ns < length spaces
