-- What a step that puts cells aside takes from a cell.
--     IsLost v aside old new c name     an old cell provided the name for c, with the old cells aside no other cell holds it weakly for c, and none of the new cells that c can see has it
use Rattle.std.specs.Prelude.{ℕ, ◌≡◌, List, Some, None, IsTrue}
use Rattle.cell_num.specs.Lists.{holds}
use Rattle.cell_world.specs.Names.{Provider, chain, first_provider, nearest_provider, provider_of, weak_provider}
use Rattle.cell_world.specs.World.{World, Cell}

pub record IsLost (v aside : World) (old : List ℕ) (new : List Cell) (c : Cell) (name : List ℕ) : Type 0 where
  pub provider : Provider
  pub had : provider_of v c name ≡ Some provider
  pub gone : IsTrue (holds old provider.cell)
  pub left : weak_provider aside c.standing c.ns name ≡ None
  pub none : first_provider (chain v.namespaces c.ns) name new ≡ None
  pub none_weakly : nearest_provider (chain v.namespaces c.ns) name new ≡ None
