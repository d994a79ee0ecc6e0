-- What linking asks of a machine.
--     IsLinkable w     the cells stand in regions of their own, their objects are sound, and each need has a provider
use Rattle.std.specs.Prelude.{IsTrue}
use Rattle.std.specs.List.{list_all}
use Rattle.cell_world.specs.World.{World}
use Rattle.cell_world.specs.Coherent.{AreSoundCells, AreSoundRegions, only_regions, is_supplied, is_known_cell}

pub record IsLinkable (w : World) : Type 0 where
  pub alone : AreSoundCells w.cells
  pub open alone use *
  pub memory : AreSoundRegions (only_regions w)
  pub open memory use *
  pub cells : IsTrue (list_all (is_known_cell w) w.cells)
  pub supplied : IsTrue (list_all (is_supplied w) w.cells)
