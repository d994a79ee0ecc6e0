use Rattle.cell_isolation_laws.proofs.SameLook.{looks_same}
use Rattle.cell_isolation_laws.proofs.isolation.footprints_look_same.Goals as goal

pub returns : goal.returns
returns c w u ns t h k same live = looks_same w u h k ns same t live
