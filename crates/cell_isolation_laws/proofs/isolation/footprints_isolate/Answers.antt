use Rattle.cell_isolation_laws.specs.Footprint.{task_starts}
use Rattle.cell_isolation_laws.proofs.TurnSame.{turns_same}
use Rattle.cell_isolation_laws.proofs.SameLook.{looks_same}
use Rattle.cell_isolation_laws.proofs.isolation.footprints_isolate.Goals as goal

pub returns : goal.returns
returns c w u ns n t h k same live keeps = turns_same (task_starts w ns t) t.number n w u h k (looks_same w u h k ns same t live) keeps
