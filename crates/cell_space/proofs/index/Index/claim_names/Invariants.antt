use Rattle.std.proofs.Common.{◌+◌, ◌≤◌, take}
use Rattle.std.specs.Prelude.{All}
use Rattle.indexmap.specs.IndexMap.{spare}
use Rattle.cell_space.specs.Index.{held, name_hashes, Grows, IsTaken}
use Rattle.cell_space.proofs.index.Index.claim_names.Given as goal

-- the names so far are taken in
abbrev pub invariant-loop-place : goal.invariant-loop-place
invariant-loop-place l = record {
  grows : Grows l.cells l.cell (held l.initial.self) (held l.self);
  taken : All (λ h. IsTaken l.cell l.attached (held l.self l.ns h)) (take l.place (name_hashes l.rows.kind l.rows.names.now));
  room : spare l.initial.self.holders ≤ spare l.self.holders + l.place;
}
