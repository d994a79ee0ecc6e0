use Rattle.std.proofs.Common.{◌<◌, ◌≤◌, ℕ, length, sym, subst, arith}
use Rattle.std.specs.Prelude.{◌⊎◌, IsSome}
use Rattle.indexmap.specs.IndexMap.{spare}
use Rattle.cell_world.specs.World.{Alias}
use Rattle.cell_space.specs.Index.{held, IsTaken}
use Rattle.cell_space.proofs.Holding.{grows_more, names_more, name_ready, hashes_end}
use Rattle.cell_space.proofs.index.Index.claim_names.Goals as goal

pub returns-in_err-claim-clause-succeeds : goal.returns-in_err-claim-clause-succeeds
returns-in_err-claim-clause-succeeds c = λ ready.
    let row : Alias = record { name = c.at.result.0.now; symbol = c.at.result.1 } in
    let IsReady : ℕ → Type 0 = λ h. (0 < spare c.loop-place.self.holders) ⊎ IsSome (held c.loop-place.self c.args.ns h) in
    let lt : c.loop-place.place < length c.args.rows.names.now = omega arith in
    absurd (cc (c.in_err-claim.ensures.succeeds (subst IsReady (sym c.word_hash.ensures)
    (name_ready c.args.cells.now c.args.cell (held c.args.self.now) (held c.loop-place.self) c.args.ns c.loop-place.invariant.grows
    c.args.rows.kind c.args.rows.names.now c.loop-place.place row (spare c.args.self.now.holders) (spare c.loop-place.self.holders) c.at.ensures lt c.loop-place.invariant.room ready))))

pub loop-place-preserved : goal.loop-place-preserved
loop-place-preserved c =
    let row : Alias = record { name = c.at.result.0.now; symbol = c.at.result.1 } in
    let Taken : ℕ → Type 0 = λ h. IsTaken c.args.cell c.args.attached (held c.claim.new.self c.args.ns h) in
    record {
      grows = grows_more c.args.cells.now c.args.cell (held c.args.self.now) (held c.loop-place.self) (held c.claim.new.self) c.loop-place.invariant.grows c.in_ok-claim.ensures.grows;
      taken =
          names_more c.args.cells.now c.args.cell (held c.loop-place.self) (held c.claim.new.self) c.args.ns c.in_ok-claim.ensures.grows
          c.args.attached c.args.rows.kind c.args.rows.names.now c.loop-place.place row c.at.ensures (subst Taken c.word_hash.ensures c.in_ok-claim.ensures.taken) c.loop-place.invariant.taken;
      room = omega arith;
    }

pub returns-clause-taken : goal.returns-clause-taken
returns-clause-taken c =
    let le : length c.args.rows.names.now ≤ c.loop-place.place = omega arith in
    hashes_end (λ h. IsTaken c.args.cell c.args.attached (held c.loop-place.self c.args.ns h)) c.args.rows.kind c.args.rows.names.now c.loop-place.place le c.loop-place.invariant.taken
