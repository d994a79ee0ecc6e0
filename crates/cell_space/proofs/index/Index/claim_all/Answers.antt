use Rattle.std.specs.Prelude.{All}
use Rattle.indexmap.specs.IndexMap.{spare}
use Rattle.cell_space.specs.Index.{IsCellTaken, IsTaken, hashes_of, held, row_count}
use Rattle.cell_space.proofs.Holding.{both_taken, first_ready, ok_more, second_ready}
use Rattle.cell_space.proofs.index.Index.claim_all.Goals as goal

pub returns-in_err-claim_in-clause-succeeds : goal.returns-in_err-claim_in-clause-succeeds
returns-in_err-claim_in-clause-succeeds c = λ ready.
    let cell = c.args.cell.now in
    absurd (cc (c.in_err-claim_in.ensures.succeeds
    (first_ready (held c.args.self.now) cell.ns (hashes_of cell) (row_count cell) (spare c.args.self.now.holders) ready)))

pub returns-clause-taken : goal.returns-clause-taken
returns-clause-taken c =
    let cell = c.args.cell.now in
    let all = hashes_of cell in
    ok_more c.claim_in-2.result (All (λ h. IsTaken cell.cell.0 c.args.attached (held c.claim_in-2.new.self cell.ns h)) all) (IsCellTaken (held c.claim_in-2.new.self) c.args.attached cell)
    (both_taken c.args.cells.now cell.cell.0 (held c.claim_in.new.self) (held c.claim_in-2.new.self) cell.ns c.claim_in-2.ensures.grows all c.args.attached c.in_ok-claim_in.ensures.taken)
    c.claim_in-2.ensures.taken

pub returns-clause-succeeds : goal.returns-clause-succeeds
returns-clause-succeeds c = λ ready.
    let cell = c.args.cell.now in
    c.claim_in-2.ensures.succeeds
    (second_ready c.args.cells.now cell.cell.0 (held c.args.self.now) (held c.claim_in.new.self) cell.ns c.in_ok-claim_in.ensures.grows (hashes_of cell)
    (row_count cell) (spare c.args.self.now.holders) (spare c.claim_in.new.self.holders) c.in_ok-claim_in.ensures.room ready)
