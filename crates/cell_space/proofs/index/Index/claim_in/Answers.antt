use Rattle.std.proofs.Common.{◌∙◌, ℕ, ap, subst}
use Rattle.std.specs.Prelude.{All}
use Rattle.indexmap.specs.IndexMap.{spare}
use Rattle.cell_space.specs.Hash.{stem_hash}
use Rattle.cell_space.specs.Index.{held, hashes_of, row_count, row_hashes, IsTaken}
use Rattle.cell_space.proofs.Holding.{all_taken, names_ready, ok_more}
use Rattle.cell_space.proofs.index.Index.claim_in.Goals as goal

pub returns-clause-taken : goal.returns-clause-taken
returns-clause-taken c =
    let cell = c.args.cell.now in
    let Taken : ℕ → Type 0 = λ h. IsTaken cell.cell.0 c.args.attached (held c.claim.new.self c.args.ns h) in
    let After : ℕ → Type 0 = λ h. IsTaken cell.cell.0 c.args.attached (held c.claim_rows.new.self c.args.ns h) in
    ok_more c.claim_rows.result (All After (row_hashes cell)) (All After (hashes_of cell))
    (λ all. all_taken c.args.cells.now cell.cell.0 (held c.claim.new.self) (held c.claim_rows.new.self) c.args.ns c.claim_rows.ensures.grows
    c.args.attached cell.stem (row_hashes cell) (subst Taken (c.stem_hash.ensures ∙ ap stem_hash c.bytes-stem.ensures) c.in_ok-claim.ensures.taken) all)
    c.claim_rows.ensures.taken

pub returns-clause-succeeds : goal.returns-clause-succeeds
returns-clause-succeeds c = λ ready.
    let cell = c.args.cell.now in
    c.claim_rows.ensures.succeeds
    (names_ready c.args.cells.now cell.cell.0 (held c.args.self.now) (held c.claim.new.self) c.args.ns c.in_ok-claim.ensures.grows
    cell.stem (row_hashes cell) (row_count cell) (spare c.args.self.now.holders) (spare c.claim.new.self.holders) c.in_ok-claim.ensures.room ready)
