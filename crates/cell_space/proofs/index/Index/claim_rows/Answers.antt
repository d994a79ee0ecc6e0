use Rattle.std.proofs.Common.{ℕ, length}
use Rattle.std.specs.Prelude.{All}
use Rattle.indexmap.specs.IndexMap.{spare}
use Rattle.cell_space.specs.Index.{held, name_hashes, row_hashes, IsTaken}
use Rattle.cell_space.specs.declared.word.WordKind.TheVariants.{Name, Weak}
use Rattle.cell_space.proofs.Holding.{back_ready, front_ready, ok_more, rows_taken}
use Rattle.cell_space.proofs.index.Index.claim_rows.Goals as goal

pub returns-in_err-claim_names-clause-succeeds : goal.returns-in_err-claim_names-clause-succeeds
returns-in_err-claim_names-clause-succeeds c = λ ready.
    let cell = c.args.cell.now in
    absurd (cc (c.in_err-claim_names.ensures.succeeds
    (front_ready (held c.args.self.now) c.args.ns (name_hashes Weak cell.weak) (name_hashes Name cell.names) (length cell.weak) (length cell.names) (spare c.args.self.now.holders) ready)))

pub returns-clause-taken : goal.returns-clause-taken
returns-clause-taken c =
    let cell = c.args.cell.now in
    let After : ℕ → Type 0 = λ h. IsTaken cell.cell.0 c.args.attached (held c.claim_names-2.new.self c.args.ns h) in
    ok_more c.claim_names-2.result (All After (name_hashes Name cell.names)) (All After (row_hashes cell))
    (rows_taken c.args.cells.now cell.cell.0 (held c.claim_names.new.self) (held c.claim_names-2.new.self) c.args.ns c.claim_names-2.ensures.grows c.args.attached (name_hashes Weak cell.weak) (name_hashes Name cell.names) c.in_ok-claim_names.ensures.taken)
    c.claim_names-2.ensures.taken

pub returns-clause-succeeds : goal.returns-clause-succeeds
returns-clause-succeeds c = λ ready.
    let cell = c.args.cell.now in
    c.claim_names-2.ensures.succeeds
    (back_ready c.args.cells.now cell.cell.0 (held c.args.self.now) (held c.claim_names.new.self) c.args.ns c.in_ok-claim_names.ensures.grows (name_hashes Weak cell.weak) (name_hashes Name cell.names)
    (length cell.weak) (length cell.names) (spare c.args.self.now.holders) (spare c.claim_names.new.self.holders) c.in_ok-claim_names.ensures.room ready)
