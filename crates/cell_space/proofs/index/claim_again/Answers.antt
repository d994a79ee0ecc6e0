use Rattle.std.proofs.Common.{◌≡◌, ◌∙◌, ℕ, Some, inr, ap, sym, subst}
use Rattle.std.specs.Prelude.{option_map}
use Rattle.cell_space.specs.Named.{cell_numbered}
use Rattle.cell_space.specs.Index.{Grows, held}
use Rattle.cell_space.proofs.Holding.{again_ready, again_taken, found_number}
use Rattle.cell_space.proofs.index.claim_again.Goals as goal

pub claim_reserved-requires-clause-ready : goal.claim_reserved-requires-clause-ready
claim_reserved-requires-clause-ready c =
    let cell = c.in-Some.cell.now in
    let found : cell_numbered c.args.cells.now c.args.number ≡ Some c.in-Some.cell.now = sym c.cell_numbered.ensures ∙ ap (option_map (λ r. r.now)) c.in-Some.is in
    inr (again_ready (held c.args.index.now) c.args.cells.now c.args.number cell c.requires.whole found)

pub returns-in-Some-clause-grows : goal.returns-in-Some-clause-grows
returns-in-Some-clause-grows c =
    let found : cell_numbered c.args.cells.now c.args.number ≡ Some c.in-Some.cell.now = sym c.cell_numbered.ensures ∙ ap (option_map (λ r. r.now)) c.in-Some.is in
    let Grown : ℕ → Type 0 = λ n. Grows c.args.cells.now n (held c.args.index.now) (held c.claim_reserved.new.self) in
    subst Grown (found_number c.args.cells.now c.args.number c.in-Some.cell.now found) c.claim_reserved.ensures.grows

pub returns-in-Some-clause-taken : goal.returns-in-Some-clause-taken
returns-in-Some-clause-taken c =
    let found : cell_numbered c.args.cells.now c.args.number ≡ Some c.in-Some.cell.now = sym c.cell_numbered.ensures ∙ ap (option_map (λ r. r.now)) c.in-Some.is in
    again_taken (held c.claim_reserved.new.self) c.args.cells.now c.args.number c.in-Some.cell.now found c.claim_reserved.ensures.taken
