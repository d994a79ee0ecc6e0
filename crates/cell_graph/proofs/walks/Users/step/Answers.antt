use Rattle.std.proofs.Common.{length, sym, ap, ◌∙◌, arith, rules}
use Rattle.slab.specs.Slab.{get}
use Rattle.cell_graph.proofs.Ranges.{run_next, run_stands}
use Rattle.cell_graph.proofs.walks.Users.step.Goals as goal

pub read-chain-requires : goal.read-chain-requires
read-chain-requires g c = run_stands (get c.self.inside.rows.now) c.self.inside.first c.self.inside.left c.in_ok-place.place c.self.invariant c.in_ok-place.was

pub invariant_of-self : goal.invariant_of-self
invariant_of-self g c =
    (run_next (get c.self.inside.rows.now) c.self.inside.first c.self.inside.left c.in_ok-place.place c.read-chain.result c.self.invariant c.in_ok-place.was c.read-chain.ensures.row).1

pub returns-clause-goes : goal.returns-clause-goes
returns-clause-goes g c =
    let step = sym c.self.view_is ∙ (run_next (get c.self.inside.rows.now) c.self.inside.first c.self.inside.left c.in_ok-place.place c.read-chain.result c.self.invariant c.in_ok-place.was c.read-chain.ensures.row).0 in
    let shorter = ap length step in search rules

pub returns-clause-steps : goal.returns-clause-steps
returns-clause-steps g c =
    let step = sym c.self.view_is ∙ (run_next (get c.self.inside.rows.now) c.self.inside.first c.self.inside.left c.in_ok-place.place c.read-chain.result c.self.invariant c.in_ok-place.was c.read-chain.ensures.row).0 in
    omega (arith, ap length step, c.read-chain.ensures.step)
