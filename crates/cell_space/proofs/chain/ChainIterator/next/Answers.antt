use Rattle.std.proofs.Common.{rules}
use Rattle.cell_space.proofs.Climbing.{stepped}
use Rattle.cell_space.proofs.chain.ChainIterator.next.Goals as goal

pub returns-clause-steps : goal.returns-clause-steps
returns-clause-steps c = stepped c.self.inside.namespaces.now c.self.inside.next c.in_ok-ns.ns c.index-self-ns.result c.args.self.now c.self.invariant (c.in_ok-ns.was {u = tt}) c.index-self-ns.is c.self.view_is

pub returns-clause-goes : goal.returns-clause-goes
returns-clause-goes c =
    let step = stepped c.self.inside.namespaces.now c.self.inside.next c.in_ok-ns.ns c.index-self-ns.result c.args.self.now c.self.invariant (c.in_ok-ns.was {u = tt}) c.index-self-ns.is c.self.view_is in
    rw step (search rules)
