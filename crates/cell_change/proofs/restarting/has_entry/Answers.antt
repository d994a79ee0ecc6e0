use Rattle.std.proofs.Common.{◌≡◌, ap, subst, ◌++◌, List, ℕ, Option, None, Some}
use Rattle.std.specs.Prelude.{IfOk}
use Rattle.cell_world.specs.Names.{Provider, chain}
use Rattle.cell_world.specs.declared.state.Standing.TheVariants.{Attached}
use Rattle.cell_space.specs.Named.{provider_as, provider_for}
use Rattle.cell_change.specs.Restarting.{has_begin}
use Rattle.cell_change.proofs.restarting.has_entry.Goals as goal

pub provider-requires : goal.provider-requires
provider-requires c = c.requires.known

pub may_begin_at-requires-clause-rise : goal.may_begin_at-requires-clause-rise
may_begin_at-requires-clause-rise c = c.requires.rise

pub may_begin_at-requires-clause-loadable : goal.may_begin_at-requires-clause-loadable
may_begin_at-requires-clause-loadable c = c.requires.loadable

pub returns-in-Some : goal.returns-in-Some
returns-in-Some c =
    let there = subst (λ (name : List ℕ). Some (provider_as c.in-Some.provider) ≡ provider_for (chain c.args.gathered.now.ahead.namespaces c.args.origin.now.ns) Attached name c.args.gathered.now.ahead.cells) c.bytes.ensures (c.in-Some.ensures {u = tt}) in
    subst (λ (o : Option Provider). IfOk c.may_begin_at.result (λ may. may ≡ has_begin (c.args.machine.now.cells.items ++ c.args.gathered.now.cells.items) o)) there c.may_begin_at.ensures

pub returns-in-None : goal.returns-in-None
returns-in-None c =
    let there = subst (λ (name : List ℕ). None ≡ provider_for (chain c.args.gathered.now.ahead.namespaces c.args.origin.now.ns) Attached name c.args.gathered.now.ahead.cells) c.bytes.ensures (c.in-None.ensures {u = tt}) in
    ap (has_begin (c.args.machine.now.cells.items ++ c.args.gathered.now.cells.items)) there
