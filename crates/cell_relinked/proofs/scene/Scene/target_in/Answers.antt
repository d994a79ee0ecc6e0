use Rattle.std.proofs.Common.{ap, sym, ◌∙◌}
use Rattle.std.specs.Prelude.{option_and_then}
use Rattle.cell_described.specs.Faults.{object_at}
use Rattle.cell_object.specs.declared.object.Object.{Object}
use Rattle.cell_object.specs.declared.object.Symbol.{Symbol}
use Rattle.cell_world.specs.Linked.Target.{own_target}
use Rattle.cell_relinked.specs.Fit.{placed_in}
use Rattle.cell_relinked.proofs.Gotten.{got_by_test, in_by_test}
use Rattle.cell_relinked.proofs.scene.Scene.target_in.Goals as goal

pub own_target-requires-clause-there : goal.own_target-requires-clause-there
own_target-requires-clause-there c =
    let at = (c.in_ok-symbol.ensures {u = tt}).lookup in
    in_by_test c.as_slice.result.now (object_at c.args.self.now.objects.now c.args.cell.now.object).symbols (c.as_slice.ensures ∙ ap (λ (o : Object). o.symbols) c.object.ensures) c.args.place c.in_ok-symbol.symbol.now at.1 at.0

pub returns : goal.returns
returns c =
    let at = (c.in_ok-symbol.ensures {u = tt}).lookup in
    let placed = placed_in c.args.self.now.objects.now c.args.cell.now in
    c.own_target.ensures
    ∙ sym (ap (option_and_then (λ (s : Symbol). own_target placed s s.home))
    (got_by_test c.as_slice.result.now (object_at c.args.self.now.objects.now c.args.cell.now.object).symbols (c.as_slice.ensures ∙ ap (λ (o : Object). o.symbols) c.object.ensures) c.args.place c.in_ok-symbol.symbol.now at.1 at.0))
