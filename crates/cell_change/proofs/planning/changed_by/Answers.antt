use Rattle.std.specs.Prelude.{All, ◌++◌}
use Rattle.std.proofs.Common.{Bor, List, subst, sym}
use Rattle.std.proofs.lemmas.List.Elements.{All-weaker}
use Rattle.cell_world.specs.declared.state.NewCell.{NewCell}
use Rattle.cell_num.specs.Lists.{In}
use Rattle.cell_num.proofs.Elements.{In-left}
use Rattle.cell_change.proofs.planning.changed_by.Goals as goal

pub changed-requires-clause-there : goal.changed-requires-clause-there
changed-requires-clause-there c =
    subst (λ (us : List (Bor NewCell)). All (λ (d : Bor NewCell). In d.now (c.deref.result.now ++ c.deref-2.result.now)) us) (sym c.deref-3.ensures.value)
    (All-weaker (λ (d : Bor NewCell). In d.now c.args.machine.now.cells.items) (λ (d : Bor NewCell). In d.now (c.deref.result.now ++ c.deref-2.result.now))
    (λ d i. In-left c.deref.result.now c.deref-2.result.now d.now (subst (λ (cs : List NewCell). In d.now cs) (sym c.deref.ensures.value) i)) c.args.affected.now.cells.items c.requires.there)
