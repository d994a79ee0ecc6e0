use Rattle.std.proofs.Common.{◌≡◌, ◌∙◌, ap, sym, subst, List, []}
use Rattle.cell_world.specs.declared.state.LinkRow.{LinkRow}
use Rattle.cell_graph.specs.Moves.{moved}
use Rattle.cell_graph.specs.Order.{Rises, below_link}
use Rattle.cell_graph.specs.Several.{all_linked, all_unlinked}
use Rattle.cell_graph.proofs.Moving.{moved_nothing}
use Rattle.cell_load.proofs.Empty.{empty_if}
use Rattle.cell_commit.proofs.Rewired.{rewired}
use Rattle.cell_lemmas.specs.LinkSteps.{afters}
use Rattle.cell_load.proofs.adding.rewire_if_any.Goals as goal

pub returns-then-is_empty-3-clause-rows : goal.returns-then-is_empty-3-clause-rows
returns-then-is_empty-3-clause-rows c x =
    let rows = c.args.graph.now.rows in
    let none = empty_if c.args.gone.now (sym c.is_empty.ensures ∙ c.if-is_empty.true) in
    let new = empty_if c.args.new.now (sym c.is_empty-then-is_empty.ensures ∙ c.if-is_empty-2.true) in
    let moves = empty_if c.args.moves.now (sym c.is_empty-then-is_empty-2.ensures ∙ c.if-is_empty-3.true) in
    let same : moved (all_linked (all_unlinked rows c.args.gone.now) c.args.new.now) c.args.moves.now ≡ rows =
    ap (moved (all_linked (all_unlinked rows c.args.gone.now) c.args.new.now)) moves
    ∙ moved_nothing (all_linked (all_unlinked rows c.args.gone.now) c.args.new.now)
    ∙ ap (all_linked (all_unlinked rows c.args.gone.now)) new
    ∙ ap (all_unlinked rows) none in
    sym same ∙ rewired rows c.args.gone.now c.args.new.now c.args.moves.now x.steps x.is (subst (Rises below_link) (sym same) c.in_order.ensures.rows)
