use Rattle.std.proofs.Common.{arith, ◌∙◌, ap, subst, sym, List}
use Rattle.std.specs.Prelude.{All, Contains, IsTrue}
use Rattle.cell_num.specs.declared.ids.SecKey.{SecKey}
use Rattle.cell_num.specs.Lists.{In}
use Rattle.cell_num.proofs.Elements.{All-In, In-All}
use Rattle.cell_world.specs.declared.state.LinkRow.{LinkRow}
use Rattle.cell_lemmas.specs.LinkSteps.{afters}
use Rattle.cell_graph.specs.Links.{is_bound}
use Rattle.cell_graph.specs.Moves.{moved}
use Rattle.cell_graph.specs.Order.{Rises, below_link}
use Rattle.cell_graph.specs.Several.{AreNew, all_linked}
use Rattle.cell_commit.proofs.Rewired.{gone_there, led_after, led_apart, led_bound, new_after, new_are_new, new_rises, rewired}
use Rattle.cell_commit.proofs.wiring.rewire.Goals as goal

pub unbind_rows-requires : goal.unbind_rows-requires
unbind_rows-requires c = gone_there c.args.graph.now.rows c.args.gone.now c.args.new.now c.args.moves.now c.requires.steps c.requires.is

pub insert_rows-requires-clause-new : goal.insert_rows-requires-clause-new
insert_rows-requires-clause-new c =
    subst (λ (rs : List LinkRow). AreNew rs c.args.new.now) (sym c.unbind_rows.ensures.rows)
    (new_are_new c.args.graph.now.rows c.args.gone.now c.args.new.now c.args.moves.now c.requires.steps c.requires.is)

pub insert_rows-requires-clause-rising : goal.insert_rows-requires-clause-rising
insert_rows-requires-clause-rising c = new_rises c.args.graph.now.rows c.args.gone.now c.args.new.now c.args.moves.now c.requires.steps c.requires.is

pub insert_rows-requires-clause-present : goal.insert_rows-requires-clause-present
insert_rows-requires-clause-present c =
    subst (λ (keys : List SecKey). All (λ (r : LinkRow). Contains keys r.target) c.args.new.now) (sym c.unbind_rows.ensures.sections)
    (In-All (λ (r : LinkRow). Contains c.args.graph.now.sections r.target) c.args.new.now (λ r i.
    (All-In (λ (r : LinkRow). Contains c.args.graph.now.sections r.user × Contains c.args.graph.now.sections r.target) (afters c.requires.steps) c.requires.present r
    (new_after c.args.graph.now.rows c.args.gone.now c.args.new.now c.args.moves.now c.requires.steps c.requires.is r i)).1))

pub insert_rows-requires-clause-room : goal.insert_rows-requires-clause-room
insert_rows-requires-clause-room c = omega (arith, c.requires.room, c.unbind_rows.ensures.room_for_rows)

pub move_rows-requires-clause-bound : goal.move_rows-requires-clause-bound
move_rows-requires-clause-bound c =
    subst (λ (rs : List LinkRow). All (λ (m : LinkRow). IsTrue (is_bound rs m.user m.entry)) c.args.moves.now)
    (sym (c.insert_rows.ensures.rows ∙ ap (λ (rs : List LinkRow). all_linked rs c.args.new.now) c.unbind_rows.ensures.rows))
    (led_bound c.args.graph.now.rows c.args.gone.now c.args.new.now c.args.moves.now c.requires.steps c.requires.is)

pub move_rows-requires-clause-distinct : goal.move_rows-requires-clause-distinct
move_rows-requires-clause-distinct c = led_apart c.args.graph.now.rows c.args.gone.now c.args.new.now c.args.moves.now c.requires.steps c.requires.is

pub move_rows-requires-clause-present : goal.move_rows-requires-clause-present
move_rows-requires-clause-present c =
    subst (λ (keys : List SecKey). All (λ (r : LinkRow). Contains keys r.target) c.args.moves.now) (sym (c.insert_rows.ensures.sections ∙ c.unbind_rows.ensures.sections))
    (In-All (λ (r : LinkRow). Contains c.args.graph.now.sections r.target) c.args.moves.now (λ r i.
    (All-In (λ (r : LinkRow). Contains c.args.graph.now.sections r.user × Contains c.args.graph.now.sections r.target) (afters c.requires.steps) c.requires.present r
    (led_after c.args.graph.now.rows c.args.gone.now c.args.new.now c.args.moves.now c.requires.steps c.requires.is r i)).1))

pub returns-clause-rows : goal.returns-clause-rows
returns-clause-rows c x =
    let is = c.move_rows.ensures.rows
    ∙ (ap (λ (rs : List LinkRow). moved rs c.args.moves.now) (c.insert_rows.ensures.rows ∙ ap (λ (rs : List LinkRow). all_linked rs c.args.new.now) c.unbind_rows.ensures.rows)) in
    is ∙ rewired c.args.graph.now.rows c.args.gone.now c.args.new.now c.args.moves.now x.steps x.is (subst (Rises below_link) is c.in_order.ensures.rows)
