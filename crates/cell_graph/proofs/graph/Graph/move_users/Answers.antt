use Rattle.std.proofs.Common.{◌+◌, [], ◌∷◌, drop, get_or, ap, sym, subst, ◌∙◌, rules, arith, Contains}
use Rattle.cell_num.specs.declared.ids.SecKey.{SecKey}
use Rattle.cell_world.specs.declared.state.LinkRow.{LinkRow}
use Rattle.cell_graph.specs.Links.{is_bound}
use Rattle.cell_graph.specs.Moves.{moved}
use Rattle.cell_graph.proofs.Apart.{bound-moved}
use Rattle.cell_graph.proofs.Moving.{moved_next, moved_end}
use Rattle.cell_graph.proofs.graph.Graph.move_users.Goals as goal

pub move_one-near-requires-clause-present : goal.move_one-near-requires-clause-present
move_one-near-requires-clause-present g c =
    let none : SecKey = record { cell = record { 0 = 0 }; section = 0 } in
    let nothing : LinkRow = record { user = none; entry = 0; target = none } in
    subst (λ s. Contains s (get_or c.args.moves.now c.loop-to.to-index nothing).target) (sym c.loop-to.invariant.3)
    (c.requires.present c.loop-to.to-index nothing c.loop-to-test.true)

pub loop-to-preserved : goal.loop-to-preserved
loop-to-preserved g c =
    let none : SecKey = record { cell = record { 0 = 0 }; section = 0 } in
    let nothing : LinkRow = record { user = none; entry = 0; target = none } in
    let rows = c.loop-to.self.rows in
    let moves = c.args.moves.now in
    let place = c.loop-to.to-index in
    let here = get_or moves place nothing ∷ [] in
    let next = moved_next rows moves place nothing c.loop-to-test.true c.loop-to.invariant.1 in
    let now = c.move_one-near.ensures.moved in (
      ap (λ rs. moved rs (drop (place + 1) moves)) now ∙ next.0 ∙ c.loop-to.invariant.0,
      next.1,
      omega (arith, c.loop-to.invariant.2),
      c.move_one-near.ensures.same_sections ∙ c.loop-to.invariant.3,
      c.move_one-near.ensures.same_room_for_links ∙ c.loop-to.invariant.4,
      c.move_one-near.ensures.same_room_for_sections ∙ c.loop-to.invariant.5,
      λ m. ap (λ rs. is_bound rs m.user m.entry) now ∙ bound-moved rows here m.user m.entry ∙ c.loop-to.invariant.6 m,
    )

pub returns-clause-moved : goal.returns-clause-moved
returns-clause-moved g c = moved_end c.loop-to.self.rows c.args.moves.now c.loop-to.to-index (search rules) ∙ c.loop-to.invariant.0
