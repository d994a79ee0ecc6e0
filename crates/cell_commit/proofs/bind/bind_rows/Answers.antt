use Rattle.std.proofs.Common.{arith, ◌∙◌}
use Rattle.cell_commit.proofs.LinksLeft.{bound_done, bound_more, present_here, unbound_here}
use Rattle.cell_commit.proofs.bind.bind_rows.Goals as goal

pub bind-requires-clause-user : goal.bind-requires-clause-user
bind-requires-clause-user c = (present_here _ _ c.args.rows.now c.loop-row.row-index c.loop-row-test.true c.loop-row.invariant.sections c.requires.present).0

pub bind-requires-clause-target : goal.bind-requires-clause-target
bind-requires-clause-target c = (present_here _ _ c.args.rows.now c.loop-row.row-index c.loop-row-test.true c.loop-row.invariant.sections c.requires.present).1

pub bind-requires-clause-unbound : goal.bind-requires-clause-unbound
bind-requires-clause-unbound c = unbound_here c.args.rows.now c.loop-row.row-index c.loop-row-test.true _ _ c.loop-row.invariant.rows c.requires.rising

pub loop-row-preserved : goal.loop-row-preserved
loop-row-preserved c =
    record {
      rows = bound_more c.args.rows.now c.loop-row.row-index c.loop-row-test.true _ _ c.loop-row.invariant.rows c.requires.rising _ c.bind.ensures.added;
      sections = c.bind.ensures.same_sections ∙ c.loop-row.invariant.sections;
      room = omega (arith, c.bind.ensures.room, c.loop-row.invariant.room);
      left = omega (arith, c.bind.ensures.room, c.loop-row.invariant.left);
    }

pub returns-clause-rows : goal.returns-clause-rows
returns-clause-rows c = bound_done _ _ c.args.rows.now c.loop-row.row-index c.loop-row-test.false c.loop-row.invariant.rows
