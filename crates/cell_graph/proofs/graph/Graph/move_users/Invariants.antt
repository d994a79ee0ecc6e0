use Rattle.std.proofs.Common.{◌≡◌, ◌+◌, ◌*◌, drop}
use Rattle.cell_world.specs.declared.state.LinkRow.{LinkRow}
use Rattle.cell_graph.specs.Links.{is_bound}
use Rattle.cell_graph.specs.Moves.{AreApart, moved}
use Rattle.cell_graph.proofs.graph.Graph.move_users.Given as goal

abbrev pub invariant-loop-to : goal.invariant-loop-to
invariant-loop-to g l =
    (moved l.self.rows (drop l.to-index l.moves) ≡ moved l.fn.self.rows l.fn.moves)
    × AreApart (drop l.to-index l.moves)
    × (l.steps ≡ l.fn.steps + 4 * l.to-index)
    × (l.self.sections ≡ l.fn.self.sections)
    × (l.self.spare_rows ≡ l.fn.self.spare_rows)
    × (l.self.spare_sections ≡ l.fn.self.spare_sections)
    × ((m : LinkRow) → is_bound l.self.rows m.user m.entry ≡ is_bound l.fn.self.rows m.user m.entry)
