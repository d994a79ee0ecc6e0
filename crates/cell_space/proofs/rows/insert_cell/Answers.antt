use Rattle.std.proofs.Common.{◌≡◌, ◌∙◌, ap, rules}
use Rattle.std.specs.Prelude.{insert}
use Rattle.std.specs.List.{position_or_len}
use Rattle.cell_space.specs.Named.{is_higher}
use Rattle.cell_space.proofs.Changes.{insert-with_cell}
use Rattle.cell_space.proofs.rows.insert_cell.Goals as goal

pub returns-clause-items : goal.returns-clause-items
returns-clause-items c =
    let put : c.insert.new.self.items ≡ insert c.args.cells.now.items c.place_for-place.result c.args.cell = search rules in
    put
    ∙ ap (λ i. insert c.args.cells.now.items i c.args.cell) (c.place_for-place.ensures.place ∙ ap (position_or_len (is_higher c.args.cell.cell.0)) c.deref.ensures.value)
    ∙ insert-with_cell c.args.cell c.args.cells.now.items
