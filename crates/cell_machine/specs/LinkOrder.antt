-- The order of links.
use Rattle.std.specs.Prelude.{Bool, nat_lt, ◌==◌, ◌&&◌, ◌||◌}
use Rattle.cell_world.specs.declared.state.LinkRow.{LinkRow}

-- the user of a has the lower cell, or both have one cell and a has the lower entry
abbrev pub is_before : LinkRow → LinkRow → Bool
is_before a b = nat_lt a.user.cell.0 b.user.cell.0 || a.user.cell.0 == b.user.cell.0 && nat_lt a.entry b.entry
