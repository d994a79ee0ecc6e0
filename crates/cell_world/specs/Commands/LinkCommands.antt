-- `deps CELL` and `users CELL`
use Rattle.std.specs.Prelude.{ℕ, ◌==◌, Option, filter, filter_map, option_map, option_and_then, slice_get}
use Rattle.cell_world.specs.declared.reply.Reply.TheVariants.{Deps as DepsDone, Users as UsersDone}
use Rattle.cell_world.specs.declared.reply.LinkLine.{LinkLine}
use Rattle.cell_world.specs.declared.state.LinkRow.{LinkRow}
use Rattle.cell_world.specs.World.{World, cell_of}
use Rattle.cell_world.specs.Outcome.{Outcome, ◌>>=◌}
use Rattle.cell_world.specs.Answer.{Done, done, present_cell}

-- the link with the offset and the kind of its entry
abbrev pub link_line : World → LinkRow → Option LinkLine
link_line w link =
    option_and_then
    (λ c. option_map
    (λ e. record { user = link.user; offset = e.offset; kind = e.kind; target = link.target })
    (slice_get c.object.entries link.entry))
    (cell_of w link.user.cell.0)

-- the links of the cell, in the order of its entries
abbrev pub next_deps : World → ℕ → Outcome Done
next_deps w number = do
  c ← present_cell w number
  done (DepsDone (record { 0 = number }) (filter_map (link_line w) (filter (λ link. link.user.cell.0 == number) w.links))) w

-- the links into the cell, by user cell and entry
abbrev pub next_users : World → ℕ → Outcome Done
next_users w number = do
  c ← present_cell w number
  done (UsersDone (record { 0 = number }) (filter_map (link_line w) (filter (λ link. link.target.cell.0 == number) w.links))) w
