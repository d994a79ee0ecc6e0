-- Which cells `recover T` and `rebuild T` renew.
--     faulted_task w number    the live task of that number, which has faulted
--     runs_at pc c             the attached cell has the pc in an executable section
--     recovery_of w t          the cell that the task stands in, if there is one
--     rebuild_of w t           the attached cells that the task holds
use Rattle.std.specs.Prelude.{ℕ, ◌+◌, nat_lt, nat_le, Bool, not, ◌&&◌, List, Ok, filter, take}
use Rattle.std.specs.List.{list_any}
use Rattle.cell_object.specs.declared.object.Section.{Section as ObjectSection}
use Rattle.cell_world.specs.declared.refusal.Refusal.TheVariants.{NotFaulted}
use Rattle.cell_world.specs.World.{World, Cell, Task, is_attached, is_ready}
use Rattle.cell_world.specs.Linked.Target.{start_of}
use Rattle.cell_world.specs.Kept.{holding_of, claim_of, is_claimed_by}
use Rattle.cell_world.specs.Outcome.{Outcome, ◌>>=◌, ◌>>◌, need}
use Rattle.cell_world.specs.Answer.{live_task}

abbrev pub faulted_task : World → ℕ → Outcome Task
faulted_task w number = do
  t ← live_task w number
  need (not (is_ready t)) (NotFaulted number)
  Ok t

-- the section's bytes go up to its end, which is none of them
abbrev pub is_run_at : ℕ → Cell → ObjectSection → Bool
is_run_at pc c s = s.exec && nat_le (start_of c.placed s.number) pc && nat_lt pc (start_of c.placed s.number + s.size)

abbrev pub runs_at : ℕ → Cell → Bool
runs_at pc c = is_attached c.standing && list_any (is_run_at pc c) c.object.sections

-- sections stand apart, so there is one such cell at most
abbrev pub recovery_of : World → Task → List Cell
recovery_of w t = take 1 (filter (runs_at t.pc) w.cells)

-- the cell is the task's root, or a word of the task lies in it
abbrev pub is_rebuilt : World → Task → Cell → Bool
is_rebuilt w t c = is_attached c.standing && is_claimed_by (holding_of w) c.id.0 (claim_of w t)

abbrev pub rebuild_of : World → Task → List Cell
rebuild_of w t = filter (is_rebuilt w t) w.cells
