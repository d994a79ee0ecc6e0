use Rattle.std.proofs.Common.{◌≡◌, map, take}
use Rattle.std.specs.Prelude.{filter}
use Rattle.cell_recover.specs.Rebuild.{is_held_by}
use Rattle.cell_recover.proofs.rebuild.plan_rebuild.Given as goal

-- the held ones of the cells so far
abbrev pub invariant-loop-place : goal.invariant-loop-place
invariant-loop-place l = map (λ c. c.now) l.items.items ≡ filter (is_held_by l.root.0 l.words) (map (λ c. c.now) (take l.place l.fn.cells))
