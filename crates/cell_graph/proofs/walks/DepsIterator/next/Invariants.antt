use Rattle.std.proofs.Common.{◌≡◌, length}
use Rattle.std.specs.List.{AllByRecursion}
use Rattle.slab.specs.Slab.{get}
use Rattle.cell_graph.specs.Listed.{IsListed}
use Rattle.cell_graph.specs.Walks.{named_deps}
use Rattle.cell_graph.proofs.walks.DepsIterator.next.Given as goal

abbrev pub invariant-loop-self : goal.invariant-loop-self
invariant-loop-self l = record {
  left : named_deps (get l.self-inside.rows.now) l.self-inside.user l.self-inside.list.now ≡ named_deps (get l.initial.self-inside.rows.now) l.initial.self-inside.user l.initial.self-inside.list.now;
  stand : AllByRecursion (λ r. IsListed (get l.self-inside.rows.now) r) l.self-inside.list.now;
}

abbrev pub decreases-loop-self : goal.decreases-loop-self
decreases-loop-self l = length l.self-inside.list.now

abbrev pub ghosts-read_counted : goal.ghosts-read_counted
ghosts-read_counted a = record { name = a.blank.name; parts = a.blank.parts }
