use Rattle.std.proofs.Common.{◌≡◌, ◌<◌, ℕ, false, length, get_or}
use Rattle.cell_world.specs.Names.{are_on_one_path}
use Rattle.cell_space.proofs.path.path_of.Given as goal

-- the marks so far
abbrev pub invariant-loop-other : goal.invariant-loop-other
invariant-loop-other l = record {
  count : length l.marks.items ≡ l.other;
  marked : (k : ℕ) → k < l.other → get_or l.marks.items k false ≡ are_on_one_path l.namespaces l.ns k;
}
