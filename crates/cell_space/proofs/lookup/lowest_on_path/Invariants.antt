use Rattle.std.proofs.Common.{◌≡◌}
use Rattle.std.specs.Prelude.{find, option_map}
use Rattle.cell_space.proofs.Finding.{rival_below}
use Rattle.cell_space.proofs.lookup.lowest_on_path.Given as goal

-- the lowest in the namespaces so far
abbrev pub invariant-loop-other : goal.invariant-loop-other
invariant-loop-other l = option_map (λ c. c.now) l.lowest ≡ find (rival_below l.namespaces l.path.ns l.word.kind l.word.text.now l.other) l.cells
