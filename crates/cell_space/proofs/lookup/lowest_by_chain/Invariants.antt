use Rattle.std.proofs.Common.{◌≡◌, ◌++◌}
use Rattle.std.specs.Prelude.{◌&&◌, find, option_map}
use Rattle.cell_world.specs.Names.{chain}
use Rattle.cell_world.specs.declared.state.Standing.TheVariants.{Attached}
use Rattle.cell_space.specs.Named.{is_holder}
use Rattle.cell_space.specs.Index.{has_word}
use Rattle.cell_space.proofs.lookup.lowest_by_chain.Given as goal

-- the lowest in the namespaces so far
abbrev pub invariant-loop-other : goal.invariant-loop-other
invariant-loop-other l = record {
  passed : l.yielded ++ l.other-iterator ≡ chain l.namespaces l.ns;
  lowest : option_map (λ c. c.now) l.lowest ≡ find (λ c. has_word l.word.kind l.word.text.now c && is_holder l.yielded Attached c) l.cells;
}
