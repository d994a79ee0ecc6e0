use Rattle.std.proofs.Common.{◌≡◌, ◌&&◌, false, take}
use Rattle.std.specs.List.{list_any}
use Rattle.cell_plan.specs.Known.{IsKnown, is_lacking, is_open}
use Rattle.cell_plan.proofs.known.has_all.Given as goal

-- the symbols so far
abbrev pub invariant-loop-index : goal.invariant-loop-index
invariant-loop-index l = record {
  known : IsKnown l.ahead l.known;
  all : list_any (λ s. is_open s && is_lacking l.ahead l.cell.ns l.state s.name) (take l.index l.symbols) ≡ false;
}
