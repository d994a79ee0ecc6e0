use Rattle.std.proofs.Common.{◌≡◌, ℕ, drop, ◌||◌}
use Rattle.std.specs.Prelude.{◌==◌}
use Rattle.std.specs.List.{list_any}
use Rattle.std.specs.Ordering.{nat_cmp}
use Rattle.std.specs.BTreeSet.{contains}
use Rattle.cell_gather.proofs.used.used_symbols.Given as goal

-- the symbols so far, and those of the entries that are left, are all
abbrev pub invariant-loop-entry : goal.invariant-loop-entry
invariant-loop-entry l = (q : ℕ) → (contains nat_cmp l.used q || list_any (λ e. e.symbol == q) (drop l.entry-index l.entries)) ≡ list_any (λ e. e.symbol == q) l.entries
