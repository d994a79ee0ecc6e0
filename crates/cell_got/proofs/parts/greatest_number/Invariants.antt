use Rattle.std.proofs.Common.{◌≡◌, ℕ, take}
use Rattle.std.specs.Prelude.{fold, max}
use Rattle.cell_object.specs.declared.object.Section.{Section}
use Rattle.cell_got.proofs.parts.greatest_number.Given as goal

abbrev pub invariant-loop-index : goal.invariant-loop-index
invariant-loop-index l = l.most ≡ fold (λ (m : ℕ) (t : Section). max m t.number) 0 (take l.index l.sections)
