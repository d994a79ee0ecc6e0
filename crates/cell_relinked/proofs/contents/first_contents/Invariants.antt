use Rattle.std.proofs.Common.{◌≡◌, map, take}
use Rattle.cell_relinked.specs.Contents.{first_bytes}
use Rattle.cell_relinked.specs.Fit.{start_among}
use Rattle.cell_relinked.proofs.contents.first_contents.Given as goal

-- what the sections so far hold
abbrev pub invariant-loop-index : goal.invariant-loop-index
invariant-loop-index l = l.contents.items ≡ map (λ s. first_bytes l.told (start_among l.places s.number) s) (take l.index l.sections)
