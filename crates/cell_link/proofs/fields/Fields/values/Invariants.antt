use Rattle.std.proofs.Common.{◌≡◌, take}
use Rattle.std.specs.Prelude.{map}
use Rattle.cell_link.specs.Applied.{field_at}
use Rattle.cell_link.proofs.fields.Fields.values.Given as goal

abbrev pub invariant-loop-first : goal.invariant-loop-first
invariant-loop-first l = l.values.items ≡ map (field_at l.places.cell.now l.self.held) (take l.first-index l.self.firsts.items)
