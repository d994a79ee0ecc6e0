use Rattle.std.proofs.Common.{◌≡◌, [], take}
use Rattle.cell_world.specs.Linked.Field.{fields_among}
use Rattle.cell_plan.specs.Firsts.{AreSeen}
use Rattle.cell_plan.proofs.firsts.first_entries.Given as goal

-- the fields of the entries so far
abbrev pub invariant-loop-index : goal.invariant-loop-index
invariant-loop-index l = record {
  seen : AreSeen (take l.index l.entries) l.firsts.seen;
  fields : l.firsts.entries.items ≡ fields_among [] (take l.index l.entries);
}
