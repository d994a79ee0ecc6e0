use Rattle.std.proofs.Common.{◌≡◌, [], take}
use Rattle.cell_world.specs.Linked.Field.{fields_among}
use Rattle.cell_relinked.specs.Contents.{AreSeen}
use Rattle.cell_relinked.proofs.firsts.first_entries.Given as goal

-- the fields of the entries so far, and where these are
abbrev pub invariant-loop-index : goal.invariant-loop-index
invariant-loop-index l = record {
  seen : AreSeen l.seen (take l.index l.object.entries);
  firsts : l.firsts.items ≡ fields_among [] (take l.index l.object.entries);
}
