use Rattle.std.proofs.Common.{◌≡◌, ◌≤◌, ◌-◌, Ok}
use Rattle.std.specs.List.{flat_map}
use Rattle.cell_object.specs.Bytes.{checked, between}
use Rattle.cell_object.specs.Relocations.{slot_rules, entry_count}
use Rattle.cell_elf.proofs.slots.check_slots.Given as goal

abbrev pub invariant-loop-number : goal.invariant-loop-number
invariant-loop-number l = record {
  there : l.number ≤ entry_count l.table.header;
  passed : checked (flat_map (slot_rules l.table.file.bytes.now l.table.header) (between 0 l.number)) ≡ Ok tt;
}

abbrev pub decreases-loop-number : goal.decreases-loop-number
decreases-loop-number l = entry_count l.table.header - l.number
