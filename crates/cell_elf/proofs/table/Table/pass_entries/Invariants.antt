use Rattle.std.proofs.Common.{◌≡◌, ◌≤◌, ◌-◌, length, Ok}
use Rattle.std.specs.List.{flat_map}
use Rattle.cell_object.specs.Bytes.{checked, between}
use Rattle.cell_object.specs.Relocations.{entry_rules, entries_below, entry_count}
use Rattle.cell_file.specs.Kept.{Adds}
use Rattle.cell_file.specs.Cover.{IsCover}
use Rattle.cell_file.specs.Fields.{fields_of, field_at, HoldsHighs}
use Rattle.cell_elf.proofs.table.Table.pass_entries.Given as goal

abbrev pub invariant-loop-number : goal.invariant-loop-number
invariant-loop-number g l = record {
  there : l.number ≤ entry_count l.self.header;
  passed : checked (flat_map (entry_rules l.self.file.bytes.now l.self.header) (between 0 l.number)) ≡ Ok tt;
  kept : Adds (g.K.Keep.holds l.fn.entries) (g.K.Keep.holds l.entries) (entries_below l.self.file.bytes.now l.self.header l.number);
  cover : IsCover (field_at l.fields) (fields_of (entries_below l.self.file.bytes.now l.self.header l.number));
  highs : HoldsHighs l.fields (entries_below l.self.file.bytes.now l.self.header l.number);
  room : l.self.target.sh_size ≤ length l.fields.marks.items;
  table : l.fields.table ≡ l.fn.fields.table;
}

abbrev pub decreases-loop-number : goal.decreases-loop-number
decreases-loop-number g l = entry_count l.self.header - l.number
