use Rattle.std.proofs.Common.{◌≡◌, false, refl}
use Rattle.std.specs.List.{list_any}
use Rattle.cell_object.specs.Relocations.{is_clash, entries_below}
use Rattle.cell_file.specs.Fields.{field_at}
use Rattle.cell_elf.proofs.FieldLemmas.{entry_hit, entry_free, entry_kept}
use Rattle.cell_elf.proofs.table.Table.check_clash.Goals as goal

pub returns-then-is_hit-clause-rules : goal.returns-then-is_hit-clause-rules
returns-then-is_hit-clause-rules c =
    let found = rw c.field-field.ensures at c.if-is_hit.ensures.found in
    let seen = found refl in
    rw (entry_hit (field_at c.args.fields.now) (entries_below c.args.self.now.file.bytes.now c.args.self.now.header c.args.number) c.args.entry.now seen.0 c.requires.cover seen.1) refl

pub returns-clause-rules : goal.returns-clause-rules
returns-clause-rules c =
    let none = rw c.field-field.ensures at c.if-is_hit.ensures.none in
    rw (entry_free (field_at c.args.fields.now) (entries_below c.args.self.now.file.bytes.now c.args.self.now.header c.args.number) c.args.entry.now c.requires.cover (none refl)) refl

pub returns-clause-cover : goal.returns-clause-cover
returns-clause-cover c =
    let none = rw c.field-field.ensures at c.if-is_hit.ensures.none in
    let free : list_any (is_clash c.args.entry.now) (entries_below c.args.self.now.file.bytes.now c.args.self.now.header c.args.number) ≡ false = entry_free (field_at c.args.fields.now) (entries_below c.args.self.now.file.bytes.now c.args.self.now.header c.args.number) c.args.entry.now c.requires.cover (none refl) in
    let here = rw c.field-field.ensures at c.add.ensures.here in
    let others = rw c.field-field.ensures at c.add.ensures.others in
    entry_kept (field_at c.args.fields.now) (field_at c.add.new.self) (entries_below c.args.self.now.file.bytes.now c.args.self.now.header c.args.number) c.args.entry.now c.requires.cover free here others
