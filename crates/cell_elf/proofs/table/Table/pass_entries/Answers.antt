use Rattle.std.proofs.Common.{◌≡◌, ◌+◌, ◌≤◌, ◌++◌, [], ap, refl, ◌∙◌, arith}
use Rattle.cell_object.specs.Bytes.{checked}
use Rattle.cell_object.specs.Relocations.{entry_rules, entry_of, entries_below}
use Rattle.cell_object.proofs.Between.{flat_map-between-more, flat_map-between-none}
use Rattle.cell_file.proofs.Rounds.{round_passes}
use Rattle.cell_elf.proofs.FieldLemmas.{cover_none}
use Rattle.cell_elf.proofs.Keeping.{adds_none, adds_more}
use Rattle.cell_file.specs.Fields.{field_at}
use Rattle.cell_elf.proofs.Skipping.{rules_skipped, entries_skipped}
use Rattle.cell_elf.proofs.table.Table.pass_entries.Goals as goal

pub loop-number-init : goal.loop-number-init
loop-number-init g c =
    let file = c.args.self.now.file.bytes.now in
    let h = c.args.self.now.header in
    let to = c.kept_from-number.result in
    let none : 0 ≤ 0 = omega arith in
    let kept = c.kept_from-number.ensures in
    let empty : entries_below file h to ≡ [] = entries_skipped file h 0 to kept.from kept.passed ∙ flat_map-between-none (entry_of file h) 0 0 none in
    record {
      there = kept.there;
      passed = ap checked (rules_skipped file h 0 to kept.from kept.passed ∙ flat_map-between-none (entry_rules file h) 0 0 none);
      kept = adds_none (g.K.Keep.holds c.args.entries.now) (entries_below file h to) empty;
      cover = rw empty (cover_none (field_at c.args.fields.now) c.requires.none);
      highs = rw empty c.requires.low;
      room = c.requires.room;
      table = refl;
    }

pub loop-number-preserved : goal.loop-number-preserved
loop-number-preserved g c =
    let file = c.args.self.now.file.bytes.now in
    let h = c.args.self.now.header in
    let here = c.loop-number.number in
    let to = c.kept_from-number-in-loop-number.result in
    let kept = c.kept_from-number-in-loop-number.ensures in
    let so_far = c.loop-number.invariant in
    let added = c.in_ok-pass_entry.ensures in
    let from : 0 ≤ here = omega arith in
    let same : entries_below file h to ≡ entries_below file h here ++ entry_of file h here = entries_skipped file h (here + 1) to kept.from kept.passed ∙ flat_map-between-more (entry_of file h) 0 here from in
    record {
      there = kept.there;
      passed = ap checked (rules_skipped file h (here + 1) to kept.from kept.passed) ∙ round_passes (entry_rules file h) 0 here from so_far.passed added.rules;
      kept = adds_more (g.K.Keep.holds c.args.entries.now) (g.K.Keep.holds c.loop-number.entries) (g.K.Keep.holds c.pass_entry.new.entries) (entries_below file h here) (entry_of file h here) (entries_below file h to) same so_far.kept added.kept;
      cover = rw same added.cover;
      highs = rw same added.highs;
      room = omega (arith, added.room, so_far.room);
      table = added.table ∙ so_far.table;
    }
