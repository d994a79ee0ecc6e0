use Rattle.std.proofs.Common.{◌+◌, ◌≤◌, ap, ◌∙◌, arith}
use Rattle.cell_object.specs.Bytes.{checked}
use Rattle.cell_object.specs.Relocations.{slot_rules}
use Rattle.cell_object.proofs.Between.{flat_map-between-none}
use Rattle.cell_file.proofs.Rounds.{round_passes}
use Rattle.cell_elf.proofs.Skipping.{slots_skipped}
use Rattle.cell_elf.proofs.slots.check_slots.Goals as goal

pub loop-number-init : goal.loop-number-init
loop-number-init c =
    let file = c.args.table.now.file.bytes.now in
    let h = c.args.table.now.header in
    let none : 0 ≤ 0 = omega arith in
    let kept = c.kept_from-number.ensures in
    record {
      there = kept.there;
      passed = ap checked (slots_skipped file h 0 c.kept_from-number.result kept.from kept.passed ∙ flat_map-between-none (slot_rules file h) 0 0 none);
    }

pub loop-number-preserved : goal.loop-number-preserved
loop-number-preserved c =
    let file = c.args.table.now.file.bytes.now in
    let h = c.args.table.now.header in
    let here = c.loop-number.number in
    let kept = c.kept_from-number-in-loop-number.ensures in
    let from : 0 ≤ here = omega arith in
    record {
      there = kept.there;
      passed = ap checked (slots_skipped file h (here + 1) c.kept_from-number-in-loop-number.result kept.from kept.passed)
          ∙ round_passes (slot_rules file h) 0 here from c.loop-number.invariant.passed c.in_ok-check_slot.ensures;
    }
