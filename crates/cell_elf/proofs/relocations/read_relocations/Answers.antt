use Rattle.std.proofs.Common.{◌≤◌, ◌∙◌, sym, ap, arith}
use Rattle.cell_object.specs.Bytes.{checked}
use Rattle.cell_object.specs.Relocations.{section_entries, relocation_rules, section_pairs, section_slots}
use Rattle.cell_object.proofs.Between.{flat_map-between-none, flat_map-between-more}
use Rattle.cell_elf.proofs.Keeping.{adds_none, adds_more}
use Rattle.cell_file.proofs.Rounds.{round_passes}
use Rattle.cell_elf.proofs.Tables.{contains_none, is_relocated_below-none}
use Rattle.cell_elf.proofs.relocations.read_relocations.Goals as goal

pub loop-number-init : goal.loop-number-init
loop-number-init g c =
    let file = c.args.known.now.file.bytes.now in
    let none : 1 ≤ 1 = omega arith in
    record {
      passed = ap checked (flat_map-between-none (relocation_rules file) 1 1 none);
      kept = adds_none (g.K.Keep.holds c.args.entries.now) _ (flat_map-between-none (section_entries file) 1 1 none);
      pairs = ap checked (flat_map-between-none (section_pairs file) 1 1 none);
      slots = ap checked (flat_map-between-none (section_slots file) 1 1 none);
      seen = λ q. contains_none c.new.result q c.new.ensures.empty ∙ sym (is_relocated_below-none file 1 q none);
      later = omega (arith, c.new-2.ensures);
    }

pub loop-number-preserved : goal.loop-number-preserved
loop-number-preserved g c =
    let file = c.args.known.now.file.bytes.now in
    let here = c.loop-number.number in
    let so_far = c.loop-number.invariant in
    let passed = c.in_ok-pass_section.ensures in
    let from : 1 ≤ here = omega arith in
    record {
      passed = round_passes (relocation_rules file) 1 here from so_far.passed passed.rules;
      kept = adds_more (g.K.Keep.holds c.args.entries.now) (g.K.Keep.holds c.loop-number.entries) (g.K.Keep.holds c.pass_section.new.entries) _ (section_entries file here) _
          (flat_map-between-more (section_entries file) 1 here from) so_far.kept passed.kept;
      pairs = rw (flat_map-between-more (section_pairs file) 1 here from) (passed.pairs _ so_far.pairs);
      slots = rw (flat_map-between-more (section_slots file) 1 here from) (passed.slots _ so_far.slots);
      seen = passed.targets;
      later = passed.later;
    }
