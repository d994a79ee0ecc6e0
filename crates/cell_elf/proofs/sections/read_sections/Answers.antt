use Rattle.std.proofs.Common.{◌≤◌, sym, ap, arith}
use Rattle.cell_object.specs.Bytes.{checked}
use Rattle.cell_object.specs.Sections.{section_rules}
use Rattle.cell_object.specs.Reads.{loaded_section}
use Rattle.cell_object.proofs.Between.{flat_map-between-none, flat_map-between-more}
use Rattle.cell_elf.proofs.Keeping.{adds_none, adds_more}
use Rattle.cell_elf.proofs.Loads.{symtab_below-none}
use Rattle.cell_file.proofs.Rounds.{round_passes}
use Rattle.cell_elf.proofs.sections.read_sections.Goals as goal

pub loop-number-init : goal.loop-number-init
loop-number-init g c =
    let file = c.args.file.now.bytes.now in
    let none : 1 ≤ 1 = omega arith in
    record {
      passed = ap checked (flat_map-between-none (section_rules file) 1 1 none);
      kept = adds_none (g.K.Keep.holds c.args.loaded.now) _ (flat_map-between-none (loaded_section file) 1 1 none);
      table = sym (symtab_below-none file 1 none);
    }

pub loop-number-preserved : goal.loop-number-preserved
loop-number-preserved g c =
    let file = c.args.file.now.bytes.now in
    let here = c.loop-number.number in
    let so_far = c.loop-number.invariant in
    let passed = c.in_ok-symtab.ensures in
    let from : 1 ≤ here = omega arith in
    record {
      passed = round_passes (section_rules file) 1 here from so_far.passed passed.rules;
      kept = adds_more (g.K.Keep.holds c.args.loaded.now) (g.K.Keep.holds c.loop-number.loaded) (g.K.Keep.holds c.pass_section.new.loaded) _ (loaded_section file here) _
          (flat_map-between-more (loaded_section file) 1 here from) so_far.kept passed.loaded;
      table = passed.symtab;
    }
