use Rattle.std.proofs.Common.{◌≡◌, ◌<◌, ap, arith}
use Rattle.std.proofs.lemmas.Bool.{eqb-true}
use Rattle.cell_object.specs.Header.{file_header}
use Rattle.cell_object.specs.Sections.{section_rules}
use Rattle.cell_elf.proofs.Loads.{section_inside, round_passed, loadable}
use Rattle.cell_elf.proofs.table.Table.open.Goals as goal

pub invariant_of-result : goal.invariant_of-result
invariant_of-result c =
    let file = c.args.known.now.file.bytes.now in
    let n = c.args.header.now.sh_info in
    let kind : c.args.header.now.sh_type ≡ 4 = eqb-true _ _ c.requires.kind in
    let counted = ap (λ h. h.e_shnum) c.args.known.now.file.header_is in
    let there : n < (file_header file).e_shnum = rw (← counted) c.requires.target_there in
    let passed = round_passed (section_rules file) 1 n (file_header file).e_shnum c.requires.passed c.requires.target_from there in
    record {
      skips_are = c.args.known.now.skips_are;
      inside = section_inside _ c.args.number c.args.known.now.file.header.e_shnum c.args.header.now c.requires.passed counted c.requires.is c.requires.from c.requires.there (omega arith) (omega arith);
      for_section = omega arith;
      target_is = c.section-target.ensures;
      small = rw c.section-target.ensures (loadable file n passed c.requires.loaded).small;
    }
