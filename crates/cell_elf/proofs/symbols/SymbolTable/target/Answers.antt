use Rattle.std.proofs.Common.{◌<◌, ◌≤◌, refl, sym, ap, arith}
use Rattle.std.specs.Prelude.{option_map}
use Rattle.cell_object.specs.Header.{file_header}
use Rattle.cell_object.specs.Symbols.{symbol_row, symbol_of, symbol_count, symbol_rules, is_local}
use Rattle.cell_elf.specs.Named.{target_of}
use Rattle.cell_elf.proofs.Loads.{round_passed}
use Rattle.cell_elf.proofs.SoundSymbols.{fit}
use Rattle.cell_elf.proofs.Targets.{symbol_past, symbol_there, known_number}
use Rattle.cell_elf.proofs.symbols.SymbolTable.target.Goals as goal

pub returns-then-from-count : goal.returns-then-from-count
returns-then-from-count c =
    let file = c.args.self.now.file.bytes.now in
    let h = c.args.self.now.header in
    sym (ap (option_map target_of) (symbol_past file h (symbol_count h) c.args.number (omega arith)))

pub home-requires : goal.home-requires
home-requires c =
    let file = c.args.self.now.file.bytes.now in
    let h = c.args.self.now.header in
    let j = c.args.number in
    let there : j < symbol_count h = omega arith in
    let counted : 1 ≤ (file_header file).e_shnum = rw (← c.args.self.now.file.header_is) c.args.self.now.file.counted in
    let fits = fit file h j (round_passed (symbol_rules file h) 1 j (symbol_count h) c.requires.passed c.requires.from there) in
    rw (c.row-row.ensures, c.from-2.ensures, c.args.self.now.file.header_is)
    (known_number (symbol_row file h j).st_shndx (file_header file).e_shnum (is_local (symbol_row file h j)) _ counted fits.home)

pub returns : goal.returns
unfolding symbol_of
returns c =
    let file = c.args.self.now.file.bytes.now in
    let h = c.args.self.now.header in
    let there : c.args.number < symbol_count h = omega arith in
    rw (symbol_there file h (symbol_count h) c.args.number c.requires.from there, c.bind.ensures, c.home.ensures, c.row-row.ensures, c.from-2.ensures) refl
