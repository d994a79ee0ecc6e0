use Rattle.std.proofs.Common.{◌≡◌, ◌+◌, ◌≤◌, ◌++◌, [], ◌∷◌, List, sym, ap, refl, ◌∙◌, arith}
use Rattle.cell_object.specs.declared.object.Symbol.{Symbol}
use Rattle.cell_object.specs.Bytes.{checked}
use Rattle.cell_object.specs.Symbols.{symbol_of, symbol_rules, symbols_below, defines}
use Rattle.cell_object.proofs.Between.{between-end, flat_map-between-none}
use Rattle.cell_elf.proofs.Keeping.{adds_none, adds_more}
use Rattle.cell_file.proofs.Rounds.{round_passes}
use Rattle.cell_elf.proofs.Tables.{map-between-more, map-between-none}
use Rattle.cell_elf.proofs.symbols.SymbolTable.read_symbols.Goals as goal

pub loop-number-init : goal.loop-number-init
loop-number-init g c =
    let file = c.args.self.now.file.bytes.now in
    let h = c.args.self.now.header in
    let none : 1 ≤ 1 = omega arith in
    let empty : symbols_below file h 1 ≡ [] = map-between-none (symbol_of file h) 1 1 none in
    record {
      passed = ap checked (flat_map-between-none (symbol_rules file h) 1 1 none);
      kept = adds_none (g.K.Keep.holds c.args.symbols.now) _ empty;
      names = λ q. c.new-names.ensures q ∙ sym (ap (λ (xs : List Symbol). defines xs q) empty);
      none = λ _. refl;
    }

pub loop-number-preserved : goal.loop-number-preserved
loop-number-preserved g c =
    let file = c.args.self.now.file.bytes.now in
    let h = c.args.self.now.header in
    let here = c.loop-number.number in
    let so_far = c.loop-number.invariant in
    let passed = c.in_ok-pass_symbol.ensures in
    let from : 1 ≤ here = omega arith in
    let more : symbols_below file h (here + 1) ≡ symbols_below file h here ++ symbol_of file h here ∷ [] = map-between-more (symbol_of file h) 1 here from in
    record {
      passed = round_passes (symbol_rules file h) 1 here from so_far.passed passed.rules;
      kept = adds_more (g.K.Keep.holds c.args.symbols.now) (g.K.Keep.holds c.loop-number.symbols) (g.K.Keep.holds c.pass_symbol.new.symbols) _ (symbol_of file h here ∷ []) _ more so_far.kept passed.kept;
      names = λ q. passed.names q ∙ sym (ap (λ (xs : List Symbol). defines xs q) more);
      none = λ past. absurd (omega arith);
    }

pub returns-clause-rules : goal.returns-clause-rules
returns-clause-rules g c =
    rw (← c.count-number-end.ensures, ← between-end 1 c.loop-number.number c.count-number-end.result c.loop-number-test.false c.loop-number.invariant.none) c.loop-number.invariant.passed

pub returns-clause-symbols : goal.returns-clause-symbols
returns-clause-symbols g c =
    rw (← c.count-number-end.ensures, ← between-end 1 c.loop-number.number c.count-number-end.result c.loop-number-test.false c.loop-number.invariant.none) c.loop-number.invariant.kept
