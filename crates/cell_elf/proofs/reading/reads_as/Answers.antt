use Rattle.std.proofs.Common.{[]}
use Rattle.cell_object.specs.Reads.{broken, object_of}
use Rattle.cell_elf.proofs.Telling.{tells_whole}
use Rattle.cell_elf.proofs.Keeping.{none_like}
use Rattle.cell_elf.proofs.reading.reads_as.Goals as goal

pub returns : goal.returns
returns c =
    let file = c.args.bytes.now in
    let object = c.args.object.now in
    let passed = c.in_ok-pass_over.ensures in
    let sections = passed.sections object.sections [] (none_like object.sections c.new-sections.result.list.now c.new-sections.result.same (rw c.as_slice.ensures at c.new-sections.ensures.list) c.new-sections.ensures.none) in
    let symbols = passed.symbols object.symbols [] (none_like object.symbols c.new-symbols.result.list.now c.new-symbols.result.same (rw c.as_slice-2.ensures at c.new-symbols.ensures.list) c.new-symbols.ensures.none) in
    let entries = passed.entries object.entries [] (none_like object.entries c.new-entries.result.list.now c.new-entries.result.same (rw c.as_slice-3.ensures at c.new-entries.ensures.list) c.new-entries.ensures.none) in
    tells_whole (broken file) object (object_of file) c.pass_over.new.sections.list.now c.pass_over.new.symbols.list.now c.pass_over.new.entries.list.now
    c.pass_over.new.sections.same c.pass_over.new.symbols.same c.pass_over.new.entries.same c.are_whole.result passed.rules c.are_whole.ensures sections symbols entries
