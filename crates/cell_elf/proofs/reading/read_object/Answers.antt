use Rattle.std.proofs.Common.{[], ◌∙◌, Ok}
use Rattle.cell_object.specs.Reads.{broken, object_of}
use Rattle.cell_file.proofs.Passing.{gives_object}
use Rattle.cell_elf.proofs.Soundness.{parts_same, result_readable}
use Rattle.cell_elf.proofs.LoadableCounts.{result_from_file}
use Rattle.cell_elf.proofs.reading.read_object.Goals as goal

pub returns : goal.returns
returns c =
    let file = c.args.bytes.now in
    let passed = c.in_ok-pass_over.ensures in
    let same = parts_same file c.from_vec.result c.from_vec-2.result c.from_vec-3.result
    (c.from_vec.ensures ∙ passed.sections [] [] c.new-sections.ensures.items)
    (c.from_vec-2.ensures ∙ passed.symbols [] [] c.new-symbols.ensures.items)
    (c.from_vec-3.ensures ∙ passed.entries [] [] c.new-entries.ensures.items) in
    record {
      object = gives_object (Ok _) (broken file) (object_of file) passed.rules same;
      readable = result_readable file (Ok _) passed.rules same;
      from_file = result_from_file file (Ok _) passed.rules same;
    }
