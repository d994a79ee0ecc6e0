use Rattle.std.proofs.Common.{◌-◌, ◌∙◌, ap, take, drop, length}
use Rattle.std.proofs.lemmas.List.{take_rest}
use Rattle.byteorder.specs.Endian.{little_number}
use Rattle.cell_mem.proofs.Little.{little_number_is}
use Rattle.cell_mem.proofs.number.read_number.Goals as goal

pub returns : goal.returns
returns c =
    c.read_uint.ensures
    ∙ ap (λ n. little_number n (take (length c.args.bytes.now - c.args.at) (drop c.args.at c.args.bytes.now))) c.from.ensures
    ∙ ap (little_number c.args.width) (take_rest c.args.bytes.now c.args.at)
    ∙ little_number_is c.args.width c.args.at c.args.bytes.now c.requires.inside
