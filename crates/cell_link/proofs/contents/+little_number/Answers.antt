use Rattle.cell_link.proofs.LittleLemmas.{rest_small, eight}
use Rattle.std.proofs.Common.{◌<◌, ◌^◌, arith}
use Rattle.cell_link.proofs.contents.+little_number.Goals as goal

pub overflow_mul-result : goal.overflow_mul-result
overflow_mul-result t c =
    let small : c.little_number.result < 2 ^ 56 = rest_small c.args.bytes.now _ c.little_number.ensures.small c.requires.narrow in
    omega arith

pub overflow_add-result : goal.overflow_add-result
overflow_add-result t c =
    let small : c.little_number.result < 2 ^ 56 = rest_small c.args.bytes.now _ c.little_number.ensures.small c.requires.narrow in
    omega arith

pub returns-in-len8-clause-number : goal.returns-in-len8-clause-number
returns-in-len8-clause-number t c = eight c.args.bytes.now c.from_le_bytes.result (omega (arith, c.in-len8.len_at_least, c.in-len8.len_below)) c.from_le_bytes.ensures
