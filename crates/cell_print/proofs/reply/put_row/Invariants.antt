use Rattle.std.proofs.Common.{◌≡◌, ◌++◌, drop}
use Rattle.std.specs.Prelude.{codes}
use Rattle.std.specs.List.{flat_map}
use Rattle.cell_text.specs.Number.{hex}
use Rattle.cell_print.specs.Lines.{byte_word}
use Rattle.cell_print.proofs.reply.put_row.Given as goal

-- the bytes so far, and those that are left, are all of them
abbrev pub invariant-loop-byte : goal.invariant-loop-byte
invariant-loop-byte l = l.into.items ++ flat_map byte_word (drop l.byte-index l.bytes) ≡ l.fn.into.items ++ (codes "  " ++ (hex l.addr ++ flat_map byte_word l.bytes))
