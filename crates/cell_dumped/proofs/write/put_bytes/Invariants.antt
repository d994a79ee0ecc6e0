use Rattle.std.proofs.Common.{◌≡◌, ◌++◌, drop}
use Rattle.std.specs.List.{flat_map}
use Rattle.cell_text.specs.Number.{hex_byte}
use Rattle.cell_dumped.proofs.write.put_bytes.Given as goal

-- the bytes so far, and those that are left, are all of them
abbrev pub invariant-loop-byte : goal.invariant-loop-byte
invariant-loop-byte l = l.text.items ++ flat_map hex_byte (drop l.byte-index l.bytes) ≡ l.fn.text.items ++ flat_map hex_byte l.bytes
