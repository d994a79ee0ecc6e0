use Rattle.std.proofs.Common.{◌≡◌, ◌+◌, ◌++◌, take, vec_capacity, vec_len}
use Rattle.cell_task.proofs.output.put_bytes.Given as goal

-- the bytes so far are put out
abbrev pub invariant-loop-byte : goal.invariant-loop-byte
invariant-loop-byte l = record {
  items : l.out.items ≡ l.fn.out.items ++ take l.byte-index l.bytes;
  room : vec_capacity l.out ≡ vec_capacity l.fn.out;
  count : vec_len l.out ≡ vec_len l.fn.out + l.byte-index;
}
