use Rattle.std.proofs.Common.{◌≡◌, ◌+◌, ◌-◌, length}
use Rattle.cell_num.specs.Bits.{bytes_of}
use Rattle.cell_world.specs.Running.Memory.{pasted}
use Rattle.cell_mem.proofs.number.put_number.Given as goal

-- the bytes so far, with those that are left written, are as they are to be
abbrev pub invariant-loop-k : goal.invariant-loop-k
invariant-loop-k l = record {
  all : pasted l.bytes (l.at + l.k) (bytes_of (l.width - l.k) l.left) ≡ pasted l.fn.bytes l.at (bytes_of l.width l.value);
  room : length l.bytes ≡ length l.fn.bytes;
}
