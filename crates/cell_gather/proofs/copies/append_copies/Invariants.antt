use Rattle.std.proofs.Common.{drop}
use Rattle.cell_gather.specs.Copying.{append_original}
use Rattle.cell_gather.specs.Growing.{new_of, IsGrowing}
use Rattle.cell_gather.proofs.Appends.{AreLeft}
use Rattle.cell_gather.proofs.copies.append_copies.Given as goal

-- the originals that are left lead to what all lead to
abbrev pub invariant-loop-original : goal.invariant-loop-original
invariant-loop-original l = record {
  growing : IsGrowing l.room.spaces.now l.room.next l.gathered;
  left : AreLeft l.room.spaces.now l.room.next append_original (new_of l.fn.gathered) l.originals (new_of l.gathered) (drop l.original-index l.originals);
}
