use Rattle.std.proofs.Common.{arith}
use Rattle.std.proofs.lemmas.Result.{err_from_is_err_and}
use Rattle.cell_gather.specs.Copying.{append_original}
use Rattle.cell_gather.specs.Growing.{new_of}
use Rattle.cell_gather.proofs.Appends.{all_appended, one_appended, one_refused}
use Rattle.cell_gather.proofs.copies.append_copies.Goals as goal

pub loop-original-preserved : goal.loop-original-preserved
loop-original-preserved c = record {
  growing = c.in_ok-append_copy.ensures.growing;
  left =
      one_appended c.args.room.now.spaces.now c.args.room.now.next append_original (new_of c.args.gathered.now) (new_of c.loop-original.gathered) (new_of c.append_copy.new.gathered) c.args.originals.now c.loop-original.original-index
      c.original-item.result (omega arith) c.original-item.is c.loop-original.invariant.left c.in_ok-append_copy.ensures.ends;
}

pub returns-clause-ends : goal.returns-clause-ends
returns-clause-ends c =
    all_appended c.args.room.now.spaces.now c.args.room.now.next append_original (new_of c.args.gathered.now) (new_of c.loop-original.gathered) c.args.originals.now c.loop-original.original-index (omega arith) c.loop-original.invariant.left

pub returns-in_err-append_copy-clause-ends : goal.returns-in_err-append_copy-clause-ends
returns-in_err-append_copy-clause-ends c =
    let p = err_from_is_err_and c.from_residual.result c.from_residual.ensures.1 in
    rw (p.1, p.2)
    (one_refused c.args.room.now.spaces.now c.args.room.now.next append_original (new_of c.args.gathered.now) (new_of c.loop-original.gathered) (new_of c.append_copy.new.gathered) c.args.originals.now c.loop-original.original-index
    c.original-item.result c.in_err-append_copy.field-0.0 (omega arith) c.original-item.is c.loop-original.invariant.left c.in_err-append_copy.ensures.ends)
