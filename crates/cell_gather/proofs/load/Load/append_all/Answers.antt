use Rattle.std.proofs.Common.{arith, map}
use Rattle.std.proofs.lemmas.Result.{err_from_is_err_and}
use Rattle.cell_world.specs.Gather.{source_of}
use Rattle.cell_gather.specs.Gathering.{append_wanted}
use Rattle.cell_gather.specs.Growing.{new_of}
use Rattle.cell_gather.proofs.Appends.{all_appended, one_appended, one_refused}
use Rattle.cell_gather.proofs.load.Load.append_all.Goals as goal

pub loop-want-preserved : goal.loop-want-preserved
loop-want-preserved c = record {
  growing = c.in_ok-append_wanted.ensures.growing;
  many = (let one = c.in_ok-append_wanted.ensures.many in let so = c.loop-want.invariant.many in omega (arith, one, so));
  plain = λ first. c.in_ok-append_wanted.ensures.plain (c.loop-want.invariant.plain first);
  left =
      one_appended c.args.self.now.spaces.now c.args.self.now.next (append_wanted (map source_of c.args.self.now.depot.now)) (new_of c.args.gathered.now) (new_of c.loop-want.gathered) (new_of c.append_wanted.new.gathered) c.args.wants.now c.loop-want.want-index
      c.want-item.result (omega arith) c.want-item.is c.loop-want.invariant.left c.in_ok-append_wanted.ensures.ends;
}

pub returns-clause-ends : goal.returns-clause-ends
returns-clause-ends c =
    all_appended c.args.self.now.spaces.now c.args.self.now.next (append_wanted (map source_of c.args.self.now.depot.now)) (new_of c.args.gathered.now) (new_of c.loop-want.gathered) c.args.wants.now c.loop-want.want-index (omega arith) c.loop-want.invariant.left

pub returns-in_err-append_wanted-clause-ends : goal.returns-in_err-append_wanted-clause-ends
returns-in_err-append_wanted-clause-ends c =
    let p = err_from_is_err_and c.from_residual.result c.from_residual.ensures.1 in
    rw (p.1, p.2)
    (one_refused c.args.self.now.spaces.now c.args.self.now.next (append_wanted (map source_of c.args.self.now.depot.now)) (new_of c.args.gathered.now) (new_of c.loop-want.gathered) (new_of c.append_wanted.new.gathered) c.args.wants.now c.loop-want.want-index
    c.want-item.result c.in_err-append_wanted.field-0.0 (omega arith) c.want-item.is c.loop-want.invariant.left c.in_err-append_wanted.ensures.ends)
