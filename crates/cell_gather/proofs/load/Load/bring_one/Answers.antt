use Rattle.std.proofs.lemmas.Result.{err_from_is_err_and}
use Rattle.cell_gather.specs.Growing.{new_of}
use Rattle.cell_gather.proofs.Appends.{bring_chosen, bring_refused}
use Rattle.cell_gather.proofs.load.Load.bring_one.Goals as goal

pub returns-clause-ends : goal.returns-clause-ends
returns-clause-ends c =
    bring_chosen c.args.self.now.spaces.now c.args.self.now.next c.args.self.now.depot.now (new_of c.args.gathered.now) c.args.ns c.args.needed_by c.args.name.now c.in_ok-near.near.ns c.in_ok-near.near.file.now
    c.append.result (new_of c.append.new.gathered) c.in_ok-near.ensures.file c.append.ensures.ends

pub returns-in_err-near-clause-ends : goal.returns-in_err-near-clause-ends
returns-in_err-near-clause-ends c =
    let p = err_from_is_err_and c.from_residual.result c.from_residual.ensures.1 in
    rw (p.1, p.2)
    (bring_refused c.args.self.now.spaces.now c.args.self.now.next c.args.self.now.depot.now (new_of c.args.gathered.now) c.args.ns c.args.needed_by c.args.name.now c.in_err-near.field-0.0 (new_of c.args.gathered.now) c.in_err-near.ensures.file)
