use Rattle.std.proofs.Common.{List, arith, subst, sym}
use Rattle.std.proofs.lemmas.Result.{err_from_is_err_and}
use Rattle.cell_world.specs.World.{Cell}
use Rattle.cell_gather.specs.Growing.{HavePlain, new_of}
use Rattle.cell_gather.proofs.Gatherings.{append_failed, bring_failed, gathered, have_old, none_plain, plain_are}
use Rattle.cell_gather.proofs.gathering.gather.Goals as goal

pub rename-requires-clause-appended : goal.rename-requires-clause-appended
rename-requires-clause-appended c =
    let many = c.in_ok-append_all.ensures.many in
    omega (arith, many)

pub rename-requires-clause-old : goal.rename-requires-clause-old
rename-requires-clause-old c = have_old c.args.spaces.now c.args.wants.now c.requires.old

pub returns-clause-growing : goal.returns-clause-growing
returns-clause-growing c = c.in_ok-bring.ensures.growing

pub returns-clause-gathered : goal.returns-clause-gathered
returns-clause-gathered c =
    let g = c.bring.new.gathered in
    gathered c.args.depot.now c.args.spaces.now c.args.next c.args.wants.now c.args.reexport (new_of c.start-gathered.result) (new_of c.append_all.new.gathered) (new_of c.rename.new.gathered) c.start-gathered.ensures.empty tt tt g
    c.in_ok-append_all.ensures.ends (c.in_ok-rename.ensures {u = tt}).named c.in_ok-bring.ensures.ends c.in_ok-bring.ensures.growing
    (λ off. plain_are c.args.spaces.now c.args.next g c.in_ok-bring.ensures.growing
    (c.in_ok-bring.ensures.plain
    (subst (λ (cells : List Cell). HavePlain cells) (sym ((c.in_ok-rename.ensures {u = tt}).plain off)) (c.in_ok-append_all.ensures.plain (none_plain (new_of c.start-gathered.result) c.start-gathered.ensures.empty)))))

pub returns-in_err-append_all-clause-gathered : goal.returns-in_err-append_all-clause-gathered
returns-in_err-append_all-clause-gathered c =
    let p = err_from_is_err_and c.from_residual.result c.from_residual.ensures.1 in
    rw (p.1, p.2)
    (append_failed c.args.depot.now c.args.spaces.now c.args.next c.args.wants.now c.args.reexport (new_of c.start-gathered.result) (new_of c.append_all.new.gathered) (new_of c.append_all.new.gathered) c.start-gathered.ensures.empty
    c.in_err-append_all.field-0.0 (new_of c.append_all.new.gathered) c.in_err-append_all.ensures.ends)

pub returns-in_err-bring-clause-gathered : goal.returns-in_err-bring-clause-gathered
returns-in_err-bring-clause-gathered c =
    let p = err_from_is_err_and c.from_residual-in_err-bring.result c.from_residual-in_err-bring.ensures.1 in
    rw (p.1, p.2)
    (bring_failed c.args.depot.now c.args.spaces.now c.args.next c.args.wants.now c.args.reexport (new_of c.start-gathered.result) (new_of c.append_all.new.gathered) (new_of c.rename.new.gathered) c.start-gathered.ensures.empty tt
    c.in_err-bring.field-0.0 (new_of c.bring.new.gathered) c.in_ok-append_all.ensures.ends (c.in_ok-rename.ensures {u = tt}).named c.in_err-bring.ensures.ends)
