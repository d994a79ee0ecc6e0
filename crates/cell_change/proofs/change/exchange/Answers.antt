use Rattle.std.proofs.Common.{◌≡◌, ap, sym, subst, Global, Vec}
use Rattle.std.specs.Prelude.{option_map}
use Rattle.std.proofs.lemmas.Result.{err_from_is_err_and}
use Rattle.cell_hold.specs.declared.roots.Root.{Root}
use Rattle.cell_mem.specs.State.{MemoryState}
use Rattle.cell_machine.specs.declared.machine.Machine.{Machine}
use Rattle.cell_machine.specs.Same.{IsSame}
use Rattle.cell_change.specs.Before.{begun_in}
use Rattle.cell_change.proofs.ChangeExchanged.{can_finish, can_take, unplanned, was_finished}
use Rattle.cell_change.proofs.change.exchange.Goals as goal

pub plan_change-requires : goal.plan_change-requires
plan_change-requires c = c.requires.begun

pub returns-in_err-plan : goal.returns-in_err-plan
returns-in_err-plan c h =
    let p = err_from_is_err_and c.from_residual.result c.from_residual.ensures.1 in
    rw (p.1, p.2) (unplanned c.args.depot.now c.args.asked.now c.args.machine.now (option_map (λ (list : Vec Root Global). list.items) c.args.roots) h c.in_err-plan.field-0.0 (c.in_err-plan.ensures h.begun))

pub of-requires : goal.of-requires
of-requires c = can_take c.args.depot.now c.args.asked.now c.args.machine.now (option_map (λ (list : Vec Root Global). list.items) c.args.roots) c.requires c.in_ok-plan.plan (c.in_ok-plan.ensures c.requires.begun)

pub finish-requires : goal.finish-requires
finish-requires c =
    let begun : (record c.of.new.machine { memory = c.begin_undo.new.self }) ≡ begun_in c.of.new.machine c.in_ok-ready.ready.writes =
    ap (λ (s : MemoryState). let x : Machine = record c.of.new.machine { memory = s } in x) (c.in_ok-begin_undo.ensures {u = tt}).ok in
    can_finish c.args.depot.now c.args.asked.now c.args.machine.now (option_map (λ (list : Vec Root Global). list.items) c.args.roots) c.requires c.in_ok-plan.plan (c.in_ok-plan.ensures c.requires.begun) c.of.new.machine c.in_ok-ready.ready (c.in_ok-ready.ensures {u = tt}).ready (record c.of.new.machine { memory = c.begin_undo.new.self }) begun

pub returns : goal.returns
returns c h =
    let begun : (record c.of.new.machine { memory = c.begin_undo.new.self }) ≡ begun_in c.of.new.machine c.in_ok-ready.ready.writes =
    ap (λ (s : MemoryState). let x : Machine = record c.of.new.machine { memory = s } in x) (c.in_ok-begin_undo.ensures {u = tt}).ok in
    was_finished c.args.depot.now c.args.asked.now c.args.machine.now (option_map (λ (list : Vec Root Global). list.items) c.args.roots) h c.in_ok-plan.plan (c.in_ok-plan.ensures h.begun) c.of.new.machine c.in_ok-ready.ready (c.in_ok-ready.ensures {u = tt}).ready (record c.of.new.machine { memory = c.begin_undo.new.self }) begun
    c.finish.result c.map_err.result c.finish.new.machine c.map_err.ensures.cases
    (c.finish.ensures (can_finish c.args.depot.now c.args.asked.now c.args.machine.now (option_map (λ (list : Vec Root Global). list.items) c.args.roots) h c.in_ok-plan.plan (c.in_ok-plan.ensures h.begun) c.of.new.machine c.in_ok-ready.ready (c.in_ok-ready.ensures {u = tt}).ready (record c.of.new.machine { memory = c.begin_undo.new.self }) begun))

pub returns-in_err-begin_undo : goal.returns-in_err-begin_undo
returns-in_err-begin_undo c h =
    let p = err_from_is_err_and c.from_residual-in_err-begin_undo.result c.from_residual-in_err-begin_undo.ensures.1 in
    rw (p.1, p.2) (subst (λ (s : MemoryState). IsSame c.args.machine.now (record c.of.new.machine { memory = s })) (sym (c.in_err-begin_undo.ensures {u = tt}).err) c.of.ensures.same)
