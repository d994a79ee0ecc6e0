use Rattle.std.proofs.Common.{refl, sym, subst, ℕ, List, map, Err}
use Rattle.std.proofs.lemmas.Result.{err_from_is_err_and}
use Rattle.cell_world.specs.declared.reply.Reply.TheVariants.{Clone}
use Rattle.cell_world.specs.Commands.Asked.{next_clone}
use Rattle.cell_world.specs.Gather.{source_of}
use Rattle.cell_machine.specs.Does.{HasDone}
use Rattle.cell_machine.specs.Machine.{world_of}
use Rattle.cell_machine.proofs.Unchanged.{same_itself}
use Rattle.cell_commands.specs.Cloning.{CanCopy, HasMadeCopies, MakesCopies}
use Rattle.cell_commands.proofs.CloneSaid.{all_seen, can_copy, check_failed, memory_lacked, more_there, none_inside, parent_failed, space_failed, was_cloned, was_refused, with_sound}
use Rattle.cell_commands.proofs.cloning.clone.Goals as goal

pub returns-in_err-from : goal.returns-in_err-from
returns-in_err-from c =
    let p = err_from_is_err_and c.from_residual.result c.from_residual.ensures.1 in
    rw (p.1, p.2) (space_failed c.args.depot.now c.args.machine.now c.args.ns.now c.args.name.now c.in_err-from.field-0.0 c.in_err-from.ensures.number)

pub returns-in_err-up : goal.returns-in_err-up
returns-in_err-up c =
    let p = err_from_is_err_and c.from_residual-in_err-up.result c.from_residual-in_err-up.ensures.1 in
    rw (p.1, p.2) (parent_failed c.args.depot.now c.args.machine.now c.args.ns.now c.args.name.now c.in_ok-from.from c.in_ok-from.ensures.number c.in_err-up.field-0.0 c.in_err-up.ensures.number)

pub returns-in_err-check_new_namespace : goal.returns-in_err-check_new_namespace
returns-in_err-check_new_namespace c =
    let p = err_from_is_err_and c.from_residual-in_err-check_new_namespace.result c.from_residual-in_err-check_new_namespace.ensures.1 in
    rw (p.1, p.2)
    (check_failed c.args.depot.now c.args.machine.now c.args.ns.now c.args.name.now c.in_ok-from.from c.in_ok-from.ensures.number c.in_ok-up.up c.in_ok-up.ensures.number
    c.in_err-check_new_namespace.field-0.0 c.in_err-check_new_namespace.ensures)

pub returns-in_err-shown : goal.returns-in_err-shown
returns-in_err-shown c =
    let p = err_from_is_err_and c.from_residual-in_err-shown.result c.from_residual-in_err-shown.ensures.1 in
    rw p.1 (memory_lacked c.args.depot.now c.args.machine.now c.args.ns.now c.args.name.now _ p.2 c.args.machine.now (same_itself c.args.machine.now))

pub returns-in_err-own : goal.returns-in_err-own
returns-in_err-own c =
    let p = err_from_is_err_and c.from_residual-in_err-own.result c.from_residual-in_err-own.ensures.1 in
    rw p.1 (memory_lacked c.args.depot.now c.args.machine.now c.args.ns.now c.args.name.now _ p.2 c.args.machine.now (same_itself c.args.machine.now))

pub returns-in_err-to : goal.returns-in_err-to
returns-in_err-to c =
    let p = err_from_is_err_and c.from_residual-in_err-to.result c.from_residual-in_err-to.ensures.1 in
    rw (p.1, p.2)
    (record {
      cells = refl;
      soft = refl;
      next = refl;
      swaps = refl;
      namespaces = (c.in_err-to.ensures {u = tt}).unchanged;
      known = (c.in_err-to.ensures {u = tt}).same_cells;
      space = refl;
      spare = c.args.machine.now.memory.spare;
      memory = refl;
      sections = refl;
      rows = refl;
      tasks = refl;
    })

pub copy_cells-requires-clause-sound : goal.copy_cells-requires-clause-sound
copy_cells-requires-clause-sound c =
    let m = c.args.machine.now in
    let x = all_seen m c.args.ns.now c.args.name.now c.requires.sound c.in_ok-from.from c.in_ok-from.ensures.number c.in_ok-from.ensures.there c.in_ok-up.up c.in_ok-up.ensures.number c.in_ok-up.ensures.there
    c.in_ok-check_new_namespace.ensures c.in_ok-own.own c.in_ok-own.ensures c.add_ns.new.self (c.in_ok-to.ensures {u = tt}).same_cells (c.in_ok-to.ensures {u = tt}).added in
    with_sound c.args.depot.now m c.args.ns.now c.args.name.now c.add_ns.new.self x

pub copy_cells-requires-clause-new : goal.copy_cells-requires-clause-new
copy_cells-requires-clause-new c =
    let m = c.args.machine.now in
    let x = all_seen m c.args.ns.now c.args.name.now c.requires.sound c.in_ok-from.from c.in_ok-from.ensures.number c.in_ok-from.ensures.there c.in_ok-up.up c.in_ok-up.ensures.number c.in_ok-up.ensures.there
    c.in_ok-check_new_namespace.ensures c.in_ok-own.own c.in_ok-own.ensures c.add_ns.new.self (c.in_ok-to.ensures {u = tt}).same_cells (c.in_ok-to.ensures {u = tt}).added in
    subst (λ (to : ℕ). CanCopy (world_of (record m { spaces = c.add_ns.new.self })) c.in_ok-from.from to) (sym (c.in_ok-to.ensures {u = tt}).number)
    (can_copy c.args.depot.now m c.args.ns.now c.args.name.now c.add_ns.new.self x)

pub drop_ns-requires-clause-more : goal.drop_ns-requires-clause-more
drop_ns-requires-clause-more c =
    let m = c.args.machine.now in
    let x = all_seen m c.args.ns.now c.args.name.now c.requires.sound c.in_ok-from.from c.in_ok-from.ensures.number c.in_ok-from.ensures.there c.in_ok-up.up c.in_ok-up.ensures.number c.in_ok-up.ensures.there
    c.in_ok-check_new_namespace.ensures c.in_ok-own.own c.in_ok-own.ensures c.add_ns.new.self (c.in_ok-to.ensures {u = tt}).same_cells (c.in_ok-to.ensures {u = tt}).added in
    let e = subst (λ (to : ℕ). MakesCopies c.args.depot.now (record m { spaces = c.add_ns.new.self }) c.in_ok-from.from to (Err c.in-Err.fail) c.copy_cells.new.machine) (c.in_ok-to.ensures {u = tt}).number c.in-Err.ensures in
    more_there c.args.depot.now m c.args.ns.now c.args.name.now c.add_ns.new.self x c.in-Err.fail c.copy_cells.new.machine e

pub drop_ns-requires-clause-empty : goal.drop_ns-requires-clause-empty
drop_ns-requires-clause-empty c =
    let m = c.args.machine.now in
    let x = all_seen m c.args.ns.now c.args.name.now c.requires.sound c.in_ok-from.from c.in_ok-from.ensures.number c.in_ok-from.ensures.there c.in_ok-up.up c.in_ok-up.ensures.number c.in_ok-up.ensures.there
    c.in_ok-check_new_namespace.ensures c.in_ok-own.own c.in_ok-own.ensures c.add_ns.new.self (c.in_ok-to.ensures {u = tt}).same_cells (c.in_ok-to.ensures {u = tt}).added in
    let e = subst (λ (to : ℕ). MakesCopies c.args.depot.now (record m { spaces = c.add_ns.new.self }) c.in_ok-from.from to (Err c.in-Err.fail) c.copy_cells.new.machine) (c.in_ok-to.ensures {u = tt}).number c.in-Err.ensures in
    none_inside c.args.depot.now m c.args.ns.now c.args.name.now c.add_ns.new.self x c.in-Err.fail c.copy_cells.new.machine e

pub returns-in-Ok : goal.returns-in-Ok
returns-in-Ok c =
    let m = c.args.machine.now in
    let x = all_seen m c.args.ns.now c.args.name.now c.requires.sound c.in_ok-from.from c.in_ok-from.ensures.number c.in_ok-from.ensures.there c.in_ok-up.up c.in_ok-up.ensures.number c.in_ok-up.ensures.there
    c.in_ok-check_new_namespace.ensures c.in_ok-own.own c.in_ok-own.ensures c.add_ns.new.self (c.in_ok-to.ensures {u = tt}).same_cells (c.in_ok-to.ensures {u = tt}).added in
    let has = subst (λ (to : ℕ). HasMadeCopies c.args.depot.now (record m { spaces = c.add_ns.new.self }) c.in_ok-from.from to c.in-Ok.made c.copy_cells.new.machine) (c.in_ok-to.ensures {u = tt}).number c.in-Ok.ensures in
    subst (λ (shown : List ℕ). HasDone (next_clone (map source_of c.args.depot.now) (world_of m) c.args.ns.now c.args.name.now) 0 m (Clone shown c.in-Ok.made.fresh c.in-Ok.made.patched) c.copy_cells.new.machine) (sym c.in_ok-shown.ensures)
    (was_cloned c.args.depot.now m c.args.ns.now c.args.name.now c.add_ns.new.self x c.in-Ok.made c.copy_cells.new.machine has)

pub returns-in-Err : goal.returns-in-Err
returns-in-Err c =
    let m = c.args.machine.now in
    let x = all_seen m c.args.ns.now c.args.name.now c.requires.sound c.in_ok-from.from c.in_ok-from.ensures.number c.in_ok-from.ensures.there c.in_ok-up.up c.in_ok-up.ensures.number c.in_ok-up.ensures.there
    c.in_ok-check_new_namespace.ensures c.in_ok-own.own c.in_ok-own.ensures c.add_ns.new.self (c.in_ok-to.ensures {u = tt}).same_cells (c.in_ok-to.ensures {u = tt}).added in
    let e = subst (λ (to : ℕ). MakesCopies c.args.depot.now (record m { spaces = c.add_ns.new.self }) c.in_ok-from.from to (Err c.in-Err.fail) c.copy_cells.new.machine) (c.in_ok-to.ensures {u = tt}).number c.in-Err.ensures in
    was_refused c.args.depot.now m c.args.ns.now c.args.name.now c.add_ns.new.self x c.in-Err.fail c.copy_cells.new.machine e
    c.drop_ns.new.self c.drop_ns.ensures.namespaces c.drop_ns.ensures.same_cells
