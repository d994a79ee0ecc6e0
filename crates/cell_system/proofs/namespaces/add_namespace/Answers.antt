use Rattle.std.proofs.Common.{refl, sym, ◌∙◌, ap, subst, ℕ, List, [], ◌∷◌, ◌++◌, Some}
use Rattle.std.proofs.lemmas.Result.{err_from_is_err_and}
use Rattle.cell_world.specs.declared.reply.Reply.TheVariants.{Ns}
use Rattle.cell_world.specs.declared.state.Namespace.{Namespace}
use Rattle.cell_machine.specs.declared.machine.Machine.{Machine}
use Rattle.cell_world.specs.Commands.NsCommand.{next_ns}
use Rattle.cell_machine.specs.Does.{HasDone}
use Rattle.cell_machine.specs.Machine.{world_of}
use Rattle.cell_system.proofs.MoreNamespaces.{check_failed, comes_to, has_namespace, memory_lacked, parent_failed}
use Rattle.cell_system.proofs.namespaces.add_namespace.Goals as goal

pub returns-in_err-up : goal.returns-in_err-up
returns-in_err-up c =
    let p = err_from_is_err_and c.from_residual.result c.from_residual.ensures.1 in
    rw (p.1, p.2) (parent_failed c.args.machine.now c.args.name.now c.args.parent.now c.in_err-up.field-0.0 c.in_err-up.ensures.number)

pub returns-in_err-check_new_namespace : goal.returns-in_err-check_new_namespace
returns-in_err-check_new_namespace c =
    let p = err_from_is_err_and c.from_residual-in_err-check_new_namespace.result c.from_residual-in_err-check_new_namespace.ensures.1 in
    rw (p.1, p.2) (check_failed c.args.machine.now c.args.name.now c.args.parent.now c.in_ok-up.up c.in_ok-up.ensures.number c.in_err-check_new_namespace.field-0.0 c.in_err-check_new_namespace.ensures)

pub returns-in_err-shown : goal.returns-in_err-shown
returns-in_err-shown c =
    let p = err_from_is_err_and c.from_residual-in_err-shown.result c.from_residual-in_err-shown.ensures.1 in
    rw p.1 (memory_lacked c.args.machine.now c.args.name.now c.args.parent.now _ p.2)

pub returns-in_err-own : goal.returns-in_err-own
returns-in_err-own c =
    let p = err_from_is_err_and c.from_residual-in_err-own.result c.from_residual-in_err-own.ensures.1 in
    rw p.1 (memory_lacked c.args.machine.now c.args.name.now c.args.parent.now _ p.2)

pub returns-in_err-add_ns : goal.returns-in_err-add_ns
returns-in_err-add_ns c =
    let p = err_from_is_err_and c.from_residual-in_err-add_ns.result c.from_residual-in_err-add_ns.ensures.1 in
    rw (p.1, p.2)
    (record {
      cells = refl;
      soft = refl;
      next = refl;
      swaps = refl;
      namespaces = (c.in_err-add_ns.ensures {u = tt}).unchanged;
      known = (c.in_err-add_ns.ensures {u = tt}).same_cells;
      space = refl;
      spare = c.args.machine.now.memory.spare;
      memory = refl;
      sections = refl;
      rows = refl;
      tasks = refl;
    })

pub returns : goal.returns
returns c =
    let m = c.args.machine.now in
    let name = c.args.name.now in
    let parent = c.args.parent.now in
    let added = (c.in_ok-add_ns.ensures {u = tt}).added ∙ ap (λ (own : List ℕ). m.spaces.namespaces ++ (let s : Namespace = record { name = own; parent = Some c.in_ok-up.up } in s) ∷ []) c.in_ok-own.ensures in
    let new : Machine = record m { spaces = c.add_ns.new.self } in
    subst (λ (x : List ℕ). HasDone (next_ns (world_of m) name parent) 0 m (Ns x) new) (sym c.in_ok-shown.ensures)
    (has_namespace m c.requires name parent c.in_ok-up.up c.add_ns.new.self (c.in_ok-add_ns.ensures {u = tt}).same_cells added (comes_to m name parent c.in_ok-up.up c.in_ok-up.ensures.number c.in_ok-check_new_namespace.ensures))
