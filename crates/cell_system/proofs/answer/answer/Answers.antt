use Rattle.std.proofs.Common.{◌≡◌, sym, ◌∙◌, ap₂, subst, ℕ, ◌<◌, true, List, length, map}
use Rattle.cell_world.specs.declared.command.Command.{Command}
use Rattle.cell_world.specs.declared.command.SwapItem.{SwapItem}
use Rattle.cell_world.specs.declared.command.Command.TheVariants.{Clone, Find, Load, Ns, Spawn, Swap}
use Rattle.cell_world.specs.Gather.{source_of}
use Rattle.cell_world.specs.Next.{outcome_of}
use Rattle.cell_machine.specs.Does.{Does}
use Rattle.cell_machine.specs.Machine.{world_of}
use Rattle.cell_system.specs.Step.{counts_of}
use Rattle.cell_script.specs.Script.{is_said}
use Rattle.cell_system.proofs.SwapSaid.{said_swap}
use Rattle.cell_system.proofs.Steps.{shows_deps, shows_dump, shows_dump_all, shows_find, shows_map, shows_tasks, shows_users}
use Rattle.cell_system.proofs.answer.answer.Goals as goal

pub returns-in-Ns : goal.returns-in-Ns
returns-in-Ns c =
    subst (λ (k : Command). Does (outcome_of (map source_of c.args.depot.now) (world_of c.args.machine.now) k) (counts_of (map source_of c.args.depot.now) (world_of c.args.machine.now) k) c.args.machine.now c.add_namespace.result c.add_namespace.new.machine)
    (ap₂ (λ (name parent : List ℕ). let k : Command = Ns name parent in k) c.bytes.ensures c.bytes-in-Ns.ensures ∙ sym c.in-Ns.is) c.add_namespace.ensures

pub returns-in-Load : goal.returns-in-Load
returns-in-Load c =
    subst (λ (k : Command). Does (outcome_of (map source_of c.args.depot.now) (world_of c.args.machine.now) k) (counts_of (map source_of c.args.depot.now) (world_of c.args.machine.now) k) c.args.machine.now c.load.result c.load.new.machine)
    (ap₂ (λ (ns stem : List ℕ). let k : Command = Load ns stem in k) c.bytes-in-Load.ensures c.bytes-in-Load-2.ensures ∙ sym c.in-Load.is)
    c.load.ensures

pub returns-in-Spawn : goal.returns-in-Spawn
returns-in-Spawn c =
    subst (λ (k : Command). Does (outcome_of (map source_of c.args.depot.now) (world_of c.args.machine.now) k) (counts_of (map source_of c.args.depot.now) (world_of c.args.machine.now) k) c.args.machine.now c.spawn.result c.spawn.new.machine)
    (ap₂ (λ (ns symbol : List ℕ). let k : Command = Spawn ns symbol c.in-Spawn.arg in k) c.bytes-in-Spawn.ensures c.bytes-in-Spawn-2.ensures ∙ sym c.in-Spawn.is) c.spawn.ensures

pub returns-in-Find : goal.returns-in-Find
returns-in-Find c =
    subst (λ (k : Command). Does (outcome_of (map source_of c.args.depot.now) (world_of c.args.machine.now) k) (counts_of (map source_of c.args.depot.now) (world_of c.args.machine.now) k) c.args.machine.now c.find.result c.args.machine.now)
    (ap₂ (λ (ns symbol : List ℕ). let k : Command = Find ns symbol in k) c.bytes-in-Find.ensures c.bytes-in-Find-2.ensures ∙ sym c.in-Find.is)
    (shows_find c.args.machine.now c.requires.sound _ _ c.find.result c.find.ensures)

pub returns-in-Tasks : goal.returns-in-Tasks
returns-in-Tasks c =
    subst (λ (k : Command). Does (outcome_of (map source_of c.args.depot.now) (world_of c.args.machine.now) k) (counts_of (map source_of c.args.depot.now) (world_of c.args.machine.now) k) c.args.machine.now c.tasks.result c.args.machine.now)
    (sym c.in-Tasks.is) (shows_tasks c.args.machine.now c.requires.sound c.tasks.result c.tasks.ensures)

pub returns-in-Deps : goal.returns-in-Deps
returns-in-Deps c =
    subst (λ (k : Command). Does (outcome_of (map source_of c.args.depot.now) (world_of c.args.machine.now) k) (counts_of (map source_of c.args.depot.now) (world_of c.args.machine.now) k) c.args.machine.now c.deps.result c.args.machine.now)
    (sym c.in-Deps.is) (shows_deps c.args.machine.now c.requires.sound c.in-Deps.cell c.deps.result c.deps.ensures)

pub returns-in-Users : goal.returns-in-Users
returns-in-Users c =
    subst (λ (k : Command). Does (outcome_of (map source_of c.args.depot.now) (world_of c.args.machine.now) k) (counts_of (map source_of c.args.depot.now) (world_of c.args.machine.now) k) c.args.machine.now c.users.result c.args.machine.now)
    (sym c.in-Users.is) (shows_users c.args.machine.now c.requires.sound c.in-Users.cell c.users.result c.users.ensures)

pub returns-in-Map : goal.returns-in-Map
returns-in-Map c =
    subst (λ (k : Command). Does (outcome_of (map source_of c.args.depot.now) (world_of c.args.machine.now) k) (counts_of (map source_of c.args.depot.now) (world_of c.args.machine.now) k) c.args.machine.now c.map.result c.args.machine.now)
    (sym c.in-Map.is) (shows_map c.args.machine.now c.requires.sound c.map.result c.map.ensures)

pub returns-in-Dump : goal.returns-in-Dump
returns-in-Dump c =
    subst (λ (k : Command). Does (outcome_of (map source_of c.args.depot.now) (world_of c.args.machine.now) k) (counts_of (map source_of c.args.depot.now) (world_of c.args.machine.now) k) c.args.machine.now c.dump.result c.args.machine.now)
    (sym c.in-Dump.is) (shows_dump c.args.machine.now c.requires.sound c.in-Dump.cell c.in-Dump.section c.dump.result c.dump.ensures)

pub returns-in-DumpAll : goal.returns-in-DumpAll
returns-in-DumpAll c =
    subst (λ (k : Command). Does (outcome_of (map source_of c.args.depot.now) (world_of c.args.machine.now) k) (counts_of (map source_of c.args.depot.now) (world_of c.args.machine.now) k) c.args.machine.now c.dump_all.result c.args.machine.now)
    (sym c.in-DumpAll.is) (shows_dump_all c.args.machine.now c.requires.sound c.dump_all.result c.dump_all.ensures)

pub swap-requires-clause-some : goal.swap-requires-clause-some
swap-requires-clause-some c =
    subst (λ (items : List SwapItem). 0 < length items) (sym c.as_slice-in-Swap-2.ensures)
    (said_swap c.in-Swap.items c.in-Swap.reexport c.in-Swap.strict c.in-Swap.routines c.in-Swap.budget (subst (λ (k : Command). is_said k ≡ true) c.in-Swap.is c.requires.said))

pub returns-in-Swap : goal.returns-in-Swap
returns-in-Swap c =
    subst (λ (k : Command). Does (outcome_of (map source_of c.args.depot.now) (world_of c.args.machine.now) k) (counts_of (map source_of c.args.depot.now) (world_of c.args.machine.now) k) c.args.machine.now c.swap.result c.swap.new.machine)
    (ap₂ (λ (items : List SwapItem) (routines : List (List ℕ)). let k : Command = Swap items c.in-Swap.reexport c.in-Swap.strict routines c.in-Swap.budget in k) c.as_slice-in-Swap-2.ensures c.as_slice-in-Swap.ensures ∙ sym c.in-Swap.is)
    c.swap.ensures

pub returns-in-Recover : goal.returns-in-Recover
returns-in-Recover c =
    subst (λ (k : Command). Does (outcome_of (map source_of c.args.depot.now) (world_of c.args.machine.now) k) (counts_of (map source_of c.args.depot.now) (world_of c.args.machine.now) k) c.args.machine.now c.recover.result c.recover.new.machine)
    (sym c.in-Recover.is) c.recover.ensures

pub returns-in-Rebuild : goal.returns-in-Rebuild
returns-in-Rebuild c =
    subst (λ (k : Command). Does (outcome_of (map source_of c.args.depot.now) (world_of c.args.machine.now) k) (counts_of (map source_of c.args.depot.now) (world_of c.args.machine.now) k) c.args.machine.now c.rebuild.result c.rebuild.new.machine)
    (sym c.in-Rebuild.is) c.rebuild.ensures

pub returns-in-Clone : goal.returns-in-Clone
returns-in-Clone c =
    subst (λ (k : Command). Does (outcome_of (map source_of c.args.depot.now) (world_of c.args.machine.now) k) (counts_of (map source_of c.args.depot.now) (world_of c.args.machine.now) k) c.args.machine.now c.clone.result c.clone.new.machine)
    (ap₂ (λ (ns name : List ℕ). let k : Command = Clone ns name in k) c.bytes-in-Clone.ensures c.bytes-in-Clone-2.ensures ∙ sym c.in-Clone.is)
    c.clone.ensures
