use Rattle.std.proofs.Common.{◌≡◌, sym, ◌∙◌, ap, subst, ℕ, Bor, List, map}
use Rattle.std.specs.Prelude.{IfOk, filter, is_some}
use Rattle.cell_machine.specs.Machine.{world_of}
use Rattle.cell_recover.specs.Rebuild.{is_held_by}
use Rattle.cell_space.specs.Joined.{placed_of}
use Rattle.cell_world.specs.Commands.Recovery.{rebuild_of}
use Rattle.cell_world.specs.World.{is_attached}
use Rattle.cell_task.specs.State.{seen_as}
use Rattle.cell_world.specs.declared.state.NewCell.{NewCell}
use Rattle.cell_commands.proofs.Holds.{rebuilt_are}
use Rattle.cell_commands.proofs.HeldCells.{some_words}
use Rattle.cell_commands.proofs.AttachedCells.{all_ordered}
use Rattle.cell_commands.proofs.recovering.held_cells.Goals as goal

pub words_of-requires : goal.words_of-requires
words_of-requires c = ap is_some c.requires.live

pub plan_rebuild-requires : goal.plan_rebuild-requires
plan_rebuild-requires c = all_ordered c.args.machine.now c.requires.sound c.in_ok-cells.cells.items (c.in_ok-cells.ensures {u = tt}) c.deref.result.now c.deref.ensures.value

pub returns : goal.returns
returns c =
    let m = c.args.machine.now in
    let t = seen_as c.args.number c.args.task.now in
    let words = some_words m.memory.regions t _ _ c.requires.live (c.in_ok-words_of.ensures {u = tt}).words in
    let held : filter (is_held_by c.args.task.now.root.0 c.deref-2.result.now) (map (λ x. x.now) c.deref.result.now) ≡ map placed_of (rebuild_of (world_of m) t) =
    ap (λ (cs : List (Bor NewCell)). filter (is_held_by c.args.task.now.root.0 c.deref-2.result.now) (map (λ x. x.now) cs)) c.deref.ensures.value
    ∙ (ap (filter (is_held_by c.args.task.now.root.0 c.deref-2.result.now)) (c.in_ok-cells.ensures {u = tt})
    ∙ (ap (λ (ws : List ℕ). filter (is_held_by c.args.task.now.root.0 ws) (map placed_of (filter (λ d. is_attached d.standing) (world_of m).cells))) (c.deref-2.ensures.value ∙ sym words)
    ∙ rebuilt_are (world_of m) c.requires.sound.coherent.ready.cell_order t)) in
    subst (λ (ps : List NewCell). IfOk c.plan_rebuild.result (λ items. map (λ x. x.now) items.items ≡ ps)) held c.plan_rebuild.ensures
