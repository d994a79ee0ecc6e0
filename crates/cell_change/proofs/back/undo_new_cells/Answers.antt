use Rattle.std.proofs.Common.{◌∙◌, ap}
use Rattle.cell_machine.specs.declared.machine.Machine.{Machine}
use Rattle.cell_mem.specs.State.{MemoryState}
use Rattle.cell_change.proofs.Return.GoneBack.{can_go_back, can_rewire_back, rewired_back, taken_maps, taken_patches, undone_like, went_back}
use Rattle.cell_change.proofs.back.undo_new_cells.Goals as goal

pub undo-requires : goal.undo-requires
undo-requires c = c.requires.begun

pub rewire-requires : goal.rewire-requires
rewire-requires c =
    let x = c.requires in
    can_rewire_back x.added c.args.back.now c.args.fresh.now x.can c.args.machine.now.graph (ap (λ (n : Machine). n.graph) x.like) _ _ _ c.deref.ensures.value c.deref-2.ensures.value c.deref-3.ensures.value

pub take_away-requires : goal.take_away-requires
take_away-requires c =
    let x = c.requires in
    can_go_back x.added c.args.back.now c.args.fresh.now x.can x.kept _ (undone_like x.added.memory c.args.machine.now.memory c.undo.new.self x.rest x.gives_back c.undo.ensures.back)
    (rewired_back x.added c.args.back.now c.args.fresh.now x.can c.args.machine.now.graph (ap (λ (n : Machine). n.graph) x.like) _ _ _ c.deref.ensures.value c.deref-2.ensures.value c.deref-3.ensures.value _
    (c.rewire.ensures.rows (can_rewire_back x.added c.args.back.now c.args.fresh.now x.can c.args.machine.now.graph (ap (λ (n : Machine). n.graph) x.like) _ _ _ c.deref.ensures.value c.deref-2.ensures.value c.deref-3.ensures.value)))
    (c.rewire.ensures.sections ∙ ap (λ (n : Machine). n.graph.sections) x.like)
    (ap (λ (n : Machine). n.cells.items) x.like) (ap (λ (n : Machine). n.soft.items) x.like) (ap (λ (n : Machine). n.spaces.cells) x.like) (ap (λ (n : Machine). n.space) x.like)

pub returns-clause-same : goal.returns-clause-same
returns-clause-same c x =
    went_back x.added c.args.back.now c.args.fresh.now x.can x.kept _ (undone_like x.added.memory c.args.machine.now.memory c.undo.new.self x.rest x.gives_back c.undo.ensures.back)
    (rewired_back x.added c.args.back.now c.args.fresh.now x.can c.args.machine.now.graph (ap (λ (n : Machine). n.graph) x.like) _ _ _ c.deref.ensures.value c.deref-2.ensures.value c.deref-3.ensures.value _
    (c.rewire.ensures.rows (can_rewire_back x.added c.args.back.now c.args.fresh.now x.can c.args.machine.now.graph (ap (λ (n : Machine). n.graph) x.like) _ _ _ c.deref.ensures.value c.deref-2.ensures.value c.deref-3.ensures.value)))
    (c.rewire.ensures.sections ∙ ap (λ (n : Machine). n.graph.sections) x.like)
    (ap (λ (n : Machine). n.cells.items) x.like) (ap (λ (n : Machine). n.soft.items) x.like) (ap (λ (n : Machine). n.spaces.cells) x.like) (ap (λ (n : Machine). n.space) x.like)
    c.take_away.new.machine c.take_away.ensures x.laid c.laid_out.ensures
    (ap (λ (n : Machine). n.next) x.like) (ap (λ (n : Machine). n.swaps) x.like) (ap (λ (n : Machine). n.spaces.namespaces) x.like) (ap (λ (n : Machine). n.tasks) x.like)

pub returns-clause-patches : goal.returns-clause-patches
returns-clause-patches c = taken_patches _ _ _ c.take_away.ensures ∙ ap (λ (s : MemoryState). s.patches) c.undo.ensures.back

pub returns-clause-maps : goal.returns-clause-maps
returns-clause-maps c = taken_maps _ _ _ c.take_away.ensures ∙ ap (λ (s : MemoryState). s.maps) c.undo.ensures.back
