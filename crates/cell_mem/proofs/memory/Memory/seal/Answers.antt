use Rattle.std.proofs.Common.{◌≡◌, ℕ, List, Bool, true, map, ap, ◌∙◌, arith}
use Rattle.std.specs.Vec.{with_items}
use Rattle.std.proofs.lemmas.List.{with_items_is}
use Rattle.cell_world.specs.Placed.Pages.{filled}
use Rattle.cell_mem.specs.Inside.{is_mark, state_of}
use Rattle.cell_mem.specs.State.{MemoryState}
use Rattle.cell_mem.proofs.Seals.{marks_filled}
use Rattle.cell_mem.proofs.memory.Memory.seal.Goals as goal

pub returns : goal.returns
returns c =
    let i = c.self.inside in
    let at = c.offset-at.result in
    let marks : (with_items i.sealed c.fill.new.items).items ≡ filled i.sealed.items at c.args.width 1 =
    with_items_is i.sealed c.fill.new.items (omega (arith, c.fill.auto.items, c.deref_mut.ensures.len))
    ∙ c.fill.ensures
    ∙ ap (λ (bs : List ℕ). filled bs at c.from.result 1) c.deref_mut.ensures.value
    ∙ ap (λ n. filled i.sealed.items at n 1) c.from.ensures in
    ap (λ (bs : List Bool). let m : MemoryState = record (state_of i) { sealed = bs } in m) (ap (map is_mark) marks ∙ marks_filled i.sealed.items at c.args.width 1)
    ∙ ap (λ (m : MemoryState). let out : MemoryState = record m { sealed = filled m.sealed at c.args.width true } in out) c.self.view_is
    ∙ ap (λ k. let out : MemoryState = record c.args.self.now { sealed = filled c.args.self.now.sealed k c.args.width true } in out) c.offset-at.ensures.value
