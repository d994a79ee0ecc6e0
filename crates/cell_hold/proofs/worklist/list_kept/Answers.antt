use Rattle.std.proofs.Common.{rules, ◌∙◌, ◌&&◌, ap, not, List, sym, subst, ℕ}
use Rattle.std.specs.List.{list_any}
use Rattle.std.proofs.lemmas.List.Sorted.{IsNonDecreasingBy-from_sort_by_key}
use Rattle.cell_num.specs.declared.ids.CellId.{CellId}
use Rattle.cell_world.specs.declared.state.Placed.{Placed}
use Rattle.cell_hold.specs.Adds.{Spreads, has_cell}
use Rattle.cell_hold.specs.Reached.{reaches_anew, reaches_on}
use Rattle.cell_hold.specs.Roots.{HasRoom}
use Rattle.cell_hold.specs.Uses.{Uses}
use Rattle.cell_hold.proofs.Keeping.{AddsKept, kept_after}
use Rattle.cell_hold.proofs.Spreading.{first_of}
use Rattle.cell_hold.proofs.worklist.list_kept.Goals as goal

pub returns-clause-kept : goal.returns-clause-kept
returns-clause-kept c =
    let graph = c.args.graph.now in
    let memory = c.args.memory.now in
    let places = c.args.places.now in
    let attached = c.add_attached.new.into.items in
    let others = c.take.new.self.items in
    let held = c.add_held.new.into.items in
    let used = c.add_used.new.into.items in
    let room = c.add_used.ensures.room ∙ c.add_held.ensures.room in
    let first = first_of attached held used c.add_held.ensures.added.more c.add_used.ensures.uses.more c.len-attached.result c.len-attached.ensures c.add_held.ensures.added.is c.add_used.ensures.uses.is in
    let added : AddsKept graph memory places c.args.roots.now c.add_attached.new.into.room attached c.spread.new.into.items = record {
      others = others;
      held = held;
      used = used;
      unfound = λ p. c.take.ensures.others p ∙ ap (λ (ps : List Placed). list_any (λ s. not (has_cell attached s.key.cell.0) && p s) ps) c.all.ensures;
      holds = c.add_held.ensures.added;
      uses = subst (λ (r : ℕ). Uses graph.rows others r held used) c.add_held.ensures.room c.add_used.ensures.uses;
      spreads =
          subst (λ (r : ℕ). Spreads (reaches_on graph memory places others) (reaches_anew graph memory places others attached) r r used c.spread.new.into.items) room
          (subst (λ (cells : List CellId). Spreads (reaches_on graph memory places others) (reaches_anew graph memory places others cells) c.add_used.new.into.room c.add_used.new.into.room used c.spread.new.into.items) first
          c.spread.ensures.spread);
    } in
    kept_after graph memory places c.args.roots.now c.requires.targets _ _
    (subst (HasRoom places c.args.roots.now) (sym c.none-found.ensures.room) c.requires.room)
    _ _ _ _ c.none-found.ensures.items c.add_attached.ensures.room c.add_attached.ensures.added
    (subst (λ (cells : List CellId). AddsKept graph memory places c.args.roots.now c.add_attached.new.into.room attached cells) (sym c.into_parts-kept.ensures.items) added)
    c.sort_unstable_by_key.ensures.permutation (IsNonDecreasingBy-from_sort_by_key (λ (x : CellId). x.0) _ c.sort_unstable_by_key.ensures.sorted (λ a r q k. search rules))
