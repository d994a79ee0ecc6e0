use Rattle.std.proofs.Common.{◌≡◌, ap, sym, ◌∙◌, subst, List, ◌++◌}
use Rattle.std.specs.Prelude.{IfOk, flat_map}
use Rattle.std.proofs.lemmas.Grind.{flat_map-append}
use Rattle.cell_world.specs.declared.state.NewCell.{NewCell}
use Rattle.cell_world.specs.declared.state.Placed.{Placed}
use Rattle.cell_world.specs.Kept.{placed_in}
use Rattle.cell_world.specs.World.{attached}
use Rattle.cell_num.proofs.Elements.{In-left, In-right}
use Rattle.cell_unload.proofs.places.places_of.Goals as goal

pub add_cells-requires : goal.add_cells-requires
add_cells-requires c = λ d i. c.requires d (In-left c.args.present.now c.args.fresh.now d i)

pub add_cells-requires-2 : goal.add_cells-requires-2
add_cells-requires-2 c = λ d i. c.requires d (In-right c.args.present.now c.args.fresh.now d i)

pub returns : goal.returns
returns c =
    let found : c.add_cells-2.new.into.items ≡ flat_map (λ c. placed_in (attached c)) (c.args.present.now ++ c.args.fresh.now) =
    c.in_ok-add_cells-2.ensures
    ∙ (ap (λ (ps : List Placed). ps ++ flat_map (λ (c : NewCell). placed_in (attached c)) c.args.fresh.now)
    (c.in_ok-add_cells.ensures ∙ ap (λ (ps : List Placed). ps ++ flat_map (λ (c : NewCell). placed_in (attached c)) c.args.present.now) (c.in_ok-sections.ensures {u = tt}).items)
    ∙ sym (flat_map-append (λ (c : NewCell). placed_in (attached c)) c.args.present.now c.args.fresh.now)) in
    subst (λ (ps : List Placed). IfOk c.of.result (λ places. places ≡ ps)) found c.of.ensures
