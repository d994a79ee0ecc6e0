use Rattle.std.proofs.Common.{◌≡◌, ◌∙◌, ◌++◌, ◌∷◌, [], true, ap, sym}
use Rattle.cell_world.specs.World.{Alias}
use Rattle.cell_world.specs.Names.{has_name}
use Rattle.cell_space.specs.Rows.{are_apart}
use Rattle.cell_space.proofs.Apart.{free_before, take_next}
use Rattle.cell_space.proofs.names.NameRows.copy.Goals as goal

pub add-requires : goal.add-requires
add-requires c =
    let apart : are_apart c.args.self.now ≡ true = sym (ap are_apart c.self.view_is) ∙ c.self.invariant in
    ap (λ rows. has_name rows c.at-symbol.result.0.now) c.loop-place.invariant
    ∙ free_before c.args.self.now c.loop-place.place (record { name = c.at-symbol.result.0.now; symbol = c.at-symbol.result.1 }) apart c.at-symbol.ensures

pub loop-place-preserved : goal.loop-place-preserved
loop-place-preserved c =
    let row : Alias = record { name = c.at-symbol.result.0.now; symbol = c.at-symbol.result.1 } in
    c.in_ok-add.ensures.added
    ∙ ap (λ rows. rows ++ row ∷ []) c.loop-place.invariant
    ∙ sym (take_next c.args.self.now c.loop-place.place row c.at-symbol.ensures)
