use Rattle.std.proofs.Common.{ap, arith, ◌∙◌, List, ◌==◌}
use Rattle.std.specs.Prelude.{find, option_map, unwrap_or}
use Rattle.cell_object.specs.Parts.{is_defined}
use Rattle.cell_world.specs.declared.state.SecPlace.{SecPlace}
use Rattle.cell_relinked.specs.Fit.{placed_in}
use Rattle.cell_relinked.proofs.InsideTargets.{inside_target}
use Rattle.cell_relinked.proofs.scene.Scene.own_target.Goals as goal

pub overflow_add-result : goal.overflow_add-result
overflow_add-result c =
    let section = c.in-Inside.section in
    let start = c.requires.fit.low.starts section in
    let value = c.requires.fit.low.values c.args.symbol.now c.requires.there (ap is_defined c.in-Inside.is) in
    let same = c.start_in-start.ensures ∙ ap (λ (ps : List SecPlace). unwrap_or (option_map (λ p. p.start) (find (λ p. p.section == section) ps)) 0) c.as_slice.ensures in
    omega (arith, same, start, value)

pub returns-in-Inside : goal.returns-in-Inside
returns-in-Inside c =
    let section = c.in-Inside.section in
    inside_target (placed_in c.args.self.now.objects.now c.args.cell.now) c.args.symbol.now section c.start_in-start.result c.in-Inside.is
    (c.start_in-start.ensures ∙ ap (λ (ps : List SecPlace). unwrap_or (option_map (λ p. p.start) (find (λ p. p.section == section) ps)) 0) c.as_slice.ensures)
