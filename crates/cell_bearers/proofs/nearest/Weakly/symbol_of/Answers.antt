use Rattle.std.proofs.Common.{◌∙◌, ap, sym}
use Rattle.std.specs.Prelude.{option_map, position}
use Rattle.cell_object.specs.declared.object.Object.{Object}
use Rattle.cell_bearers.specs.Found.{at_place, is_weakly}
use Rattle.cell_bearers.proofs.nearest.Weakly.symbol_of.Goals as goal

pub returns-in-Some : goal.returns-in-Some
returns-in-Some c =
    ap (option_map (at_place c.args.place))
    (sym c.in-Some.is ∙ (c.weak_symbol.ensures ∙ ap (position (is_weakly c.args.self.now.name.now)) (c.as_slice.ensures ∙ ap (λ (o : Object). o.symbols) c.object_of-object.ensures)))

pub returns-in-None : goal.returns-in-None
returns-in-None c =
    ap (option_map (at_place c.args.place))
    (sym c.in-None.is ∙ (c.weak_symbol.ensures ∙ ap (position (is_weakly c.args.self.now.name.now)) (c.as_slice.ensures ∙ ap (λ (o : Object). o.symbols) c.object_of-object.ensures)))
