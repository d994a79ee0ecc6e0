use Rattle.std.specs.Prelude.{◌++◌}
use Rattle.cell_asm.proofs.Facts.{map, is_some, not, sym, ap, ◌∙◌, KeyNamed as Named, bind_given, known, number_of, keys_with, local_in, locals_in, other_in}
use Rattle.cell_asm.proofs.SymbolLemmas.{mention_known, mention_new}
use Rattle.cell_asm.proofs.symbol.Symbols.add_mention.Goals as goal

pub returns-in_ok-add : goal.returns-in_ok-add
returns-in_ok-add c = λ names h.
    let kept = c.args.kept.now in
    mention_new c.args.self.now c.add.new.self kept names c.args.name.now c.again.result c.get-spot.result c.bind_of.result
    (ap (λ n. is_some (number_of c.args.self.now.numbers (Named n))) (sym c.again.ensures) ∙ ap is_some (sym c.get.ensures) ∙ c.is_none.ensures ∙ ap not c.if-is_none.true)
    c.again.ensures (c.get-spot.ensures ∙ ap (known kept.spots) c.bytes-text.ensures)
    (c.bind_of.ensures ∙ ap bind_given (c.get-binding.ensures ∙ ap (known kept.bindings) c.bytes-text.ensures)) h
    (c.in_ok-add.ensures (keys_with kept names) (map (local_in kept) (locals_in kept kept.labels.items) ++ map (other_in kept) names) h)

pub returns-else-is_none : goal.returns-else-is_none
returns-else-is_none c = λ names h.
    mention_known c.args.self.now c.args.kept.now names c.args.name.now
    (ap (λ n. is_some (number_of c.args.self.now.numbers (Named n))) (sym c.again.ensures) ∙ ap is_some (sym c.get.ensures) ∙ c.is_none.ensures ∙ ap not c.if-is_none.false) h
