use Rattle.std.specs.Prelude.{◌≡◌, ◌==◌}
use Rattle.cell_asm.proofs.Facts.{cond, Some, None, sym, ap, ◌∙◌, rules, KeyMade as Made, number_of}
use Rattle.cell_asm.proofs.SymbolLemmas.{taken, same_test}
use Rattle.cell_asm.proofs.ListLemmas.{same_of}
use Rattle.cell_asm.proofs.symbol.Numbering.add_made.Goals as goal

pub returns-in_ok-insert-clause-made : goal.returns-in_ok-insert-clause-made
returns-in_ok-insert-clause-made c = λ q.
    let k = c.args.made in
    let absent : number_of c.args.self.now (Made c.args.made) ≡ None = search rules in
    c.in_ok-insert.ensures.updates.0 q
    ∙ ap (λ b. cond b (Some c.args.number) (number_of c.args.self.now (Made q))) (same_test k q)
    ∙ taken (k == q) c.args.number (number_of c.args.self.now (Made q)) (λ t. ap (λ n. number_of c.args.self.now (Made n)) (sym (same_of k q t)) ∙ absent)
