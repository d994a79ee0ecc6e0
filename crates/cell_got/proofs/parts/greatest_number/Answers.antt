use Rattle.std.proofs.Common.{◌≤◌, ◌<◌, ℕ, List, length, sym, ap, subst, arith, ◌∙◌}
use Rattle.std.specs.Prelude.{fold, max}
use Rattle.std.proofs.lemmas.List.{take_all}
use Rattle.cell_object.specs.declared.object.Section.{Section}
use Rattle.cell_got.proofs.Numbered.{greatest_below}
use Rattle.cell_got.proofs.parts.greatest_number.Goals as goal

pub returns-clause-below : goal.returns-clause-below
returns-clause-below c =
    let xs = c.args.sections.now in
    let end : length xs ≤ c.loop-index.index = omega arith in
    let all = take_all c.loop-index.index xs end in
    subst (λ (n : ℕ). n < 65535) (sym (c.loop-index.invariant ∙ ap (λ (ss : List Section). fold (λ (m : ℕ) (t : Section). max m t.number) 0 ss) all))
    (greatest_below xs 0 65535 (omega arith) c.requires)
