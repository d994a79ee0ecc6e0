use Rattle.std.proofs.Common.{◌≡◌, ◌+◌, ℕ, List, get_or, arith, sym, ap, ◌∙◌, subst}
use Rattle.cell_file.specs.Cover.{IsSkip, reach}
use Rattle.cell_file.proofs.skips.Skips.at.Goals as goal

pub returns-in-Some : goal.returns-in-Some
returns-in-Some c =
    let skips = c.args.self.now in
    let at = c.in-Some.at in
    let inside = c.in-Some.ensures {u = tt} in
    let there : skips.from + at ≡ c.args.place = omega (arith, inside.0, inside.1) in
    let count : c.reach.result ≡ reach (get_or skips.counts.items at 0) = c.reach.ensures ∙ ap reach (c.count_of.ensures ∙ ap (λ (xs : List ℕ). get_or xs at 0) c.deref.ensures.value) in
    subst (λ (p : ℕ). IsSkip skips.bytes.now p c.reach.result) there
    (subst (λ (n : ℕ). IsSkip skips.bytes.now (skips.from + at) n) (sym count) (skips.are at))
