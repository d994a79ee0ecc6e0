use Rattle.std.proofs.Common.{◌≡◌, ◌<◌, ◌≤◌, refl, inl, inr, arith, rules, tests, List, ℕ, map, length}
use Rattle.std.proofs.lemmas.List.{length-map}
use Rattle.cell_dumped.specs.Readings.{place_said}
use Rattle.cell_dumped.proofs.Counts.{three_words}
use Rattle.cell_dumped.proofs.read.read_place.Goals as goal
use Rattle.cell_dumped.proofs.read.read_place.Goals.{in_default-via-then-rest-lt3, in_default-via-else-rest-lt3+else-rest-lt4}

pub returns-in_default : goal.returns-in_default
returns-in_default c =
    let words : List (List ℕ) = map (λ word. word.now) c.args.rest.now in
    let size : length words ≡ length c.args.rest.now = length-map c.args.rest.now (λ word. word.now) in
    three_words place_said words refl (λ a. refl) (λ a b. refl) (λ a b d e rest. refl) (elim c.in_default.branch [
      | in_default-via-then-rest-lt3 w ↦ let low : length c.args.rest.now < 3 = search (rules, tests) in inl (omega (arith, size, low))
      | in_default-via-else-rest-lt3+else-rest-lt4 w ↦ let high : 4 ≤ length c.args.rest.now = search (rules, tests) in inr (omega (arith, size, high))
    ])
