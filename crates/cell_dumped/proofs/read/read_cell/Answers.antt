use Rattle.std.proofs.Common.{◌≡◌, refl, arith, List, ℕ, map, length}
use Rattle.std.proofs.lemmas.List.{length-map}
use Rattle.cell_dumped.specs.Readings.{cell_said}
use Rattle.cell_dumped.proofs.Counts.{four_words}
use Rattle.cell_dumped.proofs.read.read_cell.Goals as goal

pub returns-in_default : goal.returns-in_default
returns-in_default c =
    let words : List (List ℕ) = map (λ word. word.now) c.args.rest.now in
    let size : length words ≡ length c.args.rest.now = length-map c.args.rest.now (λ word. word.now) in
    four_words cell_said words refl (λ a. refl) (λ a b. refl) (λ a b d. refl) (omega (arith, size, c.in_default.len_below))
