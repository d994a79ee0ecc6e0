use Rattle.std.proofs.Common.{◌+◌, ◌==◌, sym, ap, ◌∙◌, List, ℕ, position, take, Some}
use Rattle.std.proofs.lemmas.List.{take_rest}
use Rattle.cell_dumped.proofs.Around.{around_more, around_one}
use Rattle.cell_dumped.proofs.word.around.Goals as goal

pub returns-in-None : goal.returns-in-None
returns-in-None c =
    let word = c.args.word.now in
    let place = c.in_ok-place.place in
    let rest = take_rest word (place + 1) in
    ap (λ (r : List ℕ). Some (take place word, r)) rest
    ∙ around_one c.args.byte word place (sym c.in_ok-place.ensures.place) (sym (c.in-None.ensures.place ∙ ap (position (λ b. b == c.args.byte)) rest))

pub returns-in-Some : goal.returns-in-Some
returns-in-Some c =
    let word = c.args.word.now in
    let place = c.in_ok-place.place in
    around_more c.args.byte word place c.in-Some.field-0 (sym c.in_ok-place.ensures.place) (sym (c.in-Some.ensures.place ∙ ap (position (λ b. b == c.args.byte)) (take_rest word (place + 1))))
