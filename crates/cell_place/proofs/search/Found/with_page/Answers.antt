use Rattle.std.proofs.Common.{◌≡◌, ◌+◌, ◌<◌, Bool, true, false, ◌∙◌, List, ℕ, length, get_or, arith, length-drop, not, drop}
use Rattle.std.proofs.lemmas.List.{get_or_default}
use Rattle.std.proofs.lemmas.List.Sums.{prefix_len-le-length}
use Rattle.cell_place.proofs.Table.{taken_page, free_page}
use Rattle.cell_place.proofs.search.Found.with_page.Goals as goal

read_as : (table : List Bool) (page : ℕ) (b : Bool) → page < length table → get_or table page false ≡ b → get_or table page true ≡ b
read_as table page b lt e = get_or_default table page true false lt ∙ e

pub returns-then-taken-page : goal.returns-then-taken-page
returns-then-taken-page c =
    taken_page c.args.taken.now c.args.page c.requires.inside c.args.self c.requires.later (read_as c.args.taken.now c.args.page true c.requires.inside c.if-taken-page.true)

pub overflow_add-free : goal.overflow_add-free
overflow_add-free c =
    omega (arith, c.requires.later.free, prefix_len-le-length not (drop (c.args.page + 1) c.args.taken.now), length-drop (c.args.page + 1) c.args.taken.now)

pub returns : goal.returns
returns c =
    free_page c.args.taken.now c.args.page c.requires.inside c.args.self c.requires.later c.max.result c.max.ensures
    (read_as c.args.taken.now c.args.page false c.requires.inside c.if-taken-page.false)
