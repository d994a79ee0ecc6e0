use Rattle.std.proofs.Common.{◌∙◌, ◌++◌, ◌∷◌, [], ℕ, List, ap₂, drop, length}
use Rattle.cell_world.specs.Names.{definitions_of}
use Rattle.cell_world.specs.World.{Alias}
use Rattle.cell_gather.proofs.Attaching.{all_below}
use Rattle.cell_gather.proofs.Copied.{split}
use Rattle.cell_gather.proofs.Growths.{grown_by_one, one_more, row_of}
use Rattle.cell_gather.proofs.room.Room.add_copy.Goals as goal

pub append-requires-clause-above : goal.append-requires-clause-above
append-requires-clause-above c =
    all_below c.args.self.now.spaces.now c.args.self.now.next c.args.gathered.now c.requires.growing c.args.self.now.given c.args.cell.id.0 c.requires.number

pub returns-clause-growing : goal.returns-clause-growing
returns-clause-growing c =
    let cell = c.args.cell in
    let names = c.args.names.now in
    let old = c.args.gathered.now.ahead.cells in
    let known = c.args.gathered.now.ahead.fresh in
    grown_by_one c.args.self.now.spaces.now c.args.self.now.next c.args.gathered.now (record { cells = c.push.new.self; ahead = c.append.new.self }) cell (drop (length (definitions_of cell.object)) names) names c.in_ok-weak.weak c.requires.growing
    (split cell names c.requires.named) (c.in_ok-weak.ensures {u = tt})
    (c.in_ok-append.ensures.fresh ∙ ap₂ (λ (stem : List ℕ) (all : List Alias). known ++ row_of cell.id cell.ns stem all c.in_ok-weak.weak ∷ []) c.in_ok-stem.ensures c.in_ok-names.ensures)
    c.in_ok-push.ensures.items c.requires.there c.requires.number c.requires.room c.requires.loadable c.append.ensures.same_namespaces c.append.ensures.same_present
    (c.in_ok-append.ensures.added ∙ ap₂ (λ (stem : List ℕ) (all : List Alias). old ++ row_of cell.id cell.ns stem all c.in_ok-weak.weak ∷ []) c.in_ok-stem.ensures c.in_ok-names.ensures)

pub returns-clause-added : goal.returns-clause-added
returns-clause-added c =
    let cell = c.args.cell in
    let names = c.args.names.now in
    let known = c.args.gathered.now.ahead.fresh in
    one_more c.args.self.now.spaces.now c.args.self.now.next c.args.gathered.now (record { cells = c.push.new.self; ahead = c.append.new.self }) cell (drop (length (definitions_of cell.object)) names) names c.in_ok-weak.weak c.requires.growing
    (split cell names c.requires.named) (c.in_ok-weak.ensures {u = tt})
    (c.in_ok-append.ensures.fresh ∙ ap₂ (λ (stem : List ℕ) (all : List Alias). known ++ row_of cell.id cell.ns stem all c.in_ok-weak.weak ∷ []) c.in_ok-stem.ensures c.in_ok-names.ensures)
    c.in_ok-push.ensures.items
