use Rattle.std.proofs.Common.{◌∙◌, ◌++◌, ◌∷◌, [], ℕ, List, ap, append-nil, sym}
use Rattle.cell_world.specs.Names.{definitions_of}
use Rattle.cell_gather.proofs.Attaching.{all_below}
use Rattle.cell_gather.proofs.Growths.{grown_by_one, one_more, row_of}
use Rattle.cell_gather.proofs.load.Load.add.Goals as goal

pub append-requires-clause-above : goal.append-requires-clause-above
append-requires-clause-above c =
    all_below c.args.self.now.spaces.now c.args.self.now.next c.args.gathered.now c.requires.growing c.args.self.now.given c.args.fresh.cell.id.0 c.requires.number

pub returns-clause-growing : goal.returns-clause-growing
returns-clause-growing c =
    let cell = c.args.fresh.cell in
    let old = c.args.gathered.now.ahead.cells in
    let known = c.args.gathered.now.ahead.fresh in
    grown_by_one c.args.self.now.spaces.now c.args.self.now.next c.args.gathered.now (record { cells = c.push.new.self; ahead = c.append.new.self }) cell [] c.args.fresh.names c.in_ok-weak.weak c.requires.growing (c.args.fresh.named ∙ sym (append-nil (definitions_of cell.object))) (c.in_ok-weak.ensures {u = tt})
    (c.in_ok-append.ensures.fresh ∙ ap (λ (x : List ℕ). known ++ row_of cell.id cell.ns x c.args.fresh.names c.in_ok-weak.weak ∷ []) c.in_ok-stem.ensures)
    c.in_ok-push.ensures.items c.requires.there c.requires.number c.requires.room c.args.fresh.loadable c.append.ensures.same_namespaces c.append.ensures.same_present
    (c.in_ok-append.ensures.added ∙ ap (λ (x : List ℕ). old ++ row_of cell.id cell.ns x c.args.fresh.names c.in_ok-weak.weak ∷ []) c.in_ok-stem.ensures)

pub returns-clause-added : goal.returns-clause-added
returns-clause-added c =
    let cell = c.args.fresh.cell in
    let known = c.args.gathered.now.ahead.fresh in
    one_more c.args.self.now.spaces.now c.args.self.now.next c.args.gathered.now (record { cells = c.push.new.self; ahead = c.append.new.self }) cell [] c.args.fresh.names c.in_ok-weak.weak c.requires.growing (c.args.fresh.named ∙ sym (append-nil (definitions_of cell.object))) (c.in_ok-weak.ensures {u = tt})
    (c.in_ok-append.ensures.fresh ∙ ap (λ (x : List ℕ). known ++ row_of cell.id cell.ns x c.args.fresh.names c.in_ok-weak.weak ∷ []) c.in_ok-stem.ensures)
    c.in_ok-push.ensures.items
