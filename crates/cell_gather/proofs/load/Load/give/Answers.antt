use Rattle.std.proofs.Common.{◌∙◌, List, refl, subst, sym}
use Rattle.cell_world.specs.World.{Alias, Cell}
use Rattle.cell_space.proofs.Holding.{ok_more}
use Rattle.cell_gather.specs.Growing.{new_of}
use Rattle.cell_gather.specs.Renaming.{IsNew}
use Rattle.cell_gather.proofs.Renames.{heir_lacks, named_are, ok_both, one_taken, still_growing, still_new}
use Rattle.cell_gather.proofs.load.Load.give.Goals as goal

pub add_name-requires : goal.add_name-requires
add_name-requires c =
    let new = c.requires.new in
    heir_lacks c.args.self.now.spaces.now c.args.self.now.next c.args.gathered.now c.requires.growing c.args.cell.0 c.args.path.now.ns c.requires.path.there c.args.heritage.now new c.args.name.now
    c.heir.result c.in-Some.symbol (c.heir.ensures new.cell new.ns_is new.heirs new.weak) c.in-Some.is

pub returns-in-Some-clause-growing : goal.returns-in-Some-clause-growing
returns-in-Some-clause-growing c =
    let a : Alias = record { name = c.args.name.now; symbol = c.in-Some.symbol } in
    ok_both c.add_name.result _ _ _
    (λ added cells. still_growing c.args.cell.0 a c.args.self.now.spaces.now c.args.self.now.next c.args.gathered.now (record { cells = c.args.gathered.now.cells; ahead = c.add_name.new.self }) c.requires.growing refl added
    c.add_name.ensures.same_namespaces c.add_name.ensures.same_present cells)
    c.add_name.ensures.added c.add_name.ensures.cells

pub returns-in-Some-clause-new : goal.returns-in-Some-clause-new
returns-in-Some-clause-new c =
    let a : Alias = record { name = c.args.name.now; symbol = c.in-Some.symbol } in
    ok_more c.add_name.result _ _
    (λ added. subst (λ (cells : List Cell). IsNew cells c.args.cell.0 c.args.path.now.ns c.args.heritage.now)
    (sym (named_are c.args.cell.0 a c.args.self.now.spaces.now c.args.self.now.next c.args.gathered.now (record { cells = c.args.gathered.now.cells; ahead = c.add_name.new.self }) c.requires.growing refl added))
    (still_new c.args.cell.0 a (new_of c.args.gathered.now) c.args.cell.0 c.args.path.now.ns c.args.heritage.now c.requires.new))
    c.add_name.ensures.added

pub returns-in-Some-clause-named : goal.returns-in-Some-clause-named
returns-in-Some-clause-named c =
    let new = c.requires.new in
    let a : Alias = record { name = c.args.name.now; symbol = c.in-Some.symbol } in
    ok_more c.add_name.result _ _
    (λ added. named_are c.args.cell.0 a c.args.self.now.spaces.now c.args.self.now.next c.args.gathered.now (record { cells = c.args.gathered.now.cells; ahead = c.add_name.new.self }) c.requires.growing refl added
    ∙ sym (one_taken c.args.self.now.spaces.now c.args.self.now.next c.args.gathered.now c.requires.growing c.args.cell.0 c.args.path.now.ns c.requires.path.there c.args.heritage.now new c.args.name.now
    c.heir.result c.in-Some.symbol (c.heir.ensures new.cell new.ns_is new.heirs new.weak) c.in-Some.is))
    c.add_name.ensures.added
