use Rattle.std.proofs.Common.{◌≡◌, List, [], ◌∷◌, Some, ap, subst, sym, ◌∙◌}
use Rattle.cell_world.specs.declared.file.File.{File}
use Rattle.cell_world.specs.Gather.{source_of}
use Rattle.cell_depot.specs.Files.{shelf}
use Rattle.cell_depot.specs.Shelves.{first_places, AreKnown}
use Rattle.cell_depot.proofs.Depots.{none_shelved, one_shelved, several_shelved}
use Rattle.cell_depot.proofs.depot.Depot.find.Goals as goal

pub at-requires : goal.at-requires
at-requires c =
    let noted = c.get.ensures ∙ c.self.invariant.shelved c.args.ns.now c.args.stem.now ∙ ap (λ files. first_places (shelf c.args.ns.now c.args.stem.now files)) c.self.view_is in
    let known = subst (λ (files : List File). AreKnown files (shelf c.args.ns.now c.args.stem.now files)) c.self.view_is (c.self.invariant.known c.args.ns.now c.args.stem.now) in
    (one_shelved c.args.ns.now c.args.stem.now c.args.self.now c.in-Some-One.place known (sym noted ∙ c.in-Some-One.is ∙ ap Some c.in-Some-One.field-0-is)).inside

pub returns-in-None : goal.returns-in-None
returns-in-None c =
    let noted = c.get.ensures ∙ c.self.invariant.shelved c.args.ns.now c.args.stem.now ∙ ap (λ files. first_places (shelf c.args.ns.now c.args.stem.now files)) c.self.view_is in
    none_shelved c.args.ns.now c.args.stem.now c.args.self.now (sym noted ∙ c.in-None.is)

pub returns-in-Some-One : goal.returns-in-Some-One
returns-in-Some-One c =
    let noted = c.get.ensures ∙ c.self.invariant.shelved c.args.ns.now c.args.stem.now ∙ ap (λ files. first_places (shelf c.args.ns.now c.args.stem.now files)) c.self.view_is in
    let known = subst (λ (files : List File). AreKnown files (shelf c.args.ns.now c.args.stem.now files)) c.self.view_is (c.self.invariant.known c.args.ns.now c.args.stem.now) in
    let one = one_shelved c.args.ns.now c.args.stem.now c.args.self.now c.in-Some-One.place known (sym noted ∙ c.in-Some-One.is ∙ ap Some c.in-Some-One.field-0-is) in
    let same : one.file ≡ c.at.result.now = cc (one.at, c.at.ensures) in
    record { place = c.in-Some-One.place; at = c.at.ensures; only = one.only ∙ ap (λ f. source_of f ∷ []) same }

pub returns-in-Some-Several : goal.returns-in-Some-Several
returns-in-Some-Several c =
    let noted = c.get.ensures ∙ c.self.invariant.shelved c.args.ns.now c.args.stem.now ∙ ap (λ files. first_places (shelf c.args.ns.now c.args.stem.now files)) c.self.view_is in
    let known = subst (λ (files : List File). AreKnown files (shelf c.args.ns.now c.args.stem.now files)) c.self.view_is (c.self.invariant.known c.args.ns.now c.args.stem.now) in
    several_shelved c.args.ns.now c.args.stem.now c.args.self.now c.in-Some-Several.one c.in-Some-Several.two known (sym noted ∙ c.in-Some-Several.is ∙ ap Some c.in-Some-Several.field-0-is)
