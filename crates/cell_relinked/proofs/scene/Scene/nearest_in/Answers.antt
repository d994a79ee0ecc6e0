use Rattle.std.proofs.Common.{subst, sym, map, ◌≡◌, ◌<◌, length, List}
use Rattle.std.specs.Prelude.{All, IfSome, option_map}
use Rattle.cell_bearers.specs.Asked.{nearest_in, provider_at}
use Rattle.cell_described.specs.declared.cell.DescribedCell.{DescribedCell}
use Rattle.cell_relinked.specs.Scene.{seen_in}
use Rattle.cell_relinked.proofs.Providing.{objects_there}
use Rattle.cell_relinked.proofs.scene.Scene.nearest_in.Goals as goal

pub nearest_bearer-requires : goal.nearest_bearer-requires
nearest_bearer-requires c =
    let s = c.args.self.now in
    subst (All (λ (d : DescribedCell). d.object < length s.objects.now)) (sym c.requires.cells_are) (objects_there s)

pub returns-clause-nearest : goal.returns-clause-nearest
returns-clause-nearest c =
    let s = c.args.self.now in
    let sight = c.args.sight.now in
    subst (λ (cells : List DescribedCell). option_map (provider_at cells) c.nearest_bearer.result ≡ nearest_in (map (seen_in s) cells) sight.asked sight.spaces.now c.args.name.now) c.requires.cells_are (c.nearest_bearer.ensures.plain s.file.now)

pub returns-clause-there : goal.returns-clause-there
returns-clause-there c =
    let s = c.args.self.now in
    subst (λ (cells : List DescribedCell). IfSome c.nearest_bearer.result (λ b. b.cell < length cells)) c.requires.cells_are c.nearest_bearer.ensures.there
