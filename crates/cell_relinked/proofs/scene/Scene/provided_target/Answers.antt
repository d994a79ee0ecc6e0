use Rattle.std.proofs.Common.{◌∙◌, get_or}
use Rattle.std.proofs.lemmas.Option.{slice_get-get_or}
use Rattle.cell_relinked.proofs.Provided.{provided_there}
use Rattle.cell_relinked.proofs.scene.Scene.provided_target.Goals as goal

pub returns : goal.returns
returns c =
    let s = c.args.self.now in
    let place = c.args.provider.now.cell in
    let cell = c.index-self-provider.result in
    c.target_in.ensures ∙ provided_there s c.args.provider.now (get_or s.cells.now place cell) (slice_get-get_or s.cells.now place cell c.requires)
