use Rattle.cell_depot.proofs.NameParts.{stem_is}
use Rattle.cell_depot.proofs.file_name.stem_of.Goals as goal

pub returns : goal.returns
returns c = stem_is c.args.name.now c.behind_first-rest.result.now c.hash_place.result c.stem_end.result c.hash_place.ensures.place c.behind_first-rest.ensures c.stem_end.ensures.place
