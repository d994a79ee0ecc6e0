use Rattle.std.proofs.Common.{ap}
use Rattle.std.specs.Prelude.{option_map, unwrap_or}
use Rattle.cell_world.specs.declared.state.SecPlace.{SecPlace}
use Rattle.cell_link.proofs.FirstLemmas.{start_low}
use Rattle.cell_link.proofs.one_field.Table.start.Goals as goal

pub returns-in-Some-clause-low : goal.returns-in-Some-clause-low
returns-in-Some-clause-low c =
    start_low c.args.self.now.cell.now.places c.args.section c.in-Some.place.now.start
    (ap (λ o. unwrap_or (option_map (λ (p : SecPlace). p.start) o) 0) (rw c.as_slice.ensures at c.in-Some.ensures))
    c.args.self.now.low
