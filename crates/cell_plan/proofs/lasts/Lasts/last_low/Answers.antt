use Rattle.std.proofs.Common.{◌∙◌}
use Rattle.cell_link.specs.Applied.{spot_of}
use Rattle.cell_plan.proofs.Ends.{last_is}
use Rattle.cell_plan.proofs.lasts.Lasts.last_low.Goals as goal

pub returns : goal.returns
returns c =
    c.max.ensures
    ∙ rw (c.end_at.ensures, c.spot.ensures, c.args.self.now.are (spot_of c.args.high.now), c.place_of.ensures.place) (last_is c.args.self.now.cell.now c.args.high.now)
