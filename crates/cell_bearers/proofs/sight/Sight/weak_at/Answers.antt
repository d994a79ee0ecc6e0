use Rattle.std.proofs.Common.{◌∙◌, sym}
use Rattle.cell_bearers.specs.Found.{weak_place}
use Rattle.cell_bearers.specs.Seeing.{stands_at}
use Rattle.cell_bearers.proofs.NearestLemmas.{at_here, at_none}
use Rattle.cell_bearers.proofs.sight.Sight.weak_at.Goals as goal

pub returns-then-not-stands_at : goal.returns-then-not-stands_at
returns-then-not-stands_at c =
    at_none (stands_at c.args.self.now.asked c.args.ns c.args.cell.now) (weak_place c.args.weakly.now.objects.now c.args.weakly.now.name.now (c.args.place, c.args.cell.now)) c.args.place (sym c.if-not-stands_at.ensures)

pub returns : goal.returns
returns c =
    c.symbol_of.ensures
    ∙ at_here (stands_at c.args.self.now.asked c.args.ns c.args.cell.now) (weak_place c.args.weakly.now.objects.now c.args.weakly.now.name.now (c.args.place, c.args.cell.now)) c.args.place (sym c.if-not-stands_at.ensures)
