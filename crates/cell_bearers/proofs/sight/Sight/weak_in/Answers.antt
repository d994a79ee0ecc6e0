use Rattle.std.proofs.Common.{arith, refl, ◌<◌, length}
use Rattle.cell_num.proofs.Elements.{All-In}
use Rattle.cell_described.specs.declared.cell.DescribedCell.{DescribedCell}
use Rattle.cell_bearers.specs.Found.{found_from, weak_place}
use Rattle.cell_bearers.specs.Seeing.{stands_at}
use Rattle.cell_bearers.proofs.Reading.{inside}
use Rattle.cell_bearers.proofs.NearestLemmas.{ends, goes_on, none_left}
use Rattle.cell_bearers.proofs.sight.Sight.weak_in.Goals as goal

pub weak_at-requires : goal.weak_at-requires
weak_at-requires c =
    let xs = c.args.self.now.cells.now in
    All-In (λ (d : DescribedCell). d.object < length c.args.weakly.now.objects.now) xs c.requires c.index-cells-place.result (inside xs xs refl c.loop-place.place c.index-cells-place.result c.loop-place-test.true c.index-cells-place.is)

pub returns-in-Some : goal.returns-in-Some
returns-in-Some c =
    let test = stands_at c.args.self.now.asked c.args.ns in
    let said = weak_place c.args.weakly.now.objects.now c.args.weakly.now.name.now in
    let xs = c.args.self.now.cells.now in
    ends test said xs (found_from test said 0 xs) c.loop-place.place c.index-cells-place.result c.loop-place-test.true c.index-cells-place.is c.loop-place.invariant c.in-Some.first (c.in-Some.ensures {u = tt})

pub loop-place-preserved : goal.loop-place-preserved
loop-place-preserved c =
    let test = stands_at c.args.self.now.asked c.args.ns in
    let said = weak_place c.args.weakly.now.objects.now c.args.weakly.now.name.now in
    let xs = c.args.self.now.cells.now in
    goes_on test said xs (found_from test said 0 xs) c.loop-place.place c.index-cells-place.result c.loop-place-test.true c.index-cells-place.is c.loop-place.invariant (c.in_default.ensures {u = tt})

pub returns : goal.returns
returns c =
    let test = stands_at c.args.self.now.asked c.args.ns in
    let said = weak_place c.args.weakly.now.objects.now c.args.weakly.now.name.now in
    let xs = c.args.self.now.cells.now in
    let past = c.loop-place-test.false in
    none_left test said xs (found_from test said 0 xs) c.loop-place.place (omega (arith, past)) c.loop-place.invariant
