use Rattle.std.proofs.Common.{◌+◌, ◌-◌, arith, drop, subst, take, [], List}
use Rattle.std.proofs.lemmas.List.{take_rest}
use Rattle.cell_num.proofs.Elements.{In-All}
use Rattle.cell_bearers.specs.Index.{GetsRow}
use Rattle.cell_bearers.specs.Namings.{IsRun, Named, named}
use Rattle.cell_bearers.specs.Rows.{IsThere}
use Rattle.cell_bearers.specs.declared.named.Owner.TheVariants.{Need}
use Rattle.cell_bearers.proofs.Rowing.{all_so_far, dropped_In, none_so_far, slice_is, so_far_more, still_there, taken_In}
use Rattle.cell_bearers.proofs.index.Index.add_rows.Goals as goal

pub loop-start-init : goal.loop-start-init
loop-start-init c = none_so_far c.args.namings.now c.args.self.now

pub add_row-requires : goal.add_row-requires
add_row-requires c =
    let ns = c.args.namings.now in
    let start = c.loop-start.start in
    let len = c.run_len.result in
    In-All (λ (n : Named). IsThere c.loop-start.self.rows n.owner) (take (start + len - start) (drop start ns))
    (λ n k. still_there c.args.self.now.rows c.loop-start.self.rows c.loop-start.invariant.widths n.owner (c.requires.there n (dropped_In start ns n (taken_In (start + len - start) (drop start ns) n k))))

pub loop-start-preserved : goal.loop-start-preserved
loop-start-preserved c =
    let ns = c.args.namings.now in
    let start = c.loop-start.start in
    let len = c.run_len.result in
    so_far_more ns c.requires.order c.requires.faithful start len c.args.self.now c.loop-start.self c.add_row.new.self c.loop-start.invariant c.loop-start-test.true
    (subst (λ (xs : List Named). IsRun xs len) (take_rest ns start) c.run_len.ensures) (named [] (Need 0 0))
    (subst (λ (xs : List Named). GetsRow xs c.loop-start.self c.add_row.new.self) (slice_is start len ns) c.in_ok-add_row.ensures)

pub returns : goal.returns
returns c = all_so_far c.args.namings.now c.loop-start.start c.args.self.now c.loop-start.self c.loop-start.invariant (omega arith)
