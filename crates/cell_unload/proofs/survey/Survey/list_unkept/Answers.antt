use Rattle.std.proofs.Common.{◌≤◌, arith, rules, length}
use Rattle.cell_unload.proofs.Walked.{walk_begins, walk_ends, walked_on}
use Rattle.cell_unload.proofs.survey.Survey.list_unkept.Goals as goal

pub loop-place-init : goal.loop-place-init
loop-place-init c = record {
  walked = walk_begins c.args.machine.now c.requires.sound c.requires.survey.aside c.args.self.now c.requires.survey.is _ _ c.as_slice-kept.ensures.value c.requires.empty;
  few = search rules;
  room = omega arith;
}

pub loop-place-preserved : goal.loop-place-preserved
loop-place-preserved c = record {
  walked =
      walked_on _ c.args.machine.now.cells.items c.loop-place.place _ _ c.loop-place.invariant.walked c.index.result.now (omega (arith, c.len-place-end.ensures)) c.index.ensures _ _ c.add_unless_next-kept.ensures.cells
      c.add_unless_next-kept.ensures.kept;
  few = omega arith;
  room = omega arith;
}

pub returns : goal.returns
returns c = λ aside survey.
    let all : length c.args.machine.now.cells.items ≤ c.loop-place.place = omega (arith, c.loop-place-test.false, c.len-place-end.ensures) in
    walk_ends c.args.machine.now c.requires.sound aside c.args.self.now survey c.loop-place.place _ _ c.loop-place.invariant.walked all
