use Rattle.std.proofs.Common.{sym, arith}
use Rattle.cell_task.proofs.Slicing.{begins, goes_so, mapped_then, stops_so}
use Rattle.cell_task.proofs.task.Task.run.Goals as goal

pub loop-had-init : goal.loop-had-init
loop-had-init c = record {
  under_way = begins c.args.slice.turns c.args.slice.until_yield c.args.memory.now c.args.self.now c.args.out.now.items c.requires.undo;
  room = c.requires.room;
  short = omega arith;
}

pub returns-in-Some-clause-run : goal.returns-in-Some-clause-run
returns-in-Some-clause-run c =
    stops_so c.args.slice.turns c.args.slice.until_yield c.args.memory.now c.args.self.now c.args.out.now.items c.loop-had.had c.loop-had.memory c.loop-had.self c.loop-had.out.items c.loop-had.invariant.under_way
    c.loop-had-test.true c.laid_out.ensures c.turn-turned.new.memory c.turn-turned.new.self c.turn-turned.result c.turn-turned.new.out.items c.turn-turned.ensures.ran c.turn-turned.ensures.memory
    c.in-Some.state (sym c.in-Some.ensures)

pub returns-in-Some-clause-mapped : goal.returns-in-Some-clause-mapped
returns-in-Some-clause-mapped c =
    mapped_then c.args.slice.turns c.args.slice.until_yield c.args.memory.now c.args.self.now c.args.out.now.items c.loop-had.had c.loop-had.memory c.loop-had.self c.loop-had.out.items c.loop-had.invariant.under_way
    c.loop-had-test.true c.laid_out.ensures c.turn-turned.new.memory c.turn-turned.new.self c.turn-turned.result c.turn-turned.new.out.items c.turn-turned.ensures.ran c.turn-turned.ensures.memory

pub loop-had-preserved : goal.loop-had-preserved
loop-had-preserved c = record {
  under_way = goes_so c.args.slice.turns c.args.slice.until_yield c.args.memory.now c.args.self.now c.args.out.now.items c.loop-had.had c.loop-had.memory c.loop-had.self c.loop-had.out.items c.loop-had.invariant.under_way
      c.loop-had-test.true c.laid_out.ensures c.turn-turned.new.memory c.turn-turned.new.self c.turn-turned.result c.turn-turned.new.out.items c.turn-turned.ensures.ran c.turn-turned.ensures.memory
      (sym c.in_default.ensures);
  room = omega (arith, c.turn-turned.ensures.room, c.loop-had.invariant.room);
  short = omega (arith, c.turn-turned.ensures.short, c.loop-had.invariant.short);
}
