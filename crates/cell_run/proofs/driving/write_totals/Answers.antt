use Rattle.std.proofs.Common.{rules}
use Rattle.std.specs.Io.KnownBytes.{Appends}
use Rattle.cell_run.proofs.Steps.{summed}
use Rattle.cell_run.proofs.driving.write_totals.Goals as goal

pub returns-clause-totals : goal.returns-clause-totals
returns-clause-totals g c =
    let whole : Appends (g.K.Sink.written c.args.out.now) (g.K.Sink.written c.put.new.self) c.in-Ok-line.line.items = search rules in
    summed g.M.Machine.acts c.args.machine.now c.sum_up.new.machine c.args.lines.now c.in-Ok.summary c.in-Ok-line.line.items c.ended.result
    (g.K.Sink.written c.args.out.now) (g.K.Sink.written c.put.new.self) c.in-Ok.ensures c.in-Ok-line.ensures whole c.ended.ensures.status
