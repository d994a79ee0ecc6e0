use Rattle.std.proofs.Common.{sym, rules}
use Rattle.cell_file.proofs.Ends.{last_end_at, last_end_none}
use Rattle.cell_file.proofs.strings.last_end.Goals as goal

pub returns-in-Some : goal.returns-in-Some
returns-in-Some c =
    let table = c.args.table.now in
    sym (last_end_at table c.in-Some.at (search rules) (search rules) (search rules))

pub returns-in-None : goal.returns-in-None
returns-in-None c = sym (last_end_none c.args.table.now (search rules))
