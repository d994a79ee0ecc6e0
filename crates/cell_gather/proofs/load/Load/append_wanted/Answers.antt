use Rattle.std.proofs.Common.{◌≤◌, length}
use Rattle.std.specs.Prelude.{Some, None}
use Rattle.cell_world.specs.declared.file.File.{File}
use Rattle.cell_depot.specs.Files.{has_name}
use Rattle.cell_gather.specs.Growing.{new_of}
use Rattle.cell_gather.proofs.Appends.{named_by, wanted_found, wanted_unknown}
use Rattle.cell_gather.proofs.Depots.{found_all}
use Rattle.cell_gather.proofs.load.Load.append_wanted.Goals as goal

pub append-requires-clause-small : goal.append-requires-clause-small
append-requires-clause-small c =
    found_all (λ (f : File). length f.bytes ≤ 1048576) (has_name c.args.want.now.file) c.in-Some.file.now c.args.self.now.depot.now c.args.self.now.small
    (named_by c.args.self.now.depot.now c.bytes.result.now c.args.want.now.file (Some c.in-Some.file.now) c.bytes.ensures c.in-Some.ensures)

pub returns-in-Some-clause-ends : goal.returns-in-Some-clause-ends
returns-in-Some-clause-ends c =
    wanted_found c.args.self.now.spaces.now c.args.self.now.next c.args.self.now.depot.now (new_of c.args.gathered.now) c.args.want.now c.in-Some.file.now c.append.result (new_of c.append.new.gathered)
    (named_by c.args.self.now.depot.now c.bytes.result.now c.args.want.now.file (Some c.in-Some.file.now) c.bytes.ensures c.in-Some.ensures) c.append.ensures.ends

pub returns-in_ok-word-in-None-clause-ends : goal.returns-in_ok-word-in-None-clause-ends
returns-in_ok-word-in-None-clause-ends c = λ w is.
    wanted_unknown c.args.self.now.spaces.now c.args.self.now.next c.args.self.now.depot.now (new_of c.args.gathered.now) c.args.want.now c.in_ok-word-in-None.word c.in_ok-word-in-None.ensures
    (named_by c.args.self.now.depot.now c.bytes.result.now c.args.want.now.file None c.bytes.ensures c.in-None.ensures) w
