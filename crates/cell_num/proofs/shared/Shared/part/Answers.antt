use Rattle.std.proofs.Common.{◌+◌}
use Rattle.cell_num.proofs.Parts.{part_of_part, within_part}
use Rattle.cell_num.proofs.shared.Shared.part.Goals as goal

pub returns : goal.returns
returns c =
    let s = c.self.inside in
    let within = within_part s.buffer.value.items c.args.self.now s.start s.len (c.args.start + c.args.len) c.self.invariant c.self.view_is c.requires in
    rw (c.in_ok-handle.ensures, ← c.self.view_is) (part_of_part s.buffer.value.items s.start s.len c.args.start c.args.len within)
