use Rattle.cell_elfw.proofs.Growth.{padded_put}
use Rattle.cell_elfw.proofs.parts.put_part.Goals as goal

pub returns-clause-file : goal.returns-clause-file
returns-clause-file c =
    padded_put c.args.file.now.items c.args.part.now c.extend_from_slice.new.self.items c.extend_from_slice-2.new.self.items c.in_ok-extend_from_slice.ensures.items c.in_ok-extend_from_slice-2.ensures.items
