use Rattle.std.proofs.Common.{◌∙◌, Bool, List, ap, sym}
use Rattle.cell_world.specs.World.{Cell}
use Rattle.cell_world.specs.Gather.{grown}
use Rattle.cell_gather.specs.Gathering.{renamed}
use Rattle.cell_gather.specs.Growing.{new_of}
use Rattle.cell_gather.proofs.Reexports.{renamed_are}
use Rattle.cell_gather.proofs.load.Load.rename.Goals as goal

pub returns-in_ok-reexport-clause-named : goal.returns-in_ok-reexport-clause-named
returns-in_ok-reexport-clause-named c = λ w is.
    ap (λ (b : Bool). renamed w c.args.wants.now b (grown w (new_of c.args.gathered.now))) c.if-reexport.true
    ∙ renamed_are c.args.self.now.spaces.now c.args.self.now.next c.args.self.now.given w is c.args.wants.now (new_of c.args.gathered.now)
    ∙ ap (λ (cells : List Cell). grown w cells) (sym (c.in_ok-reexport.ensures {u = tt}).named)
