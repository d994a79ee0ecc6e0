use Rattle.std.proofs.Common.{sym, ap, ◌∙◌}
use Rattle.std.specs.Prelude.{option_and_then}
use Rattle.cell_object.specs.declared.object.Entry.{Entry}
use Rattle.cell_object.specs.declared.object.Object.{Object}
use Rattle.cell_object.specs.Parts.{high_of}
use Rattle.cell_world.specs.Linked.Target.{numbered_target}
use Rattle.cell_relinked.specs.Scene.{seen_in, world_of}
use Rattle.cell_relinked.proofs.Naming.{target_high, target_plain}
use Rattle.cell_relinked.proofs.scene.Scene.named.Goals as goal

pub returns-then-not-is_pcrel_lo12-clause-target : goal.returns-then-not-is_pcrel_lo12-clause-target
returns-then-not-is_pcrel_lo12-clause-target c =
    c.numbered-own.ensures.target
    ∙ target_plain (world_of c.args.self.now) (seen_in c.args.self.now c.args.cell.now) c.args.entry.now (sym c.if-not-is_pcrel_lo12.ensures)

pub returns-clause-target : goal.returns-clause-target
returns-clause-target c =
    let w = world_of c.args.self.now in
    let cell = seen_in c.args.self.now c.args.cell.now in
    c.high_target.ensures
    ∙ (ap (λ (o : Object). option_and_then (λ (high : Entry). numbered_target w cell high.symbol) (high_of o c.args.entry.now)) c.requires.highs
    ∙ target_high w cell c.args.entry.now (sym c.if-not-is_pcrel_lo12.ensures))
