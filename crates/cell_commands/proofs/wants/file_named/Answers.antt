use Rattle.std.proofs.Common.{ℕ, List, subst}
use Rattle.cell_machine.specs.Unknown.{IsUnknown}
use Rattle.std.specs.Prelude.{None, Some}
use Rattle.cell_world.specs.declared.refusal.Refusal.TheVariants.{Unknown}
use Rattle.cell_world.specs.Gather.{file_named, source_of}
use Rattle.cell_world.specs.Outcome.{found}
use Rattle.std.specs.Prelude.{map}
use Rattle.cell_commands.proofs.ItemLemmas.{the_file}
use Rattle.cell_unload.proofs.Naming.{unknown_is}
use Rattle.cell_commands.proofs.wants.file_named.Goals as goal

pub returns-in-Some : goal.returns-in-Some
returns-in-Some c = the_file c.args.depot.now c.args.name.now c.bytes.result.now c.bytes.ensures (Some c.in-Some.file.now) (c.in-Some.ensures {u = tt})

pub returns-in-None : goal.returns-in-None
returns-in-None c =
    unknown_is c.args.name.now c.unknown.result (subst (λ (n : List ℕ). IsUnknown n c.unknown.result) c.bytes-in-None.ensures c.unknown.ensures)
    (found (file_named (map source_of c.args.depot.now) c.args.name.now) (Unknown c.args.name.now))
    (the_file c.args.depot.now c.args.name.now c.bytes.result.now c.bytes.ensures None (c.in-None.ensures {u = tt}))
