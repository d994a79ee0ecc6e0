use Rattle.std.proofs.Common.{◌≡◌, true, List, subst, sym}
use Rattle.cell_num.specs.Lists.{each_pair}
use Rattle.cell_object.specs.Sound.{may_both_be}
use Rattle.cell_object.specs.declared.object.Symbol.{Symbol}
use Rattle.cell_gather.proofs.definitions.weak_definitions.Goals as goal

pub definitions_among-requires-clause-apart : goal.definitions_among-requires-clause-apart
definitions_among-requires-clause-apart c = subst (λ (list : List Symbol). each_pair may_both_be list ≡ true) (sym c.as_slice.ensures) c.requires.sound.names
