use Rattle.cell_got.proofs.Kept.{entry_count, entry_of_slot, symbol_count, symbol_of_slot}
use Rattle.cell_got.proofs.LowerSound.{slots_few}
use Rattle.cell_got.proofs.slots_have_parts.Goals as goal

pub returns-clause-symbols : goal.returns-clause-symbols
returns-clause-symbols c = symbol_of_slot

pub returns-clause-entries : goal.returns-clause-entries
returns-clause-entries c = entry_of_slot

pub returns-clause-symbol_count : goal.returns-clause-symbol_count
returns-clause-symbol_count c = symbol_count

pub returns-clause-entry_count : goal.returns-clause-entry_count
returns-clause-entry_count c = entry_count

pub returns-clause-few : goal.returns-clause-few
returns-clause-few c = slots_few
