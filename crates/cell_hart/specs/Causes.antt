-- The causes of traps at accesses that memory refuses.
use Rattle.cell_num.specs.declared.ids.Cause.{Cause}
use Rattle.cell_num.specs.declared.ids.Cause.TheVariants.{LoadAlign, Load, StoreAlign, Store}
use Rattle.cell_mem.specs.declared.fault.MemFault.{MemFault}
use Rattle.cell_mem.specs.declared.fault.MemFault.TheVariants.{Misaligned}

abbrev pub load_cause : MemFault → Cause
load_cause Misaligned = LoadAlign
load_cause _ = Load

abbrev pub store_cause : MemFault → Cause
store_cause Misaligned = StoreAlign
store_cause _ = Store
