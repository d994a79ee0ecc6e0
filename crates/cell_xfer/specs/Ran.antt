-- How a routine is after a turn, and when it has ended.
--     hart_as hart                  the hart as the definition has it
--     tables_of addresses           the rows of both tables
--     moved regions hart state      what a turn left
--     why_of state                  why it has ended, unless it goes on
--     ending_of ended regions       how it ended
use Rattle.std.specs.Prelude.{false, List, [], Option, Some, None}
use Rattle.cell_num.specs.declared.ids.Why.{Why}
use Rattle.cell_num.specs.declared.ids.Why.TheVariants.{Returned, Trap}
use Rattle.cell_world.specs.declared.reply.TaskState.{TaskState}
use Rattle.cell_world.specs.declared.reply.TaskState.TheVariants.{Ready, Done, Fault}
use Rattle.cell_world.specs.World.{Region}
use Rattle.cell_world.specs.Running.Move.{Hart, Move}
use Rattle.cell_world.specs.Running.Transfer.{Addresses, Ending}
use Rattle.cell_hart.specs.declared.hart.Hart.{Hart as LiveHart}
use Rattle.cell_xfer.specs.Named.{addresses_as}
use Rattle.cell_xfer.specs.declared.firsts.Addresses.{Addresses as Tables}
use Rattle.cell_xfer.specs.declared.routines.Ended.{Ended}

abbrev pub hart_as : LiveHart → Hart
hart_as h = record { pc = h.pc; registers = h.x }

abbrev pub tables_of : Tables → Addresses
tables_of addresses = record { old = addresses_as addresses.old; new = addresses_as addresses.new }

-- a routine doesn't yield, and puts nothing out
abbrev pub moved : List Region → LiveHart → TaskState → Move
moved regions hart state = record { hart = hart_as hart; regions = regions; state = state; yields = false; out = [] }

abbrev pub why_of : TaskState → Option Why
why_of Ready = None
why_of (Done code) = Some (Returned code)
why_of (Fault cause pc) = Some (Trap cause pc)

abbrev pub ending_of : Ended → List Region → Ending
ending_of ended regions = record { why = ended.why; regions = regions; left = ended.left }
