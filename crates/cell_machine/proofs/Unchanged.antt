-- A machine to which nothing was done.
use Rattle.std.proofs.Common.{refl}
use Rattle.cell_machine.specs.declared.machine.Machine.{Machine}
use Rattle.cell_machine.specs.Same.{IsSame}

pub same_itself : (m : Machine) → IsSame m m
same_itself m = record {
  cells = refl;
  soft = refl;
  next = refl;
  swaps = refl;
  namespaces = refl;
  known = refl;
  space = refl;
  spare = m.memory.spare;
  memory = refl;
  sections = refl;
  rows = refl;
  tasks = refl;
}
