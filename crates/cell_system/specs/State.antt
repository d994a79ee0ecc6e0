-- What a system is seen as.
use Rattle.std.specs.Prelude.{List}
use Rattle.cell_world.specs.declared.file.File.{File}
use Rattle.cell_machine.specs.Does.{State as MachineState}

-- the object files of the run, which no command changes, and the machine
pub record State : Type 0 where
  pub files : List File
  pub machine : MachineState
