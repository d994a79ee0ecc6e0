-- A file that is not read.
use Rattle.std.specs.Prelude.{◌≡◌, Err}
use Rattle.cell_file.specs.declared.fail.ReadFail.{ReadFail}
use Rattle.cell_file.specs.declared.fail.ReadFail.TheVariants.{BadObject, OutOfMemory as ReadMemory}
use Rattle.cell_object.specs.declared.object.Object.{Object}
use Rattle.cell_world.specs.declared.file.File.{File}
use Rattle.cell_world.specs.declared.refusal.Refusal.TheVariants.{BadObject as BadFile}
use Rattle.cell_world.specs.Outcome.{Outcome}
use Rattle.cell_world.specs.declared.fail.Fail.{Fail}
use Rattle.cell_world.specs.declared.fail.Fail.TheVariants.{OutOfMemory}
use Rattle.cell_world.specs.Following.{FailsAs}

-- the failure of the reader, as the load answers it
abbrev pub FailsToRead : File → ReadFail → Fail → Type 0
FailsToRead file (BadObject rule at) fail = FailsAs fail (let said : Outcome Object = Err (BadFile file.name rule at) in said)
FailsToRead file ReadMemory fail = fail ≡ OutOfMemory
