-- What writing an object gives.
use Rattle.std.specs.Prelude.{◌≡◌, ◌≢◌, ℕ, Result, Ok, Err}
use Rattle.cell_object.specs.declared.object.Object.{Object}
use Rattle.cell_object.specs.Bytes.{Broken}
use Rattle.cell_elfw.specs.declared.fail.WriteFail.{WriteFail}
use Rattle.cell_elfw.specs.declared.fail.WriteFail.TheVariants.{Unwritable, OutOfMemory}

-- A file that is read so isn't the object's: it breaks the rule, or it is another object's and the
-- rule is 0.
abbrev pub IsUnread : Object → ℕ → Result Object Broken → Type 0
IsUnread object rule (Ok other) = (rule ≡ 0) × (other ≢ object)
IsUnread object rule (Err broken) = rule ≡ broken.0

abbrev pub Fails : Object → WriteFail → Result Object Broken → Type 0
Fails object (Unwritable rule) said = IsUnread object rule said
Fails object OutOfMemory said = Unit {0}

-- The object is written exactly where the image is read as the object again.
abbrev pub IsReadAgain : {X : Type 0} → Object → Result X WriteFail → Result Object Broken → Type 0
IsReadAgain object (Ok file) said = said ≡ Ok object
IsReadAgain object (Err e) said = Fails object e said
