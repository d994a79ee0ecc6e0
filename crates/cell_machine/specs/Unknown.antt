-- A word that names nothing.
--     IsUnknown word fail     the refusal of the word, or memory was lacking
use Rattle.std.specs.Prelude.{◌≡◌, ℕ, List}
use Rattle.cell_world.specs.declared.fail.Fail.{Fail}
use Rattle.cell_world.specs.declared.fail.Fail.TheVariants.{Refused, OutOfMemory}
use Rattle.cell_world.specs.declared.refusal.Refusal.TheVariants.{Unknown}

abbrev pub IsUnknown : List ℕ → Fail → Type 0
IsUnknown word (Refused refusal) = refusal ≡ Unknown word
IsUnknown word OutOfMemory = Unit {0}
