-- How what the code gives stands to what a definition says.
--     Follows view result o      the code's value is what the definition says, seen by a view; or it refuses so, or memory was lacking
use Rattle.std.specs.Prelude.{◌≡◌, Result, Ok, Err}
use Rattle.cell_world.specs.Outcome.{Outcome}
use Rattle.cell_world.specs.declared.fail.Fail.{Fail}
use Rattle.cell_world.specs.declared.fail.Fail.TheVariants.{Refused, OutOfMemory}

-- the code fails with the refusal that is said, or for want of memory
abbrev pub FailsAs : {A : Type 0} → Fail → Outcome A → Type 0
FailsAs (Refused refusal) said = said ≡ Err refusal
FailsAs OutOfMemory said = Unit {0}

abbrev pub Follows : {X A : Type 0} → (X → A) → Result X Fail → Outcome A → Type 0
Follows view (Ok x) said = said ≡ Ok (view x)
Follows view (Err fail) said = FailsAs fail said
