-- How what a reader returns stands to what the definitions say.
use Rattle.std.specs.Prelude.{◌≡◌, Bool, true, false, Result, Ok, Err}
use Rattle.cell_object.specs.declared.object.Object.{Object}
use Rattle.cell_object.specs.Bytes.{Broken}
use Rattle.cell_file.specs.declared.fail.ReadFail.{ReadFail}
use Rattle.cell_file.specs.declared.fail.ReadFail.TheVariants.{BadObject, OutOfMemory}

-- It failed for the broken rule that the definition gives first, or for want of memory.
abbrev pub Fails : {A : Type 0} → ReadFail → Result A Broken → Type 0
Fails (BadObject rule at) said = said ≡ Err (rule, at)
Fails OutOfMemory said = Unit {0}

-- It gave what the definition says, its value seen by a view.
abbrev pub Gives : {X A : Type 0} → (X → A) → Result X ReadFail → Result A Broken → Type 0
Gives view (Ok x) said = said ≡ Ok (view x)
Gives view (Err e) said = Fails e said

-- It went on, and no rule of the list is broken; or it failed for the first that is.
abbrev pub Passes : {X : Type 0} → Result X ReadFail → Result (Unit {0}) Broken → Type 0
Passes r said = Gives (λ _. tt) r said

-- it is another object
abbrev pub IsOther : Object → Result Object Broken → Type 0
IsOther object (Ok other) = other ≡ object → ⊥
IsOther object (Err broken) = ⊥

-- It said whether this is the object that the definition gives; or it failed as the definition says.
abbrev pub Tells : Object → Result Bool ReadFail → Result Object Broken → Type 0
Tells object (Ok true) said = said ≡ Ok object
Tells object (Ok false) said = IsOther object said
Tells object (Err e) said = Fails e said
