-- What a host gives, within limits, and how an answer stands to a definition of it.
use Rattle.std.specs.Prelude.{◌≡◌, ℕ, nat_lt, if◌then◌else◌, List, length, Option, Some, Result, Ok, Err}
use Rattle.cell_io.specs.declared.host.HostFault.{HostFault}
use Rattle.cell_io.specs.declared.host.HostFault.TheVariants as faults
use Rattle.cell_io.specs.declared.stop.Stop.{Stop}
use Rattle.cell_io.specs.declared.stop.Stop.TheVariants.{Refused, ReadFault, OutOfMemory}

-- at most so many
abbrev pub within : {R X : Type 0} → ℕ → R → List X → Result (List X) R
within limit why xs = if nat_lt limit (length xs) then Err why else Ok xs

-- one definition after another, up to the first that refuses
infixl 10 ◌>>=◌
abbrev pub ◌>>=◌ : {R A B : Type 0} → Result A R → (A → Result B R) → Result B R
Ok a >>= f = f a
Err why >>= f = Err why

-- a fact of what is told, if it is told
abbrev pub IfTold : {X : Type 0} → Option X → (X → Type 0) → Type 0
IfTold {X} told P = (x : X) → told ≡ Some x → P x

abbrev pub stop_of : {R : Type 0} → HostFault → Stop R
stop_of faults.Failed = ReadFault
stop_of faults.OutOfMemory = OutOfMemory

-- the refusal is the definition's, or a fault or want of memory came between
abbrev pub Stops : {R B : Type 0} → Stop R → Result B R → Type 0
Stops (Refused why) spec = spec ≡ Err why
Stops ReadFault spec = Unit {0}
Stops OutOfMemory spec = Unit {0}

-- the answer is the definition's, or there is none
abbrev pub Gives : {R A B : Type 0} → (A → B) → Result A (Stop R) → Result B R → Type 0
Gives view (Ok a) spec = spec ≡ Ok (view a)
Gives view (Err stop) spec = Stops stop spec
