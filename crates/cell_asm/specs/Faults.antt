-- Several faults at once: the earlier of the order Word, Operand, Range, Section, Twice, Long is the answer.
--     earlier j k           the earlier of two faults
--     both a b              the two values, or the earlier fault
--     gathered f a xs       what f makes of a and all values, one after the other; or the earliest fault
use Rattle.std.specs.Prelude.{if◌then◌else◌, ◌≡◌}
use Rattle.cell_asm.specs.Types.{ℕ, nat_le, List, fold, Result, Ok, Err, AsmKind, AsmKindWord as Word, AsmKindOperand as Operand, Range, AsmKindSection as Section, Twice, AsmKindLabel as Label, Long, Stop, StopFault as Fault, StopOutOfMemory as OutOfMemory}

-- the place in that order; Label, which no line is tested for before all lines are read, stands last
abbrev pub rank : AsmKind → ℕ
rank Word = 0
rank Operand = 1
rank Range = 2
rank Section = 3
rank Twice = 4
rank Long = 5
rank Label = 6

abbrev pub earlier : AsmKind → AsmKind → AsmKind
earlier j k = if nat_le (rank j) (rank k) then j else k

abbrev pub both : {A B : Type 0} → Result A AsmKind → Result B AsmKind → Result (A × B) AsmKind
both (Ok a) (Ok b) = Ok (a, b)
both (Ok a) (Err k) = Err k
both (Err j) (Ok b) = Err j
both (Err j) (Err k) = Err (earlier j k)

-- what is made of the value, where there is one
abbrev pub with_value : {A B : Type 0} → (A → B) → Result A AsmKind → Result B AsmKind
with_value f (Ok a) = Ok (f a)
with_value f (Err k) = Err k

abbrev pub joined : {A B : Type 0} → (A → B → A) → Result A AsmKind → Result B AsmKind → Result A AsmKind
joined f a b = with_value (λ p. f p.0 p.1) (both a b)

abbrev pub gathered : {A B : Type 0} → (A → B → A) → A → List (Result B AsmKind) → Result A AsmKind
gathered f a xs = fold (joined f) (Ok a) xs

-- How what a function returns stands to what the definitions say.

-- the value, or the fault that is answered; or memory was wanting
abbrev pub Gives : {A : Type 0} → Result A Stop → Result A AsmKind → Type 0
Gives (Ok a) said = said ≡ Ok a
Gives (Err (Fault kind)) said = said ≡ Err kind
Gives (Err OutOfMemory) said = Unit {0}
