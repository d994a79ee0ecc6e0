-- The bytes that a store has.
use Rattle.std.specs.Prelude.{ℕ, ◌==◌, Bool, List}
use Rattle.std.specs.List.{before_first}
use Rattle.cell_num.specs.declared.bytes.Store.{Store}
use Rattle.cell_num.specs.declared.bytes.Store.TheVariants.{Own, Part, Text}

-- what stands before the first zero byte, or all where there is none
abbrev pub before_zero : List ℕ → List ℕ
before_zero bytes = before_first (λ b. b == 0) bytes

abbrev pub stored : Store → List ℕ
stored (Own items) = items.items
stored (Part part) = part
stored (Text part) = before_zero part
