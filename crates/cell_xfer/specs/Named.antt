-- Rows of names with values, and what a table of them answers.
--     first_named rows name      the value in the first row of the name
--     AnswersAs table rows       the table answers each name as the rows do
--     addresses_as rows          rows of addresses, as the definition has them
use Rattle.std.specs.Prelude.{◌≡◌, ℕ, List, Option, find, map, option_map}
use Rattle.cell_num.specs.Lists.{equals}
use Rattle.cell_world.specs.declared.transfer.NameAddr.{NameAddr}

abbrev pub first_named : {V : Type 0} → List (List ℕ × V) → List ℕ → Option V
first_named rows name = option_map (λ row. row.1) (find (λ row. equals row.0 name) rows)

abbrev pub AnswersAs : {V : Type 0} → List (List ℕ × V) → List (List ℕ × V) → Type 0
AnswersAs table rows = (name : List ℕ) → first_named table name ≡ first_named rows name

abbrev pub addresses_as : List (List ℕ × ℕ) → List NameAddr
addresses_as rows = map (λ row. record { name = row.0; addr = row.1 }) rows
