-- What the new cells say of routines and names, once they have places.
--     entry_among cells b           the address of a place, among these cells
--     routines_among cells begins   the routines that begin at these places
--     address_by c symbol           the address of a cell's symbol
--     addresses_by c names          the names of a cell with their addresses
use Rattle.std.specs.Prelude.{ℕ, ◌+◌, ◌==◌, List, find, map, option_and_then, option_map, unwrap_or}
use Rattle.cell_num.specs.Lists.{numbered}
use Rattle.cell_object.specs.Parts.{symbol_at}
use Rattle.cell_world.specs.declared.state.NewCell.{NewCell}
use Rattle.cell_world.specs.declared.transfer.Routine.{Routine}
use Rattle.cell_world.specs.Commands.SwapTransfer.{Begin as Place}
use Rattle.cell_world.specs.Linked.Target.{address_of, own_target, start_of}
use Rattle.cell_world.specs.World.{Alias}

-- 0 where no cell has the number
abbrev pub entry_among : List NewCell → Place → ℕ
entry_among cells b =
    unwrap_or (option_map (λ c. start_of c b.section + b.offset) (find (λ c. c.id.0 == b.cell) cells)) 0

-- each with its place in the list
abbrev pub routines_among : List NewCell → List Place → List Routine
routines_among cells begins = map (λ p. record { name = p.0; entry = entry_among cells p.1 }) (numbered begins)

-- 0 where the object doesn't define it
abbrev pub address_by : NewCell → ℕ → ℕ
address_by c symbol =
    unwrap_or (option_map address_of (option_and_then (λ s. own_target c s s.home) (symbol_at c.object symbol))) 0

abbrev pub addresses_by : NewCell → List Alias → List (List ℕ × ℕ)
addresses_by c names = map (λ a. (a.name, address_by c a.symbol)) names
