-- What an entry of a cell names.
--     start_of c section        the start of that section of the cell
--     target_of w c e           the section and offset, or the number
--     targets_of w c            the same for each entry of the cell, in table order
--     address_of t              the address, or the number
use Rattle.std.specs.Prelude.{ℕ, zero, suc, ◌+◌, ◌==◌, true, false, List, Option, Some, None, find, map, option_map, option_and_then, slice_get, unwrap_or, if◌then◌else◌}
use Rattle.cell_object.specs.declared.object.Object.{Object}
use Rattle.cell_object.specs.declared.object.Entry.{Entry}
use Rattle.cell_object.specs.declared.object.Symbol.{Symbol}
use Rattle.cell_object.specs.declared.object.Home.{Home}
use Rattle.cell_object.specs.declared.object.Home.TheVariants.{Undef, Abs, Inside, Elsewhere}
use Rattle.cell_world.specs.declared.state.NewCell.{NewCell}
use Rattle.cell_world.specs.declared.state.Target.{Target}
use Rattle.cell_world.specs.declared.state.Target.TheVariants.{Section, Number}
use Rattle.cell_num.specs.Kinds.{is_pcrel_lo12}
use Rattle.cell_num.specs.Lists.{or_else}
use Rattle.cell_object.specs.Parts.{symbol_at, high_of, is_local, is_weak}
use Rattle.cell_world.specs.World.{World, Cell, cell_of, key_of}
use Rattle.cell_world.specs.Names.{Provider, provider_of, strong_provider}

-- 0 where the cell has no such section or no places yet
abbrev pub start_of : NewCell → ℕ → ℕ
start_of c number = unwrap_or (option_map (λ p. p.start) (find (λ p. p.section == number) c.places)) 0

-- the target that a section and an offset of the cell are
abbrev pub section_target : NewCell → ℕ → ℕ → Target
section_target c section offset = Section (key_of c.id.0 section) offset (start_of c section + offset)

-- the target that a symbol of the cell has where its object defines it
abbrev pub own_target : NewCell → Symbol → Home → Option Target
own_target c s Undef = None
own_target c s Abs = Some (Number s.value)
own_target c s (Inside section) = Some (section_target c section s.value)
own_target c s Elsewhere = None

-- the target that a provider's symbol is
abbrev pub provided_target : World → Provider → Option Target
provided_target w p =
    option_and_then (λ c. option_and_then (λ s. own_target c.placed s s.home) (symbol_at c.object p.symbol)) (cell_of w p.cell)

-- who is asked for a symbol: for an undefined GLOBAL or WEAK its name's provider, for a WEAK in a section a strong holder alone
abbrev pub asked_for : World → Cell → Symbol → Home → Option Provider
asked_for w c s Undef = if is_local s.bind then None else provider_of w c s.name
asked_for w c s Abs = None
asked_for w c s (Inside section) = if is_weak s.bind then strong_provider w c.standing c.ns s.name else None
asked_for w c s Elsewhere = None

-- what the symbol is where there is nobody to ask: what its object says, and an undefined WEAK is the number 0
abbrev pub unasked_target : Cell → Symbol → Home → Option Target
unasked_target c s Undef = if is_weak s.bind then Some (Number 0) else None
unasked_target c s Abs = own_target c.placed s Abs
unasked_target c s (Inside section) = own_target c.placed s (Inside section)
unasked_target c s Elsewhere = None

abbrev pub symbol_target : World → Cell → Symbol → Home → Option Target
symbol_target w c s home = or_else (option_and_then (provided_target w) (asked_for w c s home)) (unasked_target c s home)

-- by the symbol's number: symbol 0 is the number 0
abbrev pub numbered_target : World → Cell → ℕ → Option Target
numbered_target w c zero = Some (Number 0)
numbered_target w c (suc n) = option_and_then (λ s. symbol_target w c s s.home) (slice_get c.object.symbols n)

-- a PCREL_LO12 entry names what the PCREL_HI20 entry at its label names
abbrev pub naming_entry : Object → Entry → Option Entry
naming_entry object e = elim (is_pcrel_lo12 e.kind) [ true ↦ high_of object e | false ↦ Some e ]

-- what the entry names, where its symbol has a provider
abbrev pub target_of : World → Cell → Entry → Option Target
target_of w c e = option_and_then (λ n. numbered_target w c n.symbol) (naming_entry c.object e)

-- a name without a provider counts as the number 0; where each need has a provider there is none
abbrev pub targets_of : World → Cell → List Target
targets_of w c = map (λ e. unwrap_or (target_of w c e) (Number 0)) c.object.entries

abbrev pub address_of : Target → ℕ
address_of (Section key offset addr) = addr
address_of (Number value) = value
