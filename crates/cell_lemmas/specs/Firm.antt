-- What holders of a name give: strong ones, which every weak one yields to, and weak ones.
--     strong_given w c s         what the symbol is by the strong holder that the cell finds for its name
--     firm_target w c e          what the entry names where no weak holder has a say: by a strong holder, or by the cell's own object
--     weak_target w c e          what a weak holder gives the entry
--     ChangesSoft v w            an entry whose target is firm doesn't differ
use Rattle.std.specs.Prelude.{ℕ, zero, suc, ◌≡◌, Option, Some, None, option_and_then, slice_get, All, false, if◌then◌else◌}
use Rattle.cell_object.specs.declared.object.Entry.{Entry}
use Rattle.cell_object.specs.declared.object.Symbol.{Symbol}
use Rattle.cell_object.specs.declared.object.Home.{Home}
use Rattle.cell_object.specs.declared.object.Home.TheVariants.{Undef, Abs, Inside, Elsewhere}
use Rattle.cell_object.specs.Parts.{is_local, is_weak}
use Rattle.cell_world.specs.declared.state.Target.{Target}
use Rattle.cell_world.specs.declared.state.Target.TheVariants.{Number}
use Rattle.cell_world.specs.World.{World, Cell}
use Rattle.cell_world.specs.Names.{Provider, strong_provider, weak_provider}
use Rattle.cell_world.specs.Linked.Target.{own_target, provided_target, naming_entry}
use Rattle.cell_world.specs.Changed.{differs}

abbrev pub strong_given : World → Cell → Symbol → Option Target
strong_given w c s = option_and_then (provided_target w) (strong_provider w c.standing c.ns s.name)

abbrev pub firm_symbol_target : World → Cell → Symbol → Home → Option Target
firm_symbol_target w c s Undef = if is_local s.bind then None else strong_given w c s
firm_symbol_target w c s Abs = own_target c.placed s Abs
firm_symbol_target w c s (Inside section) = if is_weak s.bind then strong_given w c s else own_target c.placed s (Inside section)
firm_symbol_target w c s Elsewhere = None

abbrev pub firm_numbered_target : World → Cell → ℕ → Option Target
firm_numbered_target w c zero = Some (Number 0)
firm_numbered_target w c (suc n) = option_and_then (λ s. firm_symbol_target w c s s.home) (slice_get c.object.symbols n)

abbrev pub firm_target : World → Cell → Entry → Option Target
firm_target w c e = option_and_then (λ n. firm_numbered_target w c n.symbol) (naming_entry c.object e)

-- where there is a strong holder a weak one gives nothing
abbrev pub weak_given : World → Cell → Symbol → Option Provider → Option Target
weak_given w c s None = option_and_then (provided_target w) (weak_provider w c.standing c.ns s.name)
weak_given w c s (Some strong) = None

abbrev pub weak_symbol_target : World → Cell → Symbol → Home → Option Target
weak_symbol_target w c s Undef = if is_local s.bind then None else weak_given w c s (strong_provider w c.standing c.ns s.name)
weak_symbol_target w c s home = None

abbrev pub weak_numbered_target : World → Cell → ℕ → Option Target
weak_numbered_target w c zero = None
weak_numbered_target w c (suc n) = option_and_then (λ s. weak_symbol_target w c s s.home) (slice_get c.object.symbols n)

abbrev pub weak_target : World → Cell → Entry → Option Target
weak_target w c e = option_and_then (λ n. weak_numbered_target w c n.symbol) (naming_entry c.object e)

abbrev pub ChangesSoft : World → World → Type 0
ChangesSoft v w = All (λ c. All (λ e. (t : Target) → firm_target v c e ≡ Some t → differs v w c e ≡ false) c.object.entries) v.cells
