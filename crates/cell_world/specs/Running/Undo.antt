-- What an undo goes back by: records of what writes displaced.
--     put_in regions x            the regions after a write
--     record_of regions x         its record
--     undone regions records      the regions with each number put back, that of the last record first
--     puts, journal_of            many writes in turn, and their records in the same order
--     ArePuts regions writes      each write has its bytes in a region
use Rattle.std.specs.Prelude.{◌+◌, ◌<◌, nat_le, All, IsTrue, List, [], ◌∷◌, map, is_some, if◌then◌else◌}
use Rattle.cell_num.specs.Bits.{bytes_of}
use Rattle.cell_world.specs.declared.transfer.Record.{Record}
use Rattle.cell_world.specs.World.{Region}
use Rattle.cell_world.specs.Running.Memory.{end_of, read_in, written}
pub use Rattle.cell_world.specs.Running.Memory.{Write, put_in}
use Rattle.cell_world.specs.Running.Execute.{number_read}

abbrev pub record_of : List Region → Write → Record
record_of regions x = record { addr = x.addr; width = x.width; before = number_read regions x.addr x.width }

-- where the region has all these bytes
abbrev pub put_back_in : Record → Region → Region
put_back_in x r = if nat_le (x.addr + x.width) (end_of r) then written r x.addr (bytes_of x.width x.before) else r

abbrev pub put_back : List Region → Record → List Region
put_back regions x = map (put_back_in x) regions

abbrev pub undone : List Region → List Record → List Region
undone regions [] = regions
undone regions (x ∷ records) = put_back (undone regions records) x

abbrev pub puts : List Region → List Write → List Region
puts regions [] = regions
puts regions (x ∷ writes) = puts (put_in regions x) writes

abbrev pub journal_of : List Region → List Write → List Record
journal_of regions [] = []
journal_of regions (x ∷ writes) = record_of regions x ∷ journal_of (put_in regions x) writes

abbrev pub IsPut : List Region → Write → Type 0
IsPut regions x = IsTrue (is_some (read_in regions x.addr x.width))

abbrev pub ArePuts : List Region → List Write → Type 0
ArePuts regions [] = Unit {0}
ArePuts regions (x ∷ writes) = IsPut regions x × ArePuts (put_in regions x) writes

-- what stands in the regions are bytes
abbrev pub AreBytes : List Region → Type 0
AreBytes regions = All (λ r. All (λ b. b < 256) r.bytes) regions
