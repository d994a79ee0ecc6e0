-- What a line must be to be read again as it is written.
--     IsWritable l     its numbers are below 2^64, its names are spelled as such, and it has 1 to 64 bytes
use Rattle.std.specs.Prelude.{◌≡◌, ◌<◌, ◌^◌, ◌&&◌, ℕ, nat_lt, nat_le, true, All, IfSome, length}
use Rattle.cell_object.specs.Symbols.{is_global_name}
use Rattle.cell_world.specs.declared.line.DumpLine.{DumpLine}
use Rattle.cell_world.specs.declared.line.DumpLine.TheVariants.{Space, Ns, Cell as CellLine, Place, Alias as AliasLine, Link, Provider, Content, End}
use Rattle.cell_world.specs.declared.line.Part.{Part}
use Rattle.cell_script.specs.Grammar.{is_file, is_name}

abbrev pub SmallNumber : ℕ → Type 0
SmallNumber n = n < 2 ^ 64

abbrev pub IsWritablePart : Part → Type 0
IsWritablePart p = SmallNumber p.cell × SmallNumber p.section

abbrev pub IsWritable : DumpLine → Type 0
IsWritable (Space base pages) = SmallNumber base × SmallNumber pages
IsWritable (Ns number name parent) = SmallNumber number × (is_name name ≡ true) × IfSome parent SmallNumber
IsWritable (CellLine cell ns stem file group) =
    SmallNumber cell × SmallNumber ns × (is_name stem ≡ true) × (is_file file ≡ true) × IfSome group SmallNumber
IsWritable (Place cell section start) = SmallNumber cell × SmallNumber section × SmallNumber start
IsWritable (AliasLine cell symbol name) = SmallNumber cell × SmallNumber symbol × (is_global_name name ≡ true)
IsWritable (Link user entry target) = IsWritablePart user × SmallNumber entry × IsWritablePart target
IsWritable (Provider ns name at offset) = SmallNumber ns × (is_global_name name ≡ true) × IsWritablePart at × SmallNumber offset
IsWritable (Content at addr bytes) =
    IsWritablePart at × SmallNumber addr × All (λ b. b < 256) bytes × ((nat_lt 0 (length bytes) && nat_le (length bytes) 64) ≡ true)
IsWritable End = Unit {0}
