-- The sections of an object that is read, and lowered, have numbers of 16 bits.
use Rattle.std.proofs.Common.{◌≡◌, refl, subst, arith, ℕ, ◌<◌, ◌^◌, true, List, ◌++◌, Result, Ok, Err}
use Rattle.std.specs.Prelude.{nat_lt}
use Rattle.std.specs.List.{list_all}
use Rattle.std.proofs.lemmas.Bool.Decides.{nat_tests}
use Rattle.cell_num.specs.Lists.{In}
use Rattle.cell_num.proofs.Elements.{all-In, In-All}
use Rattle.cell_object.specs.Bytes.{Broken}
use Rattle.cell_object.specs.Header.{header_rules}
use Rattle.cell_object.specs.Reads.{reads}
use Rattle.cell_object.specs.Relocations.{pairs_rules, relocations_rules, slots_rules}
use Rattle.cell_object.specs.Sections.{sections_rules}
use Rattle.cell_object.specs.Symbols.{symbols_rules, symtab_rules}
use Rattle.cell_object.specs.declared.object.Object.{Object}
use Rattle.cell_object.specs.declared.object.Section.{Section}
use Rattle.cell_elf.proofs.LoadableCounts.{reads_passed}
use Rattle.cell_elf.proofs.Loads.{checked-both}
use Rattle.cell_elf.proofs.SoundSections.{numbers_below}
use Rattle.cell_elf.proofs.Soundness.{few_sections}
use Rattle.cell_got.specs.Lower.{lower, lowered}
use Rattle.cell_got.proofs.Numbered.{lower_numbers}
use Rattle.cell_origin_law.specs.Spelled.{HasShortNumbers, IsShortReading}

short_of : (number : ℕ) → nat_lt number 65536 ≡ true → number < 2 ^ 16
short_of number h = grind (arith, nat_tests)

lowered_short : (o : Object) → list_all (λ s. nat_lt s.number 65535) o.sections ≡ true → HasShortNumbers (lower o)
lowered_short o h =
    In-All (λ (s : Section). s.number < 2 ^ 16) (lower o).sections (λ s i.
    short_of s.number (all-In (λ (t : Section). nat_lt t.number 65536) (lower o).sections (lower_numbers o h) s i))

object_short : (file : List ℕ) (o : Object) → reads file ≡ Ok o → HasShortNumbers (lower o)
object_short file o e =
    let p = reads_passed file o e in
    let header = checked-both (header_rules file) (sections_rules file ++ (symtab_rules file ++ (symbols_rules file ++ (relocations_rules file ++ (pairs_rules file ++ slots_rules file))))) p.0 in
    lowered_short o (subst (λ (x : Object). list_all (λ s. nat_lt s.number 65535) x.sections ≡ true) p.1 (numbers_below file (few_sections file header.0)))

short_reading : (file : List ℕ) (r : Result Object Broken) → reads file ≡ r → IsShortReading (lowered r)
short_reading file (Ok o) e = object_short file o e
short_reading file (Err b) e = tt

pub reading_short : (file : List ℕ) → IsShortReading (lowered (reads file))
reading_short file = short_reading file (reads file) refl
