-- The symbols of a table by their numbers.
use Rattle.std.proofs.Common.{◌≡◌, ℕ, ◌+◌, ◌-◌, ◌<◌, ◌≤◌, length, Bool, true, false, not, ◌||◌, ◌&&◌, List, Some, None, ap, ◌∙◌, arith}
use Rattle.std.specs.Prelude.{◌==◌, nat_lt, nat_le, slice_get}
use Rattle.std.proofs.lemmas.Bool.Decides.{nat_tests}
use Rattle.std.proofs.lemmas.List.FromFn.{length-map-range_with_len, get_or-map-range_with_len}
use Rattle.std.proofs.lemmas.Option.{slice_get-get_or, slice_get_past}
use Rattle.cell_object.specs.declared.headers.SectionHeader.{SectionHeader}
use Rattle.cell_object.specs.declared.object.Symbol.{Symbol}
use Rattle.cell_object.specs.Bytes.{between}
use Rattle.cell_object.specs.Symbols.{symbol_of, symbols_below}

-- there is no symbol from the count on
pub symbol_past : (file : List ℕ) (h : SectionHeader) (count j : ℕ) → count ≤ j → slice_get (symbols_below file h count) (j - 1) ≡ None
unfolding between
symbol_past file h count j e =
    let few : length (symbols_below file h count) ≤ j - 1 = omega (arith, length-map-range_with_len (symbol_of file h) 1 (count - 1)) in
    slice_get_past (symbols_below file h count) (j - 1) few

pub symbol_there : (file : List ℕ) (h : SectionHeader) (count j : ℕ) → 1 ≤ j → j < count → slice_get (symbols_below file h count) (j - 1) ≡ Some (symbol_of file h j)
unfolding between
symbol_there file h count j from there =
    let enough : j - 1 < length (symbols_below file h count) = omega (arith, length-map-range_with_len (symbol_of file h) 1 (count - 1)) in
    let within : j - 1 < count - 1 = omega arith in
    let place : 1 + (j - 1) ≡ j = omega arith in
    slice_get-get_or (symbols_below file h count) (j - 1) (symbol_of file h j) enough
    ∙ ap (λ (s : Symbol). Some s) (get_or-map-range_with_len (symbol_of file h) 1 (count - 1) (j - 1) j (symbol_of file h j) within place)

-- a section number that keeps its rule is a section's, or that of absolute symbols
pub known_number : (index count : ℕ) (local more : Bool) → 1 ≤ count → (not (index == 0 || nat_le 1 index && nat_lt index count || index == 0xFFF1 && local) || more) ≡ false
    → (nat_lt index count || index == 0xFFF1) ≡ true
known_number index count true more counted e = grind (arith, nat_tests)
known_number index count false more counted e = grind (arith, nat_tests)
