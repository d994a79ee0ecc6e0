-- The definitions of an object, and the symbol at a place.
use Rattle.std.proofs.Common.{◌≡◌, ℕ, zero, suc, ◌+◌, ◌<◌, Bool, true, false, cond, ◌||◌, List, [], ◌∷◌, map, refl, ap, ◌∙◌, arith}
use Rattle.std.specs.Prelude.{◌==◌, filter, option_map, slice_get, unwrap_or}
use Rattle.std.specs.List.{list_any}
use Rattle.std.proofs.lemmas.Bool.{eq-eqb, ne_eqb, or_from, or_left}
use Rattle.cell_num.specs.Lists.{numbered_from}
use Rattle.cell_object.specs.declared.object.Object.{Object}
use Rattle.cell_object.specs.declared.object.Symbol.{Symbol}
use Rattle.cell_world.specs.Names.{definitions_of, is_definition}
use Rattle.cell_world.specs.World.{Alias}
use Rattle.cell_described.specs.Faults.{defines}

module _ (m : ℕ) where
  abbrev named : List (ℕ × Symbol) → Bool
  named ps = list_any (λ d. d.symbol == m) (map (λ (p : ℕ × Symbol). let a : Alias = record { name = p.1.name; symbol = p.0 } in a) ps)

  abbrev definitions : ℕ → List Symbol → List (ℕ × Symbol)
  definitions i symbols = filter (λ p. is_definition p.1) (numbered_from i symbols)

  none_below : (i : ℕ) (symbols : List Symbol) → m < i → named (definitions i symbols) ≡ false
  none_below i [] lt = refl
  none_below i (s ∷ symbols) lt = go (is_definition s) (none_below (suc i) symbols (omega (arith, lt)))
    where
      go : (b : Bool) → named (definitions (suc i) symbols) ≡ false → named (cond b ((i, s) ∷ definitions (suc i) symbols) (definitions (suc i) symbols)) ≡ false
      go true ih = or_from (i == m) (named (definitions (suc i) symbols)) (ne_eqb i m (λ e. omega (arith, lt, e))) ih
      go false ih = ih

  at_place : (i n : ℕ) (symbols : List Symbol) → m ≡ i + n → named (definitions i symbols) ≡ unwrap_or (option_map is_definition (slice_get symbols n)) false
  at_place i n [] e = refl
  at_place i zero (s ∷ symbols) e = go (is_definition s) (none_below (suc i) symbols (omega (arith, e)))
    where
      go : (b : Bool) → named (definitions (suc i) symbols) ≡ false → named (cond b ((i, s) ∷ definitions (suc i) symbols) (definitions (suc i) symbols)) ≡ b
      go true later = or_left (i == m) (named (definitions (suc i) symbols)) (eq-eqb i m (omega (arith, e)))
      go false later = later
  at_place i (suc n) (s ∷ symbols) e = go (is_definition s) (at_place (suc i) n symbols (omega (arith, e)))
    where
      other : (b : Bool) → (i == m) ≡ b → ((i == m) || named (definitions (suc i) symbols)) ≡ (b || named (definitions (suc i) symbols))
      other b q = ap (λ (x : Bool). x || named (definitions (suc i) symbols)) q

      go : (b : Bool) → named (definitions (suc i) symbols) ≡ unwrap_or (option_map is_definition (slice_get symbols n)) false
          → named (cond b ((i, s) ∷ definitions (suc i) symbols) (definitions (suc i) symbols)) ≡ unwrap_or (option_map is_definition (slice_get symbols n)) false
      go true ih = other false (ne_eqb i m (λ q. omega (arith, e, q))) ∙ ih
      go false ih = ih

-- one of the object's definitions is the symbol exactly where the one at that place is one
pub defined_is : (object : Object) (symbol : ℕ) → list_any (λ d. d.symbol == suc symbol) (definitions_of object) ≡ defines object symbol
defined_is object symbol = at_place (suc symbol) 1 symbol object.symbols (omega arith)
