-- How many names an object defines that a cell may have.
use Rattle.std.proofs.Common.{ℕ, suc, ◌≤◌, ◌<◌, ◌^◌, arith, Bool, true, false, cond, List, [], ◌∷◌, length}
use Rattle.std.specs.Prelude.{filter}
use Rattle.std.proofs.lemmas.List.{length-map}
use Rattle.cell_num.specs.Lists.{numbered_from}
use Rattle.cell_object.specs.declared.object.Object.{Object}
use Rattle.cell_object.specs.declared.object.Symbol.{Symbol}
use Rattle.cell_world.specs.Coherent.{IsLoadable}
use Rattle.cell_world.specs.Names.{is_definition, definitions_of}
use Rattle.cell_world.specs.World.{Alias}

abbrev defines : ℕ × Symbol → Bool
defines p = is_definition p.1

one_more : (b : Bool) (p : ℕ × Symbol) (rest : List (ℕ × Symbol)) (n : ℕ) → length rest ≤ n → length (cond b (p ∷ rest) rest) ≤ suc n
one_more true p rest n h = omega (arith, h)
one_more false p rest n h = omega (arith, h)

filter_shorter : (i : ℕ) (symbols : List Symbol) → length (filter defines (numbered_from i symbols)) ≤ length symbols
filter_shorter i [] = omega arith
filter_shorter i (s ∷ symbols) =
    one_more (is_definition s) (i, s) (filter defines (numbered_from (suc i) symbols)) (length symbols) (filter_shorter (suc i) symbols)

pub few_definitions : (o : Object) → IsLoadable o → length (definitions_of o) < 2 ^ 32
few_definitions o loadable =
    let Name : ℕ × Symbol → Alias = λ p. record { name = p.1.name; symbol = p.0 } in
    let many = length-map (filter defines (numbered_from 1 o.symbols)) Name in
    let shorter = filter_shorter 1 o.symbols in
    let few = loadable.symbols in
    omega (arith, many, shorter, few)
