-- The symbol that a cell has under a name.
use Rattle.std.proofs.Common.{◌≡◌, refl, sym, ◌∙◌, ap, add-one, ℕ, suc, ◌+◌, Bool, true, false, cond, ◌&&◌, List, [], ◌∷◌, ◌++◌, map}
use Rattle.std.specs.Prelude.{Option, Some, filter, find, option_map, position}
use Rattle.std.specs.List.{position_from}
use Rattle.std.proofs.lemmas.Iterator.Adapters.{position_from-zero}
use Rattle.cell_num.specs.Lists.{equals, numbered_from, or_else}
use Rattle.cell_object.specs.declared.object.Object.{Object}
use Rattle.cell_object.specs.declared.object.Symbol.{Symbol}
use Rattle.cell_world.specs.Names.{definitions_of, is_definition, is_weak_definition}
use Rattle.cell_world.specs.World.{Alias}
use Rattle.cell_audit.specs.declared.written.WrittenAlias.{WrittenAlias}
use Rattle.cell_described.specs.Describes.{alias_seen}
use Rattle.cell_bearers.specs.Bearers.{alias_text, is_named}
use Rattle.cell_bearers.specs.Found.{is_weakly}

-- those of the symbols, numbered from there on, that pass the test
abbrev pub named_where : (Symbol → Bool) → ℕ → List Symbol → List Alias
named_where test k symbols = map (λ p. record { name = p.1.name; symbol = p.0 }) (filter (λ p. test p.1) (numbered_from k symbols))

abbrev pub definitions_from : ℕ → List Symbol → List Alias
definitions_from k symbols = named_where is_definition k symbols

module _ (name : List ℕ) where
  abbrev pub hit : Alias → Bool
  hit a = equals a.name name

  module _ (test : Symbol → Bool) where
    -- the number of the one of the name, among symbols that are numbered from there on
    abbrev pub found_from : ℕ → List Symbol → Option ℕ
    found_from k symbols = option_map (λ a. a.symbol) (find hit (named_where test k symbols))

    pub found_more : (k : ℕ) (s : Symbol) (rest : List Symbol) → found_from k (s ∷ rest) ≡ cond (test s && equals s.name name) (Some k) (found_from (suc k) rest)
    found_more k s rest = go (test s)
      where
        inner : (b : Bool) → option_map (λ (a : Alias). a.symbol) (cond b (Some (record { name = s.name; symbol = k })) (find hit (named_where test (suc k) rest))) ≡ cond b (Some k) (found_from (suc k) rest)
        inner true = refl
        inner false = refl

        go : (b : Bool) → option_map (λ (a : Alias). a.symbol) (find hit (map (λ (p : ℕ × Symbol). let a : Alias = record { name = p.1.name; symbol = p.0 } in a) (cond b ((k, s) ∷ filter (λ (p : ℕ × Symbol). test p.1) (numbered_from (suc k) rest)) (filter (λ (p : ℕ × Symbol). test p.1) (numbered_from (suc k) rest)))))
            ≡ cond (b && equals s.name name) (Some k) (found_from (suc k) rest)
        go true = inner (equals s.name name)
        go false = refl

  abbrev pub named_from : ℕ → List Symbol → Option ℕ
  named_from k symbols = found_from is_definition k symbols

  abbrev pub weakly_named_from : ℕ → List Symbol → Option ℕ
  weakly_named_from k symbols = found_from is_weak_definition k symbols

  pub named_more : (k : ℕ) (s : Symbol) (rest : List Symbol) → named_from k (s ∷ rest) ≡ cond (is_named name s) (Some k) (named_from (suc k) rest)
  named_more k s rest = found_more is_definition k s rest

  pub weakly_more : (k : ℕ) (s : Symbol) (rest : List Symbol) → weakly_named_from k (s ∷ rest) ≡ cond (is_weak_definition s && equals s.name name) (Some k) (weakly_named_from (suc k) rest)
  weakly_more k s rest = found_more is_weak_definition k s rest

  -- the place of the symbol, counted from there on
  weak_from : (i : ℕ) (symbols : List Symbol) → option_map (λ n. suc n) (position_from (is_weakly name) i symbols) ≡ weakly_named_from (suc i) symbols
  weak_from i [] = refl
  weak_from i (s ∷ rest) = go (is_weakly name s) (weak_from (i + 1) rest) ∙ sym (weakly_more (suc i) s rest)
    where
      go : (b : Bool) → option_map (λ n. suc n) (position_from (is_weakly name) (i + 1) rest) ≡ weakly_named_from (suc (i + 1)) rest
          → option_map (λ n. suc n) (cond b (Some i) (position_from (is_weakly name) (i + 1) rest)) ≡ cond b (Some (suc i)) (weakly_named_from (suc (suc i)) rest)
      go true ih = refl
      go false ih = ih ∙ ap (λ (n : ℕ). weakly_named_from (suc n) rest) (add-one i)

  pub weakly_is : (symbols : List Symbol) → option_map (λ n. suc n) (position (is_weakly name) symbols) ≡ weakly_named_from 1 symbols
  weakly_is symbols = ap (option_map (λ n. suc n)) (position_from-zero (is_weakly name) symbols) ∙ weak_from 0 symbols

  -- the number of the symbol that the first alias of the name is on
  abbrev pub alias_in : List ℕ → List WrittenAlias → Option ℕ
  alias_in file aliases = option_map (λ a. suc a.symbol) (find (λ a. equals (alias_text file a) name) aliases)

  aliases_seen : (file : List ℕ) (aliases : List WrittenAlias) → option_map (λ a. a.symbol) (find hit (map (alias_seen file) aliases)) ≡ alias_in file aliases
  aliases_seen file [] = refl
  aliases_seen file (a ∷ aliases) = go (equals (alias_text file a) name) (aliases_seen file aliases)
    where
      go : (b : Bool) → option_map (λ a. a.symbol) (find hit (map (alias_seen file) aliases)) ≡ alias_in file aliases
          → option_map (λ (x : Alias). x.symbol) (cond b (Some (alias_seen file a)) (find hit (map (alias_seen file) aliases)))
          ≡ option_map (λ (x : WrittenAlias). suc x.symbol) (cond b (Some a) (find (λ a. equals (alias_text file a) name) aliases))
      go true e = refl
      go false e = e

  either : (xs ys : List Alias) → option_map (λ a. a.symbol) (find hit (xs ++ ys)) ≡ or_else (option_map (λ a. a.symbol) (find hit xs)) (option_map (λ a. a.symbol) (find hit ys))
  either [] ys = refl
  either (x ∷ xs) ys = go (hit x) (either xs ys)
    where
      go : (b : Bool) → option_map (λ a. a.symbol) (find hit (xs ++ ys)) ≡ or_else (option_map (λ a. a.symbol) (find hit xs)) (option_map (λ a. a.symbol) (find hit ys))
          → option_map (λ (a : Alias). a.symbol) (cond b (Some x) (find hit (xs ++ ys))) ≡ or_else (option_map (λ (a : Alias). a.symbol) (cond b (Some x) (find hit xs))) (option_map (λ a. a.symbol) (find hit ys))
      go true e = refl
      go false e = e

  -- a definition's, or else an alias's
  pub named_either : (file : List ℕ) (object : Object) (aliases : List WrittenAlias)
      → option_map (λ a. a.symbol) (find hit (definitions_of object ++ map (alias_seen file) aliases)) ≡ or_else (named_from 1 object.symbols) (alias_in file aliases)
  named_either file object aliases = either (definitions_of object) (map (alias_seen file) aliases) ∙ ap (or_else (named_from 1 object.symbols)) (aliases_seen file aliases)
