-- Definitions by their base names, one after another.
use Rattle.std.proofs.Common.{◌≡◌, refl, sym, ◌∙◌, ap, ℕ, Bool, true, false, cond, List, [], ◌∷◌, ◌++◌, append-nil}
use Rattle.std.specs.Prelude.{Option, Some, None, ◌||◌, find, is_some, option_map}
use Rattle.std.proofs.lemmas.List.Elements.{filter-append}
use Rattle.std.proofs.lemmas.Slice.Eq.{bytes_eq-Decides}
use Rattle.cell_num.specs.Lists.{equals, or_else}
use Rattle.cell_world.specs.Names.{base_name, has_name, symbol_in}
use Rattle.cell_world.specs.Reexport.{symbol_of_one}
use Rattle.cell_world.specs.World.{Alias}
use Rattle.cell_gather.specs.declared.heirs.Heirs.{Heirs}
use Rattle.cell_gather.specs.Renaming.{AreHeirs, are_several, first_symbol, of_base}

one_symbol : (b : Bool) (r : Alias) → option_map (λ (a : Alias). a.symbol) (cond b (Some r) None) ≡ cond b (Some r.symbol) None
one_symbol true r = refl
one_symbol false r = refl

symbol_first : (b : Bool) (a : Alias) (found rest : Option Alias) (more : Option ℕ) → option_map (λ (x : Alias). x.symbol) found ≡ or_else (option_map (λ (x : Alias). x.symbol) rest) more
    → option_map (λ (x : Alias). x.symbol) (cond b (Some a) found) ≡ or_else (option_map (λ (x : Alias). x.symbol) (cond b (Some a) rest)) more
symbol_first true a found rest more e = refl
symbol_first false a found rest more e = e

symbol-more : (rows : List Alias) (r : Alias) (q : List ℕ) → symbol_in (rows ++ r ∷ []) q ≡ or_else (symbol_in rows q) (cond (equals r.name q) (Some r.symbol) None)
symbol-more [] r q = one_symbol (equals r.name q) r
symbol-more (a ∷ rows) r q =
    symbol_first (equals a.name q) a (find (λ x. equals x.name q) (rows ++ r ∷ [])) (find (λ x. equals x.name q) rows) (cond (equals r.name q) (Some r.symbol) None) (symbol-more rows r q)

or_nothing : (b : Bool) → (b || false) ≡ b
or_nothing true = refl
or_nothing false = refl

or_assoc : (a b c : Bool) → (a || (b || c)) ≡ ((a || b) || c)
or_assoc true b c = refl
or_assoc false b c = refl

name-more : (rows : List Alias) (r : Alias) (q : List ℕ) → has_name (rows ++ r ∷ []) q ≡ (has_name rows q || equals r.name q)
name-more [] r q = or_nothing (equals r.name q)
name-more (a ∷ rows) r q = ap (λ b. equals a.name q || b) (name-more rows r q) ∙ or_assoc (equals a.name q) (has_name rows q) (equals r.name q)

first-more : (f : List Alias) (r : Alias) → first_symbol (f ++ r ∷ []) ≡ or_else (first_symbol f) (Some r.symbol)
first-more [] r = refl
first-more (a ∷ f) r = refl

several-more : (f : List Alias) (r : Alias) → are_several (f ++ r ∷ []) ≡ is_some (first_symbol f)
several-more [] r = refl
several-more (a ∷ []) r = refl
several-more (a ∷ b ∷ f) r = refl

none_several : (f : List Alias) → first_symbol f ≡ None → are_several f ≡ false
none_several [] e = refl
none_several (a ∷ f) e = absurd (cc e)

or_none : (o : Option ℕ) → or_else o None ≡ o
or_none None = refl
or_none (Some x) = refl

some_stays : (o p : Option ℕ) → is_some o ≡ true → or_else o p ≡ o
some_stays None p e = absurd (cc e)
some_stays (Some x) p e = refl

-- one more definition, of a base name
module _ (rows : List Alias) (r : Alias) (base : List ℕ) (is : base_name r.name ≡ base) where
  base-more : (q : List ℕ) → of_base q (rows ++ r ∷ []) ≡ of_base q rows ++ cond (equals base q) (r ∷ []) []
  base-more q =
      filter-append (λ a. equals (base_name a.name) q) rows (r ∷ [])
      ∙ ap (λ (b : List ℕ). of_base q rows ++ cond (equals b q) (r ∷ []) []) is

  same_base : (q : List ℕ) → equals base q ≡ true → base ≡ q
  same_base q e = (bytes_eq-Decides base q).0 e

  module _ (old new : Heirs) (are : AreHeirs rows old) where
    -- the first of its base name
    pub noted_first : symbol_in old.once base ≡ None → new.once ≡ old.once ++ record { name = base; symbol = r.symbol } ∷ [] → new.several ≡ old.several → AreHeirs (rows ++ r ∷ []) new
    noted_first none once several = record {
      once = λ q.
          ap (λ (x : List Alias). symbol_in x q) once
          ∙ symbol-more old.once (record { name = base; symbol = r.symbol }) q
          ∙ ap (λ o. or_else o (cond (equals base q) (Some r.symbol) None)) (are.once q)
          ∙ by (equals base q) (of_base q rows)
          ∙ ap first_symbol (sym (base-more q));
      several = λ q.
          ap (λ (x : List Alias). has_name x q) several
          ∙ are.several q
          ∙ none_more q (equals base q) refl
          ∙ ap are_several (sym (base-more q));
    }
      where
        by : (b : Bool) (f : List Alias) → or_else (first_symbol f) (cond b (Some r.symbol) None) ≡ first_symbol (f ++ cond b (r ∷ []) [])
        by true f = sym (first-more f r)
        by false f = or_none (first_symbol f) ∙ ap first_symbol (sym (append-nil f))

        none_more : (q : List ℕ) (b : Bool) → equals base q ≡ b → are_several (of_base q rows) ≡ are_several (of_base q rows ++ cond b (r ∷ []) [])
        none_more q false e = ap are_several (sym (append-nil (of_base q rows)))
        none_more q true e =
            let empty : first_symbol (of_base q rows) ≡ None = sym (are.once q) ∙ ap (symbol_in old.once) (sym (same_base q e)) ∙ none in
            none_several (of_base q rows) empty ∙ sym (several-more (of_base q rows) r ∙ ap is_some empty)

    once_stays : is_some (symbol_in old.once base) ≡ true → new.once ≡ old.once → (q : List ℕ) → symbol_in new.once q ≡ first_symbol (of_base q (rows ++ r ∷ []))
    once_stays some once q =
        ap (λ (x : List Alias). symbol_in x q) once
        ∙ are.once q
        ∙ by (equals base q) refl
        ∙ ap first_symbol (sym (base-more q))
      where
        by : (b : Bool) → equals base q ≡ b → first_symbol (of_base q rows) ≡ first_symbol (of_base q rows ++ cond b (r ∷ []) [])
        by false e = ap first_symbol (sym (append-nil (of_base q rows)))
        by true e =
            let there : is_some (first_symbol (of_base q rows)) ≡ true = ap is_some (sym (are.once q) ∙ ap (symbol_in old.once) (sym (same_base q e))) ∙ some in
            sym (first-more (of_base q rows) r ∙ some_stays (first_symbol (of_base q rows)) (Some r.symbol) there)

    many_now : is_some (symbol_in old.once base) ≡ true → (q : List ℕ) → equals base q ≡ true → are_several (of_base q (rows ++ r ∷ [])) ≡ true
    many_now some q e =
        ap are_several (base-more q ∙ ap (λ b. of_base q rows ++ cond b (r ∷ []) []) e)
        ∙ several-more (of_base q rows) r
        ∙ ap is_some (sym (are.once q) ∙ ap (symbol_in old.once) (sym (same_base q e)))
        ∙ some

    few_still : (q : List ℕ) → equals base q ≡ false → are_several (of_base q rows) ≡ are_several (of_base q (rows ++ r ∷ []))
    few_still q e = ap are_several (sym (base-more q ∙ ap (λ b. of_base q rows ++ cond b (r ∷ []) []) e ∙ append-nil (of_base q rows)))

    -- the second one
    pub noted_second : is_some (symbol_in old.once base) ≡ true → new.once ≡ old.once → new.several ≡ old.several ++ record { name = base; symbol = r.symbol } ∷ [] → AreHeirs (rows ++ r ∷ []) new
    noted_second some once several = record {
      once = once_stays some once;
      several = λ q.
          ap (λ (x : List Alias). has_name x q) several
          ∙ name-more old.several (record { name = base; symbol = r.symbol }) q
          ∙ ap (λ b. b || equals base q) (are.several q)
          ∙ by q (equals base q) refl;
    }
      where
        always : (b : Bool) → (b || true) ≡ true
        always true = refl
        always false = refl

        by : (q : List ℕ) (b : Bool) → equals base q ≡ b → (are_several (of_base q rows) || b) ≡ are_several (of_base q (rows ++ r ∷ []))
        by q true e = always (are_several (of_base q rows)) ∙ sym (many_now some q e)
        by q false e = or_nothing (are_several (of_base q rows)) ∙ few_still q e

    -- one of several
    pub noted_again : is_some (symbol_in old.once base) ≡ true → has_name old.several base ≡ true → new.once ≡ old.once → new.several ≡ old.several → AreHeirs (rows ++ r ∷ []) new
    noted_again some there once several = record {
      once = once_stays some once;
      several = λ q. ap (λ (x : List Alias). has_name x q) several ∙ by q (equals base q) refl;
    }
      where
        by : (q : List ℕ) (b : Bool) → equals base q ≡ b → has_name old.several q ≡ are_several (of_base q (rows ++ r ∷ []))
        by q true e = ap (has_name old.several) (sym (same_base q e)) ∙ there ∙ sym (many_now some q e)
        by q false e = are.several q ∙ few_still q e

one_of : (f : List Alias) (o : Option ℕ) (b : Bool) → o ≡ first_symbol f → b ≡ are_several f → cond b None o ≡ symbol_of_one f
one_of [] o b once several = ap (λ x. cond x None o) several ∙ once
one_of (a ∷ []) o b once several = ap (λ x. cond x None o) several ∙ once
one_of (a ∷ c ∷ f) o b once several = ap (λ x. cond x None o) several

-- the one heir, or none
pub heir_is : (rows : List Alias) (h : Heirs) (base : List ℕ) → AreHeirs rows h → cond (has_name h.several base) None (symbol_in h.once base) ≡ symbol_of_one (of_base base rows)
heir_is rows h base are = one_of (of_base base rows) (symbol_in h.once base) (has_name h.several base) (are.once base) (are.several base)

pub none_of : (o : Option ℕ) → is_some o ≡ false → o ≡ None
none_of None e = refl
none_of (Some x) e = absurd (cc e)
