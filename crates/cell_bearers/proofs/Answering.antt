-- What the bearers of a name say of a cell is the symbol that the cell has under the name.
use Rattle.std.proofs.Common.{◌≡◌, refl, sym, ◌∙◌, ap, ap₂, arith, ℕ, zero, suc, ◌+◌, ◌<◌, ◌==◌, Bool, true, false, cond, List, [], ◌∷◌, ◌++◌}
use Rattle.std.specs.Prelude.{Option, Some, None, filter_map, find, flat_map, option_map, slice_get, unwrap_or}
use Rattle.std.specs.List.{cons_option}
use Rattle.std.proofs.lemmas.Bool.{eq-eqb, ne_eqb}
use Rattle.cell_num.specs.Lists.{numbered, numbered_from, or_else, where_true}
use Rattle.cell_object.specs.declared.object.Object.{Object}
use Rattle.cell_object.specs.declared.object.Symbol.{Symbol}
use Rattle.cell_audit.specs.Described.{no_object}
use Rattle.cell_audit.specs.declared.written.WrittenAlias.{WrittenAlias}
use Rattle.cell_described.specs.Describes.{cell_seen}
use Rattle.cell_described.specs.Faults.{object_at}
use Rattle.cell_described.specs.declared.cell.DescribedCell.{DescribedCell}
use Rattle.cell_world.specs.Names.{symbol_named}
use Rattle.cell_bearers.specs.Bearers.{alias_bearer, answer_of, bearers_of, cell_bearers, is_alias, is_named, object_bearers, symbol_bearer}
use Rattle.cell_bearers.specs.declared.bearer.Bearer.{Bearer}
use Rattle.cell_bearers.specs.declared.bearer.Bearer.TheVariants.{Object as ObjectBearer}
use Rattle.cell_bearers.proofs.NamingLemmas.{alias_in, named_either, named_from, named_more}
use Rattle.cell_bearers.proofs.Sooner.{answers_join, or_none}

abbrev raised : Option ℕ → Option ℕ
raised o = option_map (λ n. suc n) o

raised_or : (a b : Option ℕ) → raised (or_else a b) ≡ or_else (raised a) (raised b)
raised_or None b = refl
raised_or (Some x) b = refl

-- of elements with their places, the one of the place that is asked for answers alone
module _ {X : Type 0} (p : ℕ × DescribedCell) (f : ℕ × X → List Bearer) (key : ℕ) (silent : (m : ℕ) (x : X) → (key == m) ≡ false → answer_of (f (m, x)) p ≡ None) where
  behind : (m : ℕ) (x : X) (rest : List Bearer) → (key ≡ m → ⊥) → answer_of (f (m, x) ++ rest) p ≡ answer_of rest p
  behind m x rest differs = answers_join (f (m, x)) rest p ∙ ap (λ (o : Option ℕ). or_else o (answer_of rest p)) (silent m x (ne_eqb key m differs))

  past : (o : ℕ) (xs : List X) → key < o → answer_of (flat_map f (numbered_from o xs)) p ≡ None
  past o [] lt = refl
  past o (x ∷ xs) lt = behind o x (flat_map f (numbered_from (suc o) xs)) (λ same. absurd (omega (arith, lt, same))) ∙ past (suc o) xs (omega (arith, lt))

  pub at_key : (o : ℕ) (xs : List X) (j : ℕ) (x : X) → slice_get xs j ≡ Some x → key ≡ o + j → answer_of (flat_map f (numbered_from o xs)) p ≡ answer_of (f (key, x)) p
  at_key o [] j x e k = absurd cc
  at_key o (y ∷ xs) zero x e k =
      let same : y ≡ x = cc in
      let here : o ≡ key = omega (arith, k) in
      answers_join (f (o, y)) (flat_map f (numbered_from (suc o) xs)) p
      ∙ (ap (or_else (answer_of (f (o, y)) p)) (past (suc o) xs (omega (arith, k)))
      ∙ (or_none (answer_of (f (o, y)) p)
      ∙ (ap (λ (m : ℕ). answer_of (f (m, y)) p) here ∙ ap (λ (z : X). answer_of (f (key, z)) p) same)))
  at_key o (y ∷ xs) (suc j) x e k =
      behind o y (flat_map f (numbered_from (suc o) xs)) (λ same. absurd (omega (arith, k, same))) ∙ at_key (suc o) xs j x e (omega (arith, k))

module _ (file : List ℕ) (name : List ℕ) (i : ℕ) (c : DescribedCell) where
  abbrev p : ℕ × DescribedCell
  p = (i, c)

  -- ---- symbols
  abbrev from_object : ℕ → ℕ → List Symbol → List Bearer
  from_object object k symbols = filter_map (symbol_bearer object name) (numbered_from k symbols)

  other_object : (object k : ℕ) (symbols : List Symbol) → (c.object == object) ≡ false → answer_of (from_object object k symbols) p ≡ None
  other_object object k [] e = refl
  other_object object k (s ∷ symbols) e = go (is_named name s) (other_object object (suc k) symbols e)
    where
      go : (b : Bool) → answer_of (from_object object (suc k) symbols) p ≡ None → answer_of (cons_option (where_true b (ObjectBearer object k)) (from_object object (suc k) symbols)) p ≡ None
      go true ih = ap (λ (t : Bool). or_else (where_true t k) (answer_of (from_object object (suc k) symbols) p)) e ∙ ih
      go false ih = ih

  own_object : (k : ℕ) (symbols : List Symbol) → raised (answer_of (from_object c.object k symbols) p) ≡ named_from name (suc k) symbols
  own_object k [] = refl
  own_object k (s ∷ symbols) = go (is_named name s) (own_object (suc k) symbols) ∙ sym (named_more name (suc k) s symbols)
    where
      go : (b : Bool) → raised (answer_of (from_object c.object (suc k) symbols) p) ≡ named_from name (suc (suc k)) symbols
          → raised (answer_of (cons_option (where_true b (ObjectBearer c.object k)) (from_object c.object (suc k) symbols)) p) ≡ cond b (Some (suc k)) (named_from name (suc (suc k)) symbols)
      go true ih = ap (λ (t : Bool). raised (or_else (where_true t k) (answer_of (from_object c.object (suc k) symbols) p))) (eq-eqb c.object c.object refl)
      go false ih = ih

  -- ---- aliases
  abbrev from_cell : ℕ → List WrittenAlias → List Bearer
  from_cell cell aliases = cons_option (option_map (alias_bearer cell) (find (is_alias file name) aliases)) []

  other_cell : (cell : ℕ) (aliases : List WrittenAlias) → (i == cell) ≡ false → answer_of (from_cell cell aliases) p ≡ None
  other_cell cell aliases e = go (find (is_alias file name) aliases)
    where
      go : (o : Option WrittenAlias) → answer_of (cons_option (option_map (alias_bearer cell) o) []) p ≡ None
      go None = refl
      go (Some a) = ap (λ (t : Bool). or_else (where_true t a.symbol) None) e

  own_cell : (aliases : List WrittenAlias) → raised (answer_of (from_cell i aliases) p) ≡ alias_in name file aliases
  own_cell aliases = go (find (is_alias file name) aliases)
    where
      go : (o : Option WrittenAlias) → raised (answer_of (cons_option (option_map (alias_bearer i) o) []) p) ≡ option_map (λ (a : WrittenAlias). suc a.symbol) o
      go None = refl
      go (Some a) = ap (λ (t : Bool). raised (or_else (where_true t a.symbol) None)) (eq-eqb i i refl)

  -- ---- all
  pub answered : (objects : List Object) (cells : List DescribedCell) (object : Object) → slice_get objects c.object ≡ Some object → slice_get cells i ≡ Some c
      → raised (answer_of (bearers_of file objects cells name) p) ≡ symbol_named (cell_seen file objects c) name
  answered objects cells object there here =
      ap raised (answers_join (flat_map (object_bearers name) (numbered objects)) (flat_map (cell_bearers file name) (numbered cells)) p)
      ∙ (raised_or (answer_of (flat_map (object_bearers name) (numbered objects)) p) (answer_of (flat_map (cell_bearers file name) (numbered cells)) p)
      ∙ (ap₂ or_else
      (ap raised (at_key p (object_bearers name) c.object (λ m x e. other_object m 0 x.symbols e) 0 objects c.object object there (omega arith)) ∙ own_object 0 object.symbols)
      (ap raised (at_key p (cell_bearers file name) i (λ m x e. other_cell m x.aliases.items e) 0 cells i c here (omega arith)) ∙ own_cell c.aliases.items)
      ∙ (ap (λ (o : Option Object). or_else (named_from name 1 (unwrap_or o no_object).symbols) (alias_in name file c.aliases.items)) (sym there)
      ∙ sym (named_either name file (object_at objects c.object) c.aliases.items))))
