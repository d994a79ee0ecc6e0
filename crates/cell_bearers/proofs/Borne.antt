-- The bearers that the namings of all make are those of the name.
use Rattle.std.proofs.Common.{◌≡◌, refl, sym, ◌∙◌, ap, ap₂, arith, ℕ, suc, ◌<◌, Bool, true, false, not, cond, ◌&&◌, List, [], ◌∷◌, ◌++◌, map}
use Rattle.std.specs.Prelude.{Option, Some, None, filter, filter_map, find, flat_map, option_map}
use Rattle.std.specs.List.{cons_option}
use Rattle.std.proofs.lemmas.Bool.{eq-eqb, ne_eqb}
use Rattle.cell_num.specs.Lists.{equals, first, numbered, numbered_from, where_true}
use Rattle.cell_object.specs.declared.object.Bind.{Bind}
use Rattle.cell_object.specs.declared.object.Bind.TheVariants.{Local, Global, Weak}
use Rattle.cell_object.specs.declared.object.Object.{Object}
use Rattle.cell_object.specs.declared.object.Symbol.{Symbol}
use Rattle.cell_object.specs.Parts.{is_defined, is_definition, is_global, is_local}
use Rattle.cell_audit.specs.declared.written.WrittenAlias.{WrittenAlias}
use Rattle.cell_described.specs.declared.cell.DescribedCell.{DescribedCell}
use Rattle.cell_bearers.specs.Bearers.{alias_bearer, bearers_of, cell_bearers, is_alias, is_named, object_bearers, symbol_bearer}
use Rattle.cell_bearers.specs.Namings.{Named, alias_naming, bearer_of, bearers_among, cell_namings, distinct_after, is_called, is_of_cell, named, namings_of, object_namings, symbol_naming}
use Rattle.cell_bearers.specs.declared.bearer.Bearer.{Bearer}
use Rattle.cell_bearers.specs.declared.bearer.Bearer.TheVariants.{Object as ObjectBearer, Cell as CellBearer}
use Rattle.cell_bearers.specs.declared.named.Owner.TheVariants.{Need, Definition}

module _ (file name : List ℕ) where
  abbrev pub made : List Named → List Bearer
  made ns = filter_map bearer_of (filter (is_called name) ns)

  cons_first : (o : Option Bearer) (xs ys : List Bearer) → cons_option o (xs ++ ys) ≡ cons_option o xs ++ ys
  cons_first None xs ys = refl
  cons_first (Some b) xs ys = refl

  made_join : (xs ys : List Named) → made (xs ++ ys) ≡ made xs ++ made ys
  made_join [] ys = refl
  made_join (x ∷ xs) ys = go (is_called name x) (made_join xs ys)
    where
      go : (t : Bool) → made (xs ++ ys) ≡ made xs ++ made ys
          → filter_map bearer_of (cond t (x ∷ filter (is_called name) (xs ++ ys)) (filter (is_called name) (xs ++ ys)))
          ≡ filter_map bearer_of (cond t (x ∷ filter (is_called name) xs) (filter (is_called name) xs)) ++ made ys
      go true ih = ap (cons_option (bearer_of x)) ih ∙ cons_first (bearer_of x) (made xs) (made ys)
      go false ih = ih

  -- ---- symbols
  abbrev symbols_made : ℕ → ℕ → List Symbol → List Bearer
  symbols_made object k symbols = made (filter_map (symbol_naming object) (numbered_from k symbols))

  abbrev symbol_bearers : ℕ → ℕ → List Symbol → List Bearer
  symbol_bearers object k symbols = filter_map (symbol_bearer object name) (numbered_from k symbols)

  -- a LOCAL is no definition
  not_local : (s : Symbol) → is_local s.bind ≡ true → is_definition s ≡ false
  not_local s e = go s.bind e
    where
      go : (b : Bind) → is_local b ≡ true → (is_global b && is_defined s.home) ≡ false
      go Local e = refl
      go Global e = absurd (cc e)
      go Weak e = absurd (cc e)

  of_symbols : (object k : ℕ) (symbols : List Symbol) → symbols_made object k symbols ≡ symbol_bearers object k symbols
  of_symbols object k [] = refl
  of_symbols object k (s ∷ symbols) = go (is_local s.bind) (is_definition s) (not_local s) (of_symbols object (suc k) symbols)
    where
      inner : (d e : Bool) → symbols_made object (suc k) symbols ≡ symbol_bearers object (suc k) symbols
          → filter_map bearer_of (cond e (named s.name (cond d (Definition object k) (Need object k)) ∷ filter (is_called name) (filter_map (symbol_naming object) (numbered_from (suc k) symbols))) (filter (is_called name) (filter_map (symbol_naming object) (numbered_from (suc k) symbols))))
          ≡ cons_option (where_true (d && e) (ObjectBearer object k)) (symbol_bearers object (suc k) symbols)
      inner true true ih = ap (λ (bs : List Bearer). ObjectBearer object k ∷ bs) ih
      inner true false ih = ih
      inner false true ih = ih
      inner false false ih = ih

      go : (l d : Bool) → (l ≡ true → d ≡ false) → symbols_made object (suc k) symbols ≡ symbol_bearers object (suc k) symbols
          → made (cons_option (where_true (not l) (named s.name (cond d (Definition object k) (Need object k)))) (filter_map (symbol_naming object) (numbered_from (suc k) symbols)))
          ≡ cons_option (where_true (d && equals s.name name) (ObjectBearer object k)) (symbol_bearers object (suc k) symbols)
      go true true apart ih = absurd (let off = apart refl in cc off)
      go true false apart ih = ih
      go false d apart ih = inner d (equals s.name name) ih

  of_objects : (m : ℕ) (objects : List Object) → made (flat_map object_namings (numbered_from m objects)) ≡ flat_map (object_bearers name) (numbered_from m objects)
  of_objects m [] = refl
  of_objects m (o ∷ objects) =
      made_join (object_namings (m, o)) (flat_map object_namings (numbered_from (suc m) objects))
      ∙ ap₂ ◌++◌ (of_symbols m 0 o.symbols) (of_objects (suc m) objects)

  -- ---- aliases
  abbrev every : ℕ × DescribedCell → List Bearer
  every p = map (alias_bearer p.0) (filter (is_alias file name) p.1.aliases.items)

  of_aliases : (cell k : ℕ) (aliases : List WrittenAlias) → made (map (alias_naming file cell) (numbered_from k aliases)) ≡ map (alias_bearer cell) (filter (is_alias file name) aliases)
  of_aliases cell k [] = refl
  of_aliases cell k (a ∷ aliases) = go (is_alias file name a) (of_aliases cell (suc k) aliases)
    where
      go : (t : Bool) → made (map (alias_naming file cell) (numbered_from (suc k) aliases)) ≡ map (alias_bearer cell) (filter (is_alias file name) aliases)
          → filter_map bearer_of (cond t (alias_naming file cell (k, a) ∷ filter (is_called name) (map (alias_naming file cell) (numbered_from (suc k) aliases))) (filter (is_called name) (map (alias_naming file cell) (numbered_from (suc k) aliases))))
          ≡ map (alias_bearer cell) (cond t (a ∷ filter (is_alias file name) aliases) (filter (is_alias file name) aliases))
      go true ih = ap (λ (bs : List Bearer). CellBearer cell a.symbol ∷ bs) ih
      go false ih = ih

  of_cells : (m : ℕ) (cells : List DescribedCell) → made (flat_map (cell_namings file) (numbered_from m cells)) ≡ flat_map every (numbered_from m cells)
  of_cells m [] = refl
  of_cells m (c ∷ cells) =
      made_join (cell_namings file (m, c)) (flat_map (cell_namings file) (numbered_from (suc m) cells))
      ∙ ap₂ ◌++◌ (of_aliases m 0 c.aliases.items) (of_cells (suc m) cells)

  -- ---- of a cell the first counts
  abbrev IsBefore : Option Bearer → ℕ → Type 0
  IsBefore None m = Unit {0}
  IsBefore (Some (ObjectBearer object symbol)) m = Unit {0}
  IsBefore (Some (CellBearer cell symbol)) m = cell < m

  later : (last : Option Bearer) (m : ℕ) → IsBefore last m → IsBefore last (suc m)
  later None m before = tt
  later (Some (ObjectBearer object symbol)) m before = tt
  later (Some (CellBearer cell symbol)) m before = omega (arith, before)

  not_again : (last : Option Bearer) (m : ℕ) → IsBefore last m → is_of_cell m last ≡ false
  not_again None m before = refl
  not_again (Some (ObjectBearer object symbol)) m before = refl
  not_again (Some (CellBearer cell symbol)) m before = ne_eqb cell m (λ same. absurd (omega (arith, before, same)))

  again : (cell symbol : ℕ) (xs : List WrittenAlias) (rest : List Bearer)
      → distinct_after (Some (CellBearer cell symbol)) (map (alias_bearer cell) xs ++ rest) ≡ distinct_after (Some (CellBearer cell symbol)) rest
  again cell symbol [] rest = refl
  again cell symbol (x ∷ xs) rest =
      ap (λ (t : Bool). cond t (distinct_after (Some (CellBearer cell symbol)) (map (alias_bearer cell) xs ++ rest)) (CellBearer cell x.symbol ∷ distinct_after (Some (CellBearer cell x.symbol)) (map (alias_bearer cell) xs ++ rest))) (eq-eqb cell cell refl)
      ∙ again cell symbol xs rest

  found : (xs : List WrittenAlias) → find (is_alias file name) xs ≡ first (filter (is_alias file name) xs)
  found [] = refl
  found (x ∷ xs) = go (is_alias file name x) (found xs)
    where
      go : (t : Bool) → find (is_alias file name) xs ≡ first (filter (is_alias file name) xs) → cond t (Some x) (find (is_alias file name) xs) ≡ first (cond t (x ∷ filter (is_alias file name) xs) (filter (is_alias file name) xs))
      go true ih = refl
      go false ih = ih

  firsts : (last : Option Bearer) (m : ℕ) (cells : List DescribedCell) → IsBefore last m → distinct_after last (flat_map every (numbered_from m cells)) ≡ flat_map (cell_bearers file name) (numbered_from m cells)
  firsts last m [] before = refl
  firsts last m (c ∷ cells) before =
      go (filter (is_alias file name) c.aliases.items) (λ next earlier. firsts next (suc m) cells earlier)
      ∙ ap (λ (o : Option WrittenAlias). cons_option (option_map (alias_bearer m) o) [] ++ flat_map (cell_bearers file name) (numbered_from (suc m) cells)) (sym (found c.aliases.items))
    where
      go : (xs : List WrittenAlias) → ((next : Option Bearer) → IsBefore next (suc m) → distinct_after next (flat_map every (numbered_from (suc m) cells)) ≡ flat_map (cell_bearers file name) (numbered_from (suc m) cells))
          → distinct_after last (map (alias_bearer m) xs ++ flat_map every (numbered_from (suc m) cells)) ≡ cons_option (option_map (alias_bearer m) (first xs)) [] ++ flat_map (cell_bearers file name) (numbered_from (suc m) cells)
      go [] ih = ih last (later last m before)
      go (x ∷ xs) ih =
          ap (λ (t : Bool). cond t (distinct_after last (map (alias_bearer m) xs ++ flat_map every (numbered_from (suc m) cells))) (CellBearer m x.symbol ∷ distinct_after (Some (CellBearer m x.symbol)) (map (alias_bearer m) xs ++ flat_map every (numbered_from (suc m) cells)))) (not_again last m before)
          ∙ ap (λ (bs : List Bearer). CellBearer m x.symbol ∷ bs) (again m x.symbol xs (flat_map every (numbered_from (suc m) cells)) ∙ ih (Some (CellBearer m x.symbol)) (omega arith))

  -- ---- objects stand before
  abbrev pub AreObjects : List Bearer → Type 0
  AreObjects [] = Unit {0}
  AreObjects (ObjectBearer object symbol ∷ bs) = AreObjects bs
  AreObjects (CellBearer cell symbol ∷ bs) = ⊥

  objects_join : (xs ys : List Bearer) → AreObjects xs → AreObjects ys → AreObjects (xs ++ ys)
  objects_join [] ys a b = b
  objects_join (ObjectBearer object symbol ∷ xs) ys a b = objects_join xs ys a b
  objects_join (CellBearer cell symbol ∷ xs) ys a b = absurd a

  symbols_are : (object k : ℕ) (symbols : List Symbol) → AreObjects (symbol_bearers object k symbols)
  symbols_are object k [] = tt
  symbols_are object k (s ∷ symbols) = go (is_named name s) (symbols_are object (suc k) symbols)
    where
      go : (t : Bool) → AreObjects (symbol_bearers object (suc k) symbols) → AreObjects (cons_option (where_true t (ObjectBearer object k)) (symbol_bearers object (suc k) symbols))
      go true ih = ih
      go false ih = ih

  pub objects_are : (m : ℕ) (objects : List Object) → AreObjects (flat_map (object_bearers name) (numbered_from m objects))
  objects_are m [] = tt
  objects_are m (o ∷ objects) = objects_join (object_bearers name (m, o)) (flat_map (object_bearers name) (numbered_from (suc m) objects)) (symbols_are m 0 o.symbols) (objects_are (suc m) objects)

  after_objects : (last : Option Bearer) (bs rest result : List Bearer) → AreObjects bs → IsBefore last 0 → ((last : Option Bearer) → IsBefore last 0 → distinct_after last rest ≡ result) → distinct_after last (bs ++ rest) ≡ bs ++ result
  after_objects last [] rest result are before f = f last before
  after_objects last (ObjectBearer object symbol ∷ bs) rest result are before f = ap (λ (xs : List Bearer). ObjectBearer object symbol ∷ xs) (after_objects (Some (ObjectBearer object symbol)) bs rest result are tt f)
  after_objects last (CellBearer cell symbol ∷ bs) rest result are before f = absurd are

  pub bearers_made : (objects : List Object) (cells : List DescribedCell) → bearers_among name (namings_of file objects cells) ≡ bearers_of file objects cells name
  bearers_made objects cells =
      ap (distinct_after None) (made_join (flat_map object_namings (numbered objects)) (flat_map (cell_namings file) (numbered cells)) ∙ ap₂ ◌++◌ (of_objects 0 objects) (of_cells 0 cells))
      ∙ after_objects None (flat_map (object_bearers name) (numbered objects)) (flat_map every (numbered cells)) (flat_map (cell_bearers file name) (numbered cells)) (objects_are 0 objects) tt
      (λ last before. firsts last 0 cells before)
