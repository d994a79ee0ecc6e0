-- What a naming says of its owner.
use Rattle.std.proofs.Common.{◌≡◌, refl, sym, ◌∙◌, ap, subst, arith, ℕ, ◌<◌, ◌==◌, Bool, true, false, not, cond, ◌&&◌, ◌⊎◌, inl, inr, List, [], ◌∷◌, length, map, replicate, true≢false}
use Rattle.std.specs.Prelude.{Option, Some, None, filter_map, flat_map, option_map, slice_get}
use Rattle.std.specs.List.{cons_option}
use Rattle.std.proofs.lemmas.Bool.{and_parts, eqb-true}
use Rattle.std.proofs.lemmas.List.{length-replicate}
use Rattle.std.proofs.lemmas.Option.{get_or_from_slice_get, slice_get-map, slice_get_within}
use Rattle.cell_num.specs.Lists.{In, numbered, where_true}
use Rattle.cell_num.proofs.Elements.{In-append, In-flat_map, In-left, In-map, In-numbered, In-right, flat_map-In, map-In, numbered-In}
use Rattle.cell_object.specs.declared.object.Object.{Object}
use Rattle.cell_object.specs.declared.object.Symbol.{Symbol}
use Rattle.cell_object.specs.Parts.{is_definition, is_local}
use Rattle.cell_audit.specs.declared.written.WrittenAlias.{WrittenAlias}
use Rattle.cell_described.specs.declared.cell.DescribedCell.{DescribedCell}
use Rattle.cell_bearers.specs.Bearers.{alias_text}
use Rattle.cell_bearers.specs.Namings.{AreFaithful, Named, alias_naming, cell_namings, is_aliases, is_owners, is_symbols, named, namings_of, object_namings, symbol_naming, symbol_owner}
use Rattle.cell_bearers.specs.Rows.{IsThere, no_row, width}
use Rattle.cell_bearers.specs.declared.named.Owner.{Owner}
use Rattle.cell_bearers.specs.declared.named.Owner.TheVariants.{Need, Definition, Alias}
use Rattle.cell_bearers.specs.declared.rows.Row.{Row}
use Rattle.cell_bearers.specs.declared.rows.Rows.{Rows}

none_some : {Y : Type 0} (y : Y) → None ≡ Some y → ⊥
none_some y e = cc

given_In : {Y : Type 0} (o : Option Y) (ys : List Y) (y : Y) → o ≡ Some y → In y (cons_option o ys)
given_In None ys y e = absurd (none_some y e)
given_In (Some z) ys y e = let k : y ≡ z = cc in inl k

later_In : {Y : Type 0} (o : Option Y) (ys : List Y) (y : Y) → In y ys → In y (cons_option o ys)
later_In None ys y k = k
later_In (Some z) ys y k = inr k

module _ {X Y : Type 0} where
  pub filter_map-In : (f : X → Option Y) (xs : List X) (x : X) (y : Y) → In x xs → f x ≡ Some y → In y (filter_map f xs)
  filter_map-In f [] x y k e = absurd k
  filter_map-In f (z ∷ xs) x y (inl same) e = given_In (f z) (filter_map f xs) y (ap f (sym same) ∙ e)
  filter_map-In f (z ∷ xs) x y (inr k) e = later_In (f z) (filter_map f xs) y (filter_map-In f xs x y k e)

  pub In-filter_map : (f : X → Option Y) (xs : List X) (y : Y) → In y (filter_map f xs) → (x : X) × In x xs × (f x ≡ Some y)
  In-filter_map f [] y k = absurd k
  In-filter_map f (x ∷ xs) y k = go (f x) refl k (In-filter_map f xs y)
    where
      go : (o : Option Y) → f x ≡ o → In y (cons_option o (filter_map f xs)) → (In y (filter_map f xs) → (z : X) × In z xs × (f z ≡ Some y)) → (z : X) × In z (x ∷ xs) × (f z ≡ Some y)
      go None e m g = let r = g m in (r.0, inr r.1, r.2)
      go (Some z) e (inl same) g = (x, inl refl, e ∙ ap (λ (v : Y). Some v) (sym same))
      go (Some z) e (inr m) g = let r = g m in (r.0, inr r.1, r.2)

one_value : {Y : Type 0} (x y : Y) → Some x ≡ Some y → x ≡ y
one_value x y e = cc

true_value : {Y : Type 0} (t : Bool) (x y : Y) → where_true t x ≡ Some y → y ≡ x
true_value true x y e = cc
true_value false x y e = absurd (none_some y e)

module _ (file : List ℕ) (objects : List Object) (cells : List DescribedCell) where
  abbrev all : List Named
  all = namings_of file objects cells

  pub record IsOfSymbol (i k : ℕ) (name : List ℕ) : Type 0 where
    pub object : Object
    pub there : slice_get objects i ≡ Some object
    pub symbol : Symbol
    pub in_it : slice_get object.symbols k ≡ Some symbol
    pub name_is : name ≡ symbol.name

  pub record IsOfAlias (i k : ℕ) (name : List ℕ) : Type 0 where
    pub cell : DescribedCell
    pub there : slice_get cells i ≡ Some cell
    pub alias : WrittenAlias
    pub in_it : slice_get cell.aliases.items k ≡ Some alias
    pub name_is : name ≡ alias_text file alias

  abbrev pub IsRight : List ℕ → Owner → Type 0
  IsRight name (Need object symbol) = IsOfSymbol object symbol name
  IsRight name (Definition object symbol) = IsOfSymbol object symbol name
  IsRight name (Alias cell alias symbol) = IsOfAlias cell alias name

  right_symbol : (d : Bool) (i k : ℕ) (name : List ℕ) → IsOfSymbol i k name → IsRight name (cond d (Definition i k) (Need i k))
  right_symbol true i k name is = is
  right_symbol false i k name is = is

  right_of_object : (p : ℕ × Object) (n : Named) → In p (numbered objects) → In n (object_namings p) → IsRight n.name n.owner
  right_of_object p n in_all in_it =
      let at = In-numbered objects 0 p in_all in
      let q = In-filter_map (symbol_naming p.0) (numbered p.1.symbols) n in_it in
      let k = In-numbered p.1.symbols 0 q.0 q.1 in
      let place : p.0 ≡ at.0 = at.2 ∙ omega arith in
      let number : q.0.0 ≡ k.0 = k.2 ∙ omega arith in
      let is : n ≡ named q.0.1.name (symbol_owner p.0 q.0) = true_value (not (is_local q.0.1.bind)) (named q.0.1.name (symbol_owner p.0 q.0)) n q.2 in
      subst (λ (m : Named). IsRight m.name m.owner) (sym is)
      (right_symbol (is_definition q.0.1) p.0 q.0.0 q.0.1.name (record {
        object = p.1;
        there = ap (slice_get objects) place ∙ at.1;
        symbol = q.0.1;
        in_it = ap (slice_get p.1.symbols) number ∙ k.1;
        name_is = refl;
      }))

  right_of_cell : (p : ℕ × DescribedCell) (n : Named) → In p (numbered cells) → In n (cell_namings file p) → IsRight n.name n.owner
  right_of_cell p n in_all in_it =
      let at = In-numbered cells 0 p in_all in
      let q = In-map (alias_naming file p.0) (numbered p.1.aliases.items) n in_it in
      let k = In-numbered p.1.aliases.items 0 q.0 q.1 in
      let place : p.0 ≡ at.0 = at.2 ∙ omega arith in
      let number : q.0.0 ≡ k.0 = k.2 ∙ omega arith in
      let is : IsOfAlias p.0 q.0.0 (alias_text file q.0.1) = record {
        cell = p.1;
        there = ap (slice_get cells) place ∙ at.1;
        alias = q.0.1;
        in_it = ap (slice_get p.1.aliases.items) number ∙ k.1;
        name_is = refl;
      } in
      subst (λ (m : Named). IsRight m.name m.owner) (sym q.2) is

  pub right : (n : Named) → In n all → IsRight n.name n.owner
  right n k = go (In-append (flat_map object_namings (numbered objects)) (flat_map (cell_namings file) (numbered cells)) n k)
    where
      go : In n (flat_map object_namings (numbered objects)) ⊎ In n (flat_map (cell_namings file) (numbered cells)) → IsRight n.name n.owner
      go (inl m) = let r = In-flat_map object_namings (numbered objects) n m in right_of_object r.0 n r.1 r.2
      go (inr m) = let r = In-flat_map (cell_namings file) (numbered cells) n m in right_of_cell r.0 n r.1 r.2

  -- ---- one symbol or alias has one name
  same_symbol : (i k : ℕ) (a b : List ℕ) → IsOfSymbol i k a → IsOfSymbol i k b → a ≡ b
  same_symbol i k a b x y =
      let o = one_value x.object y.object (sym x.there ∙ y.there) in
      let s = one_value x.symbol y.symbol (sym x.in_it ∙ (ap (λ (object : Object). slice_get object.symbols k) o ∙ y.in_it)) in
      x.name_is ∙ (ap (λ (symbol : Symbol). symbol.name) s ∙ sym y.name_is)

  same_alias : (i k : ℕ) (a b : List ℕ) → IsOfAlias i k a → IsOfAlias i k b → a ≡ b
  same_alias i k a b x y =
      let o = one_value x.cell y.cell (sym x.there ∙ y.there) in
      let s = one_value x.alias y.alias (sym x.in_it ∙ (ap (λ (cell : DescribedCell). slice_get cell.aliases.items k) o ∙ y.in_it)) in
      x.name_is ∙ (ap (alias_text file) s ∙ sym y.name_is)

  moved_symbol : (i k j l : ℕ) (name : List ℕ) → (i == j && k == l) ≡ true → IsOfSymbol j l name → IsOfSymbol i k name
  moved_symbol i k j l name e is =
      let p = and_parts (i == j) (k == l) e in
      subst (λ (m : ℕ). IsOfSymbol m k name) (sym (eqb-true i j p.0)) (subst (λ (m : ℕ). IsOfSymbol j m name) (sym (eqb-true k l p.1)) is)

  moved_alias : (i k j l : ℕ) (name : List ℕ) → (i == j && k == l) ≡ true → IsOfAlias j l name → IsOfAlias i k name
  moved_alias i k j l name e is =
      let p = and_parts (i == j) (k == l) e in
      subst (λ (m : ℕ). IsOfAlias m k name) (sym (eqb-true i j p.0)) (subst (λ (m : ℕ). IsOfAlias j m name) (sym (eqb-true k l p.1)) is)

  of_symbols : (i k : ℕ) (name : List ℕ) (o : Owner) → is_symbols i k o ≡ true → IsRight name o → IsOfSymbol i k name
  of_symbols i k name (Need object symbol) e is = moved_symbol i k object symbol name e is
  of_symbols i k name (Definition object symbol) e is = moved_symbol i k object symbol name e is
  of_symbols i k name (Alias cell alias symbol) e is = absurd (true≢false (sym e))

  of_aliases : (i k : ℕ) (name : List ℕ) (o : Owner) → is_aliases i k o ≡ true → IsRight name o → IsOfAlias i k name
  of_aliases i k name (Need object symbol) e is = absurd (true≢false (sym e))
  of_aliases i k name (Definition object symbol) e is = absurd (true≢false (sym e))
  of_aliases i k name (Alias cell alias symbol) e is = moved_alias i k cell alias name e is

  one_name : (a b : List ℕ) (o q : Owner) → IsRight a o → IsRight b q → is_owners o q ≡ true → a ≡ b
  one_name a b (Need object symbol) q x y e = same_symbol object symbol a b x (of_symbols object symbol b q e y)
  one_name a b (Definition object symbol) q x y e = same_symbol object symbol a b x (of_symbols object symbol b q e y)
  one_name a b (Alias cell alias symbol) q x y e = same_alias cell alias a b x (of_aliases cell alias b q e y)

  pub faithful : AreFaithful all
  faithful m n x y e = one_name m.name n.name m.owner n.owner (right m x) (right n y) e

  -- ---- there is a place for its row
  module _ (rows : Rows) (symbols : rows.symbols.items ≡ map (λ (o : Object). replicate (length o.symbols) no_row) objects)
      (aliases : rows.aliases.items ≡ map (λ (c : DescribedCell). replicate (length c.aliases.items) no_row) cells) where
    room : {X : Type 0} (f : X → ℕ) (xs : List X) (i k : ℕ) (x : X) → slice_get xs i ≡ Some x → k < f x → k < width (map (λ (y : X). replicate (f y) no_row) xs) i
    room {X} f xs i k x there lt =
        let row = λ (y : X). replicate (f y) no_row in
        let is = ap (λ (rs : List Row). length rs) (get_or_from_slice_get (map row xs) i (row x) [] (slice_get-map row xs i ∙ ap (option_map row) there)) ∙ length-replicate (f x) no_row in
        omega (arith, lt, is)

    symbol_room : (i k : ℕ) (name : List ℕ) → IsOfSymbol i k name → k < width rows.symbols.items i
    symbol_room i k name is =
        subst (λ (t : List (List Row)). k < width t i) (sym symbols) (room (λ (o : Object). length o.symbols) objects i k is.object is.there (slice_get_within is.object.symbols k is.symbol is.in_it))

    alias_room : (i k : ℕ) (name : List ℕ) → IsOfAlias i k name → k < width rows.aliases.items i
    alias_room i k name is =
        subst (λ (t : List (List Row)). k < width t i) (sym aliases) (room (λ (c : DescribedCell). length c.aliases.items) cells i k is.cell is.there (slice_get_within is.cell.aliases.items k is.alias is.in_it))

    owner_room : (name : List ℕ) (o : Owner) → IsRight name o → IsThere rows o
    owner_room name (Need object symbol) is = symbol_room object symbol name is
    owner_room name (Definition object symbol) is = symbol_room object symbol name is
    owner_room name (Alias cell alias symbol) is = alias_room cell alias name is

    pub has_room : (n : Named) → In n all → IsThere rows n.owner
    has_room n k = owner_room n.name n.owner (right n k)

  -- ---- each symbol that isn't LOCAL and each alias is one of them
  pub symbol_In : (i k : ℕ) (object : Object) (s : Symbol) → slice_get objects i ≡ Some object → slice_get object.symbols k ≡ Some s → is_local s.bind ≡ false → In (named s.name (symbol_owner i (k, s))) all
  symbol_In i k object s at in_it shared =
      let n = named s.name (symbol_owner i (k, s)) in
      In-left (flat_map object_namings (numbered objects)) (flat_map (cell_namings file) (numbered cells)) n
      (flat_map-In object_namings (numbered objects) (i, object) n (numbered-In objects 0 i i object at (omega arith))
      (filter_map-In (symbol_naming i) (numbered object.symbols) (k, s) n (numbered-In object.symbols 0 k k s in_it (omega arith))
      (ap (λ (t : Bool). where_true (not t) (named s.name (symbol_owner i (k, s)))) shared)))

  pub alias_In : (i k : ℕ) (c : DescribedCell) (a : WrittenAlias) → slice_get cells i ≡ Some c → slice_get c.aliases.items k ≡ Some a → In (named (alias_text file a) (Alias i k a.symbol)) all
  alias_In i k c a at in_it =
      let n = named (alias_text file a) (Alias i k a.symbol) in
      In-right (flat_map object_namings (numbered objects)) (flat_map (cell_namings file) (numbered cells)) n
      (flat_map-In (cell_namings file) (numbered cells) (i, c) n (numbered-In cells 0 i i c at (omega arith))
      (map-In (alias_naming file i) (numbered c.aliases.items) (k, a) (numbered-In c.aliases.items 0 k k a in_it (omega arith))))
