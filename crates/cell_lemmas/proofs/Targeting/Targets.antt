-- In a world in which each need has a provider, each entry has a target.
use Rattle.std.proofs.Common.{◌≡◌, refl, sym, ◌∙◌, ap, subst, arith, ℕ, zero, suc, ◌⊎◌, inl, inr, Bool, true, false, cond, not, ◌&&◌, ◌||◌, List, [], ◌∷◌, true≢false, Option, Some, None}
use Rattle.std.specs.Prelude.{filter, filter_map, find, map, slice_get, is_some, nat_lt, option_map, option_and_then, unwrap_or, ◌==◌}
use Rattle.std.specs.List.{list_any, list_all, cons_option}
use Rattle.std.proofs.lemmas.Bool.{and_parts, and_from, eqb-true, eq-eqb}
use Rattle.cell_object.specs.declared.object.Object.{Object}
use Rattle.cell_object.specs.declared.object.Symbol.{Symbol}
use Rattle.cell_object.specs.declared.object.Entry.{Entry}
use Rattle.cell_object.specs.declared.object.Bind.{Bind}
use Rattle.cell_object.specs.declared.object.Bind.TheVariants.{Local, Global, Weak}
use Rattle.cell_object.specs.declared.object.Home.{Home}
use Rattle.cell_object.specs.declared.object.Home.TheVariants.{Undef, Abs, Inside, Elsewhere}
use Rattle.cell_object.specs.Parts.{is_global, is_local, is_weak, is_undefined, is_defined, symbol_at, high_of, label_of, section_of}
use Rattle.cell_object.specs.Sound.{IsSoundObject, is_sound_entry, is_known_kind, is_sound_entry_in, is_nameable}
use Rattle.std.specs.Ordering.{int_eq}
use Rattle.std.specs.Prelude.{pos}
use Rattle.cell_num.specs.Kinds.{is_pcrel_lo12, is_pcrel_hi20}
use Rattle.cell_num.specs.Lists.{numbered_from, each_pair, first, or_else, holds, equals, In}
use Rattle.cell_world.specs.declared.state.Target.{Target}
use Rattle.cell_world.specs.declared.state.Target.TheVariants.{Number}
use Rattle.cell_world.specs.World.{World, Cell, Alias, Standing, is_attached, is_of_group, cell_of}
use Rattle.cell_world.specs.declared.state.Standing.TheVariants.{Attached, Detached}
use Rattle.cell_world.specs.Names.{Provider, asked_by, by_spaces, chain, first_provider, nearest_provider, strong_provider, weak_provider, provider_for, provider_of, symbol_named, weak_symbol_named, names_of, definitions_of, weak_definitions_of, is_definition, is_weak_definition, needs_of, is_used}
use Rattle.cell_world.specs.Linked.Target.{own_target, provided_target, symbol_target, numbered_target, naming_entry, target_of}
use Rattle.cell_world.specs.Coherent.{is_known_cell}
use Rattle.cell_lemmas.specs.Named.{has_own_aliases}
use Rattle.cell_lemmas.proofs.Naming.Known.{known_parts}
use Rattle.cell_num.proofs.Elements.{Has, all-In, found-In, filter-In, In-map, map-In, numbered-In, In-numbered, any-In, any-Has, some_has, In-append, In-filtered, In-flat_map, filter-Passes}

-- what is_sound_entry says of a symbol and of a low entry
four : (a b c d : Bool) → (a && b && c && d) ≡ true → (b ≡ true) × (c ≡ true) × (d ≡ true)
four true true true d h = (refl, refl, h)
four true true false d h = absurd (true≢false (sym h))
four true false c d h = absurd (true≢false (sym h))
four false b c d h = absurd (true≢false (sym h))

low_high : (l a h b : Bool) → (not l || a && h && b) ≡ true → l ≡ true → h ≡ true
low_high true true true b k e = refl
low_high true true false b k e = k
low_high true false h b k e = absurd (true≢false (sym k))
low_high false a h b k e = absurd (true≢false (sym e))

module _ (object : Object) (s : IsSoundObject object) (e : Entry) (here : In e object.entries) where
  pub entry_parts : (unwrap_or (option_map (is_sound_entry_in e) (section_of object e.section)) false ≡ true)
      × ((e.symbol == 0 || unwrap_or (option_map (λ s. is_nameable s s.home) (symbol_at object e.symbol)) false) ≡ true)
      × ((not (is_pcrel_lo12 e.kind) || int_eq e.addend (pos 0) && is_some (high_of object e) && unwrap_or (option_map (λ label. label.0 == e.section) (label_of object e)) false) ≡ true)
  entry_parts = four (is_known_kind e.kind) (unwrap_or (option_map (is_sound_entry_in e) (section_of object e.section)) false) (e.symbol == 0 || unwrap_or (option_map (λ s. is_nameable s s.home) (symbol_at object e.symbol)) false) (not (is_pcrel_lo12 e.kind) || int_eq e.addend (pos 0) && is_some
      (high_of object e) && unwrap_or (option_map (λ label. label.0 == e.section) (label_of object e)) false) (all-In (is_sound_entry object) object.entries s.entries e here)

  high-In : (h : Entry) → high_of object e ≡ Some h → In h object.entries
  high-In h k = go (label_of object e) k
    where
      go : (o : Option (ℕ × ℕ)) → option_and_then (λ label. find (λ h. is_pcrel_hi20 h.kind && h.section == label.0 && h.offset == label.1) object.entries) o ≡ Some h → In h object.entries
      go None k = cc
      go (Some label) k = (found-In (λ h. is_pcrel_hi20 h.kind && h.section == label.0 && h.offset == label.1) object.entries h k).0

  -- the entry that names is one of the object's
  pub naming-There : (n : Entry) × (naming_entry object e ≡ Some n) × In n object.entries
  naming-There = go (is_pcrel_lo12 e.kind) refl
    where
      go : (b : Bool) → is_pcrel_lo12 e.kind ≡ b → (n : Entry) × (elim b as (λ _. Option Entry) [ true ↦ high_of object e | false ↦ Some e ] ≡ Some n) × In n object.entries
      go false k = (e, refl, here)
      go true k = let h : Has (high_of object e) = some_has (high_of object e) (low_high (is_pcrel_lo12 e.kind) _ _ _ entry_parts.2 k) in (h.0, h.1, high-In h.0 h.1)

-- the symbols of needs
pub need-In : (object : Object) (e : Entry) (n : ℕ) (s : Symbol) → In e object.entries → e.symbol ≡ suc n → slice_get object.symbols n ≡ Some s → s.home ≡ Undef → is_global s.bind ≡ true → In s.name (needs_of object)
need-In object e n s k m g u b =
    map-In (λ (p : ℕ × Symbol). p.1.name) (filter (λ p. is_global p.1.bind && is_undefined p.1.home && is_used object p.0) (numbered_from 1 object.symbols)) (suc n, s)
    (filter-In (λ (p : ℕ × Symbol). is_global p.1.bind && is_undefined p.1.home && is_used object p.0) (numbered_from 1 object.symbols) (suc n, s) (numbered-In object.symbols 1 (suc n) n s g (omega arith))
    (and_from (is_global s.bind && is_undefined s.home) (is_used object (suc n)) (and_from (is_global s.bind) (is_undefined s.home) b (subst (λ h. is_undefined h ≡ true) (sym u) refl))
    (any-In (λ f. f.symbol == suc n) object.entries e k (eq-eqb e.symbol (suc n) m))))

-- the cell holds that symbol under a name, strongly or weakly
abbrev pub HoldsSymbol : Cell → ℕ → Type 0
HoldsSymbol c symbol = (name : List ℕ) × ((symbol_named c name ≡ Some symbol) ⊎ (weak_symbol_named c name ≡ Some symbol))

-- what a provider is
abbrev pub Provides : World → Provider → Type 0
Provides w p = (c : Cell) × In c w.cells × (p.cell ≡ c.id.0) × HoldsSymbol c p.symbol

-- the first of the cells that have a symbol
first_found : (of : Cell → Option ℕ) (cells : List Cell) (p : Provider) → first (filter_map (λ c. option_map (λ symbol. record { cell = c.id.0; symbol = symbol }) (of c)) cells) ≡ Some p → (c : Cell) × In c cells × (p.cell ≡ c.id.0) × (of c ≡ Some p.symbol)
first_found of [] p h = cc
first_found of (c ∷ cells) p h = go (of c) refl h (first_found of cells p)
  where
    go : (o : Option ℕ) → of c ≡ o
        → first (cons_option (option_map {T = ℕ} {U = Provider} (λ symbol. record { cell = c.id.0; symbol = symbol }) o) (filter_map (λ c. option_map (λ symbol. record { cell = c.id.0; symbol = symbol }) (of c)) cells)) ≡ Some p
        → (first (filter_map (λ c. option_map (λ symbol. record { cell = c.id.0; symbol = symbol }) (of c)) cells) ≡ Some p → (d : Cell) × In d cells × (p.cell ≡ d.id.0) × (of d ≡ Some p.symbol))
        → (d : Cell) × In d (c ∷ cells) × (p.cell ≡ d.id.0) × (of d ≡ Some p.symbol)
    go None e k ih = let r = ih k in (r.0, inr r.1, r.2, r.3)
    go (Some n) e k ih =
        let q : Provider = record { cell = c.id.0; symbol = n } in
        let s : Some q ≡ Some p = k in
        let t : q ≡ p = cc in
        (c, inl refl, ap (λ (x : Provider). x.cell) (sym t), e ∙ ap (λ (x : Provider). Some x.symbol) t)

provides_among : (w : World) (spaces name : List ℕ) (test : Cell → Bool) (p : Provider) → first_provider spaces name (filter test w.cells) ≡ Some p → Provides w p
provides_among w spaces name test p h =
    let r = first_found (λ c. symbol_named c name) (filter (λ c. holds spaces c.ns) (filter test w.cells)) p h in
    (r.0, In-filtered test w.cells r.0 (In-filtered (λ c. holds spaces c.ns) (filter test w.cells) r.0 r.1), r.2, (name, inl r.3))

-- a cell that holds the name weakly
abbrev pub WeaklyHolds : World → List ℕ → Provider → Type 0
WeaklyHolds w name p = (c : Cell) × In c w.cells × (p.cell ≡ c.id.0) × (weak_symbol_named c name ≡ Some p.symbol)

holds_nearby : (w : World) (spaces name : List ℕ) (test : Cell → Bool) (p : Provider) → nearest_provider spaces name (filter test w.cells) ≡ Some p → WeaklyHolds w name p
holds_nearby w spaces name test p h =
    let r = first_found (λ c. weak_symbol_named c name) (by_spaces spaces (filter test w.cells)) p h in
    let i = In-flat_map (λ ns. filter (λ (c : Cell). c.ns == ns) (filter test w.cells)) spaces r.0 r.1 in
    (r.0, In-filtered test w.cells r.0 (In-filtered (λ (c : Cell). c.ns == i.0) (filter test w.cells) r.0 i.2), r.2, r.3)

-- somebody whom a cell of that standing asks answers
asked_found : (P : Type 0) (ask : List Cell → Option Provider) (w : World) (p : Provider) → ((test : Cell → Bool) → ask (filter test w.cells) ≡ Some p → P) → (s : Standing) → asked_by w ask s ≡ Some p → P
asked_found P ask w p f Attached h = f (λ c. is_attached c.standing) h
asked_found P ask w p f (Detached k) h = go (ask (filter (λ c. is_of_group k c.standing) w.cells)) refl h
  where
    go : (o : Option Provider) → ask (filter (λ c. is_of_group k c.standing) w.cells) ≡ o → or_else o (ask (filter (λ c. is_attached c.standing) w.cells)) ≡ Some p → P
    go None e m = f (λ c. is_attached c.standing) m
    go (Some q) e m = f (λ c. is_of_group k c.standing) (e ∙ m)

pub strong_provides : (w : World) (s : Standing) (ns : ℕ) (name : List ℕ) (p : Provider) → strong_provider w s ns name ≡ Some p → Provides w p
strong_provides w s ns name p h = asked_found (Provides w p) (first_provider (chain w.namespaces ns) name) w p (λ test. provides_among w (chain w.namespaces ns) name test p) s h

pub weak_holder : (w : World) (s : Standing) (ns : ℕ) (name : List ℕ) (p : Provider) → weak_provider w s ns name ≡ Some p → WeaklyHolds w name p
weak_holder w s ns name p h = asked_found (WeaklyHolds w name p) (nearest_provider (chain w.namespaces ns) name) w p (λ test. holds_nearby w (chain w.namespaces ns) name test p) s h

pub weak_provides : (w : World) (s : Standing) (ns : ℕ) (name : List ℕ) (p : Provider) → weak_provider w s ns name ≡ Some p → Provides w p
weak_provides w s ns name p h = let r = weak_holder w s ns name p h in (r.0, r.1, r.2, (name, inr r.3))

pub provides : (w : World) (s : Standing) (ns : ℕ) (name : List ℕ) (p : Provider) → provider_for w s ns name ≡ Some p → Provides w p
provides w s ns name p h = go (strong_provider w s ns name) refl h
  where
    go : (o : Option Provider) → strong_provider w s ns name ≡ o → or_else o (weak_provider w s ns name) ≡ Some p → Provides w p
    go None e m = weak_provides w s ns name p m
    go (Some q) e m = strong_provides w s ns name p (e ∙ m)

-- the number of a definition is that of a symbol that is defined
abbrev pub Defines : Object → ℕ → Type 0
Defines object n = (s : Symbol) × (symbol_at object n ≡ Some s) × (is_defined s.home ≡ true)

defined_among : (test : Symbol → Bool) → ((s : Symbol) → test s ≡ true → is_defined s.home ≡ true) → (object : Object) (a : Alias)
    → In a (map (λ (p : ℕ × Symbol). record { name = p.1.name; symbol = p.0 }) (filter (λ p. test p.1) (numbered_from 1 object.symbols))) → Defines object a.symbol
defined_among test defined object a h =
    let m = In-map (λ (p : ℕ × Symbol). record { name = p.1.name; symbol = p.0 }) (filter (λ p. test p.1) (numbered_from 1 object.symbols)) a h in
    let q = In-numbered object.symbols 1 m.0 (In-filtered (λ p. test p.1) (numbered_from 1 object.symbols) m.0 m.1) in
    let d = defined m.0.1 (filter-Passes (λ (p : ℕ × Symbol). test p.1) (numbered_from 1 object.symbols) m.0 m.1) in
    let n : a.symbol ≡ suc q.0 = ap (λ (b : Alias). b.symbol) m.2 ∙ (q.2 ∙ omega arith) in
    subst (Defines object) (sym n) (m.0.1, q.1, d)

definition_defines : (object : Object) (a : Alias) → In a (definitions_of object) → Defines object a.symbol
definition_defines object a h = defined_among is_definition (λ s e. (and_parts (is_global s.bind) (is_defined s.home) e).1) object a h

weak_definition_defines : (object : Object) (a : Alias) → In a (weak_definitions_of object) → Defines object a.symbol
weak_definition_defines object a h = defined_among is_weak_definition (λ s e. (and_parts (is_weak s.bind) (is_defined s.home) e).1) object a h

pub weak_named_defines : (c : Cell) (name : List ℕ) (n : ℕ) → weak_symbol_named c name ≡ Some n → Defines c.object n
weak_named_defines c name n h = go (find (λ (a : Alias). equals a.name name) (weak_definitions_of c.object)) refl h
  where
    go : (o : Option Alias) → find (λ (a : Alias). equals a.name name) (weak_definitions_of c.object) ≡ o → option_map (λ (a : Alias). a.symbol) o ≡ Some n → Defines c.object n
    go None e k = cc
    go (Some a) e k =
        let s : a.symbol ≡ n = cc in
        subst (Defines c.object) s (weak_definition_defines c.object a (found-In (λ (a : Alias). equals a.name name) (weak_definitions_of c.object) a e).0)

module _ (c : Cell) (aliases : has_own_aliases c ≡ true) where
  name_defines : (a : Alias) → In a (definitions_of c.object) ⊎ In a c.aliases → Defines c.object a.symbol
  name_defines a (inl k) = definition_defines c.object a k
  name_defines a (inr k) =
      let d = any-Has (λ (d : Alias). d.symbol == a.symbol) (definitions_of c.object) (all-In (λ (a : Alias). list_any (λ (d : Alias). d.symbol == a.symbol) (definitions_of c.object)) c.aliases aliases a k) in
      subst (Defines c.object) (eqb-true d.0.symbol a.symbol d.2) (definition_defines c.object d.0 d.1)

  pub named_defines : (name : List ℕ) (n : ℕ) → symbol_named c name ≡ Some n → Defines c.object n
  named_defines name n h = go (find (λ (a : Alias). equals a.name name) (names_of c)) refl h
    where
      go : (o : Option Alias) → find (λ (a : Alias). equals a.name name) (names_of c) ≡ o → option_map (λ (a : Alias). a.symbol) o ≡ Some n → Defines c.object n
      go None e k = cc
      go (Some a) e k =
          let s : a.symbol ≡ n = cc in
          subst (Defines c.object) s (name_defines a (In-append (definitions_of c.object) c.aliases a (found-In (λ (a : Alias). equals a.name name) (names_of c) a e).0))

pub holds_defines : (c : Cell) → has_own_aliases c ≡ true → (n : ℕ) → HoldsSymbol c n → Defines c.object n
holds_defines c aliases n (name, inl e) = named_defines c aliases name n e
holds_defines c aliases n (name, inr e) = weak_named_defines c name n e

own_has : (c : Cell) (s : Symbol) (home : Home) → is_defined home ≡ true → Has (own_target c.placed s home)
own_has c s Undef h = absurd (true≢false (sym h))
own_has c s Abs h = (Number s.value, refl)
own_has c s (Inside n) h = (_, refl)
own_has c s Elsewhere h = absurd (true≢false (sym h))

-- each cell of the list is the first of its number
pub In-find : (xs : List Cell) → each_pair (λ a b. nat_lt a.id.0 b.id.0) xs ≡ true → (c : Cell) → In c xs → find (λ x. x.id.0 == c.id.0) xs ≡ Some c
In-find [] r c k = absurd k
In-find (y ∷ ys) r c (inl e) = let t : (y.id.0 == c.id.0) ≡ true = eq-eqb y.id.0 c.id.0 (ap (λ (v : Cell). v.id.0) (sym e)) in grind (arith, t, e)
In-find (y ∷ ys) r c (inr k) =
    let below : nat_lt y.id.0 c.id.0 ≡ true = all-In (λ b. nat_lt y.id.0 b.id.0) ys (grind (arith, r)) c k in
    let ih : find (λ x. x.id.0 == c.id.0) ys ≡ Some c = In-find ys (grind (arith, r)) c k in
    grind (arith, below, ih)

chained : {X Y : Type 0} (f : X → Option Y) (o : Option X) (x : X) → o ≡ Some x → Has (f x) → Has (option_and_then f o)
chained f o x e h = (h.0, ap (option_and_then f) e ∙ h.1)

module _ (w : World) (order : each_pair (λ a b. nat_lt a.id.0 b.id.0) w.cells ≡ true) (known : list_all (is_known_cell w) w.cells ≡ true) where
  pub provided_has : (p : Provider) → Provides w p → Has (provided_target w p)
  provided_has p r =
      let d = holds_defines r.0 (known_parts w r.0 (all-In (is_known_cell w) w.cells known r.0 r.1)).aliases p.symbol r.3 in
      chained _ (cell_of w p.cell) r.0 (subst (λ (n : ℕ). find (λ x. x.id.0 == n) w.cells ≡ Some r.0) (sym r.2) (In-find w.cells order r.0 r.1))
      (chained _ (symbol_at r.0.object p.symbol) d.0 d.1 (own_has r.0 d.0 d.0.home d.2))

  module _ (c : Cell) (object : IsSoundObject c.object) (supplied : list_all (λ name. is_some (provider_of w c name)) (needs_of c.object) ≡ true) where
    symbol_has : (e : Entry) → In e c.object.entries → (n : ℕ) → e.symbol ≡ suc n → (s : Symbol) → slice_get c.object.symbols n ≡ Some s → (home : Home) → s.home ≡ home → is_nameable s home ≡ true → Has (symbol_target w c s home)
    symbol_has e k n m s g Undef u b = go s.bind refl b
      where
        or_zero : (o : Option Target) → Has (or_else o (Some (Number 0)))
        or_zero None = (Number 0, refl)
        or_zero (Some t) = (t, refl)

        go : (bind : Bind) → s.bind ≡ bind → not (is_local bind) ≡ true → Has (or_else (option_and_then (provided_target w) (cond (is_local bind) None (provider_of w c s.name))) (cond (is_weak bind) (Some (Number 0)) None))
        go Local a d = absurd (true≢false (sym d))
        go Weak a d = or_zero (option_and_then (provided_target w) (provider_of w c s.name))
        go Global a d =
            let p : Has (provider_of w c s.name) = some_has (provider_of w c s.name) (all-In (λ name. is_some (provider_of w c name)) (needs_of c.object) supplied s.name (need-In c.object e n s k m g u (ap is_global a))) in
            let t : Has (option_and_then (provided_target w) (provider_of w c s.name)) = chained (provided_target w) (provider_of w c s.name) p.0 p.1 (provided_has p.0 (provides w c.standing c.ns s.name p.0 p.1)) in
            (t.0, ap (λ (o : Option Target). or_else o None) t.1)
    symbol_has e k n m s g Abs u b = (Number s.value, refl)
    symbol_has e k n m s g (Inside i) u b = go (option_and_then (provided_target w) (cond (is_weak s.bind) (strong_provider w c.standing c.ns s.name) None))
      where
        go : (o : Option Target) → Has (or_else o (own_target c.placed s (Inside i)))
        go None = (_, refl)
        go (Some t) = (t, refl)
    symbol_has e k n m s g Elsewhere u b = absurd (true≢false (sym b))

    numbered_has : (e : Entry) → In e c.object.entries → (n : ℕ) → e.symbol ≡ n → (n == 0 || unwrap_or (option_map (λ s. is_nameable s s.home) (symbol_at c.object n)) false) ≡ true → Has (numbered_target w c n)
    numbered_has e k zero m h = (Number 0, refl)
    numbered_has e k (suc n) m h = go (slice_get c.object.symbols n) refl (nonzero n _ h)
      where
        nonzero : (n : ℕ) (b : Bool) → (suc n == 0 || b) ≡ true → b ≡ true
        nonzero n b h = grind (arith, h)

        go : (o : Option Symbol) → slice_get c.object.symbols n ≡ o → unwrap_or (option_map (λ s. is_nameable s s.home) o) false ≡ true → Has (option_and_then (λ s. symbol_target w c s s.home) o)
        go None g b = absurd (true≢false (sym b))
        go (Some s) g b = symbol_has e k n m s g s.home refl b

    -- each entry of a supplied cell has a target
    pub target_has : (e : Entry) → In e c.object.entries → Has (target_of w c e)
    target_has e k =
        let n = naming-There c.object object e k in
        chained (λ n. numbered_target w c n.symbol) (naming_entry c.object e) n.0 n.1
        (numbered_has n.0 n.2 n.0.symbol refl (entry_parts c.object object n.0 n.2).1)
