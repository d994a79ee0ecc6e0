-- What a symbol names: its own place, or that of a symbol which a cell holds under its name.
use Rattle.std.proofs.Common.{◌≡◌, refl, sym, ◌∙◌, ap, subst, ℕ, ◌⊎◌, inl, inr, Bool, true, false, cond, not, List, [], ◌∷◌, ◌++◌, map, true≢false, Option, Some, None}
use Rattle.std.specs.Prelude.{filter, find, option_map, option_and_then, ◌==◌}
use Rattle.std.specs.List.{list_all}
use Rattle.std.proofs.lemmas.Bool.{and_parts, and_from}
use Rattle.std.proofs.lemmas.Slice.Eq.{bytes_eq-Decides}
use Rattle.cell_num.specs.declared.ids.SecKey.{SecKey}
use Rattle.cell_num.specs.Lists.{each_pair, equals, holds, numbered_from, or_else, In}
use Rattle.cell_object.specs.declared.object.Symbol.{Symbol}
use Rattle.cell_object.specs.declared.object.Home.{Home}
use Rattle.cell_object.specs.declared.object.Home.TheVariants.{Undef, Abs, Inside, Elsewhere}
use Rattle.cell_object.specs.Parts.{symbol_at, is_defined, is_undefined, is_local, is_weak}
use Rattle.cell_world.specs.declared.state.Target.{Target}
use Rattle.cell_world.specs.declared.state.Target.TheVariants.{Section, Number}
use Rattle.cell_world.specs.World.{World, Cell, Alias, Standing, cell_of, is_attached, is_of_group}
use Rattle.cell_world.specs.declared.state.Standing.TheVariants.{Attached, Detached}
use Rattle.cell_world.specs.Names.{Provider, chain, first_provider, names_of, strong_provider, weak_provider, provider_of, symbol_named, weak_symbol_named, weak_definitions_of, is_weak_definition}
use Rattle.cell_world.specs.Linked.Target.{own_target, section_target, provided_target, unasked_target, symbol_target}
use Rattle.cell_world.specs.Coherent.{has_each_name_once}
use Rattle.cell_lemmas.specs.Named.{IsNamed}
use Rattle.cell_num.proofs.Elements.{all-In, In-right, filter-In, In-filtered, map-In, found-In, find_there, first-In}
use Rattle.cell_lemmas.proofs.Naming.Asked.{or_else_from}
use Rattle.cell_lemmas.proofs.Naming.Lookups.{has_place}
use Rattle.cell_lemmas.proofs.Targeting.Present.{and_then_ok, some_same, In-filter_map}
use Rattle.cell_lemmas.proofs.Targeting.Targets.{In-find, Provides, strong_provides, weak_holder, weak_provides}
use Rattle.cell_lemmas.proofs.Targeting.TargetsLeft.{IsInProvider, provided}
use Rattle.cell_lemmas.proofs.Targeting.Detached.{offered_parts}
use Rattle.cell_lemmas.proofs.Naming.Unique.{offered}

-- a test of pairs holds across two lists
pairs_cross : {X : Type 0} (t : X → X → Bool) (xs ys : List X) → each_pair t (xs ++ ys) ≡ true → (x y : X) → In x xs → In y ys → t x y ≡ true
pairs_cross t [] ys h x y i j = absurd i
pairs_cross t (z ∷ xs) ys h x y (inl e) j =
    subst (λ a. t a y ≡ true) (sym e) (all-In (t z) (xs ++ ys) (and_parts (list_all (t z) (xs ++ ys)) (each_pair t (xs ++ ys)) h).0 y (In-right xs ys y j))
pairs_cross t (z ∷ xs) ys h x y (inr i) j = pairs_cross t xs ys (and_parts (list_all (t z) (xs ++ ys)) (each_pair t (xs ++ ys)) h).1 x y i j

-- what is found under a name has that name
named_in : (names : List Alias) (name : List ℕ) (n : ℕ) → option_map (λ (a : Alias). a.symbol) (find (λ (a : Alias). equals a.name name) names) ≡ Some n → (a : Alias) × In a names × (a.name ≡ name)
named_in names name n h = go (find (λ (a : Alias). equals a.name name) names) refl h
  where
    go : (o : Option Alias) → find (λ (a : Alias). equals a.name name) names ≡ o → option_map (λ (a : Alias). a.symbol) o ≡ Some n → (a : Alias) × In a names × (a.name ≡ name)
    go None e k = cc
    go (Some a) e k = let f = found-In (λ (x : Alias). equals x.name name) names a e in (a, f.0, (bytes_eq-Decides a.name name).0 f.1)

-- no cell holds a name both strongly and weakly
pub not_twice : (d : Cell) → has_each_name_once d ≡ true → (name : List ℕ) (m n : ℕ) → symbol_named d name ≡ Some m → weak_symbol_named d name ≡ Some n → ⊥
not_twice d once name m n s t =
    let a = named_in (names_of d) name m s in
    let b = named_in (weak_definitions_of d.object) name n t in
    let e : not (equals b.0.name a.0.name) ≡ true = pairs_cross (λ x y. not (equals x y)) (map (λ (x : Alias). x.name) (weak_definitions_of d.object)) (map (λ (x : Alias). x.name) (names_of d)) once b.0.name a.0.name
    (map-In (λ (x : Alias). x.name) (weak_definitions_of d.object) b.0 b.1) (map-In (λ (x : Alias). x.name) (names_of d) a.0 a.1) in
    true≢false (sym e ∙ ap not ((bytes_eq-Decides b.0.name a.0.name).1 (b.2 ∙ sym a.2)))

-- a cell holds its own WEAK definitions weakly
pub weak_held : (c : Cell) (s : Symbol) → In s c.object.symbols → is_weak s.bind ≡ true → is_defined s.home ≡ true → (n : ℕ) × (weak_symbol_named c s.name ≡ Some n)
weak_held c s i w d =
    let p = has_place c.object.symbols 1 s i in
    let a : Alias = record { name = s.name; symbol = p.0 } in
    let j : In a (weak_definitions_of c.object) = map-In (λ (q : ℕ × Symbol). let x : Alias = record { name = q.1.name; symbol = q.0 } in x) (filter (λ q. is_weak_definition q.1) (numbered_from 1 c.object.symbols)) (p.0, s)
    (filter-In (λ (q : ℕ × Symbol). is_weak_definition q.1) (numbered_from 1 c.object.symbols) (p.0, s) p.1 (and_from (is_weak s.bind) (is_defined s.home) w d)) in
    let f = find_there (λ (x : Alias). equals x.name s.name) (weak_definitions_of c.object) a j ((bytes_eq-Decides s.name s.name).1 refl) in
    (f.0.symbol, ap (option_map (λ (x : Alias). x.symbol)) f.1)

-- the symbol is the one that a cell of w holds under its name: a WEAK one that is defined is so by a strong holder alone
pub record IsGiven (w : World) (s : Symbol) (key : SecKey) (offset : ℕ) : Type 0 where
  pub cell : Cell
  pub present : In cell w.cells
  pub number : key.cell.0 ≡ cell.id.0
  pub symbol : ℕ
  pub holds : (symbol_named cell s.name ≡ Some symbol) ⊎ ((weak_symbol_named cell s.name ≡ Some symbol) × (is_undefined s.home ≡ true))
  pub asked : (is_undefined s.home ≡ true) ⊎ (is_weak s.bind ≡ true)
  pub is : Symbol
  pub at : symbol_at cell.object symbol ≡ Some is
  pub section_is : is.home ≡ Inside key.section
  pub offset_is : offset ≡ is.value

-- or its own
pub record IsOwn (c : Cell) (s : Symbol) (key : SecKey) (offset : ℕ) : Type 0 where
  pub number : key.cell.0 ≡ c.id.0
  pub defined : is_defined s.home ≡ true
  pub section_is : s.home ≡ Inside key.section
  pub offset_is : offset ≡ s.value

-- where a symbol's own target is
own_section : (c : Cell) (s : Symbol) (home : Home) (key : SecKey) (offset addr : ℕ) → own_target c.placed s home ≡ Some (Section key offset addr) → (key.cell.0 ≡ c.id.0) × (offset ≡ s.value) × (is_defined home ≡ true) × (home ≡ Inside key.section)
own_section c s Undef key offset addr e = cc
own_section c s Abs key offset addr e = cc
own_section c s Elsewhere key offset addr e = cc
own_section c s (Inside n) key offset addr e =
    let t : section_target c.placed n s.value ≡ Section key offset addr = some_same _ _ e in
    (ap cell_in (sym t), ap offset_in (sym t), refl, ap (λ (u : Target). Inside (section_in u)) t)
  where
    cell_in : Target → ℕ
    cell_in (Section k o a) = k.cell.0
    cell_in (Number n) = 0

    section_in : Target → ℕ
    section_in (Section k o a) = k.section
    section_in (Number n) = 0

    offset_in : Target → ℕ
    offset_in (Section k o a) = o
    offset_in (Number n) = 0

-- the number that a symbol is where it is one
abbrev pub number_by : Symbol → Home → ℕ
number_by s Abs = s.value
number_by s Undef = 0
number_by s (Inside n) = 0
number_by s Elsewhere = 0

-- whoever is asked gives it, or it is there without asking
asked_or : (w : World) (o : Option Provider) (other : Option Target) (t : Target) → or_else (option_and_then (provided_target w) o) other ≡ Some t
    → ((q : Provider) × (o ≡ Some q) × (provided_target w q ≡ Some t)) ⊎ (other ≡ Some t)
asked_or w None other t e = inr e
asked_or w (Some q) other t e = go (provided_target w q) refl e
  where
    go : (x : Option Target) → provided_target w q ≡ x → or_else x other ≡ Some t → ((r : Provider) × (Some q ≡ Some r) × (provided_target w r ≡ Some t)) ⊎ (other ≡ Some t)
    go None f k = inr k
    go (Some u) f k = inl (q, refl, f ∙ k)

-- a cell that holds the name strongly
pub strong_holder : (w : World) (s : Standing) (ns : ℕ) (name : List ℕ) (p : Provider) → strong_provider w s ns name ≡ Some p → (c : Cell) × In c w.cells × (p.cell ≡ c.id.0) × (symbol_named c name ≡ Some p.symbol)
strong_holder w s ns name p e = go s e
  where
    among : (test : Cell → Bool) → first_provider (chain w.namespaces ns) name (filter test w.cells) ≡ Some p → (c : Cell) × In c w.cells × (p.cell ≡ c.id.0) × (symbol_named c name ≡ Some p.symbol)
    among test f =
        let i = In-filter_map (offered name) (filter (λ c. holds (chain w.namespaces ns) c.ns) (filter test w.cells)) p (first-In _ p f) in
        let o = offered_parts name i.0 p i.2 in
        (i.0, In-filtered test w.cells i.0 (In-filtered (λ (c : Cell). holds (chain w.namespaces ns) c.ns) (filter test w.cells) i.0 i.1), o.0, o.1)

    go : (t : Standing) → strong_provider w t ns name ≡ Some p → (c : Cell) × In c w.cells × (p.cell ≡ c.id.0) × (symbol_named c name ≡ Some p.symbol)
    go Attached f = among (λ c. is_attached c.standing) f
    go (Detached k) f = either (or_else_from (first_provider (chain w.namespaces ns) name (filter (λ c. is_of_group k c.standing) w.cells)) (first_provider (chain w.namespaces ns) name (filter (λ c. is_attached c.standing) w.cells)) p f)
      where
        either : (first_provider (chain w.namespaces ns) name (filter (λ c. is_of_group k c.standing) w.cells) ≡ Some p)
            ⊎ ((first_provider (chain w.namespaces ns) name (filter (λ c. is_of_group k c.standing) w.cells) ≡ None) × (first_provider (chain w.namespaces ns) name (filter (λ c. is_attached c.standing) w.cells) ≡ Some p))
            → (c : Cell) × In c w.cells × (p.cell ≡ c.id.0) × (symbol_named c name ≡ Some p.symbol)
        either (inl x) = among (λ c. is_of_group k c.standing) x
        either (inr x) = among (λ c. is_attached c.standing) x.1

module _ (w : World) (h : IsNamed w) where
  -- what a provider's symbol is
  given_at : (q : Provider) (d : Cell) → In d w.cells → q.cell ≡ d.id.0 → (key : SecKey) (offset addr : ℕ) → provided_target w q ≡ Some (Section key offset addr)
      → (key.cell.0 ≡ d.id.0) × ((s : Symbol) × (symbol_at d.object q.symbol ≡ Some s) × (offset ≡ s.value) × (s.home ≡ Inside key.section))
  given_at q d i n key offset addr e =
      let a = and_then_ok (λ c. option_and_then (λ s. own_target c.placed s s.home) (symbol_at c.object q.symbol)) (cell_of w q.cell) (Section key offset addr) e in
      let f : cell_of w q.cell ≡ Some d = subst (λ (m : ℕ). find (λ x. x.id.0 == m) w.cells ≡ Some d) (sym n) (In-find w.cells h.cell_order d i) in
      let c : a.0 ≡ d = some_same a.0 d (sym a.1 ∙ f) in
      let b = and_then_ok (λ s. own_target d.placed s s.home) (symbol_at d.object q.symbol) (Section key offset addr) (subst (λ (x : Cell). option_and_then (λ s. own_target x.placed s s.home) (symbol_at x.object q.symbol) ≡ Some (Section key offset addr)) c a.2) in
      let o = own_section d b.0 b.0.home key offset addr b.2 in
      (o.0, (b.0, b.1, o.1, o.3))

  never_number : (q : Provider) → Provides w q → (a : ℕ) → provided_target w q ≡ Some (Number a) → ⊥
  never_number q r a e =
      let i : IsInProvider w q = provided w h q r in
      let z : Some (Section i.0 i.1 i.2) ≡ Some (Number a) = sym i.3 ∙ e in cc

  module _ (z : Cell) (s : Symbol) where
    abbrev pub View : Home → Target → Type 0
    View home (Section key offset addr) = IsOwn z s key offset ⊎ IsGiven w s key offset
    View home (Number a) = a ≡ number_by s home

    strong_view : (is_undefined s.home ≡ true) ⊎ (is_weak s.bind ≡ true) → (q : Provider) → strong_provider w z.standing z.ns s.name ≡ Some q → (home : Home) (t : Target) → provided_target w q ≡ Some t → View home t
    strong_view asked q e home (Number a) f = absurd (never_number q (strong_provides w z.standing z.ns s.name q e) a f)
    strong_view asked q e home (Section key offset addr) f =
        let d = strong_holder w z.standing z.ns s.name q e in
        let g = given_at q d.0 d.1 d.2 key offset addr f in
        inr (record { cell = d.0; present = d.1; number = g.0; symbol = q.symbol; holds = inl d.3; asked = asked; is = g.1.0; at = g.1.1; section_is = g.1.3; offset_is = g.1.2 })

    weak_view : is_undefined s.home ≡ true → (q : Provider) → weak_provider w z.standing z.ns s.name ≡ Some q → (home : Home) (t : Target) → provided_target w q ≡ Some t → View home t
    weak_view u q e home (Number a) f = absurd (never_number q (weak_provides w z.standing z.ns s.name q e) a f)
    weak_view u q e home (Section key offset addr) f =
        let d = weak_holder w z.standing z.ns s.name q e in
        let g = given_at q d.0 d.1 d.2 key offset addr f in
        inr (record { cell = d.0; present = d.1; number = g.0; symbol = q.symbol; holds = inr (d.3, u); asked = inl u; is = g.1.0; at = g.1.1; section_is = g.1.3; offset_is = g.1.2 })

    own_view : (home : Home) → s.home ≡ home → (t : Target) → own_target z.placed s home ≡ Some t → View home t
    own_view home e (Section key offset addr) f = let o = own_section z s home key offset addr f in inl (record { number = o.0; defined = subst (λ (x : Home). is_defined x ≡ true) (sym e) o.2; section_is = e ∙ o.3; offset_is = o.1 })
    own_view Undef e (Number a) f = cc
    own_view Abs e (Number a) f = cc
    own_view (Inside n) e (Number a) f = cc
    own_view Elsewhere e (Number a) f = cc

    pub view : (home : Home) → s.home ≡ home → (t : Target) → symbol_target w z s home ≡ Some t → View home t
    view Abs e t f = own_view Abs e t f
    view Elsewhere e t f = cc
    view (Inside n) e t f = go (is_weak s.bind) refl f
      where
        go : (b : Bool) → is_weak s.bind ≡ b → or_else (option_and_then (provided_target w) (cond b (strong_provider w z.standing z.ns s.name) None)) (own_target z.placed s (Inside n)) ≡ Some t → View (Inside n) t
        go false x k = own_view (Inside n) e t k
        go true x k = either (asked_or w (strong_provider w z.standing z.ns s.name) (own_target z.placed s (Inside n)) t k)
          where
            either : ((q : Provider) × (strong_provider w z.standing z.ns s.name ≡ Some q) × (provided_target w q ≡ Some t)) ⊎ (own_target z.placed s (Inside n) ≡ Some t) → View (Inside n) t
            either (inl y) = strong_view (inr x) y.0 y.1 (Inside n) t y.2
            either (inr y) = own_view (Inside n) e t y
    view Undef e t f = go (is_local s.bind) f
      where
        undefined : is_undefined s.home ≡ true
        undefined = ap is_undefined e

        zero_view : (b : Bool) (u : Target) → cond b (Some (Number 0)) None ≡ Some u → View Undef u
        zero_view true (Number a) k = cc
        zero_view true (Section key offset addr) k = cc
        zero_view false u k = cc

        go : (b : Bool) → or_else (option_and_then (provided_target w) (cond b None (provider_of w z s.name))) (unasked_target z s Undef) ≡ Some t → View Undef t
        go true k = zero_view (is_weak s.bind) t k
        go false k = either (asked_or w (provider_of w z s.name) (unasked_target z s Undef) t k)
          where
            by : (q : Provider) → provided_target w q ≡ Some t → (strong_provider w z.standing z.ns s.name ≡ Some q) ⊎ ((strong_provider w z.standing z.ns s.name ≡ None) × (weak_provider w z.standing z.ns s.name ≡ Some q)) → View Undef t
            by q y (inl x) = strong_view (inl undefined) q x Undef t y
            by q y (inr x) = weak_view undefined q x.1 Undef t y

            either : ((q : Provider) × (provider_of w z s.name ≡ Some q) × (provided_target w q ≡ Some t)) ⊎ (unasked_target z s Undef ≡ Some t) → View Undef t
            either (inl y) = by y.0 y.2 (or_else_from (strong_provider w z.standing z.ns s.name) (weak_provider w z.standing z.ns s.name) y.0 y.1)
            either (inr y) = zero_view (is_weak s.bind) t y
