-- Cells that are attached after the others change no target that a strong holder gave, and leave every name with a provider.
use Rattle.std.proofs.Common.{◌≡◌, refl, sym, ◌∙◌, ap, subst, arith, ℕ, zero, suc, ◌⊎◌, inl, inr, Bool, true, false, cond, List, [], ◌∷◌, ◌++◌, length, true≢false}
use Rattle.std.specs.Prelude.{Option, Some, None, find, filter, filter_map, option_map, option_and_then, ◌==◌, slice_get, nat_lt}
use Rattle.std.specs.List.{list_all}
use Rattle.std.proofs.lemmas.List.Elements.{filter-append, filter_map-append}
use Rattle.cell_world.specs.World.{World, Cell, Standing, is_attached, is_of_group, cell_of}
use Rattle.cell_world.specs.declared.state.Standing.TheVariants.{Attached, Detached}
use Rattle.cell_world.specs.Names.{Provider, first_provider, nearest_provider, strong_provider, weak_provider, provider_for, provider_of, chain, symbol_named}
use Rattle.cell_object.specs.Parts.{is_local, is_weak}
use Rattle.cell_object.specs.declared.object.Symbol.{Symbol}
use Rattle.cell_object.specs.declared.object.Entry.{Entry}
use Rattle.cell_object.specs.declared.object.Home.{Home}
use Rattle.cell_object.specs.declared.object.Home.TheVariants.{Undef, Abs, Inside, Elsewhere}
use Rattle.cell_world.specs.declared.state.Target.{Target}
use Rattle.cell_world.specs.Linked.Target.{own_target, provided_target, unasked_target, symbol_target, numbered_target, target_of, naming_entry}
use Rattle.cell_lemmas.specs.Firm.{strong_given, firm_symbol_target, firm_numbered_target, firm_target}
use Rattle.cell_num.specs.Lists.{holds, first, or_else}
use Rattle.cell_num.proofs.Elements.{Has, In-left}
use Rattle.cell_lemmas.proofs.Naming.Asked.{nearest_among, or_else_has, or_else_from}

-- what is found is found still, where more follows
pub find_more : {X : Type 0} (p : X → Bool) (xs ys : List X) (x : X) → find p xs ≡ Some x → find p (xs ++ ys) ≡ Some x
find_more p [] ys x e = cc
find_more p (y ∷ xs) ys x e = go (p y) e (find_more p xs ys x)
  where
    go : (b : Bool) → cond b (Some y) (find p xs) ≡ Some x → (find p xs ≡ Some x → find p (xs ++ ys) ≡ Some x) → cond b (Some y) (find p (xs ++ ys)) ≡ Some x
    go true e f = e
    go false e f = f e

first_more : {X : Type 0} (xs ys : List X) (x : X) → first xs ≡ Some x → first (xs ++ ys) ≡ Some x
first_more [] ys x e = cc
first_more (y ∷ xs) ys x e = e

-- a chain of look-ups goes on giving what it gave, where each step does
pub and_then_more : {X Y : Type 0} (f g : X → Option Y) (a b : Option X) (y : Y) → ((x : X) → a ≡ Some x → b ≡ Some x) → ((x : X) → f x ≡ Some y → g x ≡ Some y) → option_and_then f a ≡ Some y → option_and_then g b ≡ Some y
and_then_more f g None b y ab fg e = cc
and_then_more f g (Some x) b y ab fg e = subst (λ o. option_and_then g o ≡ Some y) (sym (ab x refl)) (fg x e)

or_else_more : {X : Type 0} (a b c : Option X) (x : X) → (b ≡ Some x → c ≡ Some x) → or_else a b ≡ Some x → or_else a c ≡ Some x
or_else_more None b c x f e = f e
or_else_more (Some y) b c x f e = e

first_provider_more : (spaces name : List ℕ) (cells more : List Cell) (p : Provider) → first_provider spaces name cells ≡ Some p → first_provider spaces name (cells ++ more) ≡ Some p
first_provider_more spaces name cells more p e =
    subst (λ xs. first (filter_map (λ c. option_map (λ symbol. record { cell = c.id.0; symbol = symbol }) (symbol_named c name)) xs) ≡ Some p) (sym (filter-append (λ c. holds spaces c.ns) cells more))
    (subst (λ xs. first xs ≡ Some p) (sym (filter_map-append (λ c. option_map (λ symbol. record { cell = c.id.0; symbol = symbol }) (symbol_named c name)) (filter (λ c. holds spaces c.ns) cells) (filter (λ c. holds spaces c.ns) more)))
    (first_more (filter_map (λ c. option_map (λ symbol. record { cell = c.id.0; symbol = symbol }) (symbol_named c name)) (filter (λ c. holds spaces c.ns) cells)) _ p e))

group_of_attached : (k : ℕ) (s : Standing) → is_attached s ≡ true → is_of_group k s ≡ false
group_of_attached k Attached e = refl
group_of_attached k (Detached l) e = absurd (true≢false (sym e))

-- attached cells are in no group
no_group : (k : ℕ) (new : List Cell) → list_all (λ c. is_attached c.standing) new ≡ true → filter (λ c. is_of_group k c.standing) new ≡ []
no_group k [] e = refl
no_group k (c ∷ new) e =
    let t : is_attached c.standing ≡ true = grind (arith, e) in
    let f : is_of_group k c.standing ≡ false = group_of_attached k c.standing t in
    let r : filter (λ c. is_of_group k c.standing) new ≡ [] = no_group k new (grind (arith, e)) in
    subst (λ b. cond b (c ∷ filter (λ c. is_of_group k c.standing) new) (filter (λ c. is_of_group k c.standing) new) ≡ []) (sym f) r

append_none : {X : Type 0} (xs ys : List X) → ys ≡ [] → xs ++ ys ≡ xs
append_none [] ys e = e
append_none (x ∷ xs) ys e = ap (λ zs. x ∷ zs) (append_none xs ys e)

-- w' is w with attached cells after its own. Places, regions, links and tasks may be others
pub record Grows (w w' : World) : Type 0 where
  pub spaces : (ns : ℕ) → nat_lt ns (length w.namespaces) ≡ true → chain w'.namespaces ns ≡ chain w.namespaces ns
  pub new : List Cell
  pub cells : w'.cells ≡ w.cells ++ new
  pub attached : list_all (λ c. is_attached c.standing) new ≡ true

module _ (w w' : World) (g : Grows w w') where
  pub cell_grown : (n : ℕ) (c : Cell) → cell_of w n ≡ Some c → cell_of w' n ≡ Some c
  cell_grown n c e = subst (λ cs. find (λ c. c.id.0 == n) cs ≡ Some c) (sym g.cells) (find_more (λ c. c.id.0 == n) w.cells g.new c e)

  attached_grown : (ns : ℕ) (same : chain w'.namespaces ns ≡ chain w.namespaces ns) (name : List ℕ) (p : Provider) → strong_provider w Attached ns name ≡ Some p → strong_provider w' Attached ns name ≡ Some p
  attached_grown ns same name p e =
      subst (λ sp. first_provider sp name (filter (λ c. is_attached c.standing) w'.cells) ≡ Some p) (sym same)
      (subst (λ cs. first_provider (chain w.namespaces ns) name (filter (λ c. is_attached c.standing) cs) ≡ Some p) (sym g.cells)
      (subst (λ cs. first_provider (chain w.namespaces ns) name cs ≡ Some p) (sym (filter-append (λ c. is_attached c.standing) w.cells g.new))
      (first_provider_more (chain w.namespaces ns) name (filter (λ c. is_attached c.standing) w.cells) _ p e)))

  pub same_group : (k : ℕ) → filter (λ c. is_of_group k c.standing) w'.cells ≡ filter (λ c. is_of_group k c.standing) w.cells
  same_group k =
      subst (λ cs. filter (λ c. is_of_group k c.standing) cs ≡ filter (λ c. is_of_group k c.standing) w.cells) (sym g.cells)
      (filter-append (λ c. is_of_group k c.standing) w.cells g.new ∙ append_none _ _ (no_group k g.new g.attached))

  pub strong_more : (s : Standing) (ns : ℕ) (same : chain w'.namespaces ns ≡ chain w.namespaces ns) (name : List ℕ) (p : Provider) → strong_provider w s ns name ≡ Some p → strong_provider w' s ns name ≡ Some p
  strong_more Attached ns same name p e = attached_grown ns same name p e
  strong_more (Detached k) ns same name p e =
      subst (λ cs. or_else (first_provider (chain w'.namespaces ns) name cs) (strong_provider w' Attached ns name) ≡ Some p) (sym (same_group k))
      (subst (λ sp. or_else (first_provider sp name (filter (λ c. is_of_group k c.standing) w.cells)) (strong_provider w' Attached ns name) ≡ Some p) (sym same)
      (or_else_more (first_provider (chain w.namespaces ns) name (filter (λ c. is_of_group k c.standing) w.cells)) _ _ p (attached_grown ns same name p) e))

  -- nobody who was asked is lost
  attached_weak_some : (ns : ℕ) (same : chain w'.namespaces ns ≡ chain w.namespaces ns) (name : List ℕ) → Has (weak_provider w Attached ns name) → Has (weak_provider w' Attached ns name)
  attached_weak_some ns same name h =
      subst (λ sp. Has (nearest_provider sp name (filter (λ c. is_attached c.standing) w'.cells))) (sym same)
      (subst (λ cs. Has (nearest_provider (chain w.namespaces ns) name (filter (λ c. is_attached c.standing) cs))) (sym g.cells)
      (subst (λ cs. Has (nearest_provider (chain w.namespaces ns) name cs)) (sym (filter-append (λ c. is_attached c.standing) w.cells g.new))
      (nearest_among (chain w.namespaces ns) name (filter (λ c. is_attached c.standing) w.cells) (filter (λ c. is_attached c.standing) w.cells ++ filter (λ c. is_attached c.standing) g.new)
      (λ c i. In-left (filter (λ (x : Cell). is_attached x.standing) w.cells) (filter (λ (x : Cell). is_attached x.standing) g.new) c i) h)))

  pub weak_some : (s : Standing) (ns : ℕ) (same : chain w'.namespaces ns ≡ chain w.namespaces ns) (name : List ℕ) → Has (weak_provider w s ns name) → Has (weak_provider w' s ns name)
  weak_some Attached ns same name h = attached_weak_some ns same name h
  weak_some (Detached k) ns same name h =
      subst (λ cs. Has (or_else (nearest_provider (chain w'.namespaces ns) name cs) (weak_provider w' Attached ns name))) (sym (same_group k))
      (subst (λ sp. Has (or_else (nearest_provider sp name (filter (λ c. is_of_group k c.standing) w.cells)) (weak_provider w' Attached ns name))) (sym same)
      (or_else_has (nearest_provider (chain w.namespaces ns) name (filter (λ c. is_of_group k c.standing) w.cells)) (weak_provider w' Attached ns name)
      (go (or_else_from (nearest_provider (chain w.namespaces ns) name (filter (λ c. is_of_group k c.standing) w.cells)) (weak_provider w Attached ns name) h.0 h.1))))
    where
      go : (nearest_provider (chain w.namespaces ns) name (filter (λ c. is_of_group k c.standing) w.cells) ≡ Some h.0) ⊎ ((nearest_provider (chain w.namespaces ns) name (filter (λ c. is_of_group k c.standing) w.cells) ≡ None) × (weak_provider w Attached ns name ≡ Some h.0))
          → Has (nearest_provider (chain w.namespaces ns) name (filter (λ c. is_of_group k c.standing) w.cells)) ⊎ Has (weak_provider w' Attached ns name)
      go (inl e) = inl (h.0, e)
      go (inr e) = inr (attached_weak_some ns same name (h.0, e.1))

  some_more : (s : Standing) (ns : ℕ) (same : chain w'.namespaces ns ≡ chain w.namespaces ns) (name : List ℕ) → Has (provider_for w s ns name) → Has (provider_for w' s ns name)
  some_more s ns same name h = or_else_has (strong_provider w' s ns name) (weak_provider w' s ns name) (go (or_else_from (strong_provider w s ns name) (weak_provider w s ns name) h.0 h.1))
    where
      go : (strong_provider w s ns name ≡ Some h.0) ⊎ ((strong_provider w s ns name ≡ None) × (weak_provider w s ns name ≡ Some h.0)) → Has (strong_provider w' s ns name) ⊎ Has (weak_provider w' s ns name)
      go (inl e) = inl (h.0, strong_more s ns same name h.0 e)
      go (inr e) = inr (weak_some s ns same name (h.0, e.1))

  pub provided_grown : (p : Provider) (t : Target) → provided_target w p ≡ Some t → provided_target w' p ≡ Some t
  provided_grown p t e = and_then_more _ _ (cell_of w p.cell) (cell_of w' p.cell) t (cell_grown p.cell) (λ c h. h) e

  strong_grown : (c : Cell) (same : chain w'.namespaces c.ns ≡ chain w.namespaces c.ns) (s : Symbol) (t : Target) → strong_given w c s ≡ Some t → strong_given w' c s ≡ Some t
  strong_grown c same s t e =
      and_then_more (provided_target w) (provided_target w') (strong_provider w c.standing c.ns s.name) (strong_provider w' c.standing c.ns s.name) t
      (strong_more c.standing c.ns same s.name) (λ p. provided_grown p t) e

  firm_symbol_grown : (c : Cell) (same : chain w'.namespaces c.ns ≡ chain w.namespaces c.ns) (s : Symbol) (home : Home) (t : Target) → firm_symbol_target w c s home ≡ Some t → firm_symbol_target w' c s home ≡ Some t
  firm_symbol_grown c same s Undef t e = go (is_local s.bind) e
    where
      go : (b : Bool) → cond b None (strong_given w c s) ≡ Some t → cond b None (strong_given w' c s) ≡ Some t
      go true k = cc
      go false k = strong_grown c same s t k
  firm_symbol_grown c same s Abs t e = e
  firm_symbol_grown c same s (Inside n) t e = go (is_weak s.bind) e
    where
      go : (b : Bool) → cond b (strong_given w c s) (own_target c.placed s (Inside n)) ≡ Some t → cond b (strong_given w' c s) (own_target c.placed s (Inside n)) ≡ Some t
      go true k = strong_grown c same s t k
      go false k = k
  firm_symbol_grown c same s Elsewhere t e = e

  firm_numbered_grown : (c : Cell) (same : chain w'.namespaces c.ns ≡ chain w.namespaces c.ns) (n : ℕ) (t : Target) → firm_numbered_target w c n ≡ Some t → firm_numbered_target w' c n ≡ Some t
  firm_numbered_grown c same zero t e = e
  firm_numbered_grown c same (suc n) t e = and_then_more (λ s. firm_symbol_target w c s s.home) (λ s. firm_symbol_target w' c s s.home) (slice_get c.object.symbols n) (slice_get c.object.symbols n) t (λ s h. h) (λ s. firm_symbol_grown c same s s.home t) e

  -- what is firm stays, where the cell's chain is the one that it was
  pub firm_more : (c : Cell) (same : chain w'.namespaces c.ns ≡ chain w.namespaces c.ns) (e : Entry) (t : Target) → firm_target w c e ≡ Some t → firm_target w' c e ≡ Some t
  firm_more c same e t h = and_then_more (λ n. firm_numbered_target w c n.symbol) (λ n. firm_numbered_target w' c n.symbol) (naming_entry c.object e) (naming_entry c.object e) t (λ n k. k) (λ n. firm_numbered_grown c same n.symbol t) h

  pub provider_grown : (s : Standing) (ns : ℕ) (there : nat_lt ns (length w.namespaces) ≡ true) (name : List ℕ) → Has (provider_for w s ns name) → Has (provider_for w' s ns name)
  provider_grown s ns there = some_more s ns (g.spaces ns there)

  pub firm_grown : (c : Cell) (there : nat_lt c.ns (length w.namespaces) ≡ true) (e : Entry) (t : Target) → firm_target w c e ≡ Some t → firm_target w' c e ≡ Some t
  firm_grown c there = firm_more c (g.spaces c.ns there)

-- what is firm is what the entry names
module _ (w : World) (c : Cell) where
  given_first : (s : Symbol) (weak : Option Provider) (other : Option Target) (t : Target) → strong_given w c s ≡ Some t → or_else (option_and_then (provided_target w) (or_else (strong_provider w c.standing c.ns s.name) weak)) other ≡ Some t
  given_first s weak other t e = go (strong_provider w c.standing c.ns s.name) e
    where
      go : (o : Option Provider) → option_and_then (provided_target w) o ≡ Some t → or_else (option_and_then (provided_target w) (or_else o weak)) other ≡ Some t
      go None k = cc
      go (Some p) k = ap (λ (o : Option Target). or_else o other) k

  firm_symbol : (s : Symbol) (home : Home) (t : Target) → firm_symbol_target w c s home ≡ Some t → symbol_target w c s home ≡ Some t
  firm_symbol s Undef t e = go (is_local s.bind) e
    where
      go : (b : Bool) → cond b None (strong_given w c s) ≡ Some t → or_else (option_and_then (provided_target w) (cond b None (provider_of w c s.name))) (unasked_target c s Undef) ≡ Some t
      go true k = cc
      go false k = given_first s (weak_provider w c.standing c.ns s.name) (unasked_target c s Undef) t k
  firm_symbol s Abs t e = e
  firm_symbol s (Inside n) t e = go (is_weak s.bind) e
    where
      go : (b : Bool) → cond b (strong_given w c s) (own_target c.placed s (Inside n)) ≡ Some t
          → or_else (option_and_then (provided_target w) (cond b (strong_provider w c.standing c.ns s.name) None)) (own_target c.placed s (Inside n)) ≡ Some t
      go true k = ap (λ (o : Option Target). or_else o (own_target c.placed s (Inside n))) k
      go false k = k
  firm_symbol s Elsewhere t e = cc

  firm_numbered : (n : ℕ) (t : Target) → firm_numbered_target w c n ≡ Some t → numbered_target w c n ≡ Some t
  firm_numbered zero t e = e
  firm_numbered (suc n) t e = and_then_more (λ s. firm_symbol_target w c s s.home) (λ s. symbol_target w c s s.home) (slice_get c.object.symbols n) (slice_get c.object.symbols n) t (λ s h. h) (λ s. firm_symbol s s.home t) e

  pub firm_is : (e : Entry) (t : Target) → firm_target w c e ≡ Some t → target_of w c e ≡ Some t
  firm_is e t h = and_then_more (λ n. firm_numbered_target w c n.symbol) (λ n. numbered_target w c n.symbol) (naming_entry c.object e) (naming_entry c.object e) t (λ n k. k) (λ n. firm_numbered n.symbol t) h
