-- Who is found when cells are asked for a name that they hold weakly: the nearest first, and in a namespace one after another.
use Rattle.std.proofs.Common.{◌≡◌, refl, sym, ◌∙◌, ap, ℕ, inl, inr, Bool, ◌||◌, List, [], ◌∷◌, ◌++◌, true, Option, Some, None, ◌⊎◌}
use Rattle.std.specs.Prelude.{filter, filter_map, option_map, ◌==◌}
use Rattle.std.proofs.lemmas.Bool.{eqb-true, eq-eqb, or_left}
use Rattle.std.proofs.Math.Bool.{or-true}
use Rattle.std.proofs.lemmas.List.Elements.{filter-append}
use Rattle.cell_num.specs.Lists.{first, holds, or_else, In}
use Rattle.cell_world.specs.World.{World, Cell, Standing, is_attached, is_of_group}
use Rattle.cell_world.specs.declared.state.Standing.TheVariants.{Attached, Detached}
use Rattle.cell_world.specs.Names.{Provider, asked_by, by_spaces, chain, first_provider, nearest_provider, provider_for, strong_provider, weak_provider, symbol_named, weak_symbol_named}
use Rattle.cell_num.proofs.Elements.{Has, any-In, any-Has, filter-In, In-filtered, filter-Passes, flat_map-In, In-flat_map, first-In, first_has, In-append}
use Rattle.cell_lemmas.proofs.Targeting.Present.{In-filter_map}
use Rattle.cell_lemmas.proofs.Naming.Lookups.{filter_map-In, filter_swap, first_stays}

-- where somebody of the one list gives something, somebody of the other does too
pub found_among : {X Y : Type 0} (f g : X → Option Y) (xs ys : List X) → ((x : X) → In x xs → (z : X) × In z ys × (g z ≡ f x)) → Has (first (filter_map f xs)) → Has (first (filter_map g ys))
found_among f g xs ys h p =
    let i = In-filter_map f xs p.0 (first-In (filter_map f xs) p.0 p.1) in
    let z = h i.0 i.1 in
    first_has (filter_map g ys) p.0 (filter_map-In g ys z.0 p.0 z.1 (z.2 ∙ i.2))

pub or_else_has : {X : Type 0} (a b : Option X) → Has a ⊎ Has b → Has (or_else a b)
or_else_has None b (inl h) = let e : None ≡ Some h.0 = h.1 in cc
or_else_has None b (inr h) = h
or_else_has (Some x) b h = (x, refl)

pub or_else_from : {X : Type 0} (a b : Option X) (x : X) → or_else a b ≡ Some x → (a ≡ Some x) ⊎ ((a ≡ None) × (b ≡ Some x))
or_else_from None b x h = inr (refl, h)
or_else_from (Some y) b x h = inl h

-- what the cell is as a provider of a name that it holds, strongly and weakly
abbrev strongly_offered : List ℕ → Cell → Option Provider
strongly_offered name c = option_map (λ symbol. record { cell = c.id.0; symbol = symbol }) (symbol_named c name)

abbrev pub weakly_offered : List ℕ → Cell → Option Provider
weakly_offered name c = option_map (λ symbol. record { cell = c.id.0; symbol = symbol }) (weak_symbol_named c name)

module _ (spaces : List ℕ) where
  pub In-by_spaces : (cells : List Cell) (c : Cell) → In c (by_spaces spaces cells) → In c cells × (holds spaces c.ns ≡ true)
  In-by_spaces cells c i =
      let r = In-flat_map (λ ns. filter (λ (x : Cell). x.ns == ns) cells) spaces c i in (
        In-filtered (λ (x : Cell). x.ns == r.0) cells c r.2,
        any-In (λ y. y == c.ns) spaces r.0 r.1 (eq-eqb r.0 c.ns (sym (eqb-true c.ns r.0 (filter-Passes (λ (x : Cell). x.ns == r.0) cells c r.2)))),
      )

  pub by_spaces-In : (cells : List Cell) (c : Cell) → In c cells → holds spaces c.ns ≡ true → In c (by_spaces spaces cells)
  by_spaces-In cells c i h =
      let r = any-Has (λ y. y == c.ns) spaces h in
      flat_map-In (λ ns. filter (λ (x : Cell). x.ns == ns) cells) spaces r.0 c r.1
      (filter-In (λ (x : Cell). x.ns == r.0) cells c i (eq-eqb c.ns r.0 (sym (eqb-true r.0 c.ns r.2))))

pub by_spaces_filter : (spaces : List ℕ) (p : Cell → Bool) (cells : List Cell) → by_spaces spaces (filter p cells) ≡ filter p (by_spaces spaces cells)
by_spaces_filter [] p cells = refl
by_spaces_filter (ns ∷ spaces) p cells =
    ap (λ (xs : List Cell). xs ++ by_spaces spaces (filter p cells)) (filter_swap (λ (c : Cell). c.ns == ns) p cells)
    ∙ (ap (λ (xs : List Cell). filter p (filter (λ (c : Cell). c.ns == ns) cells) ++ xs) (by_spaces_filter spaces p cells)
    ∙ sym (filter-append p (filter (λ (c : Cell). c.ns == ns) cells) (by_spaces spaces cells)))

-- where more are asked somebody is found still
pub nearest_among : (spaces name : List ℕ) (cells others : List Cell) → ((c : Cell) → In c cells → In c others) → Has (nearest_provider spaces name cells) → Has (nearest_provider spaces name others)
nearest_among spaces name cells others h =
    found_among (weakly_offered name) (weakly_offered name) (by_spaces spaces cells) (by_spaces spaces others)
    (λ c i. let r = In-by_spaces spaces cells c i in (c, by_spaces-In spaces others c (h c r.0) r.1, refl))

-- somebody of two lists is one of the first or of the second
pub nearest_either : (spaces name : List ℕ) (cells more : List Cell) → Has (nearest_provider spaces name (cells ++ more)) → Has (nearest_provider spaces name cells) ⊎ Has (nearest_provider spaces name more)
nearest_either spaces name cells more h = go (In-append cells more c.0 r.0)
  where
    c : (c : Cell) × In c (by_spaces spaces (cells ++ more)) × (weakly_offered name c ≡ Some h.0)
    c = In-filter_map (weakly_offered name) (by_spaces spaces (cells ++ more)) h.0 (first-In _ h.0 h.1)

    r : In c.0 (cells ++ more) × (holds spaces c.0.ns ≡ true)
    r = In-by_spaces spaces (cells ++ more) c.0 c.1

    found : (some : List Cell) → In c.0 some → Has (nearest_provider spaces name some)
    found some i = first_has (filter_map (weakly_offered name) (by_spaces spaces some)) h.0 (filter_map-In (weakly_offered name) (by_spaces spaces some) c.0 h.0 (by_spaces-In spaces some c.0 i r.1) c.2)

    go : In c.0 cells ⊎ In c.0 more → Has (nearest_provider spaces name cells) ⊎ Has (nearest_provider spaces name more)
    go (inl i) = inl (found cells i)
    go (inr i) = inr (found more i)

-- somebody who offers a name says whose it is
pub offer_cell : (c : Cell) (o : Option ℕ) (p : Provider) → option_map {T = ℕ} {U = Provider} (λ symbol. record { cell = c.id.0; symbol = symbol }) o ≡ Some p → p.cell ≡ c.id.0
offer_cell c None p e = cc
offer_cell c (Some n) p e = let q : Provider = record { cell = c.id.0; symbol = n } in let s : Some q ≡ Some p = e in let t : q ≡ p = cc in ap (λ (v : Provider). v.cell) (sym t)

-- the nearest goes on to be found where it isn't taken away
pub nearest_stays : (spaces name : List ℕ) (stay : Cell → Bool) (cells : List Cell) (o : Option Provider) → nearest_provider spaces name cells ≡ o → ((c : Cell) (p : Provider) → p.cell ≡ c.id.0 → o ≡ Some p → stay c ≡ true) → nearest_provider spaces name (filter stay cells) ≡ o
nearest_stays spaces name stay cells o e h =
    ap (λ (xs : List Cell). first (filter_map (weakly_offered name) xs)) (by_spaces_filter spaces stay cells)
    ∙ first_stays (weakly_offered name) stay (by_spaces spaces cells) o e (λ c p i f g. h c p (offer_cell c (weak_symbol_named c name) p f) g)

-- whom a cell of that standing asks
abbrev pub asks : Standing → Standing → Bool
asks Attached t = is_attached t
asks (Detached k) t = is_of_group k t || is_attached t

-- a provider is a present cell that is asked
abbrev pub IsAsked : World → Standing → Provider → Type 0
IsAsked w s p = (c : Cell) × In c w.cells × (p.cell ≡ c.id.0) × (asks s c.standing ≡ true)

asked_there : (w : World) (ask : List Cell → Option Provider) → ((cells : List Cell) (p : Provider) → ask cells ≡ Some p → (c : Cell) × In c cells × (p.cell ≡ c.id.0)) → (s : Standing) (p : Provider) → asked_by w ask s ≡ Some p → IsAsked w s p
asked_there w ask found Attached p e =
    let r = found (filter (λ c. is_attached c.standing) w.cells) p e in
    (r.0, In-filtered (λ (c : Cell). is_attached c.standing) w.cells r.0 r.1, r.2, filter-Passes (λ (c : Cell). is_attached c.standing) w.cells r.0 r.1)
asked_there w ask found (Detached k) p e = go (or_else_from (ask (filter (λ c. is_of_group k c.standing) w.cells)) (ask (filter (λ c. is_attached c.standing) w.cells)) p e)
  where
    go : (ask (filter (λ c. is_of_group k c.standing) w.cells) ≡ Some p) ⊎ ((ask (filter (λ c. is_of_group k c.standing) w.cells) ≡ None) × (ask (filter (λ c. is_attached c.standing) w.cells) ≡ Some p)) → IsAsked w (Detached k) p
    go (inl a) =
        let r = found (filter (λ c. is_of_group k c.standing) w.cells) p a in
        (r.0, In-filtered (λ (c : Cell). is_of_group k c.standing) w.cells r.0 r.1, r.2, or_left (is_of_group k r.0.standing) (is_attached r.0.standing) (filter-Passes (λ (c : Cell). is_of_group k c.standing) w.cells r.0 r.1))
    go (inr a) =
        let r = found (filter (λ c. is_attached c.standing) w.cells) p a.1 in (
          r.0,
          In-filtered (λ (c : Cell). is_attached c.standing) w.cells r.0 r.1,
          r.2,
          ap (λ b. is_of_group k r.0.standing || b) (filter-Passes (λ (c : Cell). is_attached c.standing) w.cells r.0 r.1) ∙ or-true (is_of_group k r.0.standing),
        )

pub strong_asks : (w : World) (s : Standing) (ns : ℕ) (name : List ℕ) (p : Provider) → strong_provider w s ns name ≡ Some p → IsAsked w s p
strong_asks w s ns name p = asked_there w (first_provider (chain w.namespaces ns) name) found s p
  where
    found : (cells : List Cell) (p : Provider) → first_provider (chain w.namespaces ns) name cells ≡ Some p → (c : Cell) × In c cells × (p.cell ≡ c.id.0)
    found cells p e =
        let i = In-filter_map (strongly_offered name) (filter (λ c. holds (chain w.namespaces ns) c.ns) cells) p (first-In _ p e) in
        (i.0, In-filtered (λ (c : Cell). holds (chain w.namespaces ns) c.ns) cells i.0 i.1, offer_cell i.0 (symbol_named i.0 name) p i.2)

pub weak_asks : (w : World) (s : Standing) (ns : ℕ) (name : List ℕ) (p : Provider) → weak_provider w s ns name ≡ Some p → IsAsked w s p
weak_asks w s ns name p = asked_there w (nearest_provider (chain w.namespaces ns) name) found s p
  where
    found : (cells : List Cell) (p : Provider) → nearest_provider (chain w.namespaces ns) name cells ≡ Some p → (c : Cell) × In c cells × (p.cell ≡ c.id.0)
    found cells p e =
        let i = In-filter_map (weakly_offered name) (by_spaces (chain w.namespaces ns) cells) p (first-In _ p e) in
        (i.0, (In-by_spaces (chain w.namespaces ns) cells i.0 i.1).0, offer_cell i.0 (weak_symbol_named i.0 name) p i.2)

pub provider_asks : (w : World) (s : Standing) (ns : ℕ) (name : List ℕ) (p : Provider) → provider_for w s ns name ≡ Some p → IsAsked w s p
provider_asks w s ns name p e = go (or_else_from (strong_provider w s ns name) (weak_provider w s ns name) p e)
  where
    go : (strong_provider w s ns name ≡ Some p) ⊎ ((strong_provider w s ns name ≡ None) × (weak_provider w s ns name ≡ Some p)) → IsAsked w s p
    go (inl a) = strong_asks w s ns name p a
    go (inr a) = weak_asks w s ns name p a.1
