-- Places of cells play no part in names: who provides a name stays when cells are placed.
use Rattle.std.proofs.Common.{◌≡◌, refl, sym, ◌∙◌, ap, subst, ℕ, Bool, true, false, cond, List, [], ◌∷◌, ◌++◌, map, Option}
use Rattle.std.specs.Prelude.{filter, filter_map, option_map, ◌==◌}
use Rattle.std.specs.List.{cons_option, list_all}
use Rattle.std.proofs.lemmas.List.{map-append}
use Rattle.cell_num.specs.Lists.{first, holds, or_else, each_pair, In}
use Rattle.cell_num.proofs.Elements.{all-In, In-all, In-map, map-In, pairs-map, pairs_equal}
use Rattle.cell_world.specs.World.{World, Cell, Standing, is_attached, is_of_group}
use Rattle.cell_world.specs.declared.state.Standing.TheVariants.{Attached, Detached}
use Rattle.cell_world.specs.Names.{Provider, asked_by, by_spaces, chain, first_provider, nearest_provider, provider_for, symbol_named, weak_symbol_named}
use Rattle.cell_world.specs.Placed.Place.{with_places}
use Rattle.cell_world.specs.Placed.Layout.{places_in}
use Rattle.cell_world.specs.declared.layout.Starts.{Starts}

-- a cell but for its places
abbrev pub bare : Cell → Cell
bare c = record c { placed = record c.placed { places = [] } }

pub bare_with_places : (number : ℕ) (starts : Starts) (c : Cell) → bare (with_places number starts c) ≡ bare c
bare_with_places number starts c = go (c.id.0 == number)
  where
    go : (b : Bool) → bare (cond b (record c { placed = record c.placed { places = places_in starts c.object } }) c) ≡ bare c
    go true = refl
    go false = refl

pub In-bare : (c : Cell) (xs ys : List Cell) → map bare xs ≡ map bare ys → In c xs → (d : Cell) × In d ys × (bare c ≡ bare d)
In-bare c xs ys e k = In-map bare ys (bare c) (subst (λ (cs : List Cell). In (bare c) cs) e (map-In bare xs c k))

-- tests that don't ask for places hold of cells that are the same but for places
pub pairs_bare : (t : Cell → Cell → Bool) → ((a b : Cell) → t (bare a) (bare b) ≡ t a b) → (xs ys : List Cell) → map bare xs ≡ map bare ys → each_pair t ys ≡ true → each_pair t xs ≡ true
pairs_bare t f xs ys e h =
    sym (pairs-map t bare xs ∙ pairs_equal (λ a b. t (bare a) (bare b)) t xs f)
    ∙ (ap (each_pair t) e ∙ (pairs-map t bare ys ∙ (pairs_equal (λ a b. t (bare a) (bare b)) t ys f ∙ h)))

pub all_bare : (p : Cell → Bool) → ((c : Cell) → p (bare c) ≡ p c) → (xs ys : List Cell) → map bare xs ≡ map bare ys → list_all p ys ≡ true → list_all p xs ≡ true
all_bare p f xs ys e h = In-all p xs (λ c k. go c (In-bare c xs ys e k))
  where
    go : (c : Cell) → (d : Cell) × In d ys × (bare c ≡ bare d) → p c ≡ true
    go c d = sym (f c) ∙ (ap p d.2 ∙ (f d.0 ∙ all-In p ys h d.0 d.1))

-- what the cell is as a provider of a name that it holds, strongly and weakly
abbrev offered : List ℕ → Cell → Option Provider
offered name c = option_map (λ symbol. record { cell = c.id.0; symbol = symbol }) (symbol_named c name)

abbrev weakly_offered : List ℕ → Cell → Option Provider
weakly_offered name c = option_map (λ symbol. record { cell = c.id.0; symbol = symbol }) (weak_symbol_named c name)

filter_bare : (test : Cell → Bool) → ((c : Cell) → test (bare c) ≡ test c) → (cells : List Cell) → filter test (map bare cells) ≡ map bare (filter test cells)
filter_bare test t [] = refl
filter_bare test t (c ∷ cells) =
    ap (λ b. cond b (bare c ∷ filter test (map bare cells)) (filter test (map bare cells))) (t c)
    ∙ go (test c) (filter_bare test t cells)
  where
    go : (b : Bool) → filter test (map bare cells) ≡ map bare (filter test cells) → cond b (bare c ∷ filter test (map bare cells)) (filter test (map bare cells)) ≡ map bare (cond b (c ∷ filter test cells) (filter test cells))
    go true e = ap (λ (cs : List Cell). bare c ∷ cs) e
    go false e = e

-- what is offered hangs on no places
offers_bare : (offer : Cell → Option Provider) → ((c : Cell) → offer (bare c) ≡ offer c) → (cells : List Cell) → filter_map offer (map bare cells) ≡ filter_map offer cells
offers_bare offer f [] = refl
offers_bare offer f (c ∷ cells) = ap (λ o. cons_option o (filter_map offer (map bare cells))) (f c) ∙ ap (λ ys. cons_option (offer c) ys) (offers_bare offer f cells)

first_bare : (spaces name : List ℕ) (cells : List Cell) → first_provider spaces name (map bare cells) ≡ first_provider spaces name cells
first_bare spaces name cells =
    ap (λ (cs : List Cell). first (filter_map (offered name) cs)) (filter_bare (λ c. holds spaces c.ns) (λ c. refl) cells)
    ∙ ap first (offers_bare (offered name) (λ c. refl) (filter (λ c. holds spaces c.ns) cells))

by_spaces_bare : (spaces : List ℕ) (cells : List Cell) → by_spaces spaces (map bare cells) ≡ map bare (by_spaces spaces cells)
by_spaces_bare [] cells = refl
by_spaces_bare (ns ∷ spaces) cells =
    ap (λ (xs : List Cell). xs ++ by_spaces spaces (map bare cells)) (filter_bare (λ c. c.ns == ns) (λ c. refl) cells)
    ∙ (ap (λ (xs : List Cell). map bare (filter (λ c. c.ns == ns) cells) ++ xs) (by_spaces_bare spaces cells)
    ∙ sym (map-append bare (filter (λ c. c.ns == ns) cells) (by_spaces spaces cells)))

nearest_bare : (spaces name : List ℕ) (cells : List Cell) → nearest_provider spaces name (map bare cells) ≡ nearest_provider spaces name cells
nearest_bare spaces name cells =
    ap (λ (cs : List Cell). first (filter_map (weakly_offered name) cs)) (by_spaces_bare spaces cells)
    ∙ ap first (offers_bare (weakly_offered name) (λ c. refl) (by_spaces spaces cells))

asked_bare : (ask : List Cell → Option Provider) → ((cells : List Cell) → ask (map bare cells) ≡ ask cells) → (w w' : World) → map bare w'.cells ≡ map bare w.cells → (s : Standing) → asked_by w' ask s ≡ asked_by w ask s
asked_bare ask f w w' e s = go s
  where
    among : (test : Cell → Bool) → ((c : Cell) → test (bare c) ≡ test c) → ask (filter test w'.cells) ≡ ask (filter test w.cells)
    among test t = sym (f (filter test w'.cells)) ∙ (ap ask (sym (filter_bare test t w'.cells) ∙ (ap (filter test) e ∙ filter_bare test t w.cells)) ∙ f (filter test w.cells))

    go : (s : Standing) → asked_by w' ask s ≡ asked_by w ask s
    go Attached = among (λ c. is_attached c.standing) (λ c. refl)
    go (Detached k) =
        ap (λ o. or_else o (ask (filter (λ c. is_attached c.standing) w'.cells))) (among (λ c. is_of_group k c.standing) (λ c. refl))
        ∙ ap (or_else (ask (filter (λ c. is_of_group k c.standing) w.cells))) (among (λ c. is_attached c.standing) (λ c. refl))

-- worlds whose cells are the same but for places have the same providers
pub provider_bare : (w w' : World) → w'.namespaces ≡ w.namespaces → map bare w'.cells ≡ map bare w.cells → (s : Standing) (ns : ℕ) (name : List ℕ) → provider_for w' s ns name ≡ provider_for w s ns name
provider_bare w w' n e s ns name =
    ap (λ sp. or_else (asked_by w' (first_provider (chain sp ns) name) s) (asked_by w' (nearest_provider (chain sp ns) name) s)) n
    ∙ (ap (λ o. or_else o (asked_by w' (nearest_provider (chain w.namespaces ns) name) s)) (asked_bare (first_provider (chain w.namespaces ns) name) (first_bare (chain w.namespaces ns) name) w w' e s)
    ∙ ap (or_else (asked_by w (first_provider (chain w.namespaces ns) name) s)) (asked_bare (nearest_provider (chain w.namespaces ns) name) (nearest_bare (chain w.namespaces ns) name) w w' e s))
