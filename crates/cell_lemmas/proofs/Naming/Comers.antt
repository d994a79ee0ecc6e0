-- Cells that come behind the others and don't hold a name change nothing about who provides it.
use Rattle.std.proofs.Common.{◌≡◌, refl, sym, ◌∙◌, ap, ap₂, ℕ, inl, inr, true, List, [], ◌∷◌, ◌++◌, length, Option, None}
use Rattle.std.specs.Prelude.{filter, filter_map, option_map, nat_lt, ◌==◌}
use Rattle.std.specs.List.{cons_option}
use Rattle.std.proofs.lemmas.List.{append-nil}
use Rattle.std.proofs.lemmas.List.Elements.{filter-append, filter_map-append}
use Rattle.cell_num.specs.Lists.{first, holds, or_else, In}
use Rattle.cell_world.specs.World.{World, Cell, Standing, is_attached}
use Rattle.cell_world.specs.declared.state.Standing.TheVariants.{Attached, Detached}
use Rattle.cell_world.specs.Names.{Provider, asked_by, by_spaces, chain, first_provider, nearest_provider, provider_for, strong_provider, symbol_named, weak_symbol_named}
use Rattle.cell_num.proofs.Elements.{In-filtered}
use Rattle.cell_lemmas.proofs.Naming.Asked.{weakly_offered}
use Rattle.cell_lemmas.proofs.Naming.Attach.{Grows, same_group}

-- where nobody gives anything nothing is given
pub gives_none : {X Y : Type 0} (f : X → Option Y) (xs : List X) → ((x : X) → In x xs → f x ≡ None) → filter_map f xs ≡ []
gives_none f [] h = refl
gives_none f (x ∷ xs) h = ap₂ cons_option (h x (inl refl)) (gives_none f xs (λ y i. h y (inr i)))

-- the cell doesn't hold the name
abbrev pub HoldsNot : List ℕ → Cell → Type 0
HoldsNot name c = (symbol_named c name ≡ None) × (weak_symbol_named c name ≡ None)

module _ (name : List ℕ) (cells more : List Cell) (nobody : (c : Cell) → In c more → HoldsNot name c) where
  abbrev strongly_offered : Cell → Option Provider
  strongly_offered c = option_map (λ symbol. record { cell = c.id.0; symbol = symbol }) (symbol_named c name)

  no_offer : (c : Cell) (o : Option ℕ) → o ≡ None → option_map {T = ℕ} {U = Provider} (λ symbol. record { cell = c.id.0; symbol = symbol }) o ≡ None
  no_offer c o e = ap (option_map {T = ℕ} {U = Provider} (λ symbol. record { cell = c.id.0; symbol = symbol })) e

  first_still : (spaces : List ℕ) → first_provider spaces name (cells ++ more) ≡ first_provider spaces name cells
  first_still spaces = ap first
      (ap (filter_map strongly_offered) (filter-append (λ c. holds spaces c.ns) cells more)
      ∙ (filter_map-append strongly_offered (filter (λ c. holds spaces c.ns) cells) (filter (λ c. holds spaces c.ns) more)
      ∙ (ap (λ (ps : List Provider). filter_map strongly_offered (filter (λ c. holds spaces c.ns) cells) ++ ps)
      (gives_none strongly_offered (filter (λ c. holds spaces c.ns) more) (λ c i. no_offer c (symbol_named c name) (nobody c (In-filtered (λ (x : Cell). holds spaces x.ns) more c i)).0))
      ∙ append-nil (filter_map strongly_offered (filter (λ c. holds spaces c.ns) cells)))))

  given_by_spaces : (spaces : List ℕ) → filter_map (weakly_offered name) (by_spaces spaces (cells ++ more)) ≡ filter_map (weakly_offered name) (by_spaces spaces cells)
  given_by_spaces [] = refl
  given_by_spaces (ns ∷ spaces) =
      filter_map-append (weakly_offered name) (filter (λ c. c.ns == ns) (cells ++ more)) (by_spaces spaces (cells ++ more))
      ∙ (ap₂ (λ (ps qs : List Provider). ps ++ qs)
      (ap (filter_map (weakly_offered name)) (filter-append (λ c. c.ns == ns) cells more)
      ∙ (filter_map-append (weakly_offered name) (filter (λ c. c.ns == ns) cells) (filter (λ c. c.ns == ns) more)
      ∙ (ap (λ (ps : List Provider). filter_map (weakly_offered name) (filter (λ c. c.ns == ns) cells) ++ ps)
      (gives_none (weakly_offered name) (filter (λ c. c.ns == ns) more) (λ c i. no_offer c (weak_symbol_named c name) (nobody c (In-filtered (λ (x : Cell). x.ns == ns) more c i)).1))
      ∙ append-nil (filter_map (weakly_offered name) (filter (λ c. c.ns == ns) cells)))))
      (given_by_spaces spaces)
      ∙ sym (filter_map-append (weakly_offered name) (filter (λ c. c.ns == ns) cells) (by_spaces spaces cells)))

  nearest_still : (spaces : List ℕ) → nearest_provider spaces name (cells ++ more) ≡ nearest_provider spaces name cells
  nearest_still spaces = ap first (given_by_spaces spaces)

module _ (w w' : World) (g : Grows w w') (name : List ℕ) (nobody : (c : Cell) → In c g.new → HoldsNot name c) (ns : ℕ) (there : nat_lt ns (length w.namespaces) ≡ true) where
  asked_still : (ask : List ℕ → List Cell → Option Provider) → ((cells more : List Cell) → ((c : Cell) → In c more → HoldsNot name c) → (spaces : List ℕ) → ask spaces (cells ++ more) ≡ ask spaces cells)
      → (s : Standing) → asked_by w' (ask (chain w'.namespaces ns)) s ≡ asked_by w (ask (chain w.namespaces ns)) s
  asked_still ask still s = ap (λ (spaces : List ℕ). asked_by w' (ask spaces) s) (g.spaces ns there) ∙ go s
    where
      attached : ask (chain w.namespaces ns) (filter (λ c. is_attached c.standing) w'.cells) ≡ ask (chain w.namespaces ns) (filter (λ c. is_attached c.standing) w.cells)
      attached =
          ap (λ (cells : List Cell). ask (chain w.namespaces ns) (filter (λ c. is_attached c.standing) cells)) g.cells
          ∙ (ap (ask (chain w.namespaces ns)) (filter-append (λ c. is_attached c.standing) w.cells g.new)
          ∙ still (filter (λ c. is_attached c.standing) w.cells) (filter (λ c. is_attached c.standing) g.new) (λ c i. nobody c (In-filtered (λ (x : Cell). is_attached x.standing) g.new c i)) (chain w.namespaces ns))

      go : (s : Standing) → asked_by w' (ask (chain w.namespaces ns)) s ≡ asked_by w (ask (chain w.namespaces ns)) s
      go Attached = attached
      go (Detached k) = ap₂ (λ (a b : Option Provider). or_else a b) (ap (ask (chain w.namespaces ns)) (same_group w w' g k)) attached

  pub strong_still : (s : Standing) → strong_provider w' s ns name ≡ strong_provider w s ns name
  strong_still s = asked_still (λ spaces cells. first_provider spaces name cells) (λ cells more f spaces. first_still name cells more f spaces) s

  pub provider_still : (s : Standing) → provider_for w' s ns name ≡ provider_for w s ns name
  provider_still s = ap₂ (λ (a b : Option Provider). or_else a b)
      (strong_still s)
      (asked_still (λ spaces cells. nearest_provider spaces name cells) (λ cells more f spaces. nearest_still name cells more f spaces) s)
