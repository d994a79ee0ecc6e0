-- Removing cells into which no cell that stays has a link changes no target of a cell that stays.
use Rattle.std.proofs.Common.{◌≡◌, refl, sym, ◌∙◌, ap, subst, ℕ, zero, suc, ◌+◌, Bool, true, false, cond, List, true≢false}
use Rattle.std.specs.Prelude.{Option, Some, None, find, filter, filter_map, ◌==◌, not, option_map, option_and_then, slice_get}
use Rattle.std.proofs.lemmas.Bool.{eqb-true}
use Rattle.cell_num.specs.declared.ids.SecKey.{SecKey}
use Rattle.cell_num.specs.Lists.{first, holds, numbered, or_else, In}
use Rattle.cell_object.specs.declared.object.Symbol.{Symbol}
use Rattle.cell_object.specs.declared.object.Entry.{Entry}
use Rattle.cell_object.specs.declared.object.Home.{Home}
use Rattle.cell_object.specs.declared.object.Home.TheVariants.{Undef, Abs, Inside, Elsewhere}
use Rattle.cell_object.specs.Parts.{symbol_at, is_defined, is_local, is_weak}
use Rattle.cell_world.specs.declared.state.LinkRow.{LinkRow}
use Rattle.cell_world.specs.declared.state.Target.{Target}
use Rattle.cell_world.specs.declared.state.Target.TheVariants.{Section}
use Rattle.cell_world.specs.World.{World, Cell, Standing, cell_of, is_attached, is_of_group, key_of}
use Rattle.cell_world.specs.declared.state.Standing.TheVariants.{Attached, Detached}
use Rattle.cell_world.specs.Names.{Provider, asked_by, nearest_provider, strong_provider, weak_provider, provider_of, first_provider, symbol_named, chain}
use Rattle.cell_world.specs.Linked.Target.{target_of, numbered_target, symbol_target, unasked_target, provided_target, own_target, naming_entry, start_of}
use Rattle.cell_world.specs.Linked.Relink.{links_of, link_of, link_to}
use Rattle.cell_world.specs.Commands.UnloadCommand.{without_cells}
use Rattle.cell_world.specs.Coherent.{IsCoherent}
use Rattle.cell_lemmas.specs.Named.{IsNamed, has_own_aliases}
use Rattle.cell_lemmas.proofs.Naming.Known.{named}
use Rattle.cell_num.proofs.Elements.{all-In, flat_map-In}
use Rattle.cell_lemmas.proofs.Targeting.Targets.{In-find, Provides, provides, strong_provides, holds_defines}
use Rattle.cell_lemmas.proofs.Naming.Asked.{nearest_stays}
use Rattle.cell_lemmas.proofs.Fields.Fixed.{links_fixed}
use Rattle.cell_lemmas.proofs.Naming.Lookups.{first_stays, filter_map-In, filter_swap, find_stays, has_place}

-- no cell that stays has a link into one of the numbers
abbrev pub Closed : World → List ℕ → Type 0
Closed w numbers = (l : LinkRow) → In l w.links → holds numbers l.user.cell.0 ≡ false → holds numbers l.target.cell.0 ≡ false

-- the target, where there is one, isn't in a cell of the numbers
abbrev pub IsFree : List ℕ → Option Target → Type 0
IsFree numbers o = (key : SecKey) (offset addr : ℕ) → o ≡ Some (Section key offset addr) → holds numbers key.cell.0 ≡ false

-- a provider's symbol is in a section of the provider's cell
abbrev pub IsInProvider : World → Provider → Type 0
IsInProvider w p = (key : SecKey) × (offset : ℕ) × (addr : ℕ) × (provided_target w p ≡ Some (Section key offset addr)) × (key.cell.0 ≡ p.cell)

module _ (w : World) (k : IsNamed w) where
  pub provided : (p : Provider) → Provides w p → IsInProvider w p
  provided p r = go d.0.home refl d.2
    where
      d : (s : Symbol) × (symbol_at r.0.object p.symbol ≡ Some s) × (is_defined s.home ≡ true)
      d = holds_defines r.0 (all-In has_own_aliases w.cells k.aliases r.0 r.1) p.symbol r.3

      there : cell_of w p.cell ≡ Some r.0
      there = subst (λ (n : ℕ). find (λ x. x.id.0 == n) w.cells ≡ Some r.0) (sym r.2) (In-find w.cells k.cell_order r.0 r.1)

      go : (home : Home) → d.0.home ≡ home → is_defined home ≡ true → IsInProvider w p
      go (Inside n) e t = (
        key_of r.0.id.0 n,
        d.0.value,
        start_of r.0.placed n + d.0.value,
        ap (λ o. option_and_then (λ c. option_and_then (λ s. own_target c.placed s s.home) (symbol_at c.object p.symbol)) o) there
            ∙ (ap (λ o. option_and_then (λ s. own_target r.0.placed s s.home) o) d.1 ∙ ap (own_target r.0.placed d.0) e),
        sym r.2,
      )
      go Undef e t = absurd (true≢false (sym t))
      go Abs e t = absurd (true≢false (sym t))
      go Elsewhere e t = absurd (true≢false (sym t))

module _ (w : World) (h : IsCoherent w) where
  module _ (numbers : List ℕ) where
    abbrev stay : Cell → Bool
    stay c = not (holds numbers c.id.0)

    abbrev left : World
    left = without_cells w numbers

    abbrev provider_in : List ℕ → Cell → Option Provider
    provider_in name c = option_map (λ symbol. record { cell = c.id.0; symbol = symbol }) (symbol_named c name)

    cell_in : (x : Cell) (v : Option ℕ) (y : Provider) → option_map {T = ℕ} {U = Provider} (λ symbol. record { cell = x.id.0; symbol = symbol }) v ≡ Some y → y.cell ≡ x.id.0
    cell_in x None y g = cc
    cell_in x (Some n) y g = let q : Provider = record { cell = x.id.0; symbol = n } in let s : Some q ≡ Some y = g in let t : q ≡ y = cc in ap (λ (v : Provider). v.cell) (sym t)

    first_same : (spaces name : List ℕ) (test : Cell → Bool) (o : Option Provider) → first_provider spaces name (filter test w.cells) ≡ o → ((p : Provider) → o ≡ Some p → holds numbers p.cell ≡ false) → first_provider spaces name (filter test (filter stay w.cells)) ≡ o
    first_same spaces name test o e f =
        ap (λ xs. first (filter_map (provider_in name) xs)) (ap (filter (λ c. holds spaces c.ns)) (filter_swap test stay w.cells) ∙ filter_swap (λ c. holds spaces c.ns) stay (filter test w.cells))
        ∙ first_stays (provider_in name) stay (filter (λ c. holds spaces c.ns) (filter test w.cells)) o e
        (λ x y i g k. ap not (subst (λ n. holds numbers n ≡ false) (cell_in x (symbol_named x name) y g) (f y k)))

    nearest_same : (spaces name : List ℕ) (test : Cell → Bool) (o : Option Provider) → nearest_provider spaces name (filter test w.cells) ≡ o → ((p : Provider) → o ≡ Some p → holds numbers p.cell ≡ false) → nearest_provider spaces name (filter test (filter stay w.cells)) ≡ o
    nearest_same spaces name test o e f =
        ap (nearest_provider spaces name) (filter_swap test stay w.cells)
        ∙ nearest_stays spaces name stay (filter test w.cells) o e (λ c p n k. ap not (subst (λ m. holds numbers m ≡ false) n (f p k)))

    -- whoever answers goes on answering where it stays
    abbrev Answers : (List Cell → Option Provider) → Type 0
    Answers ask = (test : Cell → Bool) (o : Option Provider) → ask (filter test w.cells) ≡ o → ((p : Provider) → o ≡ Some p → holds numbers p.cell ≡ false) → ask (filter test (filter stay w.cells)) ≡ o

    asked_same : (ask : List Cell → Option Provider) → Answers ask → (s : Standing) → ((p : Provider) → asked_by w ask s ≡ Some p → holds numbers p.cell ≡ false) → asked_by left ask s ≡ asked_by w ask s
    asked_same ask g Attached f = g (λ x. is_attached x.standing) _ refl f
    asked_same ask g (Detached k) f = either (ask (filter (λ x. is_of_group k x.standing) w.cells)) refl f
      where
        either : (o : Option Provider) → ask (filter (λ x. is_of_group k x.standing) w.cells) ≡ o
            → ((p : Provider) → or_else (ask (filter (λ x. is_of_group k x.standing) w.cells)) (ask (filter (λ x. is_attached x.standing) w.cells)) ≡ Some p → holds numbers p.cell ≡ false)
            → or_else (ask (filter (λ x. is_of_group k x.standing) (filter stay w.cells))) (ask (filter (λ x. is_attached x.standing) (filter stay w.cells))) ≡ or_else (ask (filter (λ x. is_of_group k x.standing) w.cells)) (ask (filter (λ x. is_attached x.standing) w.cells))
        either None a f =
            ap (λ o. or_else o (ask (filter (λ x. is_attached x.standing) (filter stay w.cells)))) (g (λ x. is_of_group k x.standing) None a (λ p e. cc))
            ∙ (g (λ x. is_attached x.standing) (ask (filter (λ x. is_attached x.standing) w.cells)) refl (λ p e. f p (ap (λ o. or_else o (ask (filter (λ x. is_attached x.standing) w.cells))) a ∙ e))
            ∙ sym (ap (λ o. or_else o (ask (filter (λ x. is_attached x.standing) w.cells))) a))
        either (Some v) a f =
            ap (λ o. or_else o (ask (filter (λ x. is_attached x.standing) (filter stay w.cells)))) (g (λ x. is_of_group k x.standing) (Some v) a (λ p e. f p (ap (λ o. or_else o (ask (filter (λ x. is_attached x.standing) w.cells))) a ∙ e)))
            ∙ sym (ap (λ o. or_else o (ask (filter (λ x. is_attached x.standing) w.cells))) a)

    pub strong_same : (c : Cell) (name : List ℕ) → ((p : Provider) → strong_provider w c.standing c.ns name ≡ Some p → holds numbers p.cell ≡ false) → strong_provider left c.standing c.ns name ≡ strong_provider w c.standing c.ns name
    strong_same c name f = asked_same (first_provider (chain w.namespaces c.ns) name) (first_same (chain w.namespaces c.ns) name) c.standing f

    weak_same : (c : Cell) (name : List ℕ) → ((p : Provider) → weak_provider w c.standing c.ns name ≡ Some p → holds numbers p.cell ≡ false) → weak_provider left c.standing c.ns name ≡ weak_provider w c.standing c.ns name
    weak_same c name f = asked_same (nearest_provider (chain w.namespaces c.ns) name) (nearest_same (chain w.namespaces c.ns) name) c.standing f

    -- a provider that stays goes on providing
    pub provider_same : (c : Cell) (name : List ℕ) → ((p : Provider) → provider_of w c name ≡ Some p → holds numbers p.cell ≡ false) → provider_of left c name ≡ provider_of w c name
    provider_same c name f = go (strong_provider w c.standing c.ns name) refl f
      where
        go : (o : Option Provider) → strong_provider w c.standing c.ns name ≡ o → ((p : Provider) → or_else (strong_provider w c.standing c.ns name) (weak_provider w c.standing c.ns name) ≡ Some p → holds numbers p.cell ≡ false)
            → or_else (strong_provider left c.standing c.ns name) (weak_provider left c.standing c.ns name) ≡ or_else (strong_provider w c.standing c.ns name) (weak_provider w c.standing c.ns name)
        go None e f =
            ap (λ o. or_else o (weak_provider left c.standing c.ns name)) (strong_same c name (λ p k. let z : None ≡ Some p = sym e ∙ k in cc) ∙ e)
            ∙ (weak_same c name (λ p k. f p (ap (λ o. or_else o (weak_provider w c.standing c.ns name)) e ∙ k))
            ∙ sym (ap (λ o. or_else o (weak_provider w c.standing c.ns name)) e))
        go (Some p) e f =
            ap (λ o. or_else o (weak_provider left c.standing c.ns name)) (strong_same c name (λ q k. f q (ap (λ o. or_else o (weak_provider w c.standing c.ns name)) k)) ∙ e)
            ∙ sym (ap (λ o. or_else o (weak_provider w c.standing c.ns name)) e)

    -- a cell that stays is found by its number
    pub cell_same : (n : ℕ) → holds numbers n ≡ false → cell_of left n ≡ cell_of w n
    cell_same n f = find_stays (λ c. c.id.0 == n) stay w.cells (λ c i e. ap not (subst (λ k. holds numbers k ≡ false) (sym (eqb-true c.id.0 n e)) f))

    -- a provider of a target that stays stays
    given_free : (p : Provider) → Provides w p → IsFree numbers (provided_target w p) → holds numbers p.cell ≡ false
    given_free p r f =
        let i : IsInProvider w p = provided w (named w h) p r in
        subst (λ n. holds numbers n ≡ false) i.4 (f i.0 i.1 i.2 i.3)

    pub provider_free : (c : Cell) (name : List ℕ) → IsFree numbers (option_and_then (provided_target w) (provider_of w c name)) → (p : Provider) → provider_of w c name ≡ Some p → holds numbers p.cell ≡ false
    provider_free c name f p e = given_free p (provides w c.standing c.ns name p e) (subst (λ (o : Option Provider). IsFree numbers (option_and_then (provided_target w) o)) e f)

    -- it is in a section, so nothing is given but what it gives
    given_first : (p : Provider) (other : Option Target) → Provides w p → or_else (provided_target w p) other ≡ provided_target w p
    given_first p other r =
        let i : IsInProvider w p = provided w (named w h) p r in
        ap (λ o. or_else o other) i.3 ∙ sym i.3

    -- the same is given, where the same is asked and what is given stays
    asked_target : (a b : Option Provider) (other : Option Target) → ((p : Provider) → a ≡ Some p → Provides w p) → (((p : Provider) → a ≡ Some p → holds numbers p.cell ≡ false) → b ≡ a) → IsFree numbers (or_else (option_and_then (provided_target w) a) other)
        → or_else (option_and_then (provided_target left) b) other ≡ or_else (option_and_then (provided_target w) a) other
    asked_target None b other r k f = ap (λ (o : Option Provider). or_else (option_and_then (provided_target left) o) other) (k (λ p e. let z : None ≡ Some p = e in cc))
    asked_target (Some p) b other r k f =
        let free : holds numbers p.cell ≡ false = given_free p (r p refl) (subst (IsFree numbers) (given_first p other (r p refl)) f) in
        ap (λ (o : Option Provider). or_else (option_and_then (provided_target left) o) other) (k (λ q e. let z : p ≡ q = cc in subst (λ (x : Provider). holds numbers x.cell ≡ false) z free))
        ∙ ap (λ o. or_else (option_and_then (λ d. option_and_then (λ t. own_target d.placed t t.home) (symbol_at d.object p.symbol)) o) other) (cell_same p.cell free)

    symbol_same : (c : Cell) (s : Symbol) (home : Home) → IsFree numbers (symbol_target w c s home) → symbol_target left c s home ≡ symbol_target w c s home
    symbol_same c s Abs f = refl
    symbol_same c s Elsewhere f = refl
    symbol_same c s Undef f = go (is_local s.bind) f
      where
        go : (b : Bool) → IsFree numbers (or_else (option_and_then (provided_target w) (cond b None (provider_of w c s.name))) (unasked_target c s Undef))
            → or_else (option_and_then (provided_target left) (cond b None (provider_of left c s.name))) (unasked_target c s Undef) ≡ or_else (option_and_then (provided_target w) (cond b None (provider_of w c s.name))) (unasked_target c s Undef)
        go true g = refl
        go false g = asked_target (provider_of w c s.name) (provider_of left c s.name) (unasked_target c s Undef) (provides w c.standing c.ns s.name) (provider_same c s.name) g
    symbol_same c s (Inside n) f = go (is_weak s.bind) f
      where
        go : (b : Bool) → IsFree numbers (or_else (option_and_then (provided_target w) (cond b (strong_provider w c.standing c.ns s.name) None)) (own_target c.placed s (Inside n)))
            → or_else (option_and_then (provided_target left) (cond b (strong_provider left c.standing c.ns s.name) None)) (own_target c.placed s (Inside n)) ≡ or_else (option_and_then (provided_target w) (cond b (strong_provider w c.standing c.ns s.name) None)) (own_target c.placed s (Inside n))
        go true g = asked_target (strong_provider w c.standing c.ns s.name) (strong_provider left c.standing c.ns s.name) (own_target c.placed s (Inside n)) (strong_provides w c.standing c.ns s.name) (strong_same c s.name) g
        go false g = refl

    numbered_same : (c : Cell) (n : ℕ) → IsFree numbers (numbered_target w c n) → numbered_target left c n ≡ numbered_target w c n
    numbered_same c zero f = refl
    numbered_same c (suc n) f = go (slice_get c.object.symbols n) f
      where
        go : (o : Option Symbol) → IsFree numbers (option_and_then (λ s. symbol_target w c s s.home) o) → option_and_then (λ s. symbol_target left c s s.home) o ≡ option_and_then (λ s. symbol_target w c s s.home) o
        go None f = refl
        go (Some s) f = symbol_same c s s.home f

    target_same : (c : Cell) (e : Entry) → IsFree numbers (target_of w c e) → target_of left c e ≡ target_of w c e
    target_same c e f = go (naming_entry c.object e) f
      where
        go : (o : Option Entry) → IsFree numbers (option_and_then (λ (n : Entry). numbered_target w c n.symbol) o)
            → option_and_then (λ (n : Entry). numbered_target left c n.symbol) o ≡ option_and_then (λ (n : Entry). numbered_target w c n.symbol) o
        go None f = refl
        go (Some n) f = numbered_same c n.symbol f

    module _ (closed : Closed w numbers) (c : Cell) (here : In c w.cells) (stays : holds numbers c.id.0 ≡ false) (e : Entry) (there : In e c.object.entries) where
      -- no target of a cell that stays is in a removed cell, for it has a link
      pub target_free : IsFree numbers (target_of w c e)
      target_free key offset addr t =
          let n : (n : ℕ) × In (n, e) (numbered c.object.entries) = has_place c.object.entries 0 e there in
          let row : LinkRow = record { user = key_of c.id.0 e.section; entry = n.0; target = key } in
          let one : link_of w c (n.0, e) ≡ Some row = ap (λ o. elim o as (λ _. Option LinkRow) [ None ↦ None | Some target ↦ link_to c n.0 e target ]) t in
          let listed : In row (links_of w) = flat_map-In (λ x. filter_map (link_of w x) (numbered x.object.entries)) w.cells c row here (filter_map-In (link_of w c) (numbered c.object.entries) (n.0, e) row n.1 one) in
          closed row (subst (λ ls. In row ls) (links_fixed w h.linked) listed) stays

      pub target_stays : target_of left c e ≡ target_of w c e
      target_stays = target_same c e target_free
