-- Where no cell has a WEAK symbol, the provider is the strong holder, and a load changes nothing, whatever comes.
use Rattle.std.proofs.Common.{◌≡◌, refl, ◌∙◌, ap, ap₂, sym, ℕ, Bool, true, false, not, ◌&&◌, List, [], ◌∷◌, map, true≢false, Option, Some, None, zero, suc, cond}
use Rattle.std.specs.Prelude.{filter, find, option_map, option_and_then, slice_get}
use Rattle.cell_num.specs.Lists.{equals, first, numbered, numbered_from, or_else, In}
use Rattle.cell_object.specs.Parts.{has_no_weak, is_defined, is_local, is_weak}
use Rattle.cell_object.specs.declared.object.Symbol.{Symbol}
use Rattle.cell_object.specs.declared.object.Entry.{Entry}
use Rattle.cell_object.specs.declared.object.Home.{Home}
use Rattle.cell_object.specs.declared.object.Home.TheVariants.{Undef, Abs, Inside, Elsewhere}
use Rattle.cell_world.specs.declared.state.Target.TheVariants.{Number}
use Rattle.cell_world.specs.Linked.Target.{naming_entry, numbered_target, own_target, provided_target, symbol_target, target_of}
use Rattle.cell_world.specs.World.{World, Cell, Task, Alias, Standing, is_attached, is_of_group}
use Rattle.cell_world.specs.declared.state.Standing.TheVariants.{Attached, Detached}
use Rattle.cell_world.specs.Names.{Provider, by_spaces, chain, is_weak_definition, nearest_provider, provider_for, strong_provider, weak_provider, weak_definitions_of, provider_of}
use Rattle.cell_world.specs.Coherent.{IsLoadable, IsReady}
use Rattle.cell_world.specs.Torn.{first_torn}
use Rattle.cell_lemmas.specs.Firm.{firm_numbered_target, firm_symbol_target, firm_target, strong_given}
use Rattle.cell_num.proofs.Elements.{All-In, all-In, filter_none, get-In, In-filtered, In-numbered}
use Rattle.cell_lemmas.proofs.Naming.Asked.{In-by_spaces, weakly_offered}
use Rattle.cell_lemmas.proofs.Naming.Comers.{gives_none}

not_weak : (b : Bool) → not b ≡ true → b ≡ false
not_weak true h = absurd (true≢false (sym h))
not_weak false h = refl

pub or_none : {X : Type 0} (o : Option X) → or_else o None ≡ o
or_none None = refl
or_none (Some x) = refl

pub unweak : (c : Cell) → has_no_weak c.object ≡ true → (s : Symbol) → In s c.object.symbols → is_weak s.bind ≡ false
unweak c h s i = not_weak (is_weak s.bind) (all-In (λ (x : Symbol). not (is_weak x.bind)) c.object.symbols h s i)

pub weak_none : (c : Cell) → has_no_weak c.object ≡ true → weak_definitions_of c.object ≡ []
weak_none c h =
    ap (map (λ p. record { name = p.1.name; symbol = p.0 }))
    (filter_none (λ p. is_weak_definition p.1) (numbered_from 1 c.object.symbols)
    (λ p i.
    let n = In-numbered c.object.symbols 1 p i in
    ap (λ b. b && is_defined p.1.home) (unweak c h p.1 (get-In c.object.symbols n.0 p.1 n.1))))

module _ (w : World) (plain : (c : Cell) → In c w.cells → has_no_weak c.object ≡ true) where
  no_answer : (name : List ℕ) (c : Cell) → In c w.cells → weakly_offered name c ≡ None
  no_answer name c i =
      ap (option_map {T = ℕ} {U = Provider} (λ symbol. record { cell = c.id.0; symbol = symbol }))
      (ap (λ (rows : List Alias). option_map (λ a. a.symbol) (find (λ a. equals a.name name) rows)) (weak_none c (plain c i)))

  none_near : (spaces name : List ℕ) (cells : List Cell) → ((c : Cell) → In c cells → In c w.cells) → nearest_provider spaces name cells ≡ None
  none_near spaces name cells there = ap first (gives_none (weakly_offered name) (by_spaces spaces cells) (λ c i. no_answer name c (there c (In-by_spaces spaces cells c i).0)))

  no_attached : (ns : ℕ) (name : List ℕ) → nearest_provider (chain w.namespaces ns) name (filter (λ c. is_attached c.standing) w.cells) ≡ None
  no_attached ns name = none_near (chain w.namespaces ns) name (filter (λ c. is_attached c.standing) w.cells) (In-filtered (λ (x : Cell). is_attached x.standing) w.cells)

  no_weak_provider : (s : Standing) (ns : ℕ) (name : List ℕ) → weak_provider w s ns name ≡ None
  no_weak_provider Attached ns name = no_attached ns name
  no_weak_provider (Detached k) ns name =
      ap₂ (λ (a b : Option Provider). or_else a b)
      (none_near (chain w.namespaces ns) name (filter (λ c. is_of_group k c.standing) w.cells) (In-filtered (λ (x : Cell). is_of_group k x.standing) w.cells))
      (no_attached ns name)

  pub strong_alone : (s : Standing) (ns : ℕ) (name : List ℕ) → provider_for w s ns name ≡ strong_provider w s ns name
  strong_alone s ns name = ap (or_else (strong_provider w s ns name)) (no_weak_provider s ns name) ∙ or_none (strong_provider w s ns name)

  -- so each target is firm
  module _ (c : Cell) (i : In c w.cells) where
    symbol_firm : (s : Symbol) → is_weak s.bind ≡ false → (home : Home) → firm_symbol_target w c s home ≡ symbol_target w c s home
    symbol_firm s n Abs = refl
    symbol_firm s n Elsewhere = refl
    symbol_firm s n (Inside section) =
        ap (λ b. cond b (strong_given w c s) (own_target c.placed s (Inside section))) n
        ∙ sym (ap (λ b. or_else (option_and_then (provided_target w) (cond b (strong_provider w c.standing c.ns s.name) None)) (own_target c.placed s (Inside section))) n)
    symbol_firm s n Undef =
        go (is_local s.bind)
        ∙ (sym (or_none (option_and_then (provided_target w) (cond (is_local s.bind) None (provider_of w c s.name))))
        ∙ ap (λ b. or_else (option_and_then (provided_target w) (cond (is_local s.bind) None (provider_of w c s.name))) (cond b (Some (Number 0)) None)) (sym n))
      where
        go : (b : Bool) → cond b None (strong_given w c s) ≡ option_and_then (provided_target w) (cond b None (provider_of w c s.name))
        go true = refl
        go false = ap (option_and_then (provided_target w)) (sym (strong_alone c.standing c.ns s.name))

    numbered_firm : (n : ℕ) → firm_numbered_target w c n ≡ numbered_target w c n
    numbered_firm zero = refl
    numbered_firm (suc n) = go (slice_get c.object.symbols n) refl
      where
        go : (o : Option Symbol) → slice_get c.object.symbols n ≡ o → option_and_then (λ s. firm_symbol_target w c s s.home) o ≡ option_and_then (λ s. symbol_target w c s s.home) o
        go None f = refl
        go (Some s) f = symbol_firm s (unweak c (plain c i) s (get-In c.object.symbols n s f)) s.home

    pub all_firm : (e : Entry) → firm_target w c e ≡ target_of w c e
    all_firm e = go (naming_entry c.object e)
      where
        go : (o : Option Entry) → option_and_then (λ (n : Entry). firm_numbered_target w c n.symbol) o ≡ option_and_then (λ (n : Entry). numbered_target w c n.symbol) o
        go None = refl
        go (Some n) = numbered_firm n.symbol

-- no task stands inside a field of none
pub none_torn : (tasks : List Task) → first_torn [] tasks ≡ None
none_torn [] = refl
none_torn (t ∷ tasks) = none_torn tasks

pub decide : (a b d : Bool) → (a ≡ true → d ≡ false) → (a ≡ false → b ≡ true → d ≡ true) → (a ≡ false → b ≡ false → d ≡ false) → d ≡ (not a && b)
decide true b d f g h = f refl
decide false true d f g h = g refl refl
decide false false d f g h = h refl refl
