-- A need of a cell that stays keeps its provider, and each entry fits as before.
use Rattle.std.proofs.Common.{◌≡◌, refl, sym, ◌∙◌, ap, subst, arith, ℕ, suc, Bool, true, false, cond, List, true≢false}
use Rattle.std.specs.Prelude.{Option, Some, None, filter, ◌&&◌, ◌||◌, ◌==◌, not, is_some, is_none, slice_get, option_map, option_and_then, unwrap_or, pos}
use Rattle.std.specs.Ordering.{int_eq}
use Rattle.std.proofs.lemmas.Bool.{eqb-true}
use Rattle.cell_num.specs.Kinds.{is_pcrel_lo12}
use Rattle.cell_num.specs.Lists.{holds, numbered_from, or_else, In}
use Rattle.cell_world.specs.declared.state.Target.TheVariants.{Number}
use Rattle.cell_object.specs.declared.object.Object.{Object}
use Rattle.cell_object.specs.declared.object.Symbol.{Symbol}
use Rattle.cell_object.specs.declared.object.Entry.{Entry}
use Rattle.cell_object.specs.declared.object.Bind.{Bind}
use Rattle.cell_object.specs.declared.object.Bind.TheVariants.{Local, Global, Weak}
use Rattle.cell_object.specs.declared.object.Home.{Home}
use Rattle.cell_object.specs.declared.object.Home.TheVariants.{Undef, Abs, Inside, Elsewhere}
use Rattle.cell_object.specs.Parts.{symbol_at, label_of, high_of, inside_of, is_undefined, is_global, is_local, is_weak}
use Rattle.cell_object.specs.Sound.{IsSoundObject}
use Rattle.cell_world.specs.World.{World, Cell}
use Rattle.cell_world.specs.Names.{provider_of, needs_of, is_used}
use Rattle.cell_world.specs.Linked.Target.{target_of, numbered_target, symbol_target, provided_target, naming_entry}
use Rattle.cell_world.specs.Linked.Field.{Bound, misfit_of}
use Rattle.cell_world.specs.Commands.UnloadCommand.{without_cells}
use Rattle.cell_world.specs.Coherent.{IsCoherent, is_supplied, is_fitting}
use Rattle.cell_num.proofs.Elements.{all-In, In-all, In-map, In-numbered, In-filtered, filter-Passes, any-Has}
use Rattle.cell_lemmas.proofs.Naming.Known.{object_sound}
use Rattle.cell_lemmas.proofs.Targeting.Targets.{entry_parts}
use Rattle.cell_num.proofs.Sublists.{and_left, and_right}
use Rattle.cell_lemmas.proofs.Targeting.TargetsLeft.{Closed, IsFree, provider_free, provider_same, target_free}
use Rattle.cell_lemmas.proofs.Links.LinksLeft.{bound_same}

undefined_is : (home : Home) → is_undefined home ≡ true → home ≡ Undef
undefined_is Undef e = refl
undefined_is Abs e = absurd (true≢false (sym e))
undefined_is (Inside k) e = absurd (true≢false (sym e))
undefined_is Elsewhere e = absurd (true≢false (sym e))

global_is : (b : Bind) → is_global b ≡ true → b ≡ Global
global_is Global e = refl
global_is Local e = absurd (true≢false (sym e))
global_is Weak e = absurd (true≢false (sym e))

or_none : {X : Type 0} (o : Option X) → or_else o None ≡ o
or_none None = refl
or_none (Some x) = refl

low_label : (l a h b : Bool) → (not l || a && h && b) ≡ true → l ≡ true → b ≡ true
low_label true true true b k e = k
low_label true true false b k e = absurd (true≢false (sym k))
low_label true false h b k e = absurd (true≢false (sym k))
low_label false a h b k e = absurd (true≢false (sym e))

-- an entry that names an undefined symbol names it itself: the symbol is no label
own_naming : (object : Object) → IsSoundObject object → (e : Entry) → In e object.entries → (s : Symbol) → symbol_at object e.symbol ≡ Some s → s.home ≡ Undef → naming_entry object e ≡ Some e
own_naming object sound e here s at u = go (is_pcrel_lo12 e.kind) refl
  where
    none : label_of object e ≡ None
    none =
        ap (option_and_then (λ (t : Symbol). option_map (λ section. (section, t.value)) (inside_of t.home))) at
        ∙ ap (λ (x : Home). option_map (λ (section : ℕ). (section, s.value)) (inside_of x)) u

    go : (b : Bool) → is_pcrel_lo12 e.kind ≡ b → elim b as (λ _. Option Entry) [ true ↦ high_of object e | false ↦ Some e ] ≡ Some e
    go false k = refl
    go true k =
        absurd (true≢false (sym (low_label (is_pcrel_lo12 e.kind) (int_eq e.addend (pos 0)) (is_some (high_of object e)) _ (entry_parts object sound e here).2 k)
        ∙ ap (λ (l : Option (ℕ × ℕ)). unwrap_or (option_map (λ label. label.0 == e.section) l) false) none))

-- an entry that names an undefined GLOBAL
pub record Names (object : Object) (name : List ℕ) : Type 0 where
  pub symbol : Symbol
  pub number : ℕ
  pub entry : Entry
  pub there : In entry object.entries
  pub by_number : entry.symbol ≡ suc number
  pub has : slice_get object.symbols number ≡ Some symbol
  pub home : symbol.home ≡ Undef
  pub global : is_global symbol.bind ≡ true
  pub named : name ≡ symbol.name

abbrev is_need : Object → ℕ × Symbol → Bool
is_need object q = is_global q.1.bind && is_undefined q.1.home && is_used object q.0

pub need_named : (object : Object) (name : List ℕ) → In name (needs_of object) → Names object name
need_named object name j =
    let m : (q : ℕ × Symbol) × In q (filter (is_need object) (numbered_from 1 object.symbols)) × (name ≡ q.1.name) = In-map (λ (q : ℕ × Symbol). q.1.name) (filter (is_need object) (numbered_from 1 object.symbols)) name j in
    let p : is_need object m.0 ≡ true = filter-Passes (is_need object) (numbered_from 1 object.symbols) m.0 m.1 in
    let n = In-numbered object.symbols 1 m.0 (In-filtered (is_need object) (numbered_from 1 object.symbols) m.0 m.1) in
    let both : (is_global m.0.1.bind && is_undefined m.0.1.home) ≡ true = and_left (is_global m.0.1.bind && is_undefined m.0.1.home) (is_used object m.0.0) p in
    let x : (x : Entry) × In x object.entries × ((x.symbol == m.0.0) ≡ true) = any-Has (λ (y : Entry). y.symbol == m.0.0) object.entries (and_right (is_global m.0.1.bind && is_undefined m.0.1.home) (is_used object m.0.0) p) in
    record {
      symbol = m.0.1;
      number = n.0;
      entry = x.0;
      there = x.1;
      by_number = eqb-true x.0.symbol m.0.0 x.2 ∙ omega (arith, n.2);
      has = n.1;
      home = undefined_is m.0.1.home (and_right (is_global m.0.1.bind) (is_undefined m.0.1.home) both);
      global = and_left (is_global m.0.1.bind) (is_undefined m.0.1.home) both;
      named = m.2;
    }

module _ (w : World) (h : IsCoherent w) (c : Cell) (here : In c w.cells) where
  -- what an entry of an undefined symbol names is what the symbol's provider has
  pub target_is : (name : List ℕ) → (n : Names c.object name) → target_of w c n.entry ≡ option_and_then (provided_target w) (provider_of w c name)
  target_is name n =
      ap (option_and_then (λ (y : Entry). numbered_target w c y.symbol)) (own_naming c.object (object_sound w h.ready.objects c here) n.entry n.there n.symbol (subst (λ m. symbol_at c.object m ≡ Some n.symbol) (sym n.by_number) n.has) n.home)
      ∙ (ap (numbered_target w c) n.by_number
      ∙ (ap (option_and_then (λ (y : Symbol). symbol_target w c y y.home)) n.has
      ∙ (ap (symbol_target w c n.symbol) n.home
      ∙ (ap (λ (b : Bind). or_else (option_and_then (provided_target w) (cond (is_local b) None (provider_of w c n.symbol.name))) (cond (is_weak b) (Some (Number 0)) None)) (global_is n.symbol.bind n.global)
      ∙ (or_none (option_and_then (provided_target w) (provider_of w c n.symbol.name))
      ∙ ap (λ (x : List ℕ). option_and_then (provided_target w) (provider_of w c x)) (sym n.named))))))

module _ (w : World) (h : IsCoherent w) (numbers : List ℕ) (closed : Closed w numbers) (c : Cell) (here : In c w.cells) (stays : holds numbers c.id.0 ≡ false) where
  need_same : (name : List ℕ) → In name (needs_of c.object) → provider_of (without_cells w numbers) c name ≡ provider_of w c name
  need_same name j = provider_same w h numbers c name (provider_free w h numbers c name (free (need_named c.object name j)))
    where
      free : Names c.object name → IsFree numbers (option_and_then (provided_target w) (provider_of w c name))
      free n = subst (IsFree numbers) (target_is w h c here name n) (target_free w h numbers closed c here stays n.entry n.there)

  pub supplied_left : is_supplied (without_cells w numbers) c ≡ true
  supplied_left = In-all (λ name. is_some (provider_of (without_cells w numbers) c name)) (needs_of c.object)
      (λ name j. ap is_some (need_same name j) ∙ all-In (λ n. is_some (provider_of w c n)) (needs_of c.object) (all-In (is_supplied w) w.cells h.ready.supplied c here) name j)

  pub fitting_left : is_fitting (without_cells w numbers) c ≡ true
  fitting_left = ap (λ (b : List Bound). is_none (misfit_of c.placed b)) (bound_same w h numbers closed c here stays) ∙ all-In (is_fitting w) w.cells h.ready.fitting c here
