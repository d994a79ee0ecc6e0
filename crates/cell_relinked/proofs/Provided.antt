-- The target of a provider that is told by its place.
use Rattle.std.proofs.Common.{◌≡◌, refl, sym, ◌∙◌, ap, ℕ, zero, suc, ◌==◌, Bool, true, false, cond, List, [], ◌∷◌, map}
use Rattle.std.specs.Prelude.{Option, Some, None, find, is_none, is_some, not, nat_lt, option_and_then, option_map, slice_get, unwrap_or}
use Rattle.std.specs.List.{list_all}
use Rattle.std.proofs.Common.{arith}
use Rattle.std.proofs.lemmas.Bool.{and_parts, eq-eqb, ltb-true, ne_eqb}
use Rattle.std.proofs.lemmas.Option.{slice_get-get_or, unwrap_or-slice_get}
use Rattle.cell_num.specs.Lists.{each_pair}
use Rattle.cell_num.proofs.Elements.{all-In, get-In}
use Rattle.cell_object.specs.declared.object.Object.{Object}
use Rattle.cell_object.specs.declared.object.Symbol.{Symbol}
use Rattle.cell_object.specs.declared.object.Bind.{Bind}
use Rattle.cell_object.specs.declared.object.Bind.TheVariants.{Local, Global, Weak}
use Rattle.cell_object.specs.Parts.{is_global, is_local, is_weak, symbol_at}
use Rattle.cell_audit.specs.Described.{no_object, standing_of}
use Rattle.cell_described.specs.Faults.{object_at}
use Rattle.cell_described.specs.declared.cell.DescribedCell.{DescribedCell}
use Rattle.cell_world.specs.Names.{chain, provider_for, provider_of, strong_provider}
use Rattle.cell_world.specs.Linked.Target.{own_target, provided_target}
use Rattle.cell_world.specs.World.{Cell, cell_of}
use Rattle.cell_bearers.specs.Asked.{provider_at}
use Rattle.cell_bearers.specs.Index.{row_of_symbol}
use Rattle.cell_bearers.specs.declared.bearer.Bearer.{Bearer}
use Rattle.cell_bearers.specs.declared.first.FirstBearer.{FirstBearer}
use Rattle.cell_relinked.specs.Asked.{AreBearers, IsAsking}
use Rattle.cell_relinked.specs.Fit.{IsFit, placed_in}
use Rattle.cell_relinked.specs.Scene.{seen_in, world_of}
use Rattle.cell_relinked.specs.declared.provider.Sights.{Sights}
use Rattle.cell_relinked.specs.declared.scene.Scene.{Scene}

abbrev rises : DescribedCell → DescribedCell → Bool
rises a b = nat_lt a.id.0 b.id.0

-- whether there is none, where it is told whether there is one
pub none_if : {X : Type 0} (o : Option X) (none : Bool) → is_some o ≡ not none → none ≡ is_none o
none_if None true e = refl
none_if None false e = absurd (cc e)
none_if (Some x) true e = absurd (cc e)
none_if (Some x) false e = refl

module _ (s : Scene) where
  numbered : (cells : List DescribedCell) → each_pair rises cells ≡ true → (k : ℕ) (c : DescribedCell) → slice_get cells k ≡ Some c → find (λ d. d.id.0 == c.id.0) (map (seen_in s) cells) ≡ Some (seen_in s c)
  numbered [] r k c e = absurd cc
  numbered (d ∷ cells) r zero c e =
      let same : d ≡ c = cc in
      ap (λ (b : Bool). cond b (Some (seen_in s d)) (find (λ d. d.id.0 == c.id.0) (map (seen_in s) cells))) (eq-eqb d.id.0 c.id.0 (ap (λ (x : DescribedCell). x.id.0) same))
      ∙ ap (λ (x : DescribedCell). Some (seen_in s x)) same
  numbered (d ∷ cells) r (suc k) c e =
      let parts = and_parts (list_all (rises d) cells) (each_pair rises cells) r in
      let lt = ltb-true d.id.0 c.id.0 (all-In (rises d) cells parts.0 c (get-In cells k c e)) in
      ap (λ (b : Bool). cond b (Some (seen_in s d)) (find (λ d. d.id.0 == c.id.0) (map (seen_in s) cells))) (ne_eqb d.id.0 c.id.0 (λ same. absurd (omega (arith, lt, same))))
      ∙ numbered cells parts.1 k c e

  pub provided_there : (b : FirstBearer) (c : DescribedCell) → slice_get s.cells.now b.cell ≡ Some c
      → option_and_then (λ y. own_target (placed_in s.objects.now c) y y.home) (symbol_at (object_at s.objects.now c.object) (suc b.symbol)) ≡ provided_target (world_of s) (provider_at s.cells.now b)
  provided_there b c at =
      ap (option_and_then (λ (x : Cell). option_and_then (λ (y : Symbol). own_target x.placed y y.home) (symbol_at x.object (suc b.symbol))))
      (sym (ap (cell_of (world_of s)) (ap (λ (o : Option DescribedCell). unwrap_or (option_map (λ (d : DescribedCell). d.id.0) o) 0) at) ∙ numbered s.cells.now s.rising b.cell c at))

  -- who bears the name of a symbol
  pub symbol_bearers : (c : DescribedCell) → IsFit s.objects.now c → (k : ℕ) (x : Symbol) → slice_get (object_at s.objects.now c.object).symbols k ≡ Some x → is_local x.bind ≡ false
      → AreBearers s x.name (row_of_symbol s.index.now c.object k)
  symbol_bearers c fit k x at shared =
      s.indexed.symbols c.object k (object_at s.objects.now c.object) x
      (slice_get-get_or s.objects.now c.object no_object fit.there ∙ ap (λ (o : Object). Some o) (sym (unwrap_or-slice_get s.objects.now c.object no_object))) at shared

  pub is_nobody : (o : Option FirstBearer) → is_none o ≡ is_none (option_map (provider_at s.cells.now) o)
  is_nobody None = refl
  is_nobody (Some b) = refl

  -- the strong holder that a cell finds that asks
  pub asked_strongly : (c : DescribedCell) (sights : Sights) → IsAsking s c sights → (o : Option FirstBearer) (name : List ℕ)
      → ((ns : ℕ) → sights.spaces.now ≡ chain s.namespaces.now ns → option_map (provider_at s.cells.now) o ≡ strong_provider (world_of s) (standing_of sights.group) ns name)
      → option_map (provider_at s.cells.now) o ≡ strong_provider (world_of s) (standing_of c.group) c.ns name
  asked_strongly c sights asking o name law = law c.ns asking.spaces ∙ ap (λ (g : Option ℕ). strong_provider (world_of s) (standing_of g) c.ns name) asking.group

  -- and the provider
  pub asked : (c : DescribedCell) (sights : Sights) → IsAsking s c sights → (o : Option FirstBearer) (name : List ℕ)
      → ((ns : ℕ) → sights.spaces.now ≡ chain s.namespaces.now ns → option_map (provider_at s.cells.now) o ≡ provider_for (world_of s) (standing_of sights.group) ns name)
      → option_map (provider_at s.cells.now) o ≡ provider_of (world_of s) (seen_in s c) name
  asked c sights asking o name law = law c.ns asking.spaces ∙ ap (λ (g : Option ℕ). provider_for (world_of s) (standing_of g) c.ns name) asking.group

-- which symbols aren't LOCAL
pub global_shared : (b : Bind) → is_global b ≡ true → is_local b ≡ false
global_shared Local e = absurd (cc e)
global_shared Global e = refl
global_shared Weak e = refl

pub weak_shared : (b : Bind) → is_weak b ≡ true → is_local b ≡ false
weak_shared Local e = absurd (cc e)
weak_shared Global e = absurd (cc e)
weak_shared Weak e = refl
