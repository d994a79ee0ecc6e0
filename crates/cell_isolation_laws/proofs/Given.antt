-- What the entries of a cell name hangs on what its namespace is given for names alone.
use Rattle.std.proofs.Common.{◌≡◌, refl, sym, ◌∙◌, ap, ℕ, zero, suc, Bool, true, false, cond, List, Option, Some, None}
use Rattle.std.specs.Prelude.{option_and_then, slice_get}
use Rattle.cell_num.specs.Lists.{or_else}
use Rattle.cell_object.specs.declared.object.Entry.{Entry}
use Rattle.cell_object.specs.declared.object.Symbol.{Symbol}
use Rattle.cell_object.specs.declared.object.Home.{Home}
use Rattle.cell_object.specs.declared.object.Home.TheVariants.{Undef, Abs, Inside, Elsewhere}
use Rattle.cell_object.specs.Parts.{is_local, is_weak}
use Rattle.cell_world.specs.declared.state.Target.{Target}
use Rattle.cell_world.specs.World.{World, Cell}
use Rattle.cell_world.specs.Names.{Provider, provider_of, strong_provider}
use Rattle.cell_world.specs.Linked.Target.{provided_target, unasked_target, symbol_target, numbered_target, target_of, naming_entry}

module _ (v w : World) (c : Cell)
    (by_strong : (name : List ℕ) → option_and_then (provided_target w) (strong_provider w c.standing c.ns name) ≡ option_and_then (provided_target v) (strong_provider v c.standing c.ns name))
    (by_name : (name : List ℕ) → option_and_then (provided_target w) (provider_of w c name) ≡ option_and_then (provided_target v) (provider_of v c name)) where
  -- where only some ask, the others are given nothing
  asking : (b : Bool) (x y : Option Target) → x ≡ y → cond b x None ≡ cond b y None
  asking true x y e = e
  asking false x y e = refl

  not_asking : (b : Bool) (x y : Option Target) → x ≡ y → cond b None x ≡ cond b None y
  not_asking true x y e = refl
  not_asking false x y e = e

  -- what is asked before the test or after it is the same
  given : (u : World) (b : Bool) (o : Option Provider) → option_and_then (provided_target u) (cond b o None) ≡ cond b (option_and_then (provided_target u) o) None
  given u true o = refl
  given u false o = refl

  not_given : (u : World) (b : Bool) (o : Option Provider) → option_and_then (provided_target u) (cond b None o) ≡ cond b None (option_and_then (provided_target u) o)
  not_given u true o = refl
  not_given u false o = refl

  symbol_same : (s : Symbol) (home : Home) → symbol_target w c s home ≡ symbol_target v c s home
  symbol_same s Undef = ap (λ (o : Option Target). or_else o (unasked_target c s Undef))
      (not_given w (is_local s.bind) (provider_of w c s.name) ∙ (not_asking (is_local s.bind) _ _ (by_name s.name) ∙ sym (not_given v (is_local s.bind) (provider_of v c s.name))))
  symbol_same s Abs = refl
  symbol_same s (Inside n) = ap (λ (o : Option Target). or_else o (unasked_target c s (Inside n)))
      (given w (is_weak s.bind) (strong_provider w c.standing c.ns s.name) ∙ (asking (is_weak s.bind) _ _ (by_strong s.name) ∙ sym (given v (is_weak s.bind) (strong_provider v c.standing c.ns s.name))))
  symbol_same s Elsewhere = refl

  numbered_same : (n : ℕ) → numbered_target w c n ≡ numbered_target v c n
  numbered_same zero = refl
  numbered_same (suc n) = go (slice_get c.object.symbols n)
    where
      go : (o : Option Symbol) → option_and_then (λ s. symbol_target w c s s.home) o ≡ option_and_then (λ s. symbol_target v c s s.home) o
      go None = refl
      go (Some s) = symbol_same s s.home

  pub given_target : (e : Entry) → target_of w c e ≡ target_of v c e
  given_target e = go (naming_entry c.object e)
    where
      go : (o : Option Entry) → option_and_then (λ (n : Entry). numbered_target w c n.symbol) o ≡ option_and_then (λ (n : Entry). numbered_target v c n.symbol) o
      go None = refl
      go (Some n) = numbered_same n.symbol
