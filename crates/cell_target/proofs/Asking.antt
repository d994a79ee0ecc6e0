-- What a symbol is, by who is asked for its name.
use Rattle.std.proofs.Common.{◌≡◌, refl, sym, ◌∙◌, ap, ℕ, Bool, true, false, cond}
use Rattle.std.specs.Prelude.{◌&&◌, Option, Some, None, option_and_then}
use Rattle.cell_num.specs.Lists.{or_else}
use Rattle.cell_object.specs.declared.object.Bind.{Bind}
use Rattle.cell_object.specs.declared.object.Bind.TheVariants.{Local, Global, Weak}
use Rattle.cell_object.specs.declared.object.Home.{Home}
use Rattle.cell_object.specs.declared.object.Home.TheVariants.{Undef, Abs, Inside, Elsewhere}
use Rattle.cell_object.specs.declared.object.Symbol.{Symbol}
use Rattle.cell_object.specs.Parts.{is_defined, is_local, is_undefined, is_weak}
use Rattle.cell_world.specs.declared.state.NewCell.{NewCell}
use Rattle.cell_world.specs.World.{World, Cell, Standing}
use Rattle.cell_world.specs.declared.state.Target.{Target}
use Rattle.cell_world.specs.declared.state.Target.TheVariants.{Number}
use Rattle.cell_world.specs.Names.{provider_for, strong_provider}
use Rattle.cell_world.specs.Linked.Target.{own_target, provided_target, symbol_target}
use Rattle.cell_target.specs.Asking.{undefined_target, unprovided, yielding_target}
use Rattle.cell_target.specs.Named.{target_named}
use Rattle.cell_target.specs.Scene.{in_state}
use Rattle.cell_target.specs.declared.asked.Asked.TheVariants.{Anyone, Strong}

front : (b c : Bool) → (b && c) ≡ true → b ≡ true
front true c e = refl
front false c e = absurd (cc e)

back : (b c : Bool) → (b && c) ≡ true → c ≡ true
back true c e = e
back false c e = absurd (cc e)

front_off : (b : Bool) → (b && true) ≡ false → b ≡ false
front_off true e = absurd (cc e)
front_off false e = refl

module _ (w : World) (state : Standing) (s : Symbol) where
  -- nobody is asked for a LOCAL
  pub local_is : (ns : ℕ) → is_local s.bind ≡ true → None ≡ undefined_target w ns state s
  local_is ns = go s.bind
    where
      go : (b : Bind) → is_local b ≡ true → None ≡ or_else (option_and_then (provided_target w) (cond (is_local b) None (provider_for w state ns s.name))) (cond (is_weak b) (Some (Number 0)) None)
      go Local e = refl
      go Global e = absurd (cc e)
      go Weak e = absurd (cc e)

  -- for another the provider of its name, if there is one
  pub asked_is : (ns : ℕ) (t : Option Target) → is_local s.bind ≡ false → t ≡ target_named w Anyone ns state s.name → or_else t (unprovided s) ≡ undefined_target w ns state s
  asked_is ns t named e =
      ap (λ (o : Option Target). or_else o (unprovided s))
      (e ∙ sym (ap (λ (b : Bool). option_and_then (provided_target w) (cond b None (provider_for w state ns s.name))) named))

module _ (w : World) (cell : NewCell) (state : Standing) (s : Symbol) where
  abbrev c : Cell
  c = in_state cell state

  -- a WEAK one yields to a strong holder
  pub yields : (t : Option Target) → t ≡ target_named w Strong cell.ns state s.name → or_else t (own_target cell s s.home) ≡ yielding_target w cell state s
  yields t e = ap (λ (o : Option Target). or_else o (own_target cell s s.home)) e

  -- an undefined one
  pub undefined_is : (home : Home) → is_undefined home ≡ true → undefined_target w cell.ns state s ≡ symbol_target w c s home
  undefined_is Undef e = refl
  undefined_is Abs e = absurd (cc e)
  undefined_is (Inside section) e = absurd (cc e)
  undefined_is Elsewhere e = absurd (cc e)

  -- a WEAK one in a section
  pub yielding_is : (home : Home) → (is_weak s.bind && is_defined home) ≡ true → or_else (target_named w Strong cell.ns state s.name) (own_target cell s home) ≡ symbol_target w c s home
  yielding_is Undef e = absurd (let off = back (is_weak s.bind) false e in cc off)
  yielding_is Abs e = absurd (let off = back (is_weak s.bind) false e in cc off)
  yielding_is (Inside section) e =
      sym (ap (λ (b : Bool). or_else (option_and_then (provided_target w) (cond b (strong_provider w state cell.ns s.name) None)) (own_target cell s (Inside section))) (front (is_weak s.bind) true e))
  yielding_is Elsewhere e = absurd (let off = back (is_weak s.bind) false e in cc off)

  -- any other is its own
  pub own_is : (home : Home) → is_undefined home ≡ false → (is_weak s.bind && is_defined home) ≡ false → own_target cell s home ≡ symbol_target w c s home
  own_is Undef e f = absurd (cc e)
  own_is Abs e f = refl
  own_is (Inside section) e f =
      sym (ap (λ (b : Bool). or_else (option_and_then (provided_target w) (cond b (strong_provider w state cell.ns s.name) None)) (own_target cell s (Inside section))) (front_off (is_weak s.bind) f))
  own_is Elsewhere e f = refl
