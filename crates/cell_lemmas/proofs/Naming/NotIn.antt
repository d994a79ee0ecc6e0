-- What a cell names isn't in some cells, where it is none of them and asks none of them.
use Rattle.std.proofs.Common.{◌≡◌, refl, sym, subst, ℕ, zero, suc, Bool, true, false, cond, List, Option, Some, None}
use Rattle.std.specs.Prelude.{option_and_then, slice_get, ◌==◌}
use Rattle.std.proofs.lemmas.Bool.{eqb-true}
use Rattle.cell_num.specs.Lists.{holds, or_else}
use Rattle.cell_object.specs.declared.object.Symbol.{Symbol}
use Rattle.cell_object.specs.declared.object.Entry.{Entry}
use Rattle.cell_object.specs.declared.object.Home.{Home}
use Rattle.cell_object.specs.declared.object.Home.TheVariants.{Undef, Abs, Inside, Elsewhere}
use Rattle.cell_object.specs.Parts.{symbol_at, is_local, is_weak}
use Rattle.cell_world.specs.declared.state.Target.{Target}
use Rattle.cell_world.specs.declared.state.Target.TheVariants.{Number}
use Rattle.cell_world.specs.World.{World, Cell, cell_of}
use Rattle.cell_world.specs.Names.{Provider, strong_provider, provider_of}
use Rattle.cell_world.specs.Linked.Target.{own_target, provided_target, unasked_target, symbol_target, numbered_target, naming_entry, target_of}
use Rattle.cell_lemmas.specs.Targets.{is_target_in}
use Rattle.cell_num.proofs.Elements.{found-In}
use Rattle.cell_lemmas.proofs.Naming.Asked.{IsAsked, strong_asks, provider_asks}

module _ (w : World) (ns : List ℕ) where
  own_out : (s : Symbol) (home : Home) (d : Cell) → holds ns d.id.0 ≡ false → is_target_in ns (own_target d.placed s home) ≡ false
  own_out s Undef d e = refl
  own_out s Abs d e = refl
  own_out s (Inside n) d e = e
  own_out s Elsewhere d e = refl

  provided_out : (p : Provider) → holds ns p.cell ≡ false → is_target_in ns (provided_target w p) ≡ false
  provided_out p e = go (cell_of w p.cell) refl
    where
      go : (o : Option Cell) → cell_of w p.cell ≡ o → is_target_in ns (option_and_then (λ c. option_and_then (λ s. own_target c.placed s s.home) (symbol_at c.object p.symbol)) o) ≡ false
      go None x = refl
      go (Some d) x = at (symbol_at d.object p.symbol)
        where
          number : d.id.0 ≡ p.cell
          number = eqb-true d.id.0 p.cell (found-In (λ (c : Cell). c.id.0 == p.cell) w.cells d x).1

          at : (o : Option Symbol) → is_target_in ns (option_and_then (λ s. own_target d.placed s s.home) o) ≡ false
          at None = refl
          at (Some s) = own_out s s.home d (subst (λ n. holds ns n ≡ false) (sym number) e)

  module _ (c : Cell) (not_in : holds ns c.id.0 ≡ false) (out : (p : Provider) → IsAsked w c.standing p → holds ns p.cell ≡ false) where
    given_out : (o : Option Provider) (other : Option Target) → ((p : Provider) → o ≡ Some p → IsAsked w c.standing p) → is_target_in ns other ≡ false → is_target_in ns (or_else (option_and_then (provided_target w) o) other) ≡ false
    given_out None other r e = e
    given_out (Some p) other r e = go (provided_target w p) (provided_out p (out p (r p refl)))
      where
        go : (o : Option Target) → is_target_in ns o ≡ false → is_target_in ns (or_else o other) ≡ false
        go None q = e
        go (Some t) q = q

    symbol_out : (s : Symbol) (home : Home) → is_target_in ns (symbol_target w c s home) ≡ false
    symbol_out s Abs = refl
    symbol_out s Elsewhere = refl
    symbol_out s (Inside n) = go (is_weak s.bind)
      where
        go : (b : Bool) → is_target_in ns (or_else (option_and_then (provided_target w) (cond b (strong_provider w c.standing c.ns s.name) None)) (own_target c.placed s (Inside n))) ≡ false
        go true = given_out (strong_provider w c.standing c.ns s.name) (own_target c.placed s (Inside n)) (strong_asks w c.standing c.ns s.name) not_in
        go false = not_in
    symbol_out s Undef = go (is_local s.bind)
      where
        zero_out : (b : Bool) → is_target_in ns (cond b (Some (Number 0)) None) ≡ false
        zero_out true = refl
        zero_out false = refl

        go : (b : Bool) → is_target_in ns (or_else (option_and_then (provided_target w) (cond b None (provider_of w c s.name))) (unasked_target c s Undef)) ≡ false
        go true = zero_out (is_weak s.bind)
        go false = given_out (provider_of w c s.name) (unasked_target c s Undef) (provider_asks w c.standing c.ns s.name) (zero_out (is_weak s.bind))

    numbered_out : (n : ℕ) → is_target_in ns (numbered_target w c n) ≡ false
    numbered_out zero = refl
    numbered_out (suc n) = go (slice_get c.object.symbols n)
      where
        go : (o : Option Symbol) → is_target_in ns (option_and_then (λ s. symbol_target w c s s.home) o) ≡ false
        go None = refl
        go (Some s) = symbol_out s s.home

    pub target_out : (e : Entry) → is_target_in ns (target_of w c e) ≡ false
    target_out e = go (naming_entry c.object e)
      where
        go : (o : Option Entry) → is_target_in ns (option_and_then (λ (n : Entry). numbered_target w c n.symbol) o) ≡ false
        go None = refl
        go (Some n) = numbered_out n.symbol
