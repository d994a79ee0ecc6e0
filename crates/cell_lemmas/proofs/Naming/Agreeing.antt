-- What the entries of a cell name hangs on its namespace's providers alone.
use Rattle.std.proofs.Common.{◌≡◌, refl, ◌∙◌, ap, ℕ, zero, suc, cond, List, Option, Some, None}
use Rattle.std.specs.Prelude.{option_and_then, slice_get}
use Rattle.cell_num.specs.Lists.{or_else}
use Rattle.cell_object.specs.declared.object.Symbol.{Symbol}
use Rattle.cell_object.specs.declared.object.Entry.{Entry}
use Rattle.cell_object.specs.declared.object.Home.{Home}
use Rattle.cell_object.specs.declared.object.Home.TheVariants.{Undef, Abs, Inside, Elsewhere}
use Rattle.cell_object.specs.Parts.{is_local, is_weak}
use Rattle.cell_world.specs.declared.state.Target.{Target}
use Rattle.cell_world.specs.World.{World, Cell}
use Rattle.cell_world.specs.Names.{Provider, strong_provider, provider_of}
use Rattle.cell_world.specs.Linked.Target.{provided_target, unasked_target, symbol_target, numbered_target, naming_entry, target_of}

module _ (w w' : World) (c : Cell) (strong : (name : List ℕ) → strong_provider w' c.standing c.ns name ≡ strong_provider w c.standing c.ns name) (whole : (name : List ℕ) → provider_of w' c name ≡ provider_of w c name)
    (provided : (p : Provider) → provided_target w' p ≡ provided_target w p) where
  given : (o : Option Provider) → option_and_then (provided_target w') o ≡ option_and_then (provided_target w) o
  given None = refl
  given (Some p) = provided p

  symbol_agrees : (s : Symbol) (home : Home) → symbol_target w' c s home ≡ symbol_target w c s home
  symbol_agrees s Abs = refl
  symbol_agrees s Elsewhere = refl
  symbol_agrees s Undef =
      ap (λ (p : Option Provider). or_else (option_and_then (provided_target w') (cond (is_local s.bind) None p)) (unasked_target c s Undef)) (whole s.name)
      ∙ ap (λ (o : Option Target). or_else o (unasked_target c s Undef)) (given (cond (is_local s.bind) None (provider_of w c s.name)))
  symbol_agrees s (Inside n) =
      ap (λ (p : Option Provider). or_else (option_and_then (provided_target w') (cond (is_weak s.bind) p None)) (unasked_target c s (Inside n))) (strong s.name)
      ∙ ap (λ (o : Option Target). or_else o (unasked_target c s (Inside n))) (given (cond (is_weak s.bind) (strong_provider w c.standing c.ns s.name) None))

  numbered_agrees : (n : ℕ) → numbered_target w' c n ≡ numbered_target w c n
  numbered_agrees zero = refl
  numbered_agrees (suc n) = go (slice_get c.object.symbols n)
    where
      go : (o : Option Symbol) → option_and_then (λ s. symbol_target w' c s s.home) o ≡ option_and_then (λ s. symbol_target w c s s.home) o
      go None = refl
      go (Some s) = symbol_agrees s s.home

  pub target_agrees : (e : Entry) → target_of w' c e ≡ target_of w c e
  target_agrees e = go (naming_entry c.object e)
    where
      go : (o : Option Entry) → option_and_then (λ (n : Entry). numbered_target w' c n.symbol) o ≡ option_and_then (λ (n : Entry). numbered_target w c n.symbol) o
      go None = refl
      go (Some n) = numbered_agrees n.symbol
