-- What is looked up depends on a machine's namespaces and cells alone.
use Rattle.std.proofs.Common.{◌≡◌, refl, ◌∙◌, ap, ap₂, ℕ, zero, suc, cond, List}
use Rattle.std.specs.Prelude.{Option, Some, None, option_and_then, slice_get, unwrap_or, find, filter, ◌==◌}
use Rattle.cell_object.specs.declared.object.Entry.{Entry}
use Rattle.cell_object.specs.declared.object.Home.{Home}
use Rattle.cell_object.specs.declared.object.Home.TheVariants.{Undef, Abs, Inside, Elsewhere}
use Rattle.cell_object.specs.declared.object.Symbol.{Symbol}
use Rattle.cell_object.specs.Parts.{is_local, is_weak, symbol_at}
use Rattle.cell_world.specs.declared.state.Namespace.{Namespace}
use Rattle.cell_world.specs.declared.state.NewCell.{NewCell}
use Rattle.cell_world.specs.declared.state.Target.{Target}
use Rattle.cell_world.specs.declared.state.Target.TheVariants.{Number}
use Rattle.cell_world.specs.World.{World, Cell, Standing, cell_of, is_attached, is_of_group}
use Rattle.cell_world.specs.declared.state.Standing.TheVariants.{Attached, Detached}
use Rattle.cell_world.specs.Names.{Provider, asked_by, chain, attached_provider, first_provider, nearest_provider, provider_for, provider_of, strong_provider}
use Rattle.cell_world.specs.Linked.Target.{numbered_target, own_target, provided_target, symbol_target, unasked_target, targets_of, naming_entry}
use Rattle.cell_num.specs.Lists.{or_else}
use Rattle.cell_space.specs.Joined.{cells_of}
use Rattle.cell_space.specs.declared.cell.SpaceCell.{SpaceCell}
use Rattle.cell_target.specs.Scene.{seen}
use Rattle.cell_target.proofs.Tabled.{map-same}

-- two machines with the same namespaces and cells
module _ (v w : World) (spaces : v.namespaces ≡ w.namespaces) (cells : v.cells ≡ w.cells) where
  cell_same : (n : ℕ) → cell_of v n ≡ cell_of w n
  cell_same n = ap (λ (cs : List Cell). find (λ c. c.id.0 == n) cs) cells

  asked_same : (ask : List ℕ → List Cell → Option Provider) (ns : ℕ) (s : Standing) → asked_by v (ask (chain v.namespaces ns)) s ≡ asked_by w (ask (chain w.namespaces ns)) s
  asked_same ask ns s = ap (λ (ss : List Namespace). asked_by v (ask (chain ss ns)) s) spaces ∙ go s
    where
      go : (t : Standing) → asked_by v (ask (chain w.namespaces ns)) t ≡ asked_by w (ask (chain w.namespaces ns)) t
      go Attached = ap (λ (cs : List Cell). ask (chain w.namespaces ns) (filter (λ c. is_attached c.standing) cs)) cells
      go (Detached k) =
          ap (λ (cs : List Cell). or_else (ask (chain w.namespaces ns) (filter (λ c. is_of_group k c.standing) cs)) (ask (chain w.namespaces ns) (filter (λ c. is_attached c.standing) cs))) cells

  strong_same : (s : Standing) (ns : ℕ) (name : List ℕ) → strong_provider v s ns name ≡ strong_provider w s ns name
  strong_same s ns name = asked_same (λ ss cs. first_provider ss name cs) ns s

  for_same : (s : Standing) (ns : ℕ) (name : List ℕ) → provider_for v s ns name ≡ provider_for w s ns name
  for_same s ns name = ap₂ (λ (a b : Option Provider). or_else a b) (strong_same s ns name) (asked_same (λ ss cs. nearest_provider ss name cs) ns s)

  provided_same : (p : Provider) → provided_target v p ≡ provided_target w p
  provided_same p = ap (option_and_then (λ (c : Cell). option_and_then (λ (s : Symbol). own_target c.placed s s.home) (symbol_at c.object p.symbol))) (cell_same p.cell)

  by_provider : (found : Option Provider) → option_and_then (provided_target v) found ≡ option_and_then (provided_target w) found
  by_provider None = refl
  by_provider (Some p) = provided_same p

  module _ (c : Cell) where
    symbol_same : (s : Symbol) (home : Home) → symbol_target v c s home ≡ symbol_target w c s home
    symbol_same s Undef =
        ap (λ (p : Option Provider). or_else (option_and_then (provided_target v) (cond (is_local s.bind) None p)) (unasked_target c s Undef)) (for_same c.standing c.ns s.name)
        ∙ ap (λ (t : Option Target). or_else t (unasked_target c s Undef)) (by_provider (cond (is_local s.bind) None (provider_of w c s.name)))
    symbol_same s Abs = refl
    symbol_same s (Inside section) =
        ap (λ (p : Option Provider). or_else (option_and_then (provided_target v) (cond (is_weak s.bind) p None)) (unasked_target c s (Inside section))) (strong_same c.standing c.ns s.name)
        ∙ ap (λ (t : Option Target). or_else t (unasked_target c s (Inside section))) (by_provider (cond (is_weak s.bind) (strong_provider w c.standing c.ns s.name) None))
    symbol_same s Elsewhere = refl

    by_symbol : (found : Option Symbol) → option_and_then (λ s. symbol_target v c s s.home) found ≡ option_and_then (λ s. symbol_target w c s s.home) found
    by_symbol None = refl
    by_symbol (Some s) = symbol_same s s.home

    number_same : (n : ℕ) → numbered_target v c n ≡ numbered_target w c n
    number_same zero = refl
    number_same (suc n) = by_symbol (slice_get c.object.symbols n)

    by_naming : (found : Option Entry) → option_and_then (λ n. numbered_target v c n.symbol) found ≡ option_and_then (λ n. numbered_target w c n.symbol) found
    by_naming None = refl
    by_naming (Some n) = number_same n.symbol

    targets_same : targets_of v c ≡ targets_of w c
    targets_same = map-same _ _ (λ e. ap (λ (t : Option Target). unwrap_or t (Number 0)) (by_naming (naming_entry c.object e))) c.object.entries

-- a machine with these namespaces and cells
module _ (w : World) (namespaces : List Namespace) (cells : List NewCell) (known : List SpaceCell) (spaces : w.namespaces ≡ namespaces) (are : w.cells ≡ cells_of cells known) where
  pub cell_seen : (n : ℕ) → cell_of w n ≡ cell_of (seen namespaces cells known) n
  cell_seen n = cell_same w (seen namespaces cells known) spaces are n

  pub provider_seen : (ns : ℕ) (name : List ℕ) → attached_provider w ns name ≡ attached_provider (seen namespaces cells known) ns name
  provider_seen ns name = for_same w (seen namespaces cells known) spaces are Attached ns name

  pub provided_seen : (p : Provider) → provided_target w p ≡ provided_target (seen namespaces cells known) p
  provided_seen p = provided_same w (seen namespaces cells known) spaces are p

  pub targets_seen : (c : Cell) → targets_of w c ≡ targets_of (seen namespaces cells known) c
  targets_seen c = targets_same w (seen namespaces cells known) spaces are c
