-- Which symbols are needs without a provider.
use Rattle.std.proofs.Common.{◌≡◌, refl, sym, ap, Bool, true, false, ◌&&◌}
use Rattle.std.specs.Prelude.{is_none}
use Rattle.cell_audit.specs.Linking.{is_lacking}
use Rattle.cell_object.specs.declared.object.Bind.{Bind}
use Rattle.cell_object.specs.declared.object.Bind.TheVariants.{Local, Global, Weak}
use Rattle.cell_object.specs.declared.object.Symbol.{Symbol}
use Rattle.cell_object.specs.Parts.{is_global, is_local, is_undefined}
use Rattle.cell_world.specs.Names.{Provider, provider_of}
use Rattle.cell_world.specs.World.{Cell, World}

module _ (w : World) (c : Cell) (s : Symbol) where
  -- no LOCAL
  pub local_has : is_local s.bind ≡ true → false ≡ is_lacking w c s
  local_has e = go s.bind e
    where
      go : (b : Bind) → is_local b ≡ true → false ≡ (is_global b && is_undefined s.home && is_none {T = Provider} (provider_of w c s.name))
      go Local e = refl
      go Global e = absurd (cc e)
      go Weak e = absurd (cc e)

  -- an undefined GLOBAL whose name nobody provides
  pub lacks : is_undefined s.home ≡ true → (is_global s.bind && is_none {T = Provider} (provider_of w c s.name)) ≡ is_lacking w c s
  lacks e = go (is_global s.bind) (is_undefined s.home) e
    where
      go : (g u : Bool) → u ≡ true → (g && is_none {T = Provider} (provider_of w c s.name)) ≡ (g && u && is_none {T = Provider} (provider_of w c s.name))
      go true true e = refl
      go true false e = absurd (cc e)
      go false u e = refl
