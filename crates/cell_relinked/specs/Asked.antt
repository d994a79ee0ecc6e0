-- What a cell sees that asks for names.
--     AreBearers scene name bearers         these bear the name
--     IsOfScene scene sight                 the sight is of the scene's cells
--     IsOf scene asked spaces sight         and of those that are of that swap, or else attached, and stand in the namespaces
--     AreSights scene sights                they are of their swap, if there is one, and of attached cells
--     IsAsking scene c sights               they are what the cell sees
--     own_asked ask group                   whom those of that swap find, if there is one
--     own_first cells group spaces name     the first cell of that swap that stands in the namespaces and has the name strongly
--     own_nearest cells group spaces name   the nearest one that has it weakly
use Rattle.std.specs.Prelude.{◌≡◌, ℕ, List, Option, Some, None}
use Rattle.cell_world.specs.Names.{Provider, chain}
use Rattle.cell_world.specs.World.{Cell}
use Rattle.cell_described.specs.declared.cell.DescribedCell.{DescribedCell}
use Rattle.cell_bearers.specs.Asked.{first_in, nearest_in}
use Rattle.cell_bearers.specs.Bearers.{bearers_of}
use Rattle.cell_bearers.specs.Sight.{IsSight}
use Rattle.cell_bearers.specs.declared.bearer.Bearer.{Bearer}
use Rattle.cell_bearers.specs.declared.sight.Sight.{Sight}
use Rattle.cell_relinked.specs.declared.provider.Sights.{Sights}
use Rattle.cell_relinked.specs.declared.scene.Scene.{Scene}

abbrev pub AreBearers : Scene → List ℕ → List Bearer → Type 0
AreBearers s name bearers = bearers ≡ bearers_of s.file.now s.objects.now s.cells.now name

pub record IsOfScene (s : Scene) (sight : Sight) : Type 0 where
  pub firsts : IsSight sight
  pub cells_are : sight.cells.now ≡ s.cells.now

pub record IsOf (s : Scene) (asked : Option ℕ) (spaces : List ℕ) (sight : Sight) : Type 0 where
  pub scene : IsOfScene s sight
  pub asked_is : sight.asked ≡ asked
  pub spaces_are : sight.spaces.now ≡ spaces

abbrev pub IsOwn : Scene → Option ℕ → List ℕ → Option Sight → Type 0
IsOwn s None spaces None = Unit {0}
IsOwn s None spaces (Some own) = ⊥
IsOwn s (Some k) spaces None = ⊥
IsOwn s (Some k) spaces (Some own) = IsOf s (Some k) spaces own

pub record AreSights (s : Scene) (sights : Sights) : Type 0 where
  pub own : IsOwn s sights.group sights.spaces.now sights.own
  pub attached : IsOf s None sights.spaces.now sights.attached

pub record IsAsking (s : Scene) (c : DescribedCell) (sights : Sights) : Type 0 where
  pub are : AreSights s sights
  pub group : sights.group ≡ c.group
  pub spaces : sights.spaces.now ≡ chain s.namespaces.now c.ns

abbrev pub own_asked : (Option ℕ → Option Provider) → Option ℕ → Option Provider
own_asked ask None = None
own_asked ask (Some k) = ask (Some k)

abbrev pub own_first : List Cell → Option ℕ → List ℕ → List ℕ → Option Provider
own_first cells group spaces name = own_asked (λ g. first_in cells g spaces name) group

abbrev pub own_nearest : List Cell → Option ℕ → List ℕ → List ℕ → Option Provider
own_nearest cells group spaces name = own_asked (λ g. nearest_in cells g spaces name) group
