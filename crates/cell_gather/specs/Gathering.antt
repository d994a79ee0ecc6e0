-- Which new cells a load or a swap gathers: over the machine that the spaces are those of.
--     gather sources w wants reexport     the wanted cells after those of w, with names of those that they replace, and then all that they need
--     IsOf spaces next w                  these are the spaces of the machine w, and that is its next number
--     Gathers files spaces next wants reexport result     the new cells, or the refusal
use Rattle.std.specs.Prelude.{◌≡◌, ℕ, suc, Bool, true, false, List, [], ◌∷◌, ◌++◌, Option, All, Result, Ok, Err, map, option_and_then, option_map}
use Rattle.std.specs.List.{cons_option}
use Rattle.cell_world.specs.declared.file.File.{File}
use Rattle.cell_world.specs.declared.refusal.Refusal.TheVariants.{Unknown}
use Rattle.cell_world.specs.Coherent.{IsLoadable}
use Rattle.cell_world.specs.Gather.{Source, source_of, file_named, append_cell, bring, grown}
use Rattle.cell_world.specs.Outcome.{Outcome, ◌>>=◌, found, each}
use Rattle.cell_world.specs.Reexport.{Exchange, with_reexports}
use Rattle.cell_world.specs.World.{World, Cell, attached, cell_of}
use Rattle.cell_world.specs.declared.state.Standing.TheVariants.{Attached}
use Rattle.cell_space.specs.Joined.{placed_of}
use Rattle.cell_space.specs.Machine.{called}
use Rattle.cell_space.specs.Spaces.{SpacesState}
use Rattle.cell_world.specs.declared.fail.Fail.{Fail}
use Rattle.cell_world.specs.declared.fail.Fail.TheVariants.{Refused, OutOfMemory}
use Rattle.cell_gather.specs.declared.gathering.Gathered.{Gathered}
use Rattle.cell_gather.specs.declared.want.Want.{Want}

abbrev pub append_wanted : List Source → World → Want → Outcome World
append_wanted sources w want = found (file_named sources want.file) (Unknown want.file) >>= (λ f. append_cell w f want.ns)

-- the cell that a want replaces, and the number of the new one in its place
abbrev pub exchange_of : World → ℕ → Want → Option Exchange
exchange_of w number want =
    option_map (λ old. record { old = old; fresh = number }) (option_and_then (λ id. cell_of w id.0) want.replaces)

-- the new cells are numbered from there on, in the order of the wants
abbrev pub exchanges_from : World → ℕ → List Want → List Exchange
exchanges_from w number [] = []
exchanges_from w number (want ∷ wants) = cons_option (exchange_of w number want) (exchanges_from w (suc number) wants)

-- what follows the wanted cells, of a machine that was w before
abbrev pub renamed : World → List Want → Bool → World → World
renamed w wants true appended = with_reexports appended (exchanges_from w w.next_cell wants)
renamed w wants false appended = appended

abbrev pub gather : List Source → World → List Want → Bool → Outcome World
gather sources w wants reexport =
    each (append_wanted sources) w wants >>= (λ appended. bring sources w.next_cell (renamed w wants reexport appended))

pub record IsOf (spaces : SpacesState) (next : ℕ) (w : World) : Type 0 where
  pub namespaces : w.namespaces ≡ spaces.namespaces
  pub cells : map called w.cells ≡ spaces.cells
  pub number : w.next_cell ≡ next

pub record IsGathered (files : List File) (spaces : SpacesState) (next : ℕ) (wants : List Want) (reexport : Bool) (g : Gathered) : Type 0 where
  -- the new cells, with the names that they took on
  pub new : List Cell
  pub placed : map placed_of new ≡ g.cells.items
  pub gathered : (w : World) → IsOf spaces next w → gather (map source_of files) w wants reexport ≡ Ok (grown w new)
  -- ahead of the present ones, in the same namespaces
  pub namespaces : g.ahead.namespaces ≡ spaces.namespaces
  pub cells : g.ahead.cells ≡ spaces.cells ++ map called new
  pub fresh : g.ahead.fresh ≡ map called new
  pub loadable : All (λ c. IsLoadable c.object) g.cells.items
  -- without names of others they have their own alone
  pub plain : reexport ≡ false → new ≡ map attached g.cells.items
  pub attached : All (λ c. c.standing ≡ Attached) new

abbrev pub Gathers : List File → SpacesState → ℕ → List Want → Bool → Result Gathered Fail → Type 0
Gathers files spaces next wants reexport (Ok g) = IsGathered files spaces next wants reexport g
Gathers files spaces next wants reexport (Err (Refused refusal)) =
    (w : World) → IsOf spaces next w → gather (map source_of files) w wants reexport ≡ Err refusal
Gathers files spaces next wants reexport (Err OutOfMemory) = Unit {0}
