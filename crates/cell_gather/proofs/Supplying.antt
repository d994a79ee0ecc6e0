-- Turns of bringing for the need that is next.
use Rattle.std.proofs.Common.{◌≡◌, ap, arith, ℕ, ◌+◌, ◌<◌, ◌≤◌, false, List, [], ◌∷◌, length, map, ◌++◌, length-append}
use Rattle.std.specs.Prelude.{Ok, Err, All, is_some}
use Rattle.cell_num.specs.declared.ids.CellId.{CellId}
use Rattle.cell_world.specs.declared.file.File.{File}
use Rattle.cell_world.specs.Gather.{Need, source_of, bring, bring_one, grown}
use Rattle.cell_world.specs.Names.{chain}
use Rattle.cell_world.specs.Outcome.{Outcome}
use Rattle.cell_world.specs.World.{World, Cell}
use Rattle.cell_world.specs.declared.state.Standing.TheVariants.{Attached}
use Rattle.cell_space.specs.Machine.{called}
use Rattle.cell_space.specs.Named.{provider_for}
use Rattle.cell_space.specs.Spaces.{SpacesState}
use Rattle.cell_world.specs.declared.fail.Fail.{Fail}
use Rattle.cell_gather.specs.declared.gathering.Gathered.{Gathered}
use Rattle.cell_gather.specs.Growing.{AreSupplied, Ends, IsGrowing, IsLed, IsNext, IsOneMore, Leads, new_of}
use Rattle.cell_gather.proofs.Lacks.{first_lack_is}
use Rattle.cell_gather.proofs.Supplies.{within, next_stays}
use Rattle.cell_gather.proofs.Turns.{Lacks, led_on, led_once, leads_on, refused, turn_leads}

-- there is a new cell, so all cells are few
pub few_with : (spaces : SpacesState) (next : ℕ) (g : Gathered) (place : ℕ) → IsGrowing spaces next g → place < length (new_of g) → length spaces.cells + length (new_of g) ≤ 1024
few_with spaces next g place growing lt = growing.few (omega (arith, lt))

module _ (files : List File) (spaces : SpacesState) (next : ℕ) (given : All (λ c. c.cell.0 < next) spaces.cells)
    (old : List Cell) (mid new : Gathered) (place ns : ℕ) (id : CellId) (name : List ℕ)
    (growing : IsGrowing spaces next mid) (n : IsNext spaces (new_of mid) place ns id name)
    (none : is_some (provider_for (chain spaces.namespaces ns) Attached name (spaces.cells ++ map called (new_of mid))) ≡ false)
    (led : IsLed files spaces next old (new_of mid)) where
  abbrev lack : Need
  lack = record { cell = n.turn.cell; name = name }

  abbrev brings : Cell → World → Outcome World
  brings c w = bring_one (map source_of files) (grown w (new_of mid)) (let need : Need = record { cell = c; name = name } in need)

  lacks : Lacks files spaces next (new_of mid) lack
  lacks w is = first_lack_is spaces next given (new_of mid) growing.above growing.attached w is place ns id name n none

  pub turn_done : (x : Unit {0}) → IsOneMore (new_of mid) (new_of new) → ((c : Cell) → c.ns ≡ ns → c.id ≡ id → Ends spaces next (brings c) (Ok x) (new_of new))
      → IsLed files spaces next old (new_of new)
  turn_done x more ends =
      led_on files spaces next old (new_of mid) (new_of new) led
      (led_once files spaces next (new_of mid) (new_of new) lack lacks more (λ w is. ends n.turn.cell n.turn.ns_is n.turn.id_is w is))

  pub turn_failed : (fail : Fail) → ((c : Cell) → c.ns ≡ ns → c.id ≡ id → Ends spaces next (brings c) (Err fail) (new_of new)) → Leads files spaces next old (Err fail) (new_of new)
  turn_failed fail ends =
      let few = few_with spaces next mid place growing (within (new_of mid) place n.turn.cell n.turn.at) in
      leads_on files spaces next old (new_of mid) (new_of new) (Err fail) led few
      (turn_leads files spaces next (new_of mid) (new_of new) lack fail lacks few (ends n.turn.cell n.turn.ns_is n.turn.id_is))

  pub still_next : IsOneMore (new_of mid) (new_of new) → IsNext spaces (new_of new) place ns id name
  still_next more = next_stays spaces (new_of mid) (more.cell ∷ []) (new_of new) more.is place ns id name n

pub one_longer : (cells new : List Cell) → IsOneMore cells new → length new ≡ length cells + 1
one_longer cells new more = let l = length-append cells (more.cell ∷ []) in let e = ap length more.is in omega (arith, l, e)

-- all turns for a cell, and then for all cells
module _ (files : List File) (spaces : SpacesState) (next : ℕ) (old new : List Cell) (mid : Gathered) (place : ℕ) (growing : IsGrowing spaces next mid)
    (lt : place < length (new_of mid)) (led : IsLed files spaces next old (new_of mid)) (fail : Fail) (leads : Leads files spaces next (new_of mid) (Err fail) new) where
  pub needs_failed : Leads files spaces next old (Err fail) new
  needs_failed = leads_on files spaces next old (new_of mid) new (Err fail) led (few_with spaces next mid place growing lt) leads

  pub bring_failed : Ends spaces next (λ w. bring (map source_of files) next (grown w old)) (Err fail) new
  bring_failed = refused files spaces next old new 1025 fail (omega arith) needs_failed

pub none_supplied : (spaces : SpacesState) (cells : List Cell) → AreSupplied spaces cells 0
none_supplied spaces cells k d lt at = absurd (omega (arith, lt))
