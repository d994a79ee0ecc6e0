-- What a survey of a sound machine may take for granted, and what it comes to.
use Rattle.std.proofs.Common.{◌≡◌, sym, ◌∙◌, ap, subst, arith, ℕ, suc, ◌≤◌, Bool, true, List, length, map}
use Rattle.std.specs.Prelude.{IsTrue, ◌==◌, Option, None, flat_map, nat_lt, option_map, if◌then◌else◌}
use Rattle.std.specs.List.{list_all}
use Rattle.std.proofs.lemmas.Bool.{and_from}
use Rattle.std.proofs.lemmas.List.{length-map}
use Rattle.cell_num.specs.declared.ids.CellId.{CellId}
use Rattle.cell_num.specs.declared.ids.Holder.{Holder}
use Rattle.cell_num.specs.declared.ids.SecKey.{SecKey}
use Rattle.cell_num.specs.Lists.{holds, In}
use Rattle.cell_object.specs.declared.object.Section.{Section as ObjectSection}
use Rattle.cell_world.specs.declared.refusal.Refusal.{Refusal}
use Rattle.cell_world.specs.declared.refusal.Refusal.TheVariants.{Held}
use Rattle.cell_world.specs.declared.state.LinkRow.{LinkRow}
use Rattle.cell_world.specs.declared.state.Placed.{Placed}
use Rattle.cell_world.specs.Answer.{numbers_of}
use Rattle.cell_world.specs.Coherent.{IsCoherent}
use Rattle.cell_world.specs.Kept.{Claim, Holding, holder_in, kept_in, placed_at, placed_in}
use Rattle.cell_world.specs.Commands.UnloadCommand.{held_refusal}
use Rattle.cell_world.specs.World.{World, Cell, attached}
use Rattle.cell_lemmas.specs.Present.{HasSection, JoinsPresent}
use Rattle.cell_num.proofs.Elements.{All-In, In-all, any-In, found-In, In-flat_map, flat_map-In, In-map, map-In, pairs-map}
use Rattle.cell_lemmas.proofs.Targeting.Present.{links_present}
use Rattle.cell_graph.specs.Links.{is_same}
use Rattle.cell_lemmas.proofs.Placement.Freed.{number_holds}
use Rattle.cell_hold.specs.declared.roots.Root.{Root}
use Rattle.cell_hold.specs.Places.{HasTargets, has_section}
use Rattle.cell_hold.specs.Roots.{AreCells, HasRoom, attached_by, claims_by, holding_by, named_by}
use Rattle.cell_space.specs.Joined.{placed_of}
use Rattle.cell_machine.specs.declared.machine.Machine.{Machine}
use Rattle.cell_machine.specs.Machine.{IsWhole, world_of}
use Rattle.cell_unload.specs.declared.survey.Survey.{Survey}
use Rattle.cell_unload.specs.Sweep.{IsSurvey, holding_in, refusal_of}
use Rattle.cell_unload.proofs.Aside.{numbers_aside, sections_aside}

abbrev pub sections_of : Machine → List Placed
sections_of m = flat_map placed_in (world_of m).cells

module _ (m : Machine) (sound : IsWhole m) where
  abbrev w : World
  w = world_of m

  abbrev coherent : IsCoherent w
  coherent = sound.coherent

  numbered : (s : Placed) → In s (sections_of m) → holds (numbers_of w.cells) s.key.cell.0 ≡ true
  numbered s i =
      let c : (c : Cell) × In c w.cells × In s (placed_in c) = In-flat_map placed_in w.cells s i in
      let t : (t : ObjectSection) × In t c.0.object.sections × (s ≡ placed_at c.0 t) = In-map (placed_at c.0) c.0.object.sections s c.2 in
      subst (λ (x : Placed). holds (numbers_of w.cells) x.key.cell.0 ≡ true) (sym t.2) (number_holds w.cells c.0 c.1)

  section_there : (k : SecKey) → HasSection w k → has_section (sections_of m) k ≡ true
  section_there k h =
      let c = found-In (λ (c : Cell). c.id.0 == k.cell.0) w.cells h.cell h.present in
      let s = found-In (λ (s : ObjectSection). s.number == k.section) h.cell.object.sections h.section h.has in
      any-In (λ (s : Placed). is_same s.key k) (sections_of m) (placed_at h.cell h.section)
      (flat_map-In placed_in w.cells h.cell (placed_at h.cell h.section) c.0 (map-In (placed_at h.cell) h.cell.object.sections h.section s.0))
      (and_from (h.cell.id.0 == k.cell.0) (h.section.number == k.section) c.1 s.1)

  joins : (row : LinkRow) → In row w.links → JoinsPresent w row
  joins row i = All-In (JoinsPresent w) w.links (links_present w coherent) row i

  -- each link leads into a section
  pub has_targets : HasTargets m.graph (sections_of m)
  has_targets = In-all (λ (row : LinkRow). has_section (sections_of m) row.target) w.links (λ row i. section_there row.target (joins row i).target)

  places_named : IsTrue (list_all (λ (s : Placed). holds (numbers_of w.cells) s.key.cell.0) (sections_of m))
  places_named = In-all (λ (s : Placed). holds (numbers_of w.cells) s.key.cell.0) (sections_of m) numbered

  module _ (roots : List Root) (present : IsTrue (list_all (λ root. list_all (holds (numbers_of w.cells)) (named_by root)) roots)) where
    -- what sections and roots name are present cells
    pub cells_named : AreCells (numbers_of w.cells) (sections_of m) roots
    cells_named = record { rise = pairs-map nat_lt (λ (c : Cell). c.id.0) w.cells ∙ coherent.ready.cell_order; of_places = places_named; of_roots = present }

    -- so as much room as there are cells is enough
    pub cells_fit : (room : ℕ) → length m.cells.items ≤ room → HasRoom (sections_of m) roots room
    cells_fit room enough = record {
      cells = numbers_of w.cells;
      named = cells_named;
      fits = omega (arith, enough, length-map w.cells (λ (c : Cell). c.id.0), length-map w.cells placed_of, ap length sound.joined.placed);
    }

module _ (m : Machine) (aside : List CellId) (places : List Placed) (roots : List Root) (sections : places ≡ sections_of m)
    (attached_are : flat_map attached_by roots ≡ (holding_in m aside).attached) (claims_are : flat_map (claims_by m.memory.regions) roots ≡ (holding_in m aside).claims) where
  abbrev numbers : List ℕ
  numbers = map (λ (c : CellId). c.0) aside

  abbrev cells : List Cell
  cells = (world_of m).cells

  abbrev by_parts : List ℕ → List ℕ → List Placed → List Claim → Holding
  by_parts cells attached sections claims = record { cells = cells; attached = attached; sections = sections; links = m.graph.rows; regions = m.memory.regions; claims = claims }

  -- what is looked at is the machine with the cells put aside
  pub holding_seen : holding_by (numbers_of cells) m.graph m.memory places roots ≡ holding_in m aside
  holding_seen =
      ap (λ (ns : List ℕ). by_parts ns (flat_map attached_by roots) places (flat_map (claims_by m.memory.regions) roots)) (sym (numbers_aside (suc m.swaps) numbers cells))
      ∙ (ap (λ (ns : List ℕ). by_parts (holding_in m aside).cells ns places (flat_map (claims_by m.memory.regions) roots)) attached_are
      ∙ (ap (λ (ps : List Placed). by_parts (holding_in m aside).cells (holding_in m aside).attached ps (flat_map (claims_by m.memory.regions) roots)) (sections ∙ sym (sections_aside (suc m.swaps) numbers cells))
      ∙ ap (λ (cs : List Claim). by_parts (holding_in m aside).cells (holding_in m aside).attached (holding_in m aside).sections cs) claims_are))

module _ (m : Machine) (aside : List CellId) (s : Survey) (survey : IsSurvey m aside s) where
  abbrev all_numbers : List ℕ
  all_numbers = numbers_of (world_of m).cells

  -- the holder that the parts give, as they are handed on, is the holder
  pub holder_by : (roots : List Root) (kept : List CellId) → roots ≡ s.outlook.roots.items → kept ≡ s.kept.items → (c : ℕ) (o : Option Holder)
      → ((cells : List ℕ) → map (λ c. c.0) kept ≡ kept_in (holding_by cells m.graph m.memory s.outlook.places roots) → o ≡ holder_in (holding_by cells m.graph m.memory s.outlook.places roots) c)
      → o ≡ holder_in (holding_in m aside) c
  holder_by roots kept of_roots of_kept c o e =
      let seen : holding_by all_numbers m.graph m.memory s.outlook.places roots ≡ holding_in m aside =
      ap (λ (rs : List Root). holding_by all_numbers m.graph m.memory s.outlook.places rs) of_roots ∙ holding_seen m aside s.outlook.places s.outlook.roots.items survey.sections survey.attached survey.claims in
      e all_numbers (ap (map (λ (c : CellId). c.0)) of_kept ∙ (survey.kept ∙ ap kept_in (sym seen)))
      ∙ ap (λ (h : Holding). holder_in h c) seen

  -- the refusal of a cell that is kept
  pub refusal_by : (c : ℕ) (o : Option Holder) → true ≡ holds (map (λ c. c.0) s.kept.items) c → o ≡ holder_in (holding_in m aside) c
      → option_map {T = Holder} {U = Refusal} (λ holder. Held (record { 0 = c }) holder) o ≡ refusal_of (holding_in m aside) c
  refusal_by c o k e =
      ap (option_map {T = Holder} {U = Refusal} (λ holder. Held (record { 0 = c }) holder)) e
      ∙ ap (λ (b : Bool). if b then held_refusal (holding_in m aside) c else None) (k ∙ ap (λ (xs : List ℕ). holds xs c) survey.kept)
