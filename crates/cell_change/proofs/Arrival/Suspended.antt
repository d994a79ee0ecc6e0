-- A commit while an undo is begun is one while none is, but for the undo.
use Rattle.std.proofs.Common.{◌≡◌, refl, sym, ap, subst, ◌∙◌, ℕ, ◌+◌, ◌≤◌, List, [], ◌∷◌, Option, None, length}
use Rattle.std.specs.Prelude.{All}
use Rattle.cell_world.specs.World.{Region}
use Rattle.cell_world.specs.declared.state.LinkRow.{LinkRow}
use Rattle.cell_link.specs.declared.value.FieldValue.{FieldValue}
use Rattle.cell_commit.specs.Commit.{AreRoom, IsMapped, all_mapped, field_patched, field_written, fields_patched, fields_written, mapped_one}
use Rattle.cell_mem.specs.State.{IsRoom, MemoryState, begun_at}
use Rattle.cell_mem.specs.Undo.{UndoState, with_mapped}
use Rattle.cell_space.specs.declared.cell.SpaceCell.{SpaceCell}
use Rattle.cell_machine.specs.declared.machine.Machine.{Machine}
use Rattle.cell_machine.specs.declared.staged.Staged.{Staged}
use Rattle.cell_machine.specs.Machine.{IsSound, IsWhole}
use Rattle.cell_machine.specs.Staged.{IsCommitted}
use Rattle.cell_change.specs.Before.{begun_in}
use Rattle.cell_load.specs.declared.prepared.Prepared.{Prepared}
use Rattle.cell_unload.specs.declared.outlook.Outlook.{Outlook}
use Rattle.cell_unload.specs.declared.survey.Survey.{Survey}
use Rattle.cell_unload.specs.Sweep.{IsOutlook, IsSurvey}
use Rattle.cell_commit.specs.declared.wiring.Rewiring.{Rewiring}
use Rattle.cell_load.specs.Adding.{IsCommittable, memory_with}

abbrev pub with_undo : Option UndoState → MemoryState → MemoryState
with_undo o m = record m { undo = o }

-- the machine with no undo begun
abbrev pub suspended : Machine → Machine
suspended m = record m { memory = with_undo None m.memory }

pub whole_suspended : (m : Machine) → IsWhole m → IsWhole (suspended m)
whole_suspended m w = record {
  coherent = w.coherent;
  parts = record { joined = w.joined; soft = w.soft; table = w.table; base = w.base; sections = w.sections; seals = w.seals; patches = w.patches; maps = w.maps };
}

pub whole_again : (m : Machine) → IsSound (suspended m) → IsWhole m
whole_again m s = record {
  coherent = s.coherent;
  parts = record { joined = s.joined; soft = s.soft; table = s.table; base = s.base; sections = s.sections; seals = s.seals; patches = s.patches; maps = s.maps };
}

pub outlook_again : (m : Machine) (o : Outlook) → IsOutlook (suspended m) [] o → IsOutlook m [] o
outlook_again m o l = record { sections = l.sections; attached = l.attached; claims = l.claims; present = l.present }

pub survey_suspended : (m : Machine) (s : Survey) → IsSurvey m [] s → IsSurvey (suspended m) [] s
survey_suspended m s y = record {
  outlook = record { sections = y.sections; attached = y.attached; claims = y.claims; present = y.present };
  kept = y.kept;
}

mapped_without : (m : MemoryState) (regions : List Region) → with_undo None (all_mapped m regions) ≡ all_mapped (with_undo None m) regions
mapped_without m [] = refl
mapped_without m (r ∷ regions) = mapped_without (mapped_one m r) regions

pub room_with : (o : Option UndoState) (m : MemoryState) (regions : List Region) → AreRoom m regions → AreRoom (with_undo o m) regions
room_with o m [] h = tt
room_with o m (r ∷ regions) h = (
  let room : IsRoom (with_undo o m) r.start (length r.bytes) = record {
    aligned = h.0.aligned;
    whole = h.0.whole;
    filled = h.0.filled;
    above = h.0.above;
    below = h.0.below;
    apart = h.0.apart;
    spare = h.0.spare;
  } in room,
  room_with (with_mapped (record { start = r.start; permission = r.permission; bytes = r.bytes }) o) (mapped_one m r) regions h.1,
)

patched_without : (m : MemoryState) (fields : List FieldValue) → with_undo None (fields_patched m fields) ≡ fields_patched (with_undo None m) fields
patched_without m [] = refl
patched_without m (f ∷ fields) = patched_without (field_patched m f) fields

written_without : (m : MemoryState) (fields : List FieldValue) → with_undo None (fields_written m fields) ≡ fields_written (with_undo None m) fields
written_without m [] = refl
written_without m (f ∷ fields) = written_without (field_written m f) fields

-- a memory in which no undo is begun
module _ (m : MemoryState) (none : m.undo ≡ None) (count : ℕ) where
  plain : with_undo None (begun_at m count) ≡ m
  plain = ap (λ (o : Option UndoState). with_undo o m) (sym none)

  pub commit_without : (regions : List Region) (patches fields : List FieldValue) → with_undo None (fields_written (memory_with (begun_at m count) regions patches) fields) ≡ fields_written (memory_with m regions patches) fields
  commit_without regions patches fields =
      written_without (memory_with (begun_at m count) regions patches) fields
      ∙ ap (λ (x : MemoryState). fields_written x fields)
      (patched_without (all_mapped (begun_at m count) regions) patches
      ∙ ap (λ (x : MemoryState). fields_patched x patches) (mapped_without (begun_at m count) regions ∙ ap (λ (x : MemoryState). all_mapped x regions) plain))

module _ (k : Machine) (none : k.memory.undo ≡ None) (count : ℕ) where
  pub committed_without : (s : Staged) (patches : List FieldValue) (links : List LinkRow) (newcomers : List SpaceCell) (n : Machine)
      → IsCommitted (begun_in k count) (memory_with (begun_in k count).memory s.regions.items patches) links newcomers s n → IsCommitted k (memory_with k.memory s.regions.items patches) links newcomers s (suspended n)
  committed_without s patches links newcomers n c = record {
    cells = c.cells;
    soft = c.soft;
    next = c.next;
    swaps = c.swaps;
    namespaces = c.namespaces;
    known = c.known;
    space = c.space;
    memory = ap (with_undo None) c.memory ∙ commit_without k.memory none count s.regions.items patches s.fields.items;
    sections = c.sections;
    rows = c.rows;
    tasks = c.tasks;
  }

  pub committable_begun : (s : Staged) (p : Prepared) (patches : List FieldValue) (links : Rewiring) → length patches + length s.fields.items ≤ count
      → (c : IsCommittable k s p patches links) → (d : IsCommittable (begun_in k count) s p patches links) × (d.change.steps ≡ c.change.steps)
  committable_begun s p patches links enough c =
      let then = all_mapped (begun_at k.memory count) s.regions.items in
      let same : all_mapped k.memory s.regions.items ≡ with_undo None then =
      sym (mapped_without (begun_at k.memory count) s.regions.items ∙ ap (λ (x : MemoryState). all_mapped x s.regions.items) (plain k.memory none count)) in
      let fields : All (IsMapped then) s.fields.items = subst (λ (x : MemoryState). All (IsMapped x) s.fields.items) same c.mapped in
      let changes : All (IsMapped then) patches = subst (λ (x : MemoryState). All (IsMapped x) patches) same c.change.mapped in (
        record {
          sections = c.sections;
          soft = c.soft;
          room = record { cells = c.room.cells; soft = c.room.soft; regions = c.room.regions; sections = c.room.sections; rows = c.room.rows; newcomers = c.room.newcomers; names = c.room.names };
          regions = room_with (begun_at k.memory count).undo k.memory s.regions.items c.regions;
          mapped = fields;
          undo = enough;
          change = record {
            mapped = changes;
            steps = c.change.steps;
            rewires = c.change.rewires;
            backs = c.change.backs;
            present = c.change.present;
          };
          above = c.above;
          present = c.present;
          rise = c.rise;
          free = c.free;
          next = c.next;
        },
        refl,
      )
