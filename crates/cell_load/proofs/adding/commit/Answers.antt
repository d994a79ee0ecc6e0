use Rattle.std.proofs.Common.{◌≡◌, arith, refl, sym, ap, ◌∙◌, subst, ◌+◌, ℕ, List, ◌++◌, length}
use Rattle.std.specs.Prelude.{All, Contains}
use Rattle.cell_num.specs.declared.ids.SecKey.{SecKey}
use Rattle.cell_world.specs.declared.state.LinkRow.{LinkRow}
use Rattle.cell_commit.specs.Commit.{fields_patched, fields_written}
use Rattle.cell_commit.proofs.Mapping.{mapped_writes}
use Rattle.cell_commit.proofs.Writing.{patched_leaves}
use Rattle.cell_mem.proofs.Noting.{fewer_writes}
use Rattle.cell_num.specs.declared.ids.CellId.{CellId}
use Rattle.cell_graph.specs.Order.{Rises, below_link}
use Rattle.cell_machine.specs.Machine.{keys_of}
use Rattle.cell_link.specs.declared.value.FieldValue.{FieldValue}
use Rattle.cell_mem.specs.State.{HasWrites, MemoryState}
use Rattle.cell_load.proofs.Committed.{can_rewire, sections_are}
use Rattle.cell_load.proofs.adding.commit.Goals as goal

pub patch_fields-requires-clause-undo : goal.patch_fields-requires-clause-undo
patch_fields-requires-clause-undo c =
    mapped_writes c.args.machine.now.memory c.map_regions.new.memory c.args.staged.regions.items (length c.args.patches.now) c.map_regions.ensures
    (fewer_writes c.args.machine.now.memory (length c.args.patches.now + length c.args.staged.fields.items) (length c.args.patches.now) (omega arith) c.requires.undo)

pub write_fields-requires-clause-undo : goal.write_fields-requires-clause-undo
write_fields-requires-clause-undo c =
    let patches = c.args.patches.now in
    let fields = c.args.staged.fields.items in
    let before = mapped_writes c.args.machine.now.memory c.map_regions.new.memory c.args.staged.regions.items (length patches + length fields) c.map_regions.ensures c.requires.undo in
    subst (λ (m : MemoryState). HasWrites m (length c.deref.result.now)) (sym c.patch_fields.ensures.patched)
    (subst (λ (xs : List FieldValue). HasWrites (fields_patched c.map_regions.new.memory patches) (length xs)) (sym c.deref.ensures.value) (patched_leaves c.map_regions.new.memory patches (length fields) before))

pub rewire_if_any-requires : goal.rewire_if_any-requires
rewire_if_any-requires c =
    can_rewire c.args.machine.now.graph c.add_sections.new.graph (keys_of c.args.staged.cells.items) c.args.links.now c.requires.change.steps c.requires.change.rewires c.requires.change.present
    (let room = c.requires.room.rows in omega (arith, room, c.add_sections.ensures.room_for_rows))
    c.add_sections.ensures.rows
    (sections_are c.args.machine.now.graph.sections c.args.prepared c.args.staged.cells.items _ _ c.requires.sections c.deref-2.ensures.value c.add_sections.ensures.sections)
    _ _ _ c.deref-3.ensures.value c.deref-4.ensures.value c.deref-5.ensures.value

pub bind_rows-requires-clause-rising : goal.bind_rows-requires-clause-rising
bind_rows-requires-clause-rising c =
    let change = c.requires.change in
    subst (λ (rows : List LinkRow). Rises below_link (c.rewire_if_any.new.graph.rows ++ rows)) (sym c.deref-6.ensures.value)
    (subst (λ (rows : List LinkRow). Rises below_link (rows ++ c.args.staged.rows.items))
    (sym (c.rewire_if_any.ensures.rows (can_rewire c.args.machine.now.graph c.add_sections.new.graph (keys_of c.args.staged.cells.items) c.args.links.now change.steps change.rewires change.present
    (let room = c.requires.room.rows in omega (arith, room, c.add_sections.ensures.room_for_rows))
    c.add_sections.ensures.rows
    (sections_are c.args.machine.now.graph.sections c.args.prepared c.args.staged.cells.items _ _ c.requires.sections c.deref-2.ensures.value c.add_sections.ensures.sections)
    _ _ _ c.deref-3.ensures.value c.deref-4.ensures.value c.deref-5.ensures.value)))
    c.requires.rise)

pub bind_rows-requires-clause-room : goal.bind_rows-requires-clause-room
bind_rows-requires-clause-room c =
    let room = c.requires.room.rows in
    let gone = ap (length {A = LinkRow}) c.deref-3.ensures.value in
    let come = ap (length {A = LinkRow}) c.deref-4.ensures.value in
    let rows = ap (length {A = LinkRow}) c.deref-6.ensures.value in
    omega (arith, room, gone, come, rows, c.add_sections.ensures.room_for_rows, c.rewire_if_any.ensures.room_for_rows)

pub bind_rows-requires-clause-present : goal.bind_rows-requires-clause-present
bind_rows-requires-clause-present c =
    subst (λ (rows : List LinkRow). All (λ (r : LinkRow). Contains c.rewire_if_any.new.graph.sections r.user × Contains c.rewire_if_any.new.graph.sections r.target) rows) (sym c.deref-6.ensures.value)
    (subst (λ (ks : List SecKey). All (λ (r : LinkRow). Contains ks r.user × Contains ks r.target) c.args.staged.rows.items)
    (sym (c.rewire_if_any.ensures.sections ∙ sections_are c.args.machine.now.graph.sections c.args.prepared c.args.staged.cells.items _ _ c.requires.sections c.deref-2.ensures.value c.add_sections.ensures.sections)) c.requires.present)

pub returns-clause-committed : goal.returns-clause-committed
returns-clause-committed c x =
    let cells = c.args.staged.cells in
    let long = cells.ok.0 in
    let len = c.len.ensures in
    let count : c.len.result ≡ length cells.items = omega (arith, len, long) in
    record {
      cells = c.append.ensures;
      soft = c.append_numbers.ensures ∙ ap (λ (ids : List CellId). c.args.machine.now.soft.items ++ ids) c.requires.soft;
      next = ap (λ (n : ℕ). c.args.machine.now.next + n) count;
      swaps = refl;
      namespaces = c.attach_cells.ensures.namespaces;
      known = c.attach_cells.ensures.cells;
      space = refl;
      memory =
          c.write_fields.ensures
          ∙ (ap (λ (fields : List FieldValue). fields_written c.patch_fields.new.memory fields) c.deref.ensures.value
          ∙ ap (λ (m : MemoryState). fields_written m c.args.staged.fields.items) (c.patch_fields.ensures.patched ∙ ap (λ (m : MemoryState). fields_patched m c.args.patches.now) c.map_regions.ensures));
      sections =
          c.bind_rows.ensures.sections
          ∙ (c.rewire_if_any.ensures.sections ∙ sections_are c.args.machine.now.graph.sections c.args.prepared c.args.staged.cells.items _ _ c.requires.sections c.deref-2.ensures.value c.add_sections.ensures.sections);
      rows =
          c.bind_rows.ensures.rows
          ∙ (ap (λ (rows : List LinkRow). c.rewire_if_any.new.graph.rows ++ rows) c.deref-6.ensures.value
          ∙ ap (λ (rows : List LinkRow). rows ++ c.args.staged.rows.items)
          (c.rewire_if_any.ensures.rows (can_rewire c.args.machine.now.graph c.add_sections.new.graph (keys_of c.args.staged.cells.items) c.args.links.now x.change.steps x.change.rewires x.change.present
          (let room = c.requires.room.rows in omega (arith, room, c.add_sections.ensures.room_for_rows))
          c.add_sections.ensures.rows
          (sections_are c.args.machine.now.graph.sections c.args.prepared c.args.staged.cells.items _ _ c.requires.sections c.deref-2.ensures.value c.add_sections.ensures.sections)
          _ _ _ c.deref-3.ensures.value c.deref-4.ensures.value c.deref-5.ensures.value)));
      tasks = refl;
    }

pub returns-clause-room : goal.returns-clause-room
returns-clause-room c =
    let room = c.requires.room.rows in
    let gone = ap (length {A = LinkRow}) c.deref-3.ensures.value in
    let come = ap (length {A = LinkRow}) c.deref-4.ensures.value in
    let rows = ap (length {A = LinkRow}) c.deref-6.ensures.value in
    omega (arith, room, gone, come, rows, c.add_sections.ensures.room_for_rows, c.rewire_if_any.ensures.room_for_rows, c.bind_rows.ensures.room_for_rows)
