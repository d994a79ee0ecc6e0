-- A task whose turns touch what two machines have in common does the same in both.
use Rattle.std.proofs.Common.{◌≡◌, refl, sym, ◌∙◌, ap, ap₂, subst, ℕ, zero, suc, ◌+◌, Bool, true, false, cond, not, ◌&&◌, List, [], ◌∷◌, ◌++◌, map, true≢false, Option, Some, None}
use Rattle.std.specs.Prelude.{filter, find, option_map, nat_le, nat_lt, ◌==◌, ◌%◌, slice_index, slice_range, ◌-◌, if◌then◌else◌}
use Rattle.std.specs.List.{list_all}
use Rattle.std.proofs.lemmas.Bool.{and_parts, eqb-true}
use Rattle.cell_num.specs.Bits.{wrap, wrap_ℤ, bytes_of, little}
use Rattle.cell_num.specs.Lists.{holds, each_pair}
use Rattle.cell_num.specs.declared.ids.Cause.TheVariants.{Fetch, Illegal, LoadAlign, Load, StoreAlign, Store as BadStore}
use Rattle.cell_isa.specs.declared.insn.Insn.{Insn}
use Rattle.cell_isa.specs.declared.insn.Op.{Op}
use Rattle.cell_isa.specs.declared.insn.Op.TheVariants.{Fence, Ecall, Ebreak}
use Rattle.cell_isa.specs.Instruction.{decode}
use Rattle.cell_isa.specs.declared.memory.Access.{Access}
use Rattle.cell_isa.specs.declared.memory.Access.TheVariants.{Untouched, Loads, Stores}
use Rattle.cell_isa.specs.Meaning.{is_taken, access_of, result_of, aim_of}
use Rattle.cell_world.specs.declared.reply.TaskState.{TaskState}
use Rattle.cell_world.specs.declared.reply.TaskState.TheVariants.{Ready, Done, Fault as Faulted}
use Rattle.cell_world.specs.World.{World, Region, Permission, Task, task_of}
use Rattle.cell_world.specs.Running.Memory.{Write, covers, pasted, end_of, region_in, written, put_by}
use Rattle.cell_world.specs.Running.Execute.{Seen, Effect, Goes, Calls, Traps, seen_in, allows, number_read, extended, with_register, loaded, stored, accessed, jumped, stepped, performed, execute_word, execute}
use Rattle.cell_world.specs.Running.Move.{Hart, Row, Ends, Passes, Yields, PutsOut, Answers, Refuses, Move, called, moved_by, move}
use Rattle.cell_world.specs.Running.Turn.{Ran, ran, hart_of, standing, task_column, task_row, turn, turned, turns_from, turns_of, with_task}
use Rattle.cell_world.specs.Coherent.{IsCoherent, Shape, shape_of, ends_before}
use Rattle.cell_num.proofs.Elements.{found-In, find_there, In-filtered}
use Rattle.cell_num.proofs.Sublists.{filter_same, map_filter}
use Rattle.cell_lemmas.specs.Kept.{KeepsShapes}
use Rattle.cell_lemmas.proofs.Tasks.Stores.{one_covers}
use Rattle.cell_lemmas.proofs.Tasks.Memory.{move_shapes, seen_memory}
use Rattle.cell_lemmas.proofs.Tasks.Turned.{turn_coherent}
use Rattle.cell_isolation_laws.specs.Touches.{Span, data_touched, regions_from, is_within, keeps_to, KeepsTo, LooksSame, RunsSame}

-- what is found within regions that stand apart is found among some of them
found_from : (starts : List ℕ) (regions : List Region) → each_pair ends_before regions ≡ true → (p : Span) → is_within (regions_from starts regions) p ≡ true → region_in regions p.0 ≡ region_in (regions_from starts regions) p.0
found_from starts regions apart p e = go (region_in (regions_from starts regions) p.0) refl e
  where
    go : (o : Option Region) → region_in (regions_from starts regions) p.0 ≡ o → (elim o as (λ _. Bool) [ None ↦ false | Some r ↦ nat_le (p.0 + p.1) (end_of r) ]) ≡ true → region_in regions p.0 ≡ o
    go None f t = absurd (true≢false (sym t))
    go (Some r) f t =
        let a = found-In (λ x. covers x p.0) (regions_from starts regions) r f in
        let i = In-filtered (λ (x : Region). holds starts x.start) regions r a.0 in
        let b = find_there (λ x. covers x p.0) regions r i a.1 in
        let c = found-In (λ x. covers x p.0) regions b.0 b.1 in
        subst (λ (x : Region). region_in regions p.0 ≡ Some x) (one_covers regions apart b.0 r p.0 c.0 i c.1 a.1) b.1

written_start : (r : Region) (addr : ℕ) (new : List ℕ) → (written r addr new).start ≡ r.start
written_start r addr new = go (covers r addr)
  where
    go : (b : Bool) → (cond b (record r { bytes = pasted r.bytes (addr - r.start) new }) r).start ≡ r.start
    go true = refl
    go false = refl

from_written : (starts : List ℕ) (regions : List Region) (addr : ℕ) (new : List ℕ) → regions_from starts (map (λ r. written r addr new) regions) ≡ map (λ r. written r addr new) (regions_from starts regions)
from_written starts regions addr new =
    sym (map_filter (λ r. written r addr new) (λ (r : Region). holds starts r.start) regions)
    ∙ ap (map (λ r. written r addr new)) (filter_same (λ r. holds starts (written r addr new).start) (λ (r : Region). holds starts r.start) regions (λ r i. ap (holds starts) (written_start r addr new)))

-- what two memories make of a hart
record SameMove (starts : List ℕ) (a b : Move) : Type 0 where
  hart : a.hart ≡ b.hart
  regions : regions_from starts a.regions ≡ regions_from starts b.regions
  state : a.state ≡ b.state
  yields : a.yields ≡ b.yields
  out : a.out ≡ b.out

module _ (starts : List ℕ) (m n : Seen) (apart_m : each_pair ends_before m.regions ≡ true) (apart_n : each_pair ends_before n.regions ≡ true) (same : regions_from starts m.regions ≡ regions_from starts n.regions)
    (sealed : (addr k : ℕ) → is_within (regions_from starts m.regions) (addr, k) ≡ true → m.is_sealed addr k ≡ n.is_sealed addr k) where
  abbrev Within : ℕ → ℕ → Type 0
  Within addr k = is_within (regions_from starts m.regions) (addr, k) ≡ true

  region_same : (addr k : ℕ) → Within addr k → region_in m.regions addr ≡ region_in n.regions addr
  region_same addr k e =
      found_from starts m.regions apart_m (addr, k) e
      ∙ (ap (λ (rs : List Region). region_in rs addr) same ∙ sym (found_from starts n.regions apart_n (addr, k) (subst (λ (rs : List Region). is_within rs (addr, k) ≡ true) same e)))

  allows_same : (allowed : Permission → Bool) (addr k : ℕ) → Within addr k → allows m.regions allowed addr k ≡ allows n.regions allowed addr k
  allows_same allowed addr k e = ap (λ (o : Option Region). elim o as (λ _. Bool) [ None ↦ false | Some r ↦ allowed r.permission && nat_le (addr + k) (end_of r) ]) (region_same addr k e)

  number_same : (addr k : ℕ) → Within addr k → number_read m.regions addr k ≡ number_read n.regions addr k
  number_same addr k e = ap (λ (o : Option Region). elim o as (λ _. ℕ) [ None ↦ 0 | Some r ↦ little (slice_range r.bytes (addr - r.start) (addr - r.start + k)) ]) (region_same addr k e)

  loaded_same : (registers : List ℕ) (pc rd addr k : ℕ) (with_sign : Bool) → Within addr k → loaded m registers pc rd addr k with_sign ≡ loaded n registers pc rd addr k with_sign
  loaded_same registers pc rd addr k with_sign e =
      ap₂ (λ (b : Bool) (x : ℕ). cond (not (addr % k == 0)) (Traps LoadAlign) (cond (not b) (Traps Load) (Goes (with_register registers rd (extended with_sign k x)) (wrap (pc + 4)) None)))
      (allows_same (λ p. p.read) addr k e) (number_same addr k e)

  stored_same : (registers : List ℕ) (pc addr k value : ℕ) → Within addr k → stored m registers pc addr k value ≡ stored n registers pc addr k value
  stored_same registers pc addr k value e =
      ap₂ (λ (b s : Bool). cond (not (addr % k == 0)) (Traps StoreAlign) (cond (not (b && not s)) (Traps BadStore) (Goes registers (wrap (pc + 4)) (Some (record { addr = addr; width = k; value = value })))))
      (allows_same (λ p. p.write) addr k e) (sealed addr k e)

  accessed_same : (registers : List ℕ) (pc : ℕ) (insn : Insn) (b : ℕ) (access : Access) → list_all (is_within (regions_from starts m.regions)) (data_touched registers insn access) ≡ true
      → accessed m registers pc insn (slice_index registers insn.rs1) b access ≡ accessed n registers pc insn (slice_index registers insn.rs1) b access
  accessed_same registers pc insn b Untouched e = refl
  accessed_same registers pc insn b (Loads k with_sign) e =
      loaded_same registers pc insn.rd (wrap (slice_index registers insn.rs1 + wrap_ℤ insn.imm)) k with_sign (and_parts (is_within (regions_from starts m.regions) (wrap (slice_index registers insn.rs1 + wrap_ℤ insn.imm), k)) true e).0
  accessed_same registers pc insn b (Stores k) e =
      stored_same registers pc (wrap (slice_index registers insn.rs1 + wrap_ℤ insn.imm)) k b (and_parts (is_within (regions_from starts m.regions) (wrap (slice_index registers insn.rs1 + wrap_ℤ insn.imm), k)) true e).0

  stepped_same : (registers : List ℕ) (pc : ℕ) (insn : Insn) → list_all (is_within (regions_from starts m.regions)) (data_touched registers insn (access_of insn.op)) ≡ true
      → stepped m registers pc insn (slice_index registers insn.rs1) (slice_index registers insn.rs2) ≡ stepped n registers pc insn (slice_index registers insn.rs1) (slice_index registers insn.rs2)
  stepped_same registers pc insn e =
      ap (λ (x : Effect). cond (is_taken insn.op (slice_index registers insn.rs1) (slice_index registers insn.rs2))
      (jumped m registers (aim_of insn.op pc (slice_index registers insn.rs1) insn.imm) insn.rd (result_of insn.op pc (slice_index registers insn.rs1) (slice_index registers insn.rs2) insn.imm)) x)
      (accessed_same registers pc insn (slice_index registers insn.rs2) (access_of insn.op) e)

  performed_same : (registers : List ℕ) (pc : ℕ) (insn : Insn) (op : Op) → stepped m registers pc insn (slice_index registers insn.rs1) (slice_index registers insn.rs2) ≡ stepped n registers pc insn (slice_index registers insn.rs1) (slice_index registers insn.rs2)
      → performed m registers pc insn op ≡ performed n registers pc insn op
  performed_same registers pc insn Ecall e = refl
  performed_same registers pc insn Ebreak e = refl
  performed_same registers pc insn Fence e = refl
  performed_same registers pc insn _ e = e

  word_same : (registers : List ℕ) (pc : ℕ) (o : Option Insn) → list_all (is_within (regions_from starts m.regions)) (elim o as (λ _. List Span) [ None ↦ [] | Some insn ↦ data_touched registers insn (access_of insn.op) ]) ≡ true
      → (elim o as (λ _. Effect) [ None ↦ Traps Illegal | Some insn ↦ performed m registers pc insn insn.op ]) ≡ (elim o as (λ _. Effect) [ None ↦ Traps Illegal | Some insn ↦ performed n registers pc insn insn.op ])
  word_same registers pc None e = refl
  word_same registers pc (Some insn) e = performed_same registers pc insn insn.op (stepped_same registers pc insn e)

  execute_same : (h : Hart) → keeps_to starts m h ≡ true → execute m h.registers h.pc ≡ execute n h.registers h.pc
  execute_same h e =
      let p = and_parts (is_within (regions_from starts m.regions) (h.pc, 4)) (list_all (is_within (regions_from starts m.regions)) (elim (decode (number_read m.regions h.pc 4)) as (λ _. List Span) [ None ↦ [] | Some insn ↦ data_touched h.registers insn (access_of insn.op) ])) e in
      ap (λ (x : Effect). cond ((h.pc % 4 == 0) && allows m.regions (λ q. q.exec) h.pc 4) x (Traps Fetch)) (word_same h.registers h.pc (decode (number_read m.regions h.pc 4)) p.1)
      ∙ ap₂ (λ (b : Bool) (x : ℕ). cond ((h.pc % 4 == 0) && b) (execute_word n h.registers h.pc x) (Traps Fetch)) (allows_same (λ q. q.exec) h.pc 4 p.0) (number_same h.pc 4 p.0)

  called_same : (h : Hart) (row : Row) → SameMove starts (called m.regions h row) (called n.regions h row)
  called_same h Ends = record { hart = refl; regions = same; state = refl; yields = refl; out = refl }
  called_same h Passes = record { hart = refl; regions = same; state = refl; yields = refl; out = refl }
  called_same h Yields = record { hart = refl; regions = same; state = refl; yields = refl; out = refl }
  called_same h (PutsOut bytes) = record { hart = refl; regions = same; state = refl; yields = refl; out = refl }
  called_same h (Answers value) = record { hart = refl; regions = same; state = refl; yields = refl; out = refl }
  called_same h Refuses = record { hart = refl; regions = same; state = refl; yields = refl; out = refl }

  put_same : (store : Option Write) → regions_from starts (put_by m.regions store) ≡ regions_from starts (put_by n.regions store)
  put_same None = same
  put_same (Some x) =
      from_written starts m.regions x.addr (bytes_of x.width x.value)
      ∙ (ap (map (λ r. written r x.addr (bytes_of x.width x.value))) same ∙ sym (from_written starts n.regions x.addr (bytes_of x.width x.value)))

  moved_same : (h : Hart) (e : Effect) → SameMove starts (moved_by task_column m h e) (moved_by task_column n h e)
  moved_same h (Goes registers pc store) = record { hart = refl; regions = put_same store; state = refl; yields = refl; out = refl }
  moved_same h Calls = called_same h (task_row h.registers)
  moved_same h (Traps cause) = record { hart = refl; regions = same; state = refl; yields = refl; out = refl }

  move_same : (h : Hart) → keeps_to starts m h ≡ true → SameMove starts (move task_column m h) (move task_column n h)
  move_same h e = subst (λ (x : Effect). SameMove starts (moved_by task_column m h (execute m h.registers h.pc)) (moved_by task_column n h x)) (execute_same h e) (moved_same h (execute m h.registers h.pc))

-- a task that is looked up after it was changed
found_put : (u : Task) (number : ℕ) (tasks : List Task) → find (λ (x : Task). x.number == number) (with_task u tasks) ≡ option_map (λ x. if x.number == u.number then u else x) (find (λ (x : Task). x.number == number) tasks)
found_put u number [] = refl
found_put u number (x ∷ tasks) = ap (λ b. cond b (Some (put x)) (find (λ (y : Task). y.number == number) (with_task u tasks))) (ap (λ k. k == number) (put_number x)) ∙ go (x.number == number) (found_put u number tasks)
  where
    put : Task → Task
    put y = cond (y.number == u.number) u y

    put_number : (y : Task) → (cond (y.number == u.number) u y).number ≡ y.number
    put_number y = pick (y.number == u.number) refl
      where
        pick : (b : Bool) → (y.number == u.number) ≡ b → (cond b u y).number ≡ y.number
        pick true e = sym (eqb-true y.number u.number e)
        pick false e = refl

    go : (b : Bool) → find (λ (y : Task). y.number == number) (with_task u tasks) ≡ option_map (λ y. if y.number == u.number then u else y) (find (λ (y : Task). y.number == number) tasks)
        → cond b (Some (cond (x.number == u.number) u x)) (find (λ (y : Task). y.number == number) (with_task u tasks)) ≡ option_map (λ y. if y.number == u.number then u else y) (cond b (Some x) (find (λ (y : Task). y.number == number) tasks))
    go true e = refl
    go false e = e

found_gone : (number : ℕ) (tasks : List Task) → find (λ (x : Task). x.number == number) (filter (λ x. not (x.number == number)) tasks) ≡ None
found_gone number [] = refl
found_gone number (x ∷ tasks) = go (x.number == number) refl (found_gone number tasks)
  where
    go : (b : Bool) → (x.number == number) ≡ b → find (λ (y : Task). y.number == number) (filter (λ y. not (y.number == number)) tasks) ≡ None → find (λ (y : Task). y.number == number) (cond (not b) (x ∷ filter (λ y. not (y.number == number)) tasks) (filter (λ y. not (y.number == number)) tasks)) ≡ None
    go true e r = r
    go false e r = ap (λ b. cond b (Some x) (find (λ (y : Task). y.number == number) (filter (λ y. not (y.number == number)) tasks))) e ∙ r

-- where regions are within is a matter of their shapes
abbrev shape_at : ℕ → Shape → Bool
shape_at addr s = nat_le s.start addr && nat_lt addr (s.start + s.size)

abbrev shapes_within : List Shape → Span → Bool
shapes_within shapes p = elim (find (shape_at p.0) shapes) as (λ _. Bool) [ None ↦ false | Some s ↦ nat_le (p.0 + p.1) (s.start + s.size) ]

within_shapes : (regions : List Region) (p : Span) → is_within regions p ≡ shapes_within (map shape_of regions) p
within_shapes [] p = refl
within_shapes (r ∷ regions) p = go (covers r p.0) (within_shapes regions p)
  where
    go : (b : Bool) → is_within regions p ≡ shapes_within (map shape_of regions) p
        → (elim (cond b (Some r) (region_in regions p.0)) as (λ _. Bool) [ None ↦ false | Some x ↦ nat_le (p.0 + p.1) (end_of x) ]) ≡ (elim (cond b (Some (shape_of r)) (find (shape_at p.0) (map shape_of regions))) as (λ _. Bool) [ None ↦ false | Some s ↦ nat_le (p.0 + p.1) (s.start + s.size) ])
    go true e = refl
    go false e = e

within_kept : (starts : List ℕ) (old new : List Region) → KeepsShapes old new → (p : Span) → is_within (regions_from starts new) p ≡ is_within (regions_from starts old) p
within_kept starts old new e p =
    let from : Shape → Bool = λ s. holds starts s.start in
    within_shapes (regions_from starts new) p
    ∙ (ap (λ (shapes : List Shape). shapes_within shapes p) (map_filter shape_of from new ∙ (ap (filter from) e ∙ sym (map_filter shape_of from old)))
    ∙ sym (within_shapes (regions_from starts old) p))

module _ (starts : List ℕ) (number : ℕ) (v w : World) (hv : IsCoherent v) (hw : IsCoherent w) (l : LooksSame starts number v w) (t : Task) (live : task_of v number ≡ Some t) (keeps : keeps_to starts (seen_in v) (hart_of t) ≡ true) where
  same_move : SameMove starts (move task_column (seen_in v) (hart_of t)) (move task_column (seen_in w) (hart_of t))
  same_move = move_same starts (seen_in v) (seen_in w) hv.ready.apart hw.ready.apart l.regions l.sealed (hart_of t) keeps

  t_number : t.number ≡ number
  t_number = eqb-true t.number number (found-In (λ (x : Task). x.number == number) v.tasks t live).1

  abbrev changed : Move → Task
  changed after = record t { pc = after.hart.pc; registers = after.hart.registers }

  same_changed : changed (move task_column (seen_in v) (hart_of t)) ≡ changed (move task_column (seen_in w) (hart_of t))
  same_changed = ap (λ (h : Hart). record t { pc = h.pc; registers = h.registers }) same_move.hart

  put_equal : (a b : Task) → a ≡ b → task_of (record v { tasks = with_task a v.tasks }) number ≡ task_of (record w { tasks = with_task b w.tasks }) number
  put_equal a b e =
      found_put a number v.tasks
      ∙ (ap₂ (λ (u : Task) (o : Option Task). option_map (λ x. if x.number == u.number then u else x) o) e l.task ∙ sym (found_put b number w.tasks))

  stands_same : (a b : Move) → changed a ≡ changed b → (state : TaskState) → task_of (standing (record v { regions = a.regions }) (changed a) state) number ≡ task_of (standing (record w { regions = b.regions }) (changed b) state) number
  stands_same a b e Ready = put_equal (changed a) (changed b) e
  stands_same a b e (Done code) = gone v ∙ sym (gone w)
    where
      gone : (x : World) → find (λ (y : Task). y.number == number) (filter (λ y. not (y.number == t.number)) x.tasks) ≡ None
      gone x = ap (λ k. find (λ (y : Task). y.number == number) (filter (λ y. not (y.number == k)) x.tasks)) t_number ∙ found_gone number x.tasks
  stands_same a b e (Faulted cause pc) = put_equal (record (changed a) { fault = Some (record { cause = cause; pc = pc }) }) (record (changed b) { fault = Some (record { cause = cause; pc = pc }) }) (ap (λ (u : Task). record u { fault = Some (record { cause = cause; pc = pc }) }) e)

  -- the turn ends the same, puts out the same, and leaves the task the same
  pub turn_state : (turn v t).state ≡ (turn w t).state
  turn_state = same_move.state

  pub turn_out : (turn v t).out ≡ (turn w t).out
  turn_out = same_move.out

  pub turn_yields : (turn v t).yields ≡ (turn w t).yields
  turn_yields = same_move.yields

  pub turn_task : task_of (turn v t).world number ≡ task_of (turn w t).world number
  turn_task =
      stands_same (move task_column (seen_in v) (hart_of t)) (move task_column (seen_in w) (hart_of t)) same_changed (move task_column (seen_in v) (hart_of t)).state
      ∙ ap (λ (s : TaskState). task_of (standing (record w { regions = (move task_column (seen_in w) (hart_of t)).regions }) (changed (move task_column (seen_in w) (hart_of t))) s) number) same_move.state

  -- and where the task goes on, the two are the same to it still
  pub turn_looks : (turn v t).state ≡ Ready → LooksSame starts number (turn v t).world (turn w t).world
  turn_looks ready = record {
    task = turn_task;
    regions = left v (move task_column (seen_in v) (hart_of t)) ready ∙ (same_move.regions ∙ sym (left w (move task_column (seen_in w) (hart_of t)) (sym same_move.state ∙ ready)));
    sealed = λ addr n e. cells_sealed v (move task_column (seen_in v) (hart_of t)) addr n ∙ (l.sealed addr n (was addr n e) ∙ sym (cells_sealed w (move task_column (seen_in w) (hart_of t)) addr n));
  }
    where
      left : (x : World) (a : Move) → a.state ≡ Ready → regions_from starts (turned x t a).world.regions ≡ regions_from starts a.regions
      left x a e = ap (λ (s : TaskState). regions_from starts (standing (record x { regions = a.regions }) (changed a) s).regions) e

      cells_sealed : (x : World) (a : Move) (addr n : ℕ) → (seen_in (turned x t a).world).is_sealed addr n ≡ (seen_in x).is_sealed addr n
      cells_sealed x a addr n = go a.state
        where
          go : (s : TaskState) → (seen_in (standing (record x { regions = a.regions }) (changed a) s)).is_sealed addr n ≡ (seen_in x).is_sealed addr n
          go Ready = refl
          go (Done code) = refl
          go (Faulted cause pc) = refl

      was : (addr n : ℕ) → is_within (regions_from starts (turn v t).world.regions) (addr, n) ≡ true → is_within (regions_from starts v.regions) (addr, n) ≡ true
      was addr n e =
          sym (within_kept starts v.regions (move task_column (seen_in v) (hart_of t)).regions (move_shapes task_column (seen_in v) (hart_of t) (seen_memory v hv)) (addr, n))
          ∙ (ap (λ (rs : List Region). is_within rs (addr, n)) (sym (left v (move task_column (seen_in v) (hart_of t)) ready)) ∙ e)

-- many turns
module _ (starts : List ℕ) (number : ℕ) where
  abbrev OnState : ℕ → ℕ → List ℕ → World → Task → TaskState → Ran
  OnState n had out x t state = elim state as (λ _. Ran) [
    | Ready ↦ turns_from n false number (suc had) (out ++ (turn x t).out) (turn x t).world
    | Done code ↦ ran (turn x t).world number (suc had) (Done code) (out ++ (turn x t).out)
    | Faulted cause pc ↦ ran (turn x t).world number (suc had) (Faulted cause pc) (out ++ (turn x t).out)
  ]

  abbrev OnTask : ℕ → ℕ → List ℕ → World → Option Task → Ran
  OnTask n had out x o = elim o as (λ _. Ran) [ None ↦ ran x number had Ready out | Some t ↦ OnState n had out x t (turn x t).state ]

  same_turns : (n had : ℕ) (out : List ℕ) (v w : World) → IsCoherent v → IsCoherent w → LooksSame starts number v w → KeepsTo n starts v number → RunsSame number (turns_from n false number had out v) (turns_from n false number had out w)
  same_turns zero had out v w hv hw l k = record { run = refl; task = l.task }
  same_turns (suc n) had out v w hv hw l k = subst (λ (o : Option Task). RunsSame number (OnTask n had out v (task_of v number)) (OnTask n had out w o)) l.task (go (task_of v number) refl (λ more a b p q r s. same_turns n (suc had) more a b p q r s))
    where
      go : (o : Option Task) → task_of v number ≡ o
          → ((more : List ℕ) (a b : World) → IsCoherent a → IsCoherent b → LooksSame starts number a b → KeepsTo n starts a number → RunsSame number (turns_from n false number (suc had) more a) (turns_from n false number (suc had) more b))
          → RunsSame number (OnTask n had out v o) (OnTask n had out w o)
      go None e rec = record { run = refl; task = l.task }
      go (Some t) e rec = subst (λ (s : TaskState). RunsSame number (OnState n had out v t (turn v t).state) (OnState n had out w t s)) (turn_state starts number v w hv hw l t e keeps) (by_state (turn v t).state refl)
        where
          keeps : keeps_to starts (seen_in v) (hart_of t) ≡ true
          keeps = (k t e).0

          out_same : (turn v t).out ≡ (turn w t).out
          out_same = turn_out starts number v w hv hw l t e keeps

          coherent_v : IsCoherent (turn v t).world
          coherent_v = turn_coherent v hv t (found-In (λ (x : Task). x.number == number) v.tasks t e).0

          coherent_w : IsCoherent (turn w t).world
          coherent_w = turn_coherent w hw t (found-In (λ (x : Task). x.number == number) w.tasks t (sym l.task ∙ e)).0

          by_state : (s : TaskState) → (turn v t).state ≡ s → RunsSame number (OnState n had out v t s) (OnState n had out w t s)
          by_state Ready q = subst (λ (more : List ℕ). RunsSame number (turns_from n false number (suc had) (out ++ (turn v t).out) (turn v t).world) (turns_from n false number (suc had) (out ++ more) (turn w t).world)) out_same
              (rec (out ++ (turn v t).out) (turn v t).world (turn w t).world coherent_v coherent_w (turn_looks starts number v w hv hw l t e keeps q) (k t e).1)
          by_state (Done code) q = record {
            run = ap (λ (more : List ℕ). record { task = number; turns = suc had; state = Done code; out = out ++ more }) out_same;
            task = turn_task starts number v w hv hw l t e keeps;
          }
          by_state (Faulted cause pc) q = record {
            run = ap (λ (more : List ℕ). record { task = number; turns = suc had; state = Faulted cause pc; out = out ++ more }) out_same;
            task = turn_task starts number v w hv hw l t e keeps;
          }

  pub turns_same : (n : ℕ) (v w : World) → IsCoherent v → IsCoherent w → LooksSame starts number v w → KeepsTo n starts v number → RunsSame number (turns_of n v number) (turns_of n w number)
  turns_same n v w hv hw l k = same_turns n 0 [] v w hv hw l k
