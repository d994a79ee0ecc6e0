-- Routines that run on a sound machine, on a stack of their own: what they need there, and what they leave.
use Rattle.std.proofs.Common.{◌≡◌, refl, sym, ap, ap₂, subst, ◌∙◌, arith, ℕ, ◌+◌, ◌-◌, ◌*◌, ◌^◌, ◌≤◌, ◌<◌, ◌⊎◌, inl, inr, Bool, true, false, cond, ◌&&◌, ◌||◌, List, [], ◌∷◌, Option, Some, None, length, map, replicate, true≢false}
use Rattle.std.specs.Prelude.{◌%◌, ◌==◌, All, Result, Ok, Err, nat_le, nat_lt, slice_index_or}
use Rattle.std.proofs.lemmas.Bool.{and_parts, le-leb, leb-true, ltb-true, or_left, or_right}
use Rattle.std.proofs.lemmas.List.{length-replicate}
use Rattle.cell_num.specs.Kinds.{width_of}
use Rattle.cell_num.specs.Lists.{each_pair, In}
use Rattle.cell_object.specs.declared.object.Entry.{Entry}
use Rattle.cell_world.specs.declared.refusal.Refusal.{Refusal}
use Rattle.cell_world.specs.declared.refusal.Refusal.TheVariants.{Exhausted, Transfer as TransferRefused}
use Rattle.cell_world.specs.declared.state.NewCell.{NewCell}
use Rattle.cell_world.specs.declared.transfer.Failure.{Failure}
use Rattle.cell_world.specs.declared.transfer.Routine.{Routine}
use Rattle.cell_num.specs.Limits.{stack_size}
use Rattle.cell_world.specs.World.{Cell, Region, World}
use Rattle.cell_world.specs.Coherent.{IsCoherent, ends_before, is_in_space, shape_of, Shape}
use Rattle.cell_world.specs.Running.Execute.{Seen, allows, seen_in}
use Rattle.cell_world.specs.Linked.Field.{fields_of, place_of}
use Rattle.cell_world.specs.Placed.Layout.{permission_of}
use Rattle.cell_world.specs.declared.layout.Class.TheVariants.{Writable}
use Rattle.cell_world.specs.Running.Memory.{covers, end_of, region_in, written}
use Rattle.cell_world.specs.Running.Move.{move}
use Rattle.cell_world.specs.Outcome.{Outcome}
use Rattle.cell_world.specs.Placed.Pages.{filled, longest_run, lowest_run}
use Rattle.cell_world.specs.Placed.Place.{page_table, start_of_run, with_region}
use Rattle.cell_world.specs.Commands.SpawnCommand.{with_stack}
use Rattle.cell_world.specs.Commands.SwapTransfer.{transferred_by}
use Rattle.cell_world.specs.Running.Transfer.{Addresses, Transferred, after_turns, routine_column, transfer, transferred}
use Rattle.cell_world.specs.Running.Turn.{without_region}
use Rattle.cell_lemmas.specs.Clear.{IsClear}
use Rattle.cell_lemmas.specs.Present.{IsInside}
use Rattle.cell_num.proofs.Elements.{All-In, In-all, In-flat_map, In-map, In-none, all-In, found-In}
use Rattle.cell_lemmas.proofs.Fields.FieldsInside.{among-In}
use Rattle.cell_lemmas.proofs.Placement.Inside.{fields_lie, ready_linkable}
use Rattle.cell_lemmas.proofs.Placement.Places.{FreeAt, run_at}
use Rattle.cell_lemmas.proofs.Placement.Tables.{run_clear}
use Rattle.cell_lemmas.proofs.Fields.Writes.{begins_below}
use Rattle.cell_num.proofs.Sublists.{and_left, and_right}
use Rattle.cell_lemmas.proofs.Tasks.Executed.{Stored, good_move}
use Rattle.cell_lemmas.proofs.Tasks.Stores.{keeps_apart, keeps_shape}
use Rattle.cell_lemmas.proofs.Tasks.Spawned.{spaced}
use Rattle.cell_lemmas.proofs.Tasks.Turns.{turns_coherent, turns_shapes}
use Rattle.cell_hart.proofs.Alike.{seen}
use Rattle.cell_hart.specs.Step.{seen_of}
use Rattle.cell_commit.specs.Seals.{is_in_span, seal_table}
use Rattle.cell_mem.specs.State.{IsRoom, MemoryState, is_sealed, one_more}
use Rattle.cell_space.specs.Joined.{placed_of}
use Rattle.cell_machine.specs.declared.machine.Machine.{Machine}
use Rattle.cell_machine.specs.Machine.{IsSound, field_bytes, own_field_bytes, world_of}
use Rattle.cell_schedule.proofs.Marks.{marks_are_fields}
use Rattle.cell_schedule.proofs.Unsealed.{unsealed}
use Rattle.cell_xfer.specs.Carried.{said, with_zeros}
use Rattle.cell_xfer.proofs.AlikeTransfer.{transferred_alike}
use Rattle.cell_change.proofs.Arrival.Suspended.{suspended}
use Rattle.cell_change.proofs.Return.TableBack.{same_table}

-- regions apart, in a space
record Spread (low high : ℕ) (rs : List Region) : Type 0 where
  apart : each_pair ends_before rs ≡ true
  lies : (r : Region) → In r rs → (low ≤ r.start) × (end_of r ≤ high)

spread_stored : (low high : ℕ) (m : Seen) (rs : List Region) → Spread low high m.regions → Stored m rs → Spread low high rs
spread_stored low high m rs h (inl e) = subst (Spread low high) (sym e) h
spread_stored low high m rs h (inr s) =
    subst (Spread low high) (sym s.is) (record {
      apart = keeps_apart m.regions h.apart s.addr s.new s.may;
      lies = λ r i.
          let d = In-map (λ (q : Region). written q s.addr s.new) m.regions r i in
          let e : shape_of r ≡ shape_of d.0 = ap shape_of d.2 ∙ keeps_shape m.regions h.apart s.addr s.new s.may d.0 d.1 in
          let at = h.lies d.0 d.1 in
          let start : r.start ≡ d.0.start = ap (λ (x : Shape). x.start) e in
          let size : length r.bytes ≡ length d.0.bytes = ap (λ (x : Shape). x.size) e in
          (omega (arith, at.0, start), omega (arith, at.1, start, size));
    })

spread_allows : (low high : ℕ) (rs : List Region) → Spread low high rs → (addr n : ℕ) → allows rs (λ p. p.write) addr n ≡ true → (low ≤ addr) × (addr + n ≤ high)
spread_allows low high rs h addr n may = go (region_in rs addr) refl may
  where
    go : (o : Option Region) → region_in rs addr ≡ o → (elim o as (λ _. Bool) [ None ↦ false | Some r ↦ r.permission.write && nat_le (addr + n) (end_of r) ]) ≡ true → (low ≤ addr) × (addr + n ≤ high)
    go None e t = absurd (true≢false (sym t))
    go (Some r) e t =
        let f = found-In (λ x. covers x addr) rs r e in
        let at = h.lies r f.0 in
        let ends = leb-true (addr + n) (end_of r) (and_right r.permission.write (nat_le (addr + n) (end_of r)) t) in
        (omega (arith, at.0, begins_below r addr f.1), omega (arith, at.1, ends))

In-with : (q r : Region) (rs : List Region) → In r (with_region q rs) → (r ≡ q) ⊎ In r rs
In-with q r [] i = i
In-with q r (s ∷ rs) i = go (nat_lt q.start s.start) i (In-with q r rs)
  where
    go : (b : Bool) → In r (cond b (q ∷ s ∷ rs) (s ∷ with_region q rs)) → (In r (with_region q rs) → (r ≡ q) ⊎ In r rs) → (r ≡ q) ⊎ In r (s ∷ rs)
    go true j f = j
    go false (inl e) f = inr (inl e)
    go false (inr j) f = elim (f j) [ inl e ↦ inl e | inr k ↦ inr (inr k) ]

whole_in : (w : World) → IsCoherent w → (r : Region) → In r w.regions → (w.base ≤ r.start) × (end_of r ≤ w.base + 4096 * w.pages)
whole_in w h r i =
    let t : is_in_space w r ≡ true = all-In (is_in_space w) w.regions h.ready.in_space r i in
    let a = and_left (nat_le w.base r.start && ((r.start - w.base) % 4096 == 0) && nat_lt 0 (length r.bytes) && (length r.bytes % 4096 == 0)) (nat_le (r.start + length r.bytes) (w.base + 4096 * w.pages)) t in
    let b = and_left (nat_le w.base r.start && ((r.start - w.base) % 4096 == 0) && nat_lt 0 (length r.bytes)) (length r.bytes % 4096 == 0) a in
    let c = and_left (nat_le w.base r.start && ((r.start - w.base) % 4096 == 0)) (nat_lt 0 (length r.bytes)) b in (
      leb-true w.base r.start (and_left (nat_le w.base r.start) ((r.start - w.base) % 4096 == 0) c),
      leb-true (r.start + length r.bytes) (w.base + 4096 * w.pages) (and_right (nat_le w.base r.start && ((r.start - w.base) % 4096 == 0) && nat_lt 0 (length r.bytes) && (length r.bytes % 4096 == 0)) (nat_le (r.start + length r.bytes) (w.base + 4096 * w.pages)) t),
    )

-- the page of a free run of four
record Page (w : World) (stack : ℕ) : Type 0 where
  page : ℕ
  found : lowest_run (page_table w) 4 ≡ Some page
  at : stack ≡ w.base + 4096 * page

page_of : (w : World) (stack : ℕ) → start_of_run w 4 ≡ Ok stack → Page w stack
page_of w stack run = go (lowest_run (page_table w) 4) refl run
  where
    same : (a b : ℕ) → (let x : Outcome ℕ = Ok a in x) ≡ Ok b → a ≡ b
    same a b e = cc

    go : (o : Option ℕ) → lowest_run (page_table w) 4 ≡ o → (elim o as (λ _. Outcome ℕ) [ None ↦ Err (Exhausted 4 (longest_run (page_table w))) | Some page ↦ Ok (w.base + 4096 * page) ]) ≡ Ok stack → Page w stack
    go None e k = absurd (cc k)
    go (Some page) e k = record { page = page; found = e; at = sym (same (w.base + 4096 * page) stack k) }

-- no byte of it is a field's
module _ (n : Machine) (sound : IsSound (suspended n)) (stack : ℕ) (run : start_of_run (world_of (suspended n)) 4 ≡ Ok stack) where
  abbrev w : World
  w = world_of (suspended n)

  p : Page w stack
  p = page_of w stack run

  free : FreeAt w 4 p.page
  free = run_at w 4 p.page (omega arith) p.found

  clear : All (IsClear (w.base + 4096 * p.page) (4096 * 4)) w.regions
  clear = run_clear w 4 p.page (omega arith) p.found sound.coherent.ready.in_space

  is_clear : (r : Region) → In r w.regions → IsClear stack 16384 r
  is_clear r i = subst (λ a. IsClear a 16384 r) (sym p.at) (All-In (IsClear (w.base + 4096 * p.page) (4096 * 4)) w.regions clear r i)

  pub room : 1 ≤ n.memory.spare → IsRoom n.memory stack stack_size
  room spare = record {
    aligned = let whole = sound.coherent.ready.space.aligned in omega (arith, p.at, whole);
    whole = refl;
    filled = omega arith;
    above = omega (arith, p.at);
    below = omega (arith, p.at, free.room);
    apart = In-all (λ (r : Region). nat_le (end_of r) stack || nat_le (stack + 16384) r.start) w.regions (λ r i. apart_is r (is_clear r i));
    spare = spare;
  }
    where
      apart_is : (r : Region) → IsClear stack 16384 r → (nat_le (end_of r) stack || nat_le (stack + 16384) r.start) ≡ true
      apart_is r (inl h) = or_right (nat_le (end_of r) stack) (nat_le (stack + 16384) r.start) (le-leb (stack + 16384) r.start h)
      apart_is r (inr h) = or_left (nat_le (end_of r) stack) (nat_le (stack + 16384) r.start) (le-leb (end_of r) stack h)

  field_lies : (c : NewCell) → In c n.cells.items → (f : Entry) → In f (fields_of c.object) → IsInside w (place_of c f) (width_of f.kind)
  field_lies c i f m =
      let d = In-map placed_of w.cells c (subst (λ (cs : List NewCell). In c cs) (sym sound.joined.placed) i) in
      All-In (λ (e : Entry). IsInside w (place_of c e) (width_of e.kind)) c.object.entries
      (subst (λ (x : NewCell). All (λ (e : Entry). IsInside w (place_of x e) (width_of e.kind)) x.object.entries) (sym d.2)
      (All-In (λ (c : Cell). All (λ (e : Entry). IsInside w (place_of c.placed e) (width_of e.kind)) c.object.entries) w.cells (fields_lie w (ready_linkable w sound.coherent.ready)) d.0 d.1))
      f (among-In c.object.entries [] f m)

  none_in : (addr : ℕ) → stack ≤ addr → addr < stack + 16384 → (s : ℕ × ℕ) → In s (field_bytes n.cells.items) → is_in_span addr s ≡ true → ⊥
  none_in addr low high s i is =
      let c = In-flat_map own_field_bytes n.cells.items s i in
      let f = In-map (λ f. (place_of c.0 f, width_of f.kind)) (fields_of c.0.object) s c.2 in
      let inside = field_lies c.0 c.1 f.0 f.1 in
      let found = found-In (λ r. covers r (place_of c.0 f.0)) w.regions inside.region inside.at in
      let ends = and_parts (nat_le s.0 addr) (nat_lt addr (s.0 + s.1)) is in
      let begins : place_of c.0 f.0 ≤ addr = subst (λ (x : ℕ × ℕ). x.0 ≤ addr) f.2 (leb-true s.0 addr ends.0) in
      let behind : addr < place_of c.0 f.0 + width_of f.0.kind = subst (λ (x : ℕ × ℕ). addr < x.0 + x.1) f.2 (ltb-true addr (s.0 + s.1) ends.1) in
      clash inside.region (place_of c.0 f.0) (width_of f.0.kind) (begins_below inside.region (place_of c.0 f.0) found.1) begins behind inside.ends (is_clear inside.region found.0)
    where
      clash : (r : Region) (at wide : ℕ) → r.start ≤ at → at ≤ addr → addr < at + wide → at + wide ≤ end_of r → IsClear stack 16384 r → ⊥
      clash r at wide a b c d (inl e) = omega (arith, a, b, c, d, e, low, high)
      clash r at wide a b c d (inr e) = omega (arith, a, b, c, d, e, low, high)

  pub unsealed_stack : filled n.memory.sealed (stack - n.memory.base) stack_size false ≡ n.memory.sealed
  unsealed_stack =
      ap (λ (sealed : List Bool). filled sealed (stack - n.memory.base) stack_size false) sound.seals
      ∙ unsealed n.memory.base (4096 * n.memory.pages) (field_bytes n.cells.items) (stack - n.memory.base) 16384 (omega (arith, p.at, free.room))
      (λ k l m. In-none (is_in_span (n.memory.base + k)) (field_bytes n.cells.items) (λ s i. go s i (n.memory.base + k) (omega (arith, l, p.at)) (omega (arith, m, p.at)) (is_in_span (n.memory.base + k) s) refl))
      ∙ sym sound.seals
    where
      go : (s : ℕ × ℕ) → In s (field_bytes n.cells.items) → (addr : ℕ) → stack ≤ addr → addr < stack + 16384 → (b : Bool) → is_in_span addr s ≡ b → is_in_span addr s ≡ false
      go s i addr low high true e = absurd (none_in addr low high s i e)
      go s i addr low high false e = e

  -- the memory with the stack, and the machine with it
  abbrev begun : MemoryState
  begun = with_zeros n.memory stack

  abbrev stacked : World
  stacked = with_stack w stack

  abbrev new_stack : Region
  new_stack = record { start = stack; permission = permission_of Writable; bytes = replicate stack_size 0 }

  spread : Spread w.base (w.base + 4096 * w.pages) stacked.regions
  spread = record {
    apart = (spaced w sound.coherent stack run).apart;
    lies = λ r i. at r (In-with new_stack r w.regions i);
  }
    where
      at : (r : Region) → (r ≡ new_stack) ⊎ In r w.regions → (w.base ≤ r.start) × (end_of r ≤ w.base + 4096 * w.pages)
      at r (inl e) =
          let start : r.start ≡ stack = ap (λ (q : Region). q.start) e in
          let size : length r.bytes ≡ 16384 = ap (λ (q : Region). length q.bytes) e ∙ length-replicate {A = ℕ} 16384 0 in
          (omega (arith, start, p.at), omega (arith, start, size, p.at, free.room))
      at r (inr j) = whole_in w sound.coherent r j

  agree : (rs : List Region) → Spread w.base (w.base + 4096 * w.pages) rs → (addr k : ℕ) → 1 ≤ k → allows rs (λ p. p.write) addr k ≡ true → is_sealed begun addr k ≡ (seen_in stacked).is_sealed addr k
  agree rs h addr k some may =
      let inside = spread_allows w.base (w.base + 4096 * w.pages) rs h addr k may in
      ap (λ (sealed : List Bool). is_sealed (record begun { sealed = sealed }) addr k) sound.seals
      ∙ marks_are_fields n.memory.base (4096 * n.memory.pages) w.cells n.cells.items sound.joined.placed addr k some inside.0 inside.1

  module _ (a : Addresses) (budget : ℕ) (routines : List Routine) where
    pub runs_alike : transferred budget a (seen_of begun) stack routines ≡ transferred budget a (seen_in stacked) stack routines
    runs_alike =
        transferred_alike a (λ addr k. is_sealed begun addr k) (seen_in stacked).is_sealed (Spread w.base (w.base + 4096 * w.pages))
        (λ rs h s. spread_stored w.base (w.base + 4096 * w.pages) (seen rs (λ addr k. is_sealed begun addr k)) (move (routine_column a) (seen rs (λ addr k. is_sealed begun addr k)) h).regions s
        (good_move (seen rs (λ addr k. is_sealed begun addr k)) h (routine_column a)).stored)
        agree budget stacked.regions stack routines spread

    -- the machine after them, whose regions are those
    module _ (s : MemoryState) (rest : s ≡ record n.memory { regions = s.regions; undo = s.undo; maps = one_more n.memory.maps })
        (left : s.regions ≡ without_region stack (transferred budget a (seen_of begun) stack routines).regions) where
      abbrev after : Machine
      after = record n { memory = s }

      pub world_after : world_of (suspended after) ≡ after_turns budget w stack a routines
      world_after =
          ap (λ (x : MemoryState). world_of (suspended (record n { memory = x }))) rest
          ∙ ap (λ (rs : List Region). let v : World = record w { regions = rs } in v) (left ∙ ap (λ (x : Transferred). without_region stack x.regions) runs_alike)

      coherent_after : IsCoherent (world_of (suspended after))
      coherent_after = subst IsCoherent (sym world_after) (turns_coherent w sound.coherent stack run budget a routines)

      shapes_after : map shape_of s.regions ≡ map shape_of n.memory.regions
      shapes_after = ap (λ (v : World). map shape_of v.regions) world_after ∙ turns_shapes w sound.coherent stack run budget a routines

      pub sound_after : IsSound (suspended after)
      sound_after = record {
        coherent = coherent_after;
        parts = record {
          joined = sound.joined;
          table = sound.table ∙ same_table n.memory s (sym (ap (λ (x : MemoryState). x.base) rest)) (sym (ap (λ (x : MemoryState). x.pages) rest)) (sym shapes_after);
          base = sound.base ∙ sym (ap (λ (x : MemoryState). x.base) rest);
          soft = sound.soft;
          sections = sound.sections;
          seals =
              ap (λ (x : MemoryState). x.sealed) rest
              ∙ (sound.seals ∙ ap₂ (λ (b k : ℕ). seal_table b (4096 * k) (field_bytes n.cells.items)) (sym (ap (λ (x : MemoryState). x.base) rest)) (sym (ap (λ (x : MemoryState). x.pages) rest)));
          patches = subst (λ k. k ≤ 2 ^ 64 - 1) (sym (ap (λ (x : MemoryState). x.patches) rest)) sound.patches;
          maps = let e = ap (λ (x : MemoryState). x.maps) rest in omega (arith, e);
        };
        undo = refl;
      }

      -- what the definition says of them
      module _ (names : List (List ℕ)) (result : Result (Unit {0}) Refusal) (answer : result ≡ said names (transferred budget a (seen_of begun) stack routines).failure) where
        by_failure : (o : Option Failure) → (transferred budget a (seen_in stacked) stack routines).failure ≡ o
            → (elim o as (λ _. Result World Failure) [ None ↦ Ok (after_turns budget w stack a routines) | Some failure ↦ Err failure ]) ≡ transfer w stack a routines budget
        by_failure o e = ap (λ (x : Option Failure). elim x as (λ _. Result World Failure) [ None ↦ Ok (after_turns budget w stack a routines) | Some failure ↦ Err failure ]) (sym e)

        answer_is : result ≡ said names (transferred budget a (seen_in stacked) stack routines).failure
        answer_is = answer ∙ ap (λ (x : Transferred). said names x.failure) runs_alike

        pub transfer_done : result ≡ Ok tt → transferred_by names (transfer w stack a routines budget) ≡ Ok (world_of (suspended after))
        transfer_done e = go (transferred budget a (seen_in stacked) stack routines).failure refl (sym answer_is ∙ e)
          where
            go : (o : Option Failure) → (transferred budget a (seen_in stacked) stack routines).failure ≡ o → said names o ≡ Ok tt → transferred_by names (transfer w stack a routines budget) ≡ Ok (world_of (suspended after))
            go None f k = ap (transferred_by names) (sym (by_failure None f)) ∙ ap (λ (v : World). let x : Outcome World = Ok v in x) (sym world_after)
            go (Some failure) f k = absurd (cc k)

        pub transfer_failed : (r : Refusal) → result ≡ Err r → transferred_by names (transfer w stack a routines budget) ≡ Err r
        transfer_failed r e = go (transferred budget a (seen_in stacked) stack routines).failure refl (sym answer_is ∙ e)
          where
            same : (x y : Refusal) → (let o : Result (Unit {0}) Refusal = Err x in o) ≡ Err y → x ≡ y
            same x y k = cc

            go : (o : Option Failure) → (transferred budget a (seen_in stacked) stack routines).failure ≡ o → said names o ≡ Err r → transferred_by names (transfer w stack a routines budget) ≡ Err r
            go None f k = absurd (cc k)
            go (Some failure) f k =
                ap (transferred_by names) (sym (by_failure (Some failure) f)) ∙ ap (λ x. Err x) (same (TransferRefused (slice_index_or names failure.routine []) failure.why) r k)
