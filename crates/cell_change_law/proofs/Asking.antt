-- What an accepted load, swap, recovery or clone leaves, a sound change makes that it asks for.
use Rattle.std.proofs.Common.{◌≡◌, ◌<◌, ◌⊎◌, refl, sym, ◌∙◌, ap, arith, subst, inl, inr, ℕ, zero, suc, ◌+◌, Bool, true, false, not, ◌&&◌, List, [], ◌∷◌, ◌++◌, length, Some, None, Ok, Err}
use Rattle.std.specs.Prelude.{All, ◌==◌, filter, is_none, nat_le, nat_lt, take}
use Rattle.std.specs.List.{list_all}
use Rattle.std.proofs.lemmas.Bool.{and_parts, false_from_ne_true, leb-true, ltb-true}
use Rattle.cell_num.specs.Lists.{equals, In}
use Rattle.cell_num.specs.declared.ids.CellId.{CellId}
use Rattle.cell_world.specs.declared.command.SwapItem.{SwapItem}
use Rattle.cell_world.specs.declared.refusal.Refusal.{Refusal}
use Rattle.cell_world.specs.declared.refusal.Refusal.TheVariants.{NameTaken, NoCrate, NoObject, NoParent, TooMany, Unknown}
use Rattle.cell_world.specs.declared.refusal.Many.TheVariants.{Cells, CellNumbers, Namespaces}
use Rattle.cell_world.specs.declared.reply.Reply.{Reply}
use Rattle.cell_world.specs.declared.reply.Reply.TheVariants.{Recover as RecoverDone, Rebuild as RebuildDone}
use Rattle.cell_world.specs.World.{World, Cell, Task, is_attached}
use Rattle.cell_world.specs.Names.{cell_at, namespace_named}
use Rattle.cell_num.specs.Limits.{max_cell_number, max_cells, max_namespaces}
use Rattle.cell_world.specs.Gather.{Source, bring, bring_one, bring_within, depot_files, file_named, first_lack, fresh_cells, one_file, with_next}
use Rattle.cell_world.specs.Commands.UnloadCommand.{attached_cell, cell_word}
use Rattle.cell_world.specs.Outcome.{Outcome, ◌>>=◌, ◌>>◌, each, found, need}
use Rattle.cell_world.specs.Answer.{Done, space_of}
use Rattle.cell_world.specs.Commands.NsCommand.{with_namespace}
use Rattle.cell_world.specs.Commands.Asked.{cells_in, copies_into, is_in_space, parent_of, next_clone, next_load, next_swap, next_recover, next_rebuild, next_renewed, renewal, renewals, renewing, want_of, wants_of}
use Rattle.cell_world.specs.Commands.Recovery.{faulted_task, is_rebuilt, rebuild_of, recovery_of, runs_at}
use Rattle.cell_world.specs.Change.{Change, Copy, Want, adding, append_copy, copy_of, gather, make_change, replaced}
use Rattle.cell_world.specs.Coherent.{AreSound, IsCoherent, is_known_cell}
use Rattle.cell_num.proofs.Elements.{all-In, filter-Passes, filter_none, found-In, In-All, In-append, In-filtered, In-map, none_is, position_below}
use Rattle.cell_lemmas.proofs.Naming.Appended.{ok_same}
use Rattle.cell_lemmas.proofs.Naming.Gathered.{Ranks}
use Rattle.cell_lemmas.proofs.Naming.Known.{known_parts, older}
use Rattle.cell_lemmas.proofs.Naming.NamespaceAdded.{coherent_after}
use Rattle.cell_lemmas.proofs.Placement.PlacedReady.{fresh_is}
use Rattle.cell_lemmas.proofs.Placement.Ready.{grown, ready_base}
use Rattle.cell_lemmas.proofs.Outcomes.{bind_ok, found_ok, need_ok, then_ok}
use Rattle.cell_lemmas.proofs.Targeting.Present.{In-filter_map}
use Rattle.cell_change_law.specs.Cloned.{HasCloned, MayClone, clone_of}
use Rattle.cell_change_law.specs.Sound.{HasCopied, HasMade, IsSound}
use Rattle.cell_change_law.proofs.Copied.{AreCopied, all_copied, copied_ranks, copies_attached, copies_fresh, copies_from, copies_lack_nothing, parent_below}
use Rattle.cell_lemmas.proofs.Naming.Brought.{In-depot, one_file-In}

-- a load asks for the cell of its one file
module _ (sources : List Source) (sound : AreSound sources) (w : World) (h : IsCoherent w) (name stem : List ℕ) where
  module _ (ns : ℕ) (file : Source) (there : space_of w name ≡ Ok ns) (one : one_file (depot_files sources name stem) (NoObject stem) ≡ Ok file) where
    abbrev pub asked : Change
    asked = adding (record { file = file; ns = ns; replaces = None } ∷ [])

    pub good : IsSound sources w asked
    good = record {
      files = In-All (λ (want : Want). In want.file sources) asked.wants (λ want i. go want i);
      spaces = In-All (λ (want : Want). want.ns < length w.namespaces) asked.wants (λ want i. space want i);
      present = In-All (λ (old : Cell). In old w.cells) [] (λ old i. absurd i);
      attached = In-All (λ (old : Cell). is_attached old.standing ≡ true) [] (λ old i. absurd i);
      originals = In-All (λ (copy : Copy). In copy.original w.cells) [] (λ copy i. absurd i);
      copied = inl refl;
    }
      where
        go : (want : Want) → In want asked.wants → In want.file sources
        go want (inl e) = subst (λ (x : Want). In x.file sources) (sym e) (In-depot sources name stem file (one_file-In (depot_files sources name stem) (NoObject stem) file one))
        go want (inr i) = absurd i

        space : (want : Want) → In want asked.wants → want.ns < length w.namespaces
        space want (inl e) = subst (λ (x : Want). x.ns < length w.namespaces) (sym e) (position_below (λ space. equals space.name name) w.namespaces ns (found_ok (namespace_named w name) (Unknown name) ns there))
        space want (inr i) = absurd i

pub load_made : (sources : List Source) (sound : AreSound sources) (w : World) (h : IsCoherent w) (name stem : List ℕ) (d : Done) → next_load sources w name stem ≡ Ok d → HasMade sources w d
load_made sources sound w h name stem d e =
    let s = bind_ok (space_of w name) _ d e in
    let f = bind_ok (one_file (depot_files sources name stem) (NoObject stem)) _ d s.2 in
    let m = bind_ok (make_change sources w (asked sources sound w h name stem s.0 f.0 s.1 f.1)) _ d f.2 in
    record {
      change = asked sources sound w h name stem s.0 f.0 s.1 f.1;
      sound = good sources sound w h name stem s.0 f.0 s.1 f.1;
      made = m.0;
      making = m.1;
      world = ap (λ (x : Done). x.world) (ok_same _ d m.2);
    }

-- a recovery takes attached cells alone
abbrev pub AreAttached : World → List Cell → Type 0
AreAttached w cells = (c : Cell) → In c cells → In c w.cells × (is_attached c.standing ≡ true)

one_taken : (cells : List Cell) (c : Cell) → In c (take 1 cells) → In c cells
one_taken [] c i = absurd i
one_taken (d ∷ cells) c (inl e) = inl e
one_taken (d ∷ cells) c (inr i) = absurd i

pub recovery_taken : (w : World) (t : Task) → AreAttached w (recovery_of w t)
recovery_taken w t c i =
    let j = one_taken (filter (runs_at t.pc) w.cells) c i in
    (In-filtered (runs_at t.pc) w.cells c j, (and_parts (is_attached c.standing) _ (filter-Passes (runs_at t.pc) w.cells c j)).0)

pub rebuild_taken : (w : World) (t : Task) → AreAttached w (rebuild_of w t)
rebuild_taken w t c i = (In-filtered (is_rebuilt w t) w.cells c i, (and_parts (is_attached c.standing) _ (filter-Passes (is_rebuilt w t) w.cells c i)).0)

module _ (sources : List Source) (w : World) (h : IsCoherent w) where
  record IsWanted (want : Want) : Type 0 where
    file : In want.file sources
    space : want.ns < length w.namespaces
    present : (old : Cell) → want.replaces ≡ Some old → In old w.cells
    attached : (old : Cell) → want.replaces ≡ Some old → is_attached old.standing ≡ true

  wanted : (item : SwapItem) (want : Want) → want_of sources w item ≡ Ok want → IsWanted want
  wanted item want e =
      let a = bind_ok (attached_cell w (record { ns = item.ns; stem = item.stem })) _ want e in
      let b = bind_ok (found (file_named sources item.file) (Unknown item.file)) _ want a.2 in
      let c = bind_ok (found (namespace_named w item.ns) (Unknown (cell_word (record { ns = item.ns; stem = item.stem })))) _ a.0 a.1 in
      let f = found-In (λ (x : Cell). is_attached x.standing && x.ns == c.0 && equals x.stem item.stem) w.cells a.0 (found_ok (cell_at w c.0 item.stem) (Unknown (cell_word (record { ns = item.ns; stem = item.stem }))) a.0 c.2) in
      let g = found-In (λ (x : Source). equals x.name item.file) sources b.0 (found_ok (file_named sources item.file) (Unknown item.file) b.0 b.1) in
      let t : is_attached a.0.standing ≡ true = (and_parts (is_attached a.0.standing) (a.0.ns == c.0) (and_parts (is_attached a.0.standing && a.0.ns == c.0) (equals a.0.stem item.stem) f.1).0).0 in
      subst IsWanted (ok_same _ want b.2)
      (record {
        file = g.0;
        space = ltb-true a.0.ns (length w.namespaces) (known_parts w a.0 (all-In (is_known_cell w) w.cells h.ready.cells a.0 f.0)).ns;
        present = λ old e. let q : a.0 ≡ old = cc in subst (λ (x : Cell). In x w.cells) q f.0;
        attached = λ old e. let q : a.0 ≡ old = cc in subst (λ (x : Cell). is_attached x.standing ≡ true) q t;
      })

  abbrev AllWanted : List Want → Type 0
  AllWanted wants = (want : Want) → In want wants → IsWanted want

  -- a fresh instance of an attached cell's own file
  renewed : (c : Cell) → In c w.cells → is_attached c.standing ≡ true → (want : Want) → renewal sources c ≡ Ok want → IsWanted want
  renewed c i t want e =
      let b = bind_ok (found (file_named sources c.file) (Unknown c.file)) _ want e in
      let g = found-In (λ (x : Source). equals x.name c.file) sources b.0 (found_ok (file_named sources c.file) (Unknown c.file) b.0 b.1) in
      subst IsWanted (ok_same _ want b.2)
      (record {
        file = g.0;
        space = ltb-true c.ns (length w.namespaces) (known_parts w c (all-In (is_known_cell w) w.cells h.ready.cells c i)).ns;
        present = λ old e. let q : c ≡ old = cc in subst (λ (x : Cell). In x w.cells) q i;
        attached = λ old e. let q : c ≡ old = cc in subst (λ (x : Cell). is_attached x.standing ≡ true) q t;
      })

  module _ {A : Type 0} (one : A → Outcome Want) where
    push_all : (items : List A) → ((a : A) → In a items → (want : Want) → one a ≡ Ok want → IsWanted want) → (before wants : List Want) → AllWanted before
        → each (λ wants item. one item >>= (λ want. Ok (wants ++ want ∷ []))) before items ≡ Ok wants → AllWanted wants
    push_all [] _ before wants k e = let s : before ≡ wants = ok_same _ _ e in subst AllWanted s k
    push_all (item ∷ items) wanted before wants k e =
        let a = bind_ok (one item >>= (λ want. Ok (before ++ want ∷ []))) _ wants e in
        let b = bind_ok (one item) _ a.0 a.1 in
        let s : before ++ b.0 ∷ [] ≡ a.0 = ok_same _ _ b.2 in
        push_all items (λ x i. wanted x (inr i)) a.0 wants (subst AllWanted s (λ want i. pick b.0 b.1 want (In-append before (b.0 ∷ []) want i))) a.2
      where
        pick : (x : Want) → one item ≡ Ok x → (want : Want) → In want before ⊎ In want (x ∷ []) → IsWanted want
        pick x o want (inl i) = k want i
        pick x o want (inr (inl i)) = subst IsWanted (sym i) (wanted item (inl refl) x o)
        pick x o want (inr (inr i)) = absurd i

  all_sound : (c : Change) → c.copies ≡ [] → AllWanted c.wants → IsSound sources w c
  all_sound c none all = record {
    files = In-All (λ (want : Want). In want.file sources) c.wants (λ want i. (all want i).file);
    spaces = In-All (λ (want : Want). want.ns < length w.namespaces) c.wants (λ want i. (all want i).space);
    present = In-All (λ (old : Cell). In old w.cells) (replaced c) (λ old i. let x = In-filter_map (λ (want : Want). want.replaces) c.wants old i in (all x.0 x.1).present old x.2);
    attached = In-All (λ (old : Cell). is_attached old.standing ≡ true) (replaced c) (λ old i. let x = In-filter_map (λ (want : Want). want.replaces) c.wants old i in (all x.0 x.1).attached old x.2);
    originals = subst (λ (copies : List Copy). All (λ copy. In copy.original w.cells) copies) (sym none) (In-All (λ (copy : Copy). In copy.original w.cells) [] (λ copy i. absurd i));
    copied = inl none;
  }

  pub swap_sound : (items : List SwapItem) (c : Change) → c.copies ≡ [] → wants_of sources w items ≡ Ok c.wants → IsSound sources w c
  swap_sound items c none e = all_sound c none (push_all (want_of sources w) items (λ item i. wanted item) [] c.wants (λ want i. absurd i) e)

  pub swap_made : (items : List SwapItem) (reexport strict : Bool) (words : List (List ℕ)) (budget : ℕ) (d : Done) → next_swap sources w items reexport strict words budget ≡ Ok d → HasMade sources w d
  swap_made items reexport strict words budget d e =
      let a = bind_ok (wants_of sources w items) _ d e in
      let asked : Change = record { wants = a.0; reexport = reexport; strict = strict; routines = words; budget = budget; restarts = None; copies = [] } in
      let m = bind_ok (make_change sources w asked) _ d a.2 in
      record {
        change = asked;
        sound = swap_sound items asked refl a.1;
        made = m.0;
        making = m.1;
        world = ap (λ (x : Done). x.world) (ok_same _ d m.2);
      }

  pub renewed_sound : (t : Task) (cells : List Cell) → AreAttached w cells → (wants : List Want) → renewals sources cells ≡ Ok wants → IsSound sources w (renewing wants t.number)
  renewed_sound t cells all wants e = all_sound (renewing wants t.number) refl (push_all (renewal sources) cells (λ c i. renewed c (all c i).0 (all c i).1) [] wants (λ want i. absurd i) e)

  renewed_made : (t : Task) (cells : List Cell) (said : ℕ → List CellId → ℕ → List CellId → List CellId → Reply) → AreAttached w cells → (d : Done) → next_renewed sources w t cells said ≡ Ok d → HasMade sources w d
  renewed_made t cells said all d e =
      let n = then_ok (need (not (length cells == 0)) (NoCrate t.number t.pc)) _ d e in
      let a = bind_ok (renewals sources cells) _ d n.2 in
      let m = bind_ok (make_change sources w (renewing a.0 t.number)) _ d a.2 in
      record {
        change = renewing a.0 t.number;
        sound = renewed_sound t cells all a.0 a.1;
        made = m.0;
        making = m.1;
        world = ap (λ (x : Done). x.world) (ok_same _ d m.2);
      }

  pub recover_made : (number : ℕ) (d : Done) → next_recover sources w number ≡ Ok d → HasMade sources w d
  recover_made number d e = let t = bind_ok (faulted_task w number) _ d e in renewed_made t.0 (recovery_of w t.0) (RecoverDone number) (recovery_taken w t.0) d t.2

  pub rebuild_made : (number : ℕ) (d : Done) → next_rebuild sources w number ≡ Ok d → HasMade sources w d
  rebuild_made number d e = let t = bind_ok (faulted_task w number) _ d e in renewed_made t.0 (rebuild_of w t.0) (RebuildDone number) (rebuild_taken w t.0) d t.2

err_same : {X : Type 0} (a b : Refusal) → (let one : Outcome X = Err a in one ≡ Err b) → a ≡ b
err_same a b e = cc

-- nothing is brought where no cell is new
brings_nothing : (turns : ℕ) (sources : List Source) (from : ℕ) (u : World) → fresh_cells from u ≡ [] → bring_within turns sources from u ≡ Ok u
brings_nothing zero sources from u none = refl
brings_nothing (suc turns) sources from u none =
    ap (λ (cs : List Cell). elim (first_lack u cs) as (λ _. Outcome World) [ None ↦ Ok u | Some lack ↦ bring_one sources u lack >>= (λ more. bring_within turns sources from more) ]) none

pub cloned : (sources : List Source) (w : World) (name sibling : List ℕ) (d : Done) → next_clone sources w name sibling ≡ Ok d → HasCloned sources w name sibling d
cloned sources w name sibling d e =
    let a = bind_ok (space_of w name) _ d e in
    let b = bind_ok (found (parent_of w a.0) (NoParent name)) _ d a.2 in
    let c = then_ok (need (is_none (namespace_named w sibling)) (NameTaken sibling)) _ d b.2 in
    let f = then_ok (need (nat_lt (length w.namespaces) max_namespaces) (TooMany Namespaces max_namespaces)) _ d c.2 in
    let m = bind_ok (make_change sources (with_namespace w sibling b.0) (clone_of w a.0)) _ d f.2 in
    let is = ok_same _ d m.2 in
    record {
      may = record {
        ns = a.0;
        parent = b.0;
        there = position_below (λ space. equals space.name name) w.namespaces a.0 (found_ok (namespace_named w name) (Unknown name) a.0 a.1);
        up = found_ok (parent_of w a.0) (NoParent name) b.0 b.1;
        free = none_is (namespace_named w sibling) (need_ok _ _ c.0 c.1);
        room = need_ok _ _ f.0 f.1;
      };
      made = m.0;
      making = m.1;
      reply = ap (λ (x : Done). x.reply) is;
      world = ap (λ (x : Done). x.world) is;
    }

module _ (sources : List Source) (w : World) (h : IsCoherent w) (sibling : List ℕ) (k : MayClone w sibling) where
  -- the machine with the namespace, in which no cell stands
  abbrev pub clone_base : World
  clone_base = with_namespace w sibling k.parent

  abbrev pub clone_change : Change
  clone_change = clone_of w k.ns

  pub base_coherent : IsCoherent clone_base
  base_coherent = coherent_after w h sibling k.parent (omega (arith, k.there, parent_below w h sibling k.ns k.parent k.there k.up)) k.free k.room

  abbrev pub clone_copies : List Cell
  clone_copies = copies_from w.next_cell (length w.namespaces) (cells_in w k.ns)

  abbrev pub clone_gathered : World
  clone_gathered = grown clone_base (w.cells ++ clone_copies) (w.next_cell + length (cells_in w k.ns)) w.regions

  fresh_copies : list_all (λ (x : Cell). nat_le w.next_cell x.id.0) clone_copies ≡ true
  fresh_copies = copies_fresh w h sibling k.ns k.parent k.there k.up

  -- nothing is brought for a machine without a new cell
  none_new : fresh_cells w.next_cell clone_base ≡ []
  none_new = filter_none (λ (x : Cell). nat_le w.next_cell x.id.0) w.cells (λ x i. below x.id.0 w.next_cell (older w h x i))
    where
      below : (n m : ℕ) → n < m → nat_le m n ≡ false
      below n m l = false_from_ne_true (nat_le m n) (λ t. omega (arith, l, leb-true m n t))

  brings_none : bring sources w.next_cell clone_base ≡ Ok clone_base
  brings_none = brings_nothing (suc max_cells) sources w.next_cell clone_base none_new

  -- the copies lack room alone
  abbrev LacksRoom : Refusal → Type 0
  LacksRoom r = (r ≡ TooMany Cells max_cells) ⊎ (r ≡ TooMany CellNumbers max_cell_number)

  one_lacks_room : (u : World) (copy : Copy) (r : Refusal) → append_copy u copy ≡ Err r → LacksRoom r
  one_lacks_room u copy r e = go (nat_lt (length u.cells) max_cells) (nat_le u.next_cell max_cell_number) e
    where
      go : (a b : Bool) → (need a (TooMany Cells max_cells) >> (need b (TooMany CellNumbers max_cell_number) >> Ok (with_next u (copy_of u copy)))) ≡ Err r → LacksRoom r
      go false b e = inl (sym (err_same (TooMany Cells max_cells) r e))
      go true false e = inr (sym (err_same (TooMany CellNumbers max_cell_number) r e))
      go true true e = absurd (cc e)

  all_lack_room : (copies : List Copy) (u : World) (r : Refusal) → each append_copy u copies ≡ Err r → LacksRoom r
  all_lack_room [] u r e = absurd (cc e)
  all_lack_room (copy ∷ copies) u r e = go (λ v more. all_lack_room copies v r more) (append_copy u copy) refl e
    where
      go : ((v : World) → each append_copy v copies ≡ Err r → LacksRoom r) → (o : Outcome World) → append_copy u copy ≡ o → (o >>= (λ v. each append_copy v copies)) ≡ Err r → LacksRoom r
      go rest (Ok v) is e = rest v e
      go rest (Err x) is e = one_lacks_room u copy r (is ∙ e)

  pub clone_room : (r : Refusal) → gather sources clone_base clone_change ≡ Err r → LacksRoom r
  clone_room r e =
      all_lack_room clone_change.copies clone_base r
      (sym (ap (λ (o : Outcome World). o >>= (λ u. each append_copy u clone_change.copies)) brings_none) ∙ e)

  module _ (g : World) (e : gather sources clone_base clone_change ≡ Ok g) where
    pub copied_all : AreCopied (length w.namespaces) clone_base (cells_in w k.ns) g
    copied_all =
        let b = bind_ok (bring sources w.next_cell clone_base) _ g e in
        let same : clone_base ≡ b.0 = ok_same clone_base b.0 (sym brings_none ∙ b.1) in
        all_copied (length w.namespaces) (cells_in w k.ns) clone_base g base_coherent.ready.few_cells base_coherent.ready.cell_numbers
        (subst (λ (u : World). each append_copy u (copies_into (length w.namespaces) (cells_in w k.ns)) ≡ Ok g) (sym same) b.2)

    pub ranks : Ranks clone_gathered
    ranks = copied_ranks w h sibling k.ns k.parent k.there k.up g copied_all

    pub new_are : fresh_cells w.next_cell clone_gathered ≡ clone_copies
    new_are = fresh_is clone_base (ready_base clone_base base_coherent.ready) clone_copies (w.next_cell + length (cells_in w k.ns)) fresh_copies

    has_copied : HasCopied clone_base clone_change clone_gathered
    has_copied = record {
      new = clone_copies;
      next = w.next_cell + length (cells_in w k.ns);
      is = refl;
      attached = copies_attached w h sibling k.ns k.parent k.there k.up;
      fresh = fresh_copies;
      enough = omega arith;
      names = ranks.names;
      own_names = ranks.own_names;
      order = ranks.order;
      known = ranks.known;
      objects = ranks.objects;
      few = ranks.few;
      last = ranks.last;
      supplied = ap (first_lack clone_gathered) new_are ∙ copies_lack_nothing w h sibling k.ns k.parent k.there k.up;
    }

    pub clone_has_copied : HasCopied clone_base clone_change g
    clone_has_copied = subst (HasCopied clone_base clone_change) copied_all.is has_copied

  abbrev copy_into : Cell → Copy
  copy_into c = record { original = c; ns = length w.namespaces }

  pub clone_sound : IsSound sources clone_base clone_change
  clone_sound = record {
    files = In-All (λ (want : Want). In want.file sources) [] (λ want i. absurd i);
    spaces = In-All (λ (want : Want). want.ns < length clone_base.namespaces) [] (λ want i. absurd i);
    present = In-All (λ (old : Cell). In old clone_base.cells) [] (λ old i. absurd i);
    attached = In-All (λ (old : Cell). is_attached old.standing ≡ true) [] (λ old i. absurd i);
    originals = In-All (λ (copy : Copy). In copy.original w.cells) clone_change.copies
        (λ copy i. let x = In-map (λ (c : Cell). copy_into c) (cells_in w k.ns) copy i in
        subst (λ (y : Copy). In y.original w.cells) (sym x.2) (In-filtered (is_in_space k.ns) w.cells x.0 x.1));
    copied = inr clone_has_copied;
  }

-- an accepted one is a change of the machine with the namespace
pub clone_made : (sources : List Source) (w : World) (h : IsCoherent w) (name sibling : List ℕ) (d : Done) (k : HasCloned sources w name sibling d) → HasMade sources (clone_base sources w h sibling k.may) d
clone_made sources w h name sibling d k =
    record { change = clone_change sources w h sibling k.may; sound = clone_sound sources w h sibling k.may; made = k.made; making = k.making; world = k.world }
