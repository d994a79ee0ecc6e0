-- A plan, an entry that doesn't fit and a task inside what changes are answered of a machine in which a change's new cells have their places.
use Rattle.std.proofs.Common.{◌≡◌, refl, sym, ap, subst, ℕ, zero, suc, ◌+◌, Bool, true, false, cond, not, List, [], ◌∷◌, length, Option, Some, None, Ok, Err}
use Rattle.std.specs.Prelude.{◌*◌, ◌/◌, is_some, nat_le, nat_lt, option_and_then, option_map, Result}
use Rattle.cell_num.specs.Lists.{or_else}
use Rattle.cell_object.specs.declared.object.Object.{Object}
use Rattle.cell_object.specs.declared.object.Section.{Section as ObjectSection}
use Rattle.cell_object.specs.Bytes.{Broken}
use Rattle.cell_world.specs.declared.layout.Class.{Class}
use Rattle.cell_world.specs.declared.layout.Class.TheVariants.{Text, ReadOnly, Writable}
use Rattle.cell_world.specs.declared.refusal.Many.TheVariants.{Cells, CellNumbers}
use Rattle.cell_world.specs.declared.refusal.Refusal.{Refusal}
use Rattle.cell_world.specs.declared.refusal.Refusal.TheVariants.{Ambiguous, BadObject, Exhausted, NoEntry, Overflow, TooMany, Torn}
use Rattle.cell_world.specs.Change.{Change, Copy, Plan, append_copy, append_want, first_uncovered, gather, new_since, plan_of, restart_refusal, restarting, set_aside, with_names}
use Rattle.cell_world.specs.Gather.{Source, Need, append_cell, bring, bring_one, bring_within, clash_among, depot_files, duplicate, first_lack, fresh_cells, has_stem_in, missing, name_of_ns, nearest_file, object_in, one_file, stem_of_file}
use Rattle.cell_world.specs.Placed.Layout.{image_of, sections_in}
use Rattle.cell_num.specs.Limits.{max_cells, max_cell_number}
use Rattle.cell_world.specs.Names.{chain, clash_name, clash_stem, crate_of, definitions_of}
use Rattle.cell_world.specs.Outcome.{Outcome, ◌>>=◌, ◌>>◌, need, found, refused_by, each}
use Rattle.cell_world.specs.Placed.Pages.{longest_run, lowest_run}
use Rattle.cell_world.specs.Placed.Place.{page_table, place_all, place_cell, place_class, place_sections, start_of_run}
use Rattle.cell_world.specs.Commands.SwapTransfer.{Begin, begin_of, begins_of, stack_for}
use Rattle.cell_world.specs.Running.Restart.{entry_again, no_entry_again}
use Rattle.cell_world.specs.World.{World, Cell, Alias, Task}
use Rattle.cell_lemmas.proofs.Naming.Appended.{unmapped}
use Rattle.cell_lemmas.proofs.Outcomes.{refused_ok}
use Rattle.cell_change_law.specs.Answered.{IsOfPlaced, HasAnswered}
use Rattle.cell_change_law.specs.Sound.{HasCome}
use Rattle.cell_change_law.proofs.Planning.{plan_is}

-- a refusal of another kind
abbrev IsEarly : Refusal → Type 0
IsEarly (Overflow cell section offset kind) = ⊥
IsEarly (Torn task cell section offset) = ⊥
IsEarly _ = Unit {0}

-- a step that refuses by such alone
abbrev RefusesEarly : {X : Type 0} → Outcome X → Type 0
RefusesEarly o = (refusal : Refusal) → o ≡ Err refusal → IsEarly refusal

apart : (refusal : Refusal) → IsOfPlaced (Err refusal) → IsEarly refusal → ⊥
apart (Overflow cell section offset kind) of early = early
apart (Torn task cell section offset) of early = early
apart _ of early = of

module _ {X : Type 0} where
  passes : (x : X) → RefusesEarly (let o : Outcome X = Ok x in o)
  passes x refusal e = cc

  refuses : (r : Refusal) → IsEarly r → RefusesEarly (let o : Outcome X = Err r in o)
  refuses r early refusal e = subst IsEarly (ap (λ (o : Outcome X). elim o as (λ _. Refusal) [ Ok x ↦ r | Err s ↦ s ]) e) early

  found_early : (o : Option X) (r : Refusal) → IsEarly r → RefusesEarly (found o r)
  found_early None r early = refuses r early
  found_early (Some x) r early = passes x

module _ {X Y : Type 0} where
  bind_early : (a : Outcome X) (f : X → Outcome Y) → RefusesEarly a → ((x : X) → RefusesEarly (f x)) → RefusesEarly (a >>= f)
  bind_early (Ok x) f first second = second x
  bind_early (Err r) f first second = refuses r (first r refl)

  next_early : (a : Outcome X) (b : Outcome Y) → RefusesEarly a → RefusesEarly b → RefusesEarly (a >> b)
  next_early (Ok x) b first second = second
  next_early (Err r) b first second = refuses r (first r refl)

each_early : {X A : Type 0} (f : X → A → Outcome X) → ((x : X) (a : A) → RefusesEarly (f x a)) → (items : List A) (x : X) → RefusesEarly (each f x items)
each_early f early [] x = passes x
each_early f early (a ∷ items) x = bind_early (f x a) (λ y. each f y items) (early x a) (each_early f early items)

need_early : (b : Bool) (r : Refusal) → IsEarly r → RefusesEarly (need b r)
need_early true r early = passes tt
need_early false r early = refuses r early

mapped_early : {X : Type 0} (refusal_of : X → Refusal) → ((x : X) → IsEarly (refusal_of x)) → (o : Option X) → RefusesEarly (refused_by (option_map refusal_of o))
mapped_early refusal_of early None = passes tt
mapped_early refusal_of early (Some x) = refuses (refusal_of x) (early x)

clash_early : (w : World) (ns : ℕ) (names : List Alias) → RefusesEarly (refused_by (clash_among w ns names))
clash_early w ns [] = passes tt
clash_early w ns (a ∷ names) = go (clash_name w ns a.name) (clash_early w ns names)
  where
    go : (o : Option ℕ) → RefusesEarly (refused_by (clash_among w ns names)) → RefusesEarly (refused_by (or_else (option_map (duplicate a.name) o) (clash_among w ns names)))
    go None rest = rest
    go (Some n) rest = refuses (duplicate a.name n) tt

object_early : (f : Source) → RefusesEarly (object_in f)
object_early f = go f.reading
  where
    go : (r : Result Object Broken) → RefusesEarly (elim r as (λ _. Outcome Object) [ Ok object ↦ Ok object | Err broken ↦ Err (BadObject f.name broken.0 broken.1) ])
    go (Ok object) = passes object
    go (Err broken) = refuses (BadObject f.name broken.0 broken.1) tt

append_early : (w : World) (f : Source) (ns : ℕ) → RefusesEarly (append_cell w f ns)
append_early w f ns =
    next_early (need (nat_lt (length w.cells) max_cells) (TooMany Cells max_cells)) _ (need_early _ _ tt)
    (next_early (need (nat_le w.next_cell max_cell_number) (TooMany CellNumbers max_cell_number)) _ (need_early _ _ tt)
    (bind_early (object_in f) _ (object_early f)
    (λ object. next_early (refused_by (option_map (duplicate (stem_of_file f.name)) (clash_stem w ns (stem_of_file f.name)))) _ (mapped_early (duplicate (stem_of_file f.name)) (λ n. tt) _)
    (next_early (refused_by (clash_among w ns (definitions_of object))) _ (clash_early w ns (definitions_of object)) (passes _)))))

copy_early : (w : World) (copy : Copy) → RefusesEarly (append_copy w copy)
copy_early w copy =
    next_early (need (nat_lt (length w.cells) max_cells) (TooMany Cells max_cells)) _ (need_early _ _ tt)
    (next_early (need (nat_le w.next_cell max_cell_number) (TooMany CellNumbers max_cell_number)) _ (need_early _ _ tt) (passes _))

one_file_early : (files : List Source) (lacking : Refusal) → IsEarly lacking → RefusesEarly (one_file files lacking)
one_file_early [] lacking early = refuses lacking early
one_file_early (f ∷ []) lacking early = passes f
one_file_early (f ∷ g ∷ rest) lacking early = refuses (Ambiguous f.name g.name) tt

nearest_early : (w : World) (sources : List Source) (spaces : List ℕ) (stem : List ℕ) (lacking : Refusal) → IsEarly lacking → RefusesEarly (nearest_file w sources spaces stem lacking)
nearest_early w sources [] stem lacking early = refuses lacking early
nearest_early w sources (ns ∷ spaces) stem lacking early = go (depot_files sources (name_of_ns w ns) stem) (nearest_early w sources spaces stem lacking early)
  where
    go : (files : List Source) → RefusesEarly (nearest_file w sources spaces stem lacking) → RefusesEarly (elim files as (λ _. Outcome (ℕ × Source)) [
      | [] ↦ nearest_file w sources spaces stem lacking
      | f ∷ files ↦ one_file (f ∷ files) lacking >>= (λ file. Ok (ns, file))
    ])
    go [] rest = rest
    go (f ∷ files) rest = bind_early (one_file (f ∷ files) lacking) (λ file. Ok (ns, file)) (one_file_early (f ∷ files) lacking early) (λ file. passes (ns, file))

bring_one_early : (sources : List Source) (w : World) (lack : Need) → RefusesEarly (bring_one sources w lack)
bring_one_early sources w lack =
    bind_early (found (crate_of lack.name) (missing lack)) _ (found_early _ _ tt)
    (λ stem. next_early (need (not (has_stem_in w (chain w.namespaces lack.cell.ns) stem)) (missing lack)) _ (need_early _ _ tt)
    (bind_early (nearest_file w sources (chain w.namespaces lack.cell.ns) stem (missing lack)) _ (nearest_early w sources (chain w.namespaces lack.cell.ns) stem (missing lack) tt)
    (λ file. append_early w file.1 file.0)))

bring_early : (turns : ℕ) (sources : List Source) (from : ℕ) (w : World) → RefusesEarly (bring_within turns sources from w)
bring_early zero sources from w = passes w
bring_early (suc turns) sources from w = go (first_lack w (fresh_cells from w)) (bring_early turns sources from)
  where
    go : (o : Option Need) → ((more : World) → RefusesEarly (bring_within turns sources from more)) → RefusesEarly (elim o as (λ _. Outcome World) [
      | None ↦ Ok w
      | Some lack ↦ bring_one sources w lack >>= (λ more. bring_within turns sources from more)
    ])
    go None rest = passes w
    go (Some lack) rest = bind_early (bring_one sources w lack) (λ more. bring_within turns sources from more) (bring_one_early sources w lack) rest

gather_early : (sources : List Source) (w : World) (c : Change) → RefusesEarly (gather sources w c)
gather_early sources w c =
    bind_early (each append_want (set_aside w c) c.wants) _ (each_early append_want (λ v want. append_early v want.file want.ns) c.wants (set_aside w c))
    (λ appended. bind_early (bring sources w.next_cell (with_names w.next_cell c appended)) _ (bring_early (suc max_cells) sources w.next_cell (with_names w.next_cell c appended))
    (λ brought. each_early append_copy copy_early c.copies brought))

begins_early : (cells : List Cell) (words : List (List ℕ)) → RefusesEarly (begins_of cells words)
begins_early cells words = each_early _ (λ begins word. bind_early (found (begin_of cells word) (NoEntry word)) _ (found_early _ _ tt) (λ begin. passes _)) words []

run_early : (w : World) (n : ℕ) → RefusesEarly (start_of_run w n)
run_early w n = go (lowest_run (page_table w) n)
  where
    go : (o : Option ℕ) → RefusesEarly (elim o as (λ _. Outcome ℕ) [ None ↦ Err (Exhausted n (longest_run (page_table w))) | Some page ↦ Ok (w.base + 4096 * page) ])
    go None = refuses (Exhausted n (longest_run (page_table w))) tt
    go (Some page) = passes (w.base + 4096 * page)

sections_early : (w : World) (class : Class) (sections : List ObjectSection) → RefusesEarly (place_sections w class sections)
sections_early w class [] = passes _
sections_early w class (s ∷ rest) = bind_early (start_of_run w (length (image_of (s ∷ rest)) / 4096)) _ (run_early w _) (λ start. passes _)

cell_early : (w : World) (c : Cell) → RefusesEarly (place_cell w c)
cell_early w c =
    bind_early (place_class w Text c.object) _ (sections_early w Text (sections_in Text c.object))
    (λ text. bind_early (place_class text.world ReadOnly c.object) _ (sections_early text.world ReadOnly (sections_in ReadOnly c.object))
    (λ read_only. bind_early (place_class read_only.world Writable c.object) _ (sections_early read_only.world Writable (sections_in Writable c.object))
    (λ writable. passes _)))

restart_early : (w : World) (c : Change) (g : World) → RefusesEarly (refused_by (restart_refusal w c g))
restart_early w c g = go (restarting w c)
  where
    one : (t : Task) (b : Bool) → RefusesEarly (refused_by (cond b None (Some (NoEntry t.origin.name))))
    one t true = passes tt
    one t false = refuses (NoEntry t.origin.name) tt

    go : (o : Option Task) → RefusesEarly (refused_by (option_and_then (no_entry_again g) o))
    go None = passes tt
    go (Some t) = one t (is_some (entry_again g t))

stack_early : (w : World) (words : List (List ℕ)) → RefusesEarly (stack_for w words)
stack_early w [] = passes None
stack_early w (word ∷ words) = bind_early (start_of_run w 4) _ (run_early w 4) (λ stack. passes (Some stack))

-- before an answer of the placed machine each step passes
module _ {X : Type 0} where
  passed : (a : Outcome X) (f : X → Outcome Plan) (answer : Outcome Plan) → RefusesEarly a → (a >>= f) ≡ answer → IsOfPlaced answer → (x : X) × (a ≡ Ok x) × (f x ≡ answer)
  passed (Ok x) f answer early e of = (x, refl, e)
  passed (Err r) f answer early e of = absurd (apart r (subst IsOfPlaced (sym e) of) (early r refl))

  passed_by : (a : Outcome X) (b : Outcome Plan) (answer : Outcome Plan) → RefusesEarly a → (a >> b) ≡ answer → IsOfPlaced answer → (x : X) × (a ≡ Ok x) × (b ≡ answer)
  passed_by (Ok x) b answer early e of = (x, refl, e)
  passed_by (Err r) b answer early e of = absurd (apart r (subst IsOfPlaced (sym e) of) (early r refl))

module _ (sources : List Source) (v : World) (c : Change) where
  with_answer : (placed : World) (come : HasCome sources v c placed) (begins : List Begin) (stack : Option ℕ) → begins_of (new_since v come.gathered) c.routines ≡ Ok begins → restart_refusal v c come.gathered ≡ None
      → stack_for placed c.routines ≡ Ok stack
      → HasAnswered sources v c
  with_answer placed come begins stack b r s =
      record { placed = placed; come = come; begins = begins; stack = stack; begin_all = b; begins_again = r; stack_free = s; answer = plan_is sources v c placed come begins stack b r s }

  answered_by : (answer : Outcome Plan) → plan_of sources v c ≡ answer → IsOfPlaced answer → HasAnswered sources v c
  answered_by answer e of =
      let b = passed (gather sources v c) _ answer (gather_early sources v c) e of in
      let d = passed_by (refused_by (option_map missing (first_uncovered v c b.0))) _ answer (mapped_early missing (λ lack. tt) (first_uncovered v c b.0)) b.2 of in
      let m = passed (begins_of (new_since v b.0) c.routines) _ answer (begins_early (new_since v b.0) c.routines) d.2 of in
      let n = passed_by (refused_by (restart_refusal v c b.0)) _ answer (restart_early v c b.0) m.2 of in
      let p = passed (place_all b.0 (new_since v b.0)) _ answer (each_early place_cell cell_early (new_since v b.0) b.0) n.2 of in
      let s = passed (stack_for p.0 c.routines) _ answer (stack_early p.0 c.routines) p.2 of in
      with_answer p.0 (record { gathered = b.0; gathering = b.1; covered = unmapped missing (first_uncovered v c b.0) (refused_ok (option_map missing (first_uncovered v c b.0)) d.0 d.1); placing = p.1 }) m.0 s.0 m.1 (refused_ok (restart_refusal v c b.0) n.0 n.1) s.1

  pub has_answered : IsOfPlaced (plan_of sources v c) → HasAnswered sources v c
  has_answered of = answered_by (plan_of sources v c) refl of
