-- A change of cells brings cells of files alone, so each cell goes on to be what its file is read as, and all names to be spelled as such.
use Rattle.std.proofs.Common.{◌≡◌, refl, sym, ◌∙◌, ap, subst, arith, ℕ, ◌≤◌, inl, inr, ◌⊎◌, Bool, true, false, cond, not, List, [], ◌∷◌, ◌++◌, length, length-append, suc, Ok, Option, Some, None}
use Rattle.std.specs.Prelude.{All, ◌==◌, ◌/◌, filter, filter_map, fold, map, nat_le, nat_lt, option_and_then, option_map}
use Rattle.std.specs.List.{cons_option}
use Rattle.std.proofs.lemmas.Bool.{and_parts, ltb-true, not-true}
use Rattle.std.proofs.lemmas.List.{length-map}
use Rattle.std.proofs.lemmas.Slice.Eq.{bytes_eq-Decides}
use Rattle.cell_num.specs.Lists.{each_pair, equals, holds, In}
use Rattle.cell_num.proofs.Sublists.{length-filter_le}
use Rattle.cell_num.proofs.Elements.{All-In, In-All, In-append, In-filtered, In-map, all-In}
use Rattle.cell_object.specs.declared.object.Section.{Section as ObjectSection}
use Rattle.cell_object.specs.Symbols.{is_global_name}
use Rattle.cell_world.specs.declared.layout.Class.{Class}
use Rattle.cell_world.specs.declared.layout.Class.TheVariants.{Text, ReadOnly, Writable}
use Rattle.cell_world.specs.declared.layout.Starts.{Starts}
use Rattle.cell_script.specs.Grammar.{is_name}
use Rattle.cell_world.specs.declared.state.Namespace.{Namespace}
use Rattle.cell_world.specs.declared.state.SecPlace.{SecPlace}
use Rattle.cell_world.specs.declared.state.Standing.{Standing}
use Rattle.cell_world.specs.declared.state.Standing.TheVariants.{Detached}
use Rattle.cell_world.specs.Answer.{Done}
use Rattle.cell_world.specs.Change.{Change, Copy, Made, Plan, Want, append_copy, append_want, copy_of, exchange_at, exchanges_from, gather, garbage_after, make_change, old_of, replaced, set_aside, swapped_out, with_names}
use Rattle.cell_world.specs.Coherent.{IsCoherent}
use Rattle.cell_world.specs.Gather.{Source, append_cell, bring, file_named, fresh_cells, new_cell}
use Rattle.cell_world.specs.Placed.Layout.{image_of, places_in}
use Rattle.cell_world.specs.Names.{names_of}
use Rattle.cell_world.specs.Outcome.{each, need}
use Rattle.cell_num.specs.Limits.{max_cell_number, max_cells}
use Rattle.cell_world.specs.declared.refusal.Many.TheVariants.{Cells, CellNumbers}
use Rattle.cell_world.specs.declared.refusal.Refusal.TheVariants.{TooMany}
use Rattle.cell_world.specs.Placed.Place.{Placing, place_cell, place_sections, start_of_run, with_places, with_run}
use Rattle.cell_world.specs.Reexport.{Exchange, heir_of, take_on, with_alias, with_reexports}
use Rattle.cell_world.specs.Commands.UnloadCommand.{put_aside, without_cells}
use Rattle.cell_world.specs.World.{Alias, Cell, World, cell_of}
use Rattle.cell_lemmas.proofs.Naming.Appended.{Appended, append_ok, ok_same}
use Rattle.cell_lemmas.proofs.Naming.Brought.{brought}
use Rattle.cell_lemmas.proofs.Outcomes.{bind_ok, need_ok, then_ok}
use Rattle.cell_lemmas.proofs.Placement.PlacedAll.{CellRuns, cell_runs, each_keeps}
use Rattle.cell_change_law.specs.Sound.{HasMade, IsSound}
use Rattle.cell_change_law.proofs.Ending.{last_parts}
use Rattle.cell_change_law.proofs.Steps.{Changed, Planned, changed, planned}
use Rattle.cell_origin_law.specs.Readings.{AreApart, IsRead}
use Rattle.cell_origin_law.specs.Spelled.{AreNamed, IsNamedSource, IsShortReading, IsSpelled, IsSpelledCell}
use Rattle.cell_origin_law.proofs.Names.{named_well}

-- of files of different names each is found by its own
pub found_by_name : (sources : List Source) → AreApart sources → (f : Source) → In f sources → file_named sources f.name ≡ Some f
found_by_name [] apart f k = absurd k
found_by_name (g ∷ rest) apart f (inl e) =
    subst (λ (v : Source). cond (equals g.name v.name) (Some g) (file_named rest v.name) ≡ Some v) (sym e)
    (ap (λ b. cond b (Some g) (file_named rest g.name)) ((bytes_eq-Decides g.name g.name).1 refl))
found_by_name (g ∷ rest) apart f (inr k) =
    let parts = and_parts _ (each_pair (λ f g. not (equals f.name g.name)) rest) apart in
    ap (λ b. cond b (Some g) (file_named rest f.name)) (not-true (equals g.name f.name) (all-In (λ h. not (equals g.name h.name)) rest parts.0 f k))
    ∙ found_by_name rest parts.1 f k

-- a run of a class changes regions alone
sections_rest : (w : World) (class : Class) (sections : List ObjectSection) (p : Placing) → place_sections w class sections ≡ Ok p → record p.world { regions = w.regions } ≡ w
sections_rest w class [] p h = subst (λ (x : Placing). record x.world { regions = w.regions } ≡ w) (ok_same _ p h) refl
sections_rest w class (s ∷ rest) p h =
    let b = bind_ok (start_of_run w (length (image_of (s ∷ rest)) / 4096)) _ p h in
    subst (λ (x : Placing). record x.world { regions = w.regions } ≡ w) (ok_same (with_run w class (s ∷ rest) b.0) p b.2) refl

module _ (sources : List Source) where
  -- what a cell is that has come of a file
  abbrev pub IsGood : Cell → Type 0
  IsGood c = IsRead sources c × IsSpelledCell c

  -- and all cells, of which there are not too many
  pub record IsKept (w : World) : Type 0 where
    pub cells : All IsGood w.cells
    pub spelled : IsSpelled w
    pub few : length w.cells ≤ 1024

-- the same cell elsewhere
moved_spelled : (c : Cell) (places : List SecPlace) → IsSpelledCell c → IsSpelledCell (record c { placed = record c.placed { places = places } })
moved_spelled c places s = record { stem = s.stem; file = s.file; aliases = s.aliases; number = s.number; sections = s.sections }

standing_spelled : (c : Cell) (standing : Standing) → IsSpelledCell c → IsSpelledCell (record c { standing = standing })
standing_spelled c standing s = record { stem = s.stem; file = s.file; aliases = s.aliases; number = s.number; sections = s.sections }

called_spelled : (c : Cell) (a : Alias) → is_global_name a.name ≡ true → IsSpelledCell c → IsSpelledCell (record c { aliases = c.aliases ++ a ∷ [] })
called_spelled c a named s = record {
  stem = s.stem;
  file = s.file;
  aliases = In-All (λ (a : Alias). is_global_name a.name ≡ true) (c.aliases ++ a ∷ []) (λ b i. go b (In-append c.aliases (a ∷ []) b i));
  number = s.number;
  sections = s.sections;
}
  where
    go : (b : Alias) → In b c.aliases ⊎ In b (a ∷ []) → is_global_name b.name ≡ true
    go b (inl i) = All-In (λ (a : Alias). is_global_name a.name ≡ true) c.aliases s.aliases b i
    go b (inr (inl e)) = subst (λ (x : Alias). is_global_name x.name ≡ true) (sym e) named
    go b (inr (inr i)) = absurd i

module _ (sources : List Source) (apart : AreApart sources) (named : AreNamed sources) where
  abbrev Good : Cell → Type 0
  Good c = IsRead sources c × IsSpelledCell c

  -- of these cells, with no other number given
  with_cells : (w : World) → IsKept sources w → (cells : List Cell) → ((c : Cell) → In c cells → Good c) → length cells ≤ 1024 → (u : World) → u.cells ≡ cells → u.namespaces ≡ w.namespaces → u.next_cell ≡ w.next_cell → IsKept sources u
  with_cells w k cells good few u cells_are spaces_are next_is =
      let all : All Good u.cells = subst (λ (cs : List Cell). All Good cs) (sym cells_are) (In-All Good cells good) in
      record {
        cells = all;
        spelled = record {
          spaces = subst (λ (ss : List Namespace). All (λ (s : Namespace). is_name s.name ≡ true) ss) (sym spaces_are) k.spelled.spaces;
          cells = In-All IsSpelledCell u.cells (λ c i. (All-In Good u.cells all c i).1);
          next = let n = k.spelled.next in omega (arith, n, next_is);
        };
        few = omega (arith, few, ap length cells_are);
      }

  good_in : (w : World) → IsKept sources w → (c : Cell) → In c w.cells → Good c
  good_in w k = All-In Good w.cells k.cells

  -- each cell changed in one way
  each_kept : (f : Cell → Cell) → ((c : Cell) → Good c → Good (f c)) → (w : World) → IsKept sources w → (u : World) → u.cells ≡ map f w.cells → u.namespaces ≡ w.namespaces → u.next_cell ≡ w.next_cell → IsKept sources u
  each_kept f keep w k =
      with_cells w k (map f w.cells) (λ c i. let x = In-map f w.cells c i in subst Good (sym x.2) (keep x.0 (good_in w k x.0 x.1))) (let n = k.few in omega (arith, n, length-map w.cells f))

  append_kept : (w : World) (f : Source) (ns : ℕ) (w' : World) → In f sources → append_cell w f ns ≡ Ok w' → IsKept sources w → IsKept sources w'
  append_kept w f ns w' k e kept = subst (IsKept sources) app.is (record {
    cells = In-All Good (w.cells ++ new ∷ []) good;
    spelled = record {
      spaces = kept.spelled.spaces;
      cells = In-All IsSpelledCell (w.cells ++ new ∷ []) (λ c i. (good c i).1);
      next = omega arith;
    };
    few = omega (arith, length-append w.cells (new ∷ []), ltb-true (length w.cells) 1024 app.room);
  })
    where
      app : Appended w f ns w'
      app = append_ok w f ns w' e

      new : Cell
      new = new_cell w ns f app.object

      source : IsNamedSource f
      source = All-In IsNamedSource sources named f k

      new_good : Good (new_cell w ns f app.object)
      new_good = (
        ap (option_map (λ (g : Source). g.reading)) (found_by_name sources apart f k) ∙ ap Some app.reading,
        record {
          stem = source.stem;
          file = source.file;
          aliases = In-All (λ (a : Alias). is_global_name a.name ≡ true) [] (λ a i. absurd i);
          number = kept.spelled.next;
          sections = subst IsShortReading app.reading source.reading;
        },
      )

      good : (c : Cell) → In c (w.cells ++ new_cell w ns f app.object ∷ []) → Good c
      good c i = go (In-append w.cells (new_cell w ns f app.object ∷ []) c i)
        where
          go : In c w.cells ⊎ In c (new_cell w ns f app.object ∷ []) → Good c
          go (inl j) = good_in w kept c j
          go (inr (inl same)) = subst Good (sym same) new_good
          go (inr (inr j)) = absurd j

  -- the replaced cells are put aside
  aside_good : (number : ℕ) (old : List ℕ) (c : Cell) → Good c → Good (put_aside number old c)
  aside_good number old c g = go (holds old c.id.0)
    where
      go : (b : Bool) → Good (cond b (record c { standing = Detached number }) c)
      go true = (g.0, standing_spelled c (Detached number) g.1)
      go false = g

  aside_kept : (w : World) (old : List ℕ) → IsKept sources w → IsKept sources (swapped_out w old)
  aside_kept w [] k = k
  aside_kept w (n ∷ old) k = each_kept (put_aside (suc w.swaps) (n ∷ old)) (aside_good (suc w.swaps) (n ∷ old)) w k (swapped_out w (n ∷ old)) refl refl refl

  wants_kept : (all : List Want) → ((want : Want) → In want all → In want.file sources) → (w u : World) → each append_want w all ≡ Ok u → IsKept sources w → IsKept sources u
  wants_kept [] files w u e k = subst (IsKept sources) (ok_same w u e) k
  wants_kept (want ∷ all) files w u e k =
      let a = bind_ok (append_want w want) (λ y. each append_want y all) u e in
      wants_kept all (λ x i. files x (inr i)) a.0 u a.2 (append_kept w want.file want.ns a.0 (files want (inl refl)) a.1 k)

  -- a copy is what its original is
  copy_good : (w : World) (copy : Copy) → IsKept sources w → Good copy.original → Good (copy_of w copy)
  copy_good w copy kept g = (g.0, record { stem = g.1.stem; file = g.1.file; aliases = g.1.aliases; number = kept.spelled.next; sections = g.1.sections })

  copy_kept : (w : World) (copy : Copy) (w' : World) → Good copy.original → append_copy w copy ≡ Ok w' → IsKept sources w → IsKept sources w'
  copy_kept w copy w' g e kept =
      let a = then_ok (need (nat_lt (length w.cells) max_cells) (TooMany Cells max_cells)) _ w' e in
      let b = then_ok (need (nat_le w.next_cell max_cell_number) (TooMany CellNumbers max_cell_number)) _ w' a.2 in
      subst (IsKept sources) (ok_same _ w' b.2) (record {
        cells = In-All Good (w.cells ++ copy_of w copy ∷ []) good;
        spelled = record {
          spaces = kept.spelled.spaces;
          cells = In-All IsSpelledCell (w.cells ++ copy_of w copy ∷ []) (λ c i. (good c i).1);
          next = omega arith;
        };
        few = omega (arith, length-append w.cells (copy_of w copy ∷ []), ltb-true (length w.cells) max_cells (need_ok _ _ a.0 a.1));
      })
    where
      good : (c : Cell) → In c (w.cells ++ copy_of w copy ∷ []) → Good c
      good c i = go (In-append w.cells (copy_of w copy ∷ []) c i)
        where
          go : In c w.cells ⊎ In c (copy_of w copy ∷ []) → Good c
          go (inl j) = good_in w kept c j
          go (inr (inl same)) = subst Good (sym same) (copy_good w copy kept g)
          go (inr (inr j)) = absurd j

  copies_kept : (copies : List Copy) → ((copy : Copy) → In copy copies → Good copy.original) → (w u : World) → each append_copy w copies ≡ Ok u → IsKept sources w → IsKept sources u
  copies_kept [] good w u e k = subst (IsKept sources) (ok_same w u e) k
  copies_kept (copy ∷ copies) good w u e k =
      let a = bind_ok (append_copy w copy) (λ y. each append_copy y copies) u e in
      copies_kept copies (λ x i. good x (inr i)) a.0 u a.2 (copy_kept w copy a.0 (good copy (inl refl)) a.1 k)

  -- names are handed on
  alias_good : (number : ℕ) (a : Alias) → is_global_name a.name ≡ true → (c : Cell) → Good c → Good (with_alias number a c)
  alias_good number a well c g = go (c.id.0 == number)
    where
      go : (b : Bool) → Good (cond b (record c { aliases = c.aliases ++ a ∷ [] }) c)
      go true = (g.0, called_spelled c a well g.1)
      go false = g

  take_on_kept : (number : ℕ) (old : Alias) → is_global_name old.name ≡ true → (w : World) → IsKept sources w → IsKept sources (take_on number w old)
  take_on_kept number old well w k = go (option_and_then (λ c. heir_of w c old.name) (cell_of w number))
    where
      go : (o : Option ℕ) → IsKept sources (elim o as (λ _. World) [ None ↦ w | Some symbol ↦ record w { cells = map (with_alias number (record { name = old.name; symbol = symbol })) w.cells } ])
      go None = k
      go (Some symbol) =
          each_kept (with_alias number (record { name = old.name; symbol = symbol })) (alias_good number (record { name = old.name; symbol = symbol }) well) w k
          (record w { cells = map (with_alias number (record { name = old.name; symbol = symbol })) w.cells }) refl refl refl

  fold_kept : {A : Type 0} (f : World → A → World) (items : List A) → ((w : World) (a : A) → In a items → IsKept sources w → IsKept sources (f w a)) → (w : World) → IsKept sources w → IsKept sources (fold f w items)
  fold_kept f [] keep w k = k
  fold_kept f (a ∷ items) keep w k = fold_kept f items (λ u b i. keep u b (inr i)) (f w a) (keep w a (inl refl) k)

  exchange_old : (wants : List Want) (number : ℕ) (x : Exchange) → In x (exchanges_from number wants) → In x.old (filter_map (λ (want : Want). want.replaces) wants)
  exchange_old [] number x i = absurd i
  exchange_old (want ∷ wants) number x i = go want.replaces (In-append (exchange_at number want.replaces) (exchanges_from (suc number) wants) x i) (exchange_old wants (suc number) x)
    where
      go : (o : Option Cell) → In x (exchange_at number o) ⊎ In x (exchanges_from (suc number) wants) → (In x (exchanges_from (suc number) wants) → In x.old (filter_map (λ (want : Want). want.replaces) wants))
          → In x.old (cons_option o (filter_map (λ (want : Want). want.replaces) wants))
      go None (inl j) more = absurd j
      go None (inr j) more = more j
      go (Some old) (inl (inl e)) more = inl (ap (λ (y : Exchange). y.old) e)
      go (Some old) (inl (inr j)) more = absurd j
      go (Some old) (inr j) more = inr (more j)

  -- placed one after the other
  placed_good : (number : ℕ) (starts : Starts) (c : Cell) → Good c → Good (with_places number starts c)
  placed_good number starts c g = go (c.id.0 == number)
    where
      go : (b : Bool) → Good (cond b (record c { placed = record c.placed { places = places_in starts c.object } }) c)
      go true = (g.0, moved_spelled c (places_in starts c.object) g.1)
      go false = g

  placed_one : (v : World) (c : Cell) (u : World) → place_cell v c ≡ Ok u → IsKept sources v → IsKept sources u
  placed_one v c u h k =
      let runs : CellRuns v c u = cell_runs v c u h in
      let starts : Starts = record { text = runs.text.start; read_only = runs.read_only.start; writable = runs.writable.start } in
      let one : record runs.text.world { regions = v.regions } ≡ v = sections_rest v Text _ runs.text runs.first in
      let two : record runs.read_only.world { regions = runs.text.world.regions } ≡ runs.text.world = sections_rest runs.text.world ReadOnly _ runs.read_only runs.second in
      let three : record runs.writable.world { regions = runs.read_only.world.regions } ≡ runs.read_only.world = sections_rest runs.read_only.world Writable _ runs.writable runs.third in
      subst (IsKept sources) runs.is
      (each_kept (with_places c.id.0 starts) (placed_good c.id.0 starts) v k (record runs.writable.world { cells = map (with_places c.id.0 starts) v.cells }) refl
      (ap (λ (x : World). x.namespaces) three ∙ (ap (λ (x : World). x.namespaces) two ∙ ap (λ (x : World). x.namespaces) one))
      (ap (λ (x : World). x.next_cell) three ∙ (ap (λ (x : World). x.next_cell) two ∙ ap (λ (x : World). x.next_cell) one)))

  -- where the same cells are, with the same names and numbers
  pub as_before : (w : World) → IsKept sources w → (u : World) → u.cells ≡ w.cells → u.namespaces ≡ w.namespaces → u.next_cell ≡ w.next_cell → IsKept sources u
  as_before w k = with_cells w k w.cells (good_in w k) k.few

  -- and where some have gone
  pub without_kept : (w : World) → IsKept sources w → (numbers : List ℕ) → IsKept sources (without_cells w numbers)
  without_kept w k numbers =
      with_cells w k (filter (λ c. not (holds numbers c.id.0)) w.cells) (λ c i. good_in w k c (In-filtered (λ c. not (holds numbers c.id.0)) w.cells c i))
      (let few = k.few in let less = length-filter_le (λ (c : Cell). not (holds numbers c.id.0)) w.cells in omega (arith, few, less)) (without_cells w numbers) refl refl refl

  module _ (w : World) (h : IsCoherent w) (k : IsKept sources w) where
    names_kept : (c : Change) → IsSound sources w c → (from : ℕ) (u : World) → IsKept sources u → IsKept sources (with_names from c u)
    names_kept c s from u kept = go c.reexport
      where
        go : (b : Bool) → IsKept sources (cond b (with_reexports u (exchanges_from from c.wants)) u)
        go false = kept
        go true =
            fold_kept (λ v x. fold (take_on x.fresh) v (names_of x.old)) (exchanges_from from c.wants)
            (λ v x i at.
            let old : In x.old w.cells = All-In (λ (old : Cell). In old w.cells) (replaced c) s.present x.old (exchange_old c.wants from x i) in
            fold_kept (take_on x.fresh) (names_of x.old) (λ y a j in_y. take_on_kept x.fresh a (named_well w h x.old old (good_in w k x.old old).1 a j) y in_y) v at)
            u kept

    gathered_kept : (c : Change) → IsSound sources w c → (g : World) → gather sources w c ≡ Ok g → IsKept sources g
    gathered_kept c s g e =
        let a = bind_ok (each append_want (set_aside w c) c.wants) _ g e in
        let appended : IsKept sources a.0 = wants_kept c.wants (All-In (λ (want : Want). In want.file sources) c.wants s.files) (set_aside w c) a.0 a.1 (aside_kept w (old_of c) k) in
        let called : IsKept sources (with_names w.next_cell c a.0) = names_kept c s w.next_cell a.0 appended in
        let b = bind_ok (bring sources w.next_cell (with_names w.next_cell c a.0)) _ g a.2 in
        copies_kept c.copies (λ copy i. good_in w k copy.original (All-In (λ (copy : Copy). In copy.original w.cells) c.copies s.originals copy i)) b.0 g b.2
        (brought sources w.next_cell (IsKept sources) (λ v f n u i t e r. append_kept v f n u i e r) 1025 (with_names w.next_cell c a.0) b.0 called.few (omega arith) b.1 called).0

    made_kept : (c : Change) → IsSound sources w c → (made : Made) → make_change sources w c ≡ Ok made → IsKept sources made.world
    made_kept c s made e =
        let x : Changed sources w c made = changed sources w c made e in
        let p : Planned sources w c x.plan = planned sources w c x.plan x.planned in
        let placed : IsKept sources p.world = each_keeps (IsKept sources) place_cell placed_one (fresh_cells w.next_cell p.gathered) p.gathered p.world p.placing (gathered_kept c s p.gathered p.gathering) in
        let linked : IsKept sources x.plan.linked = subst (λ (plan : Plan). IsKept sources plan.linked) p.is (as_before p.world placed _ refl refl refl) in
        let same = last_parts c x.plan x.last x.run in
        let last : IsKept sources x.last = as_before x.plan.linked linked x.last (ap (λ (u : World). u.cells) same) (ap (λ (u : World). u.namespaces) same) (ap (λ (u : World). u.next_cell) same) in
        subst (λ (m : Made). IsKept sources m.world) x.is (without_kept x.last last (garbage_after (old_of c) x.last))

    pub change_kept : (d : Done) → HasMade sources w d → IsKept sources d.world
    change_kept d m = subst (IsKept sources) m.world (made_kept m.change m.sound m.made m.making)
