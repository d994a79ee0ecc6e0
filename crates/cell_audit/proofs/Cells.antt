-- What one line more changes of the cells that lines tell.
use Rattle.std.proofs.Common.{◌≡◌, refl, sym, ◌∙◌, ap, subst, arith, ℕ, ◌+◌, ◌-◌, ◌<◌, ◌≤◌, Bool, true, false, cond, ◌&&◌, List, [], ◌∷◌, ◌++◌, length, map, max, suc, take, Result, Ok, Err, OnOk, slice_index_or, slice_set, Option, Some, None, filter, slice_range, append_assoc, All}
use Rattle.std.specs.Prelude.{nat_le, nat_lt}
use Rattle.std.specs.List.{flat_map, list_all}
use Rattle.std.proofs.lemmas.Bool.{and_parts, eqb-true, le-leb, leb-true, lt-ltb, ltb-true}
use Rattle.std.proofs.lemmas.List.{append-nil, drop_all, drop_at, map_push, set_split, take_all, take_at, take_more}
use Rattle.std.proofs.lemmas.List.Concat.{flat_map-append}
use Rattle.std.proofs.lemmas.List.Elements.{All-drop, All-head, All-nil, All-push, All-take, filter-append}
use Rattle.cell_num.specs.Lists.{each_pair, last}
use Rattle.cell_num.proofs.Elements.{In-all, all-In, all_push, pairs_push}
use Rattle.cell_num.specs.Limits.{max_cell_number, max_cells}
use Rattle.cell_world.specs.declared.line.DumpLine.{DumpLine}
use Rattle.cell_world.specs.declared.line.DumpLine.TheVariants.{Space, Ns, Cell as CellLine, Place, Alias as AliasLine, Link, Provider, Content, End}
use Rattle.cell_audit.specs.declared.dump.Line.{Line}
use Rattle.cell_audit.specs.declared.order.Known.{Known}
use Rattle.cell_audit.specs.declared.written.WrittenAlias.{WrittenAlias}
use Rattle.cell_audit.specs.declared.written.WrittenCell.{WrittenCell}
use Rattle.cell_audit.specs.declared.written.WrittenPlace.{WrittenPlace}
use Rattle.cell_audit.specs.Dumps.{Row}
use Rattle.cell_audit.specs.Kept.{AreNamesWithin, Brings, CellsGo, HasAlias, HasPlace, IsNameWithin, LastGoes, alias_of, place_of_line}
use Rattle.cell_audit.specs.Known.{after_line, follows, is_of, naming_of, placing_of, stands}
use Rattle.cell_audit.specs.Reader.{HasCells, IsReady, numbers_of}
use Rattle.cell_audit.specs.Written.{alias_row, is_of_cell, place_row, rows_of}
use Rattle.cell_audit.proofs.Knowing.{last_is, space_room}

-- ---- the last cell
last_there : (cells : List WrittenCell) (c : WrittenCell) → last cells ≡ Some c → 0 < length cells
last_there [] c e = absurd cc
last_there (d ∷ cells) c e = omega arith

-- where two say which is the last, they are the same
same_last : (cells front : List WrittenCell) (c d : WrittenCell) → cells ≡ front ++ d ∷ [] → last cells ≡ Some c → d ≡ c
same_last cells front c d e f = let g = last_is front d in let h = ap last e in cc

pub of_last : (number : ℕ) (o : Option ℕ) → is_of number o ≡ true → o ≡ Some number
of_last number None e = absurd cc
of_last number (Some other) e = ap Some (eqb-true other number e)

pub place_room : (known : Known) (cells : List WrittenCell) (cell section start : ℕ) → IsReady known cells → follows known (Place cell section start) ≡ true → 0 < length cells
place_room known cells cell section start r f = let l = r.placing cell (of_last cell known.placing f) in last_there cells l.cell l.there

pub alias_room : (known : Known) (cells : List WrittenCell) (cell symbol : ℕ) (name : List ℕ) → IsReady known cells → follows known (AliasLine cell symbol name) ≡ true → 0 < length cells
alias_room known cells cell symbol name r f = let l = r.naming cell (of_last cell known.naming f) in last_there cells l.cell l.there

-- the last is written anew
pub last_goes : (Goes : WrittenCell → WrittenCell → Type 0) (cells : List WrittenCell) (c d : WrittenCell) (place : ℕ) → 0 < length cells → place + 1 ≡ length cells → c ≡ slice_index_or cells place c → Goes c d
    → LastGoes Goes cells (slice_set cells place d)
last_goes Goes cells c d place some size is goes = record {
  front = take place cells;
  before = c;
  after = d;
  old_is = sym (take_all (place + 1) cells (omega (arith, size))) ∙ (take_more cells place c (omega (arith, size)) ∙ ap (λ (x : WrittenCell). take place cells ++ x ∷ []) (sym is));
  new_is = set_split cells place d (omega (arith, size)) ∙ ap (λ (rest : List WrittenCell). take place cells ++ d ∷ rest) (drop_all (suc place) cells (omega (arith, size)));
  goes = goes;
}

pub on_ok : {X E : Type 0} {P Q : Type 0} (r : Result X E) → OnOk r P → (P → Q) → OnOk r Q
on_ok (Ok x) p f = f p
on_ok (Err e) p f = tt

-- ---- the rows
pub new_rows : (file : List ℕ) (c : WrittenCell) → c.places.items ≡ [] → c.aliases.items ≡ [] → rows_of file c ≡ (c.line, CellLine c.cell c.ns c.stem c.file c.group) ∷ []
new_rows file c e f = rw (e, f) refl

row_more : (rows : List Row) (r : Row) → is_of_cell r ≡ true → filter is_of_cell (rows ++ r ∷ []) ≡ filter is_of_cell rows ++ r ∷ []
row_more rows r e = filter-append is_of_cell rows (r ∷ []) ∙ ap (λ (b : Bool). filter is_of_cell rows ++ cond b (r ∷ []) []) e

row_other : (rows : List Row) (r : Row) → is_of_cell r ≡ false → filter is_of_cell (rows ++ r ∷ []) ≡ filter is_of_cell rows
row_other rows r e = filter-append is_of_cell rows (r ∷ []) ∙ (ap (λ (b : Bool). filter is_of_cell rows ++ cond b (r ∷ []) []) e ∙ append-nil (filter is_of_cell rows))

flat_one : (file : List ℕ) (front : List WrittenCell) (c : WrittenCell) → flat_map (rows_of file) (front ++ c ∷ []) ≡ flat_map (rows_of file) front ++ rows_of file c
flat_one file front c = flat_map-append (rows_of file) front (c ∷ []) ∙ ap (λ (rows : List Row). flat_map (rows_of file) front ++ rows) (append-nil (rows_of file c))

last_rows : (file : List ℕ) (front : List WrittenCell) (c d : WrittenCell) (r : Row) → rows_of file d ≡ rows_of file c ++ r ∷ []
    → flat_map (rows_of file) (front ++ d ∷ []) ≡ flat_map (rows_of file) (front ++ c ∷ []) ++ r ∷ []
last_rows file front c d r e =
    flat_one file front d
    ∙ (ap (λ (rows : List Row). flat_map (rows_of file) front ++ rows) e
    ∙ (sym (append_assoc (flat_map (rows_of file) front) (rows_of file c) (r ∷ []))
    ∙ ap (λ (rows : List Row). rows ++ r ∷ []) (sym (flat_one file front c))))

abbrev rows_with : List ℕ → WrittenCell → List WrittenPlace → List WrittenAlias → List Row
rows_with file c places aliases = (c.line, CellLine c.cell c.ns c.stem c.file c.group) ∷ (map (place_row c.cell) places ++ map (alias_row file c.cell) aliases)

place_rows : (file : List ℕ) (c d : WrittenCell) (p : WrittenPlace) → HasPlace p c d → c.aliases.items ≡ [] → rows_of file d ≡ rows_of file c ++ place_row c.cell p ∷ []
place_rows file c d p h none =
    ap (rows_of file) h.others
    ∙ (ap (λ (places : List WrittenPlace). rows_with file c places c.aliases.items) h.added
    ∙ (ap (rows_with file c (c.places.items ++ p ∷ [])) none
    ∙ (ap (λ (rows : List Row). (c.line, CellLine c.cell c.ns c.stem c.file c.group) ∷ rows) (append-nil (map (place_row c.cell) (c.places.items ++ p ∷ [])) ∙ map_push (place_row c.cell) c.places.items p)
    ∙ sym (ap (λ (aliases : List WrittenAlias). rows_with file c c.places.items aliases ++ place_row c.cell p ∷ []) none
    ∙ ap (λ (rows : List Row). (c.line, CellLine c.cell c.ns c.stem c.file c.group) ∷ (rows ++ place_row c.cell p ∷ [])) (append-nil (map (place_row c.cell) c.places.items))))))

alias_rows : (file : List ℕ) (c d : WrittenCell) (a : WrittenAlias) → HasAlias a c d → rows_of file d ≡ rows_of file c ++ alias_row file c.cell a ∷ []
alias_rows file c d a h =
    ap (rows_of file) h.others
    ∙ (ap (rows_with file c c.places.items) h.added
    ∙ ap (λ (rows : List Row). (c.line, CellLine c.cell c.ns c.stem c.file c.group) ∷ rows)
    (ap (λ (rows : List Row). map (place_row c.cell) c.places.items ++ rows) (map_push (alias_row file c.cell) c.aliases.items a)
    ∙ sym (append_assoc (map (place_row c.cell) c.places.items) (map (alias_row file c.cell) c.aliases.items) (alias_row file c.cell a ∷ []))))

-- ---- their numbers
numbers_push : (front : List WrittenCell) (c : WrittenCell) → numbers_of (front ++ c ∷ []) ≡ numbers_of front ++ c.cell ∷ []
numbers_push front c = map_push (λ (x : WrittenCell). x.cell) front c

below_more : (a b : ℕ) (numbers : List ℕ) → list_all (λ n. nat_le n a) numbers ≡ true → list_all (λ n. nat_le n (max a b)) numbers ≡ true
below_more a b numbers h =
    In-all (λ n. nat_le n (max a b)) numbers (λ n i. let k = leb-true n a (all-In (λ n. nat_le n a) numbers h n i) in le-leb n (max a b) (omega (arith, k)))

rising_more : (highest number : ℕ) (numbers : List ℕ) → each_pair nat_lt numbers ≡ true → list_all (λ n. nat_le n highest) numbers ≡ true → highest < number → each_pair nat_lt (numbers ++ number ∷ []) ≡ true
rising_more highest number numbers h below k =
    pairs_push nat_lt numbers number h (λ n i. let l = leb-true n highest (all-In (λ n. nat_le n highest) numbers below n i) in lt-ltb n number (omega (arith, k, l)))

-- ---- what stays where no line of a cell comes
few_more : (known : Known) (number : ℕ) (name : List ℕ) (parent : Option ℕ) → follows known (Ns number name parent) ≡ true → known.spaces + 1 ≤ 256
few_more known number name parent f = let k = space_room known number name parent f in omega (arith, k)

closed : (known : Known) (l : DumpLine) (cells : List WrittenCell) → placing_of l ≡ None → naming_of l ≡ None → (after_line known l).spaces ≤ 256 → IsReady (after_line known l) cells
closed known l cells p n few = record { placing = λ number e. absurd cc; naming = λ number e. absurd cc; few = few }

cells_stay : (file : List ℕ) (rows : List Row) (known : Known) (n : ℕ) (l : DumpLine) (old new : List WrittenCell) → HasCells file rows known old → is_of_cell (n, l) ≡ false → placing_of l ≡ None → naming_of l ≡ None
    → (after_line known l).spaces ≤ 256 → new ≡ old → HasCells file (rows ++ (n, l) ∷ []) (after_line known l) new
cells_stay file rows known n l old new h other p m few e =
    subst (λ (cells : List WrittenCell). HasCells file (rows ++ (n, l) ∷ []) (after_line known l) cells) (sym e) (record {
      rows_are = row_other rows (n, l) other ∙ h.rows_are;
      rising = h.rising;
      below = below_more known.highest _ (numbers_of old) h.below;
      names = h.names;
      ready = closed known l old p m few;
    })

-- ---- a cell more
cells_bring : (file : List ℕ) (rows : List Row) (known : Known) (n cell ns : ℕ) (stem named : List ℕ) (group : Option ℕ) (old new : List WrittenCell) → HasCells file rows known old → follows known (CellLine cell ns stem named group) ≡ true
    → Brings n (CellLine cell ns stem named group) cell old new → HasCells file (rows ++ (n, CellLine cell ns stem named group) ∷ []) (after_line known (CellLine cell ns stem named group)) new
cells_bring file rows known n cell ns stem named group old new h f b =
    subst (λ (cells : List WrittenCell). HasCells file (rows ++ (n, CellLine cell ns stem named group) ∷ []) (after_line known (CellLine cell ns stem named group)) cells) (sym b.added) (record {
      rows_are =
          row_more rows (n, CellLine cell ns stem named group) refl
          ∙ (ap (λ (rs : List Row). rs ++ (n, CellLine cell ns stem named group) ∷ []) h.rows_are
          ∙ sym (flat_one file old b.cell ∙ ap (λ (rs : List Row). flat_map (rows_of file) old ++ rs) (b.row file)));
      rising = ap (each_pair nat_lt) numbers ∙ rising_more known.highest cell (numbers_of old) h.rising h.below above;
      below =
          ap (list_all (λ k. nat_le k (max known.highest cell))) numbers
          ∙ all_push (λ k. nat_le k (max known.highest cell)) (numbers_of old) cell (below_more known.highest cell (numbers_of old) h.below) (le-leb cell (max known.highest cell) (omega arith));
      names = All-push (AreNamesWithin file) old b.cell h.names (subst (λ (names : List WrittenAlias). All (IsNameWithin file) names) (sym b.names) (All-nil (IsNameWithin file)));
      ready = record {
        placing = λ number e. record { cell = b.cell; there = last_is old b.cell; number_is = let k : cell ≡ number = cc in b.number_is ∙ k; names = b.names };
        naming = λ number e. record { cell = b.cell; there = last_is old b.cell; number_is = let k : cell ≡ number = cc in b.number_is ∙ k };
        few = let k = h.ready.few in omega (arith, k);
      };
    })
  where
    numbers : numbers_of (old ++ b.cell ∷ []) ≡ numbers_of old ++ cell ∷ []
    numbers = numbers_push old b.cell ∙ ap (λ (k : ℕ). numbers_of old ++ k ∷ []) b.number_is

    above : known.highest < cell
    above =
        let a = and_parts (stands known 2 && nat_lt ns known.spaces && nat_le 1 cell && nat_le cell max_cell_number && nat_lt known.highest cell) (nat_lt known.cells max_cells) f in
        let c = and_parts (stands known 2 && nat_lt ns known.spaces && nat_le 1 cell && nat_le cell max_cell_number) (nat_lt known.highest cell) a.0 in
        ltb-true known.highest cell c.1

-- ---- a place or an alias more
front_names : (file : List ℕ) (front : List WrittenCell) (c : WrittenCell) → All (AreNamesWithin file) (front ++ c ∷ []) → All (AreNamesWithin file) front
front_names file front c all =
    subst (λ (cells : List WrittenCell). All (AreNamesWithin file) cells) (take_at front (c ∷ []) (length front) refl)
    (All-take (AreNamesWithin file) (length front) (front ++ c ∷ []) all)

last_names : (file : List ℕ) (front : List WrittenCell) (c : WrittenCell) → All (AreNamesWithin file) (front ++ c ∷ []) → AreNamesWithin file c
last_names file front c all =
    All-head (AreNamesWithin file) c []
    (subst (λ (cells : List WrittenCell). All (AreNamesWithin file) cells) (drop_at front (c ∷ []) (length front) refl)
    (All-drop (AreNamesWithin file) (length front) (front ++ c ∷ []) all))

-- the last cell goes on, with a row more
cells_go : (file : List ℕ) (rows : List Row) (known next : Known) (r : Row) (front : List WrittenCell) (c d : WrittenCell) → HasCells file rows known (front ++ c ∷ []) → is_of_cell r ≡ true → rows_of file d ≡ rows_of file c ++ r ∷ []
    → d.cell ≡ c.cell → AreNamesWithin file d → (other : ℕ) → next.highest ≡ max known.highest other → IsReady next (front ++ d ∷ []) → HasCells file (rows ++ r ∷ []) next (front ++ d ∷ [])
cells_go file rows known next r front c d h own more same names other highest ready = record {
  rows_are = row_more rows r own ∙ (ap (λ (rs : List Row). rs ++ r ∷ []) h.rows_are ∙ sym (last_rows file front c d r more));
  rising = ap (each_pair nat_lt) numbers ∙ h.rising;
  below =
      ap (λ (k : ℕ). list_all (λ n. nat_le n k) (numbers_of (front ++ d ∷ []))) highest
      ∙ (ap (list_all (λ n. nat_le n (max known.highest other))) numbers ∙ below_more known.highest other (numbers_of (front ++ c ∷ [])) h.below);
  names = All-push (AreNamesWithin file) front d (front_names file front c h.names) names;
  ready = ready;
}
  where
    numbers : numbers_of (front ++ d ∷ []) ≡ numbers_of (front ++ c ∷ [])
    numbers = numbers_push front d ∙ (ap (λ (k : ℕ). numbers_of front ++ k ∷ []) same ∙ sym (numbers_push front c))

cells_place : (file : List ℕ) (rows : List Row) (known : Known) (line : Line) (cell section start : ℕ) (old new : List WrittenCell) → HasCells file rows known old → follows known (Place cell section start) ≡ true
    → LastGoes (HasPlace (place_of_line line section start)) old new → HasCells file (rows ++ (line.number, Place cell section start) ∷ []) (after_line known (Place cell section start)) new
cells_place file rows known line cell section start old new h f g =
    let l = h.ready.placing cell (of_last cell known.placing f) in
    let one : g.before ≡ l.cell = same_last old g.front l.cell g.before g.old_is l.there in
    let none : g.before.aliases.items ≡ [] = ap (λ (c : WrittenCell). c.aliases.items) one ∙ l.names in
    let number : g.before.cell ≡ cell = ap (λ (c : WrittenCell). c.cell) one ∙ l.number_is in
    let same : g.after.cell ≡ g.before.cell = ap (λ (c : WrittenCell). c.cell) g.goes.others in
    let unnamed : g.after.aliases.items ≡ [] = ap (λ (c : WrittenCell). c.aliases.items) g.goes.others ∙ none in
    let row : rows_of file g.after ≡ rows_of file g.before ++ (line.number, Place cell section start) ∷ [] = place_rows file g.before g.after (place_of_line line section start) g.goes none ∙ ap (λ (n : ℕ). rows_of file g.before ++ (line.number, Place n section start) ∷ []) number in
    let few = h.ready.few in
    subst (λ (cells : List WrittenCell). HasCells file (rows ++ (line.number, Place cell section start) ∷ []) (after_line known (Place cell section start)) cells) (sym g.new_is)
    (cells_go file rows known (after_line known (Place cell section start)) (line.number, Place cell section start) g.front g.before g.after (subst (λ (cells : List WrittenCell). HasCells file rows known cells) g.old_is h) refl row same
    (subst (λ (names : List WrittenAlias). All (IsNameWithin file) names) (sym unnamed) (All-nil (IsNameWithin file))) 0 refl (record {
      placing = λ n e. record { cell = g.after; there = last_is g.front g.after; number_is = let k : cell ≡ n = cc in same ∙ (number ∙ k); names = unnamed };
      naming = λ n e. record { cell = g.after; there = last_is g.front g.after; number_is = let k : cell ≡ n = cc in same ∙ (number ∙ k) };
      few = omega (arith, few);
    }))

-- the name stands where the alias says
pub record IsNamed (file : List ℕ) (line : Line) (name : List ℕ) : Type 0 where
  pub within : line.end ≤ length file
  pub forward : length name ≤ line.end
  pub is : slice_range file (line.end - length name) line.end ≡ name

cells_alias : (file : List ℕ) (rows : List Row) (known : Known) (line : Line) (cell symbol : ℕ) (name : List ℕ) (old new : List WrittenCell) → HasCells file rows known old → follows known (AliasLine cell symbol name) ≡ true → IsNamed file line name
    → LastGoes (HasAlias (alias_of line symbol name)) old new → HasCells file (rows ++ (line.number, AliasLine cell symbol name) ∷ []) (after_line known (AliasLine cell symbol name)) new
cells_alias file rows known line cell symbol name old new h f named g =
    let l = h.ready.naming cell (of_last cell known.naming f) in
    let one : g.before ≡ l.cell = same_last old g.front l.cell g.before g.old_is l.there in
    let number : g.before.cell ≡ cell = ap (λ (c : WrittenCell). c.cell) one ∙ l.number_is in
    let same : g.after.cell ≡ g.before.cell = ap (λ (c : WrittenCell). c.cell) g.goes.others in
    let before_all = subst (λ (cells : List WrittenCell). HasCells file rows known cells) g.old_is h in
    let row : rows_of file g.after ≡ rows_of file g.before ++ (line.number, AliasLine cell symbol name) ∷ [] =
    alias_rows file g.before g.after (alias_of line symbol name) g.goes
    ∙ (ap (λ (n : ℕ). rows_of file g.before ++ (line.number, AliasLine n symbol (slice_range file (line.end - length name) line.end)) ∷ []) number
    ∙ ap (λ (w : List ℕ). rows_of file g.before ++ (line.number, AliasLine cell symbol w) ∷ []) named.is) in
    let stands : IsNameWithin file (alias_of line symbol name) = record { forward = omega arith; within = named.within } in
    let names : AreNamesWithin file g.after =
    subst (λ (aliases : List WrittenAlias). All (IsNameWithin file) aliases) (sym g.goes.added)
    (All-push (IsNameWithin file) g.before.aliases.items (alias_of line symbol name) (last_names file g.front g.before before_all.names) stands) in
    let few = h.ready.few in
    subst (λ (cells : List WrittenCell). HasCells file (rows ++ (line.number, AliasLine cell symbol name) ∷ []) (after_line known (AliasLine cell symbol name)) cells) (sym g.new_is)
    (cells_go file rows known (after_line known (AliasLine cell symbol name)) (line.number, AliasLine cell symbol name) g.front g.before g.after before_all refl row same names 0 refl (record {
      placing = λ n e. absurd cc;
      naming = λ n e. record { cell = g.after; there = last_is g.front g.after; number_is = let k : cell ≡ n = cc in same ∙ (number ∙ k) };
      few = omega (arith, few);
    }))

-- ---- any line
pub cells_more : (file : List ℕ) (rows : List Row) (known : Known) (line : Line) (l : DumpLine) (old new : List WrittenCell) → ((cell symbol : ℕ) (name : List ℕ) → l ≡ AliasLine cell symbol name → IsNamed file line name)
    → follows known l ≡ true → HasCells file rows known old → CellsGo line l old new → HasCells file (rows ++ (line.number, l) ∷ []) (after_line known l) new
cells_more file rows known line (Space base pages) old new named f h g = let few = h.ready.few in cells_stay file rows known line.number (Space base pages) old new h refl refl refl (omega (arith, few)) g
cells_more file rows known line (Ns number name parent) old new named f h g = cells_stay file rows known line.number (Ns number name parent) old new h refl refl refl (few_more known number name parent f) g
cells_more file rows known line (CellLine cell ns stem called group) old new named f h g = cells_bring file rows known line.number cell ns stem called group old new h f g
cells_more file rows known line (Place cell section start) old new named f h g = cells_place file rows known line cell section start old new h f g
cells_more file rows known line (AliasLine cell symbol name) old new named f h g = cells_alias file rows known line cell symbol name old new h f (named cell symbol name refl) g
cells_more file rows known line (Link user entry target) old new named f h g = let few = h.ready.few in cells_stay file rows known line.number (Link user entry target) old new h refl refl refl (omega (arith, few)) g
cells_more file rows known line (Provider ns name at offset) old new named f h g = let few = h.ready.few in cells_stay file rows known line.number (Provider ns name at offset) old new h refl refl refl (omega (arith, few)) g
cells_more file rows known line (Content at start bytes) old new named f h g = let few = h.ready.few in cells_stay file rows known line.number (Content at start bytes) old new h refl refl refl (omega (arith, few)) g
cells_more file rows known line End old new named f h g = let few = h.ready.few in cells_stay file rows known line.number End old new h refl refl refl (omega (arith, few)) g
