-- Rows that names get.
use Rattle.std.proofs.Common.{◌≡◌, refl, sym, ◌∙◌, ap, ap₂, subst, arith, ℕ, zero, suc, ◌+◌, ◌-◌, ◌<◌, ◌≤◌, ◌==◌, Bool, true, false, cond, ◌&&◌, ◌||◌, ◌⊎◌, inl, inr, List, [], ◌∷◌, ◌++◌, length, get_or, take, drop, length-drop, append-nil, append_assoc, true≢false, take-append-drop}
use Rattle.std.specs.Prelude.{Option, Some, None, nat_lt, filter, filter_map, slice_range, slice_set}
use Rattle.std.specs.List.{cons_option, list_any}
use Rattle.std.proofs.lemmas.Bool.{eq-eqb, eqb-true, eqb-false, ltb-true, ltb-false}
use Rattle.std.proofs.lemmas.List.{drop-append-le, drop-drop, drop_at, get_or-drop, get_or-set_same, get_or-set_other, get_or-take, length-append, length-set, length-take-le, take-append-le, take_all}
use Rattle.std.proofs.lemmas.List.Elements.{filter-append}
use Rattle.std.proofs.lemmas.Option.{slice_get-get_or}
use Rattle.std.proofs.lemmas.Slice.Eq.{bytes_eq-Decides}
use Rattle.cell_num.specs.Lists.{In}
use Rattle.cell_num.proofs.Elements.{In-append, In-left, In-right, any-Has, any-In, filter_all, filter_none, get-In}
use Rattle.cell_bearers.specs.Index.{GetsRow, IsRowed}
use Rattle.cell_bearers.specs.Namings.{AreFaithful, AreInOrder, IsRun, Named, bearer_of, bearers_among, distinct, distinct_after, is_again, is_called, is_owners}
use Rattle.cell_bearers.specs.Rows.{HasSameWidths, IsThere, listed, no_row, owned_at, row_at, row_of, width}
use Rattle.cell_bearers.specs.declared.bearer.Bearer.{Bearer}
use Rattle.cell_bearers.specs.declared.index.Index.{Index}
use Rattle.cell_bearers.specs.declared.named.Owner.{Owner}
use Rattle.cell_bearers.specs.declared.named.Owner.TheVariants.{Need, Definition, Alias}
use Rattle.cell_bearers.specs.declared.rows.Row.{Row}
use Rattle.cell_bearers.specs.declared.rows.Rows.{Rows}
use Rattle.cell_bearers.proofs.Ordered.{differ, never_again}

-- ---- a row is put into a table
pub list_there : (table : List (List Row)) (i k : ℕ) → k < width table i → i < length table
list_there [] i k lt = absurd (omega (arith, lt))
list_there (row ∷ table) zero k lt = omega arith
list_there (row ∷ table) (suc i) k lt = let more = list_there table i k lt in omega (arith, more)

module _ (table : List (List Row)) (list place : ℕ) (row : Row) (old : List Row) (lt : place < width table list) (here : old ≡ get_or table list []) where
  abbrev put : List (List Row)
  put = slice_set table list (slice_set old place row)

  in_it : place < length old
  in_it = subst (λ (r : List Row). place < length r) (sym here) lt

  pub put_widths : (i : ℕ) → width (slice_set table list (slice_set old place row)) i ≡ width table i
  put_widths i = go (list == i) refl
    where
      go : (t : Bool) → (list == i) ≡ t → width (slice_set table list (slice_set old place row)) i ≡ width table i
      go true e =
          let same = eqb-true list i e in
          subst (λ (m : ℕ). width (slice_set table list (slice_set old place row)) m ≡ width table m) same
          (ap (λ (r : List Row). length r) (get_or-set_same table list (slice_set old place row) [] (list_there table list place lt)) ∙ (length-set old place row ∙ ap (λ (r : List Row). length r) here))
      go false e = ap (λ (r : List Row). length r) (get_or-set_other table list i (slice_set old place row) [] (λ same. eqb-false list i e (sym same)))

  own_list : (k : ℕ) → get_or (slice_set old place row) k no_row ≡ cond (k == place) row (get_or old k no_row)
  own_list k = go (k == place) refl
    where
      go : (t : Bool) → (k == place) ≡ t → get_or (slice_set old place row) k no_row ≡ cond t row (get_or old k no_row)
      go true e = ap (λ (m : ℕ). get_or (slice_set old place row) m no_row) (eqb-true k place e) ∙ get_or-set_same old place row no_row in_it
      go false e = get_or-set_other old place k row no_row (eqb-false k place e)

  pub put_rows : (i k : ℕ) → row_at (slice_set table list (slice_set old place row)) i k ≡ cond (i == list && k == place) row (row_at table i k)
  put_rows i k = go (i == list) refl
    where
      go : (t : Bool) → (i == list) ≡ t → row_at (slice_set table list (slice_set old place row)) i k ≡ cond (t && k == place) row (row_at table i k)
      go true e =
          let same = eqb-true i list e in
          ap (λ (m : ℕ). row_at (slice_set table list (slice_set old place row)) m k) same
          ∙ (ap (λ (r : List Row). get_or r k no_row) (get_or-set_same table list (slice_set old place row) [] (list_there table list place lt))
          ∙ (own_list k
          ∙ ap (λ (r : List Row). cond (k == place) row (get_or r k no_row)) (here ∙ ap (λ (m : ℕ). get_or table m []) (sym same))))
      go false e = ap (λ (r : List Row). get_or r k no_row) (get_or-set_other table list i (slice_set old place row) [] (eqb-false i list e))

pub same_widths : (rows : Rows) → HasSameWidths rows rows
same_widths rows = record { symbols = λ i. refl; aliases = λ i. refl }

pub widths_join : (a b c : Rows) → HasSameWidths a b → HasSameWidths b c → HasSameWidths a c
widths_join a b c x y = record { symbols = λ i. y.symbols i ∙ x.symbols i; aliases = λ i. y.aliases i ∙ x.aliases i }

pub still_there : (old new : Rows) → HasSameWidths old new → (o : Owner) → IsThere old o → IsThere new o
still_there old new same (Need object symbol) lt = let w = same.symbols object in omega (arith, lt, w)
still_there old new same (Definition object symbol) lt = let w = same.symbols object in omega (arith, lt, w)
still_there old new same (Alias cell alias symbol) lt = let w = same.aliases cell in omega (arith, lt, w)

-- one more owner gets it
pub more_put : (a b : Bool) (row old : Row) → cond b row (cond a row old) ≡ cond (a || b) row old
more_put true true row old = refl
more_put true false row old = refl
more_put false true row old = refl
more_put false false row old = refl

-- ---- rows of a longer list
range_before : (xs ys : List Bearer) (s t : ℕ) → t ≤ length xs → slice_range (xs ++ ys) s t ≡ slice_range xs s t
range_before xs ys s t le = go (nat_lt (length xs) s) refl
  where
    go : (b : Bool) → nat_lt (length xs) s ≡ b → slice_range (xs ++ ys) s t ≡ slice_range xs s t
    go true e =
        let past = ltb-true (length xs) s e in
        let none : t - s ≡ 0 = omega (arith, past, le) in
        ap (λ (n : ℕ). take n (drop s (xs ++ ys))) none ∙ sym (ap (λ (n : ℕ). take n (drop s xs)) none)
    go false e =
        let inside = ltb-false (length xs) s e in
        let size = length-drop s xs in
        ap (take (t - s)) (drop-append-le s xs ys (omega (arith, inside))) ∙ take-append-le (t - s) (drop s xs) ys (omega (arith, size, inside, le))

range_behind : (xs ys : List Bearer) → slice_range (xs ++ ys) (length xs) (length (xs ++ ys)) ≡ ys
range_behind xs ys =
    let size = length-append xs ys in
    ap (take (length (xs ++ ys) - length xs)) (drop_at xs ys (length xs) refl)
    ∙ take_all (length (xs ++ ys) - length xs) ys (omega (arith, size))

-- ---- owners
own_symbol : (i k : ℕ) → (i == i && k == k) ≡ true
own_symbol i k = ap₂ ◌&&◌ (eq-eqb i i refl) (eq-eqb k k refl)

itself : (o : Owner) → is_owners o o ≡ true
itself (Need object symbol) = own_symbol object symbol
itself (Definition object symbol) = own_symbol object symbol
itself (Alias cell alias symbol) = own_symbol cell alias

take_none : {X : Type 0} (n : ℕ) → take {A = X} n [] ≡ []
take_none zero = refl
take_none (suc n) = refl

take_join : {X : Type 0} (i k : ℕ) (xs : List X) → take (i + k) xs ≡ take i xs ++ take k (drop i xs)
take_join zero k xs = ap (λ (n : ℕ). take n xs) (let n : 0 + k ≡ k = omega arith in n)
take_join (suc i) k [] = take_none (suc i + k) ∙ sym (take_none k)
take_join {X} (suc i) k (x ∷ xs) = ap (λ (n : ℕ). take n (x ∷ xs)) (let n : suc i + k ≡ suc (i + k) = omega arith in n) ∙ ap (λ (ys : List X). x ∷ ys) (take_join i k xs)

-- ---- a bearer is added, or not
module _ (bs : List Bearer) (last : Option Bearer) (o : Option Bearer) where
  pub none_more : o ≡ None → (rest : List Bearer) → bs ++ distinct_after last rest ≡ bs ++ distinct_after last (cons_option o rest)
  none_more e rest = ap (λ (p : Option Bearer). bs ++ distinct_after last (cons_option p rest)) (sym e)

  pub again_more : (b : Bearer) → o ≡ Some b → is_again last b ≡ true → (rest : List Bearer) → bs ++ distinct_after last rest ≡ bs ++ distinct_after last (cons_option o rest)
  again_more b e again rest =
      sym (ap (λ (t : Bool). bs ++ cond t (distinct_after last rest) (b ∷ distinct_after (Some b) rest)) again)
      ∙ ap (λ (p : Option Bearer). bs ++ distinct_after last (cons_option p rest)) (sym e)

  pub one_more : (b : Bearer) (new : List Bearer) → o ≡ Some b → is_again last b ≡ false → new ≡ bs ++ b ∷ [] → (rest : List Bearer)
      → new ++ distinct_after (Some b) rest ≡ bs ++ distinct_after last (cons_option o rest)
  one_more b new e again added rest =
      ap (λ (xs : List Bearer). xs ++ distinct_after (Some b) rest) added
      ∙ (append_assoc bs (b ∷ []) (distinct_after (Some b) rest)
      ∙ (sym (ap (λ (t : Bool). bs ++ cond t (distinct_after last rest) (b ∷ distinct_after (Some b) rest)) again)
      ∙ ap (λ (p : Option Bearer). bs ++ distinct_after last (cons_option p rest)) (sym e)))

-- ---- parts of a list
pub taken_In : {X : Type 0} (k : ℕ) (xs : List X) (x : X) → In x (take k xs) → In x xs
taken_In {X} k xs x m = subst (λ (ys : List X). In x ys) (take-append-drop k xs) (In-left (take k xs) (drop k xs) x m)

pub dropped_In : {X : Type 0} (k : ℕ) (xs : List X) (x : X) → In x (drop k xs) → In x xs
dropped_In {X} k xs x m = subst (λ (ys : List X). In x ys) (take-append-drop k xs) (In-right (take k xs) (drop k xs) x m)

-- what a slice is
pub slice_is : {X : Type 0} (i k : ℕ) (xs : List X) → take (i + k - i) (drop i xs) ≡ take k (drop i xs)
slice_is i k xs = ap (λ (n : ℕ). take n (drop i xs)) (let n : i + k - i ≡ k = omega arith in n)

-- ---- an owner's row is put
module _ (old new : Rows) (row : Row) where
  pub symbol_put : (object symbol : ℕ) → ((i k : ℕ) → row_at new.symbols.items i k ≡ cond (i == object && k == symbol) row (row_at old.symbols.items i k)) → ((i k : ℕ) → row_at new.aliases.items i k ≡ row_at old.aliases.items i k)
      → (o : Owner) → owned_at new o ≡ cond (is_owners o (Need object symbol)) row (owned_at old o)
  symbol_put object symbol law same (Need i k) = law i k
  symbol_put object symbol law same (Definition i k) = law i k
  symbol_put object symbol law same (Alias i k s) = same i k

  pub alias_put : (cell alias symbol : ℕ) → ((i k : ℕ) → row_at new.aliases.items i k ≡ cond (i == cell && k == alias) row (row_at old.aliases.items i k)) → ((i k : ℕ) → row_at new.symbols.items i k ≡ row_at old.symbols.items i k)
      → (o : Owner) → owned_at new o ≡ cond (is_owners o (Alias cell alias symbol)) row (owned_at old o)
  alias_put cell alias symbol law same (Need i k) = same i k
  alias_put cell alias symbol law same (Definition i k) = same i k
  alias_put cell alias symbol law same (Alias i k s) = law i k

-- ---- the rows so far
module _ (ns : List Named) where
  pub record AreSoFar (start : ℕ) (first index : Index) : Type 0 where
    pub rowed : (n : Named) → In n (take start ns) → IsRowed ns index n
    pub apart : (a b : Named) → In a (take start ns) → In b (drop start ns) → a.name ≡ b.name → ⊥
    pub widths : HasSameWidths first.rows index.rows
    pub within : start ≤ length ns

  pub none_so_far : (index : Index) → AreSoFar 0 index index
  none_so_far index = record {
    rowed = λ n k. absurd k;
    apart = λ a b k m e. absurd k;
    widths = same_widths index.rows;
    within = omega arith;
  }

  pub all_so_far : (start : ℕ) (first index : Index) → AreSoFar start first index → length ns ≤ start → (n : Named) → In n ns → IsRowed ns index n
  all_so_far start first index far past n k = far.rowed n (subst (λ (xs : List Named). In n xs) (sym (take_all start ns past)) k)

  module _ (order : AreInOrder ns) (faithful : AreFaithful ns) (start len : ℕ) (first old new : Index) (far : AreSoFar start first old) (below : start < length ns) (run : IsRun (drop start ns) len) (d : Named) where
    abbrev group : List Named
    group = take len (drop start ns)

    abbrev name : List ℕ
    name = (get_or ns start d).name

    fits : start + len ≤ length ns
    fits = let size = length-drop start ns in let within = run.within in let ok = far.within in omega (arith, size, within, ok)

    split : ns ≡ take start ns ++ (group ++ drop (start + len) ns)
    split =
        sym (take-append-drop start ns)
        ∙ ap (λ (xs : List Named). take start ns ++ xs) (sym (take-append-drop len (drop start ns)) ∙ ap (λ (xs : List Named). group ++ xs) (drop-drop len start ns))

    -- where an element stands
    place_of : (xs : List Named) (n : Named) → In n xs → (k : ℕ) × (k < length xs) × (get_or xs k d ≡ n)
    place_of [] n k = absurd k
    place_of (x ∷ xs) n (inl e) = (0, omega arith, sym e)
    place_of (x ∷ xs) n (inr m) = let r = place_of xs n m in let lt = r.1 in (suc r.0, omega (arith, lt), r.2)

    in_group : (n : Named) → In n group → n.name ≡ name
    in_group n k =
        let r = place_of group n k in
        let size = length-take-le len (drop start ns) run.within in
        let lt = r.1 in
        let below_len : r.0 < len = omega (arith, size, lt) in
        sym (ap (λ (m : Named). m.name) (sym (get_or-take len (drop start ns) r.0 d below_len) ∙ r.2))
        ∙ (run.same r.0 d below_len
        ∙ (ap (λ (m : Named). m.name) (get_or-drop start ns 0 d) ∙ ap (λ (k : ℕ). (get_or ns k d).name) (let k : start + 0 ≡ start = omega arith in k)))

    behind : (n : Named) → In n (drop (start + len) ns) → n.name ≡ name → ⊥
    behind n k e =
        let r = place_of (drop (start + len) ns) n k in
        let size = length-drop (start + len) ns in
        let lt = r.1 in
        never_again ns order start len (start + len + r.0) d run (omega arith) (omega (arith, size, lt))
        (ap (λ (m : Named). m.name) (sym (get_or-drop (start + len) ns r.0 d) ∙ r.2) ∙ e)

    head_In : In (get_or ns start d) (drop start ns)
    head_In =
        let size = length-drop start ns in
        get-In (drop start ns) 0 (get_or ns start d)
        (slice_get-get_or (drop start ns) 0 d (omega (arith, size, below)) ∙ ap (λ (m : Named). Some m) (get_or-drop start ns 0 d ∙ ap (λ (k : ℕ). get_or ns k d) (let k : start + 0 ≡ start = omega arith in k)))

    before : (n : Named) → In n (take start ns) → n.name ≡ name → ⊥
    before n k e = far.apart n (get_or ns start d) k head_In e

    called : filter (is_called name) ns ≡ group
    called =
        ap (filter (is_called name)) split
        ∙ (filter-append (is_called name) (take start ns) (group ++ drop (start + len) ns)
        ∙ (ap₂ ◌++◌ (filter_none (is_called name) (take start ns) (λ n k. differ n.name name (before n k)))
        (filter-append (is_called name) group (drop (start + len) ns)
        ∙ (ap₂ ◌++◌ (filter_all (is_called name) group (λ n k. (bytes_eq-Decides n.name name).1 (in_group n k))) (filter_none (is_called name) (drop (start + len) ns) (λ n k. differ n.name name (behind n k)))
        ∙ append-nil group))))

    module _ (gets : GetsRow group old new) where
      more : new.bearers.items ≡ old.bearers.items ++ bearers_among name ns
      more = gets.bearers ∙ ap (λ (xs : List Named). old.bearers.items ++ distinct (filter_map bearer_of xs)) (sym called)

      their : (n : Named) → n.name ≡ name → owned_at new.rows n.owner ≡ row_of (length old.bearers.items) (length new.bearers.items) → IsRowed ns new n
      their n e is = record {
        bearers =
            ap (listed new.bearers.items) is
            ∙ (ap (λ (bs : List Bearer). slice_range bs (length old.bearers.items) (length bs)) more
            ∙ (range_behind old.bearers.items (bearers_among name ns) ∙ ap (λ (m : List ℕ). bearers_among m ns) (sym e)));
        within = let k = ap (λ (row : Row). row.end) is in omega (arith, k);
      }

      kept : (n : Named) → IsRowed ns old n → owned_at new.rows n.owner ≡ owned_at old.rows n.owner → IsRowed ns new n
      kept n was is = record {
        bearers =
            ap (listed new.bearers.items) is
            ∙ (ap (λ (bs : List Bearer). listed bs (owned_at old.rows n.owner)) more
            ∙ (range_before old.bearers.items (bearers_among name ns) (owned_at old.rows n.owner).start (owned_at old.rows n.owner).end was.within ∙ was.bearers));
        within =
            let k = ap (λ (row : Row). row.end) is in
            let size = ap (λ (bs : List Bearer). length bs) more ∙ length-append old.bearers.items (bearers_among name ns) in
            let within = was.within in
            omega (arith, k, size, within);
      }

      in_all_group : (n : Named) → In n group → In n ns
      in_all_group n k = dropped_In start ns n (taken_In len (drop start ns) n k)

      in_all : (n : Named) → In n (take (start + len) ns) → In n ns
      in_all n k = taken_In (start + len) ns n k

      taken : take (start + len) ns ≡ take start ns ++ group
      taken = take_join start len ns

      rows_after : (n : Named) → In n (take (start + len) ns) → IsRowed ns new n
      rows_after n k = go (list_any (λ (m : Named). is_owners n.owner m.owner) group) refl (In-append (take start ns) group n (subst (λ (xs : List Named). In n xs) taken k))
        where
          go : (t : Bool) → list_any (λ (m : Named). is_owners n.owner m.owner) group ≡ t → In n (take start ns) ⊎ In n group → IsRowed ns new n
          go true e m =
              let r = any-Has (λ (m : Named). is_owners n.owner m.owner) group e in
              their n (faithful n r.0 (in_all n k) (in_all_group r.0 r.1) r.2 ∙ in_group r.0 r.1)
              (gets.rows n.owner ∙ ap (λ (b : Bool). cond b (row_of (length old.bearers.items) (length new.bearers.items)) (owned_at old.rows n.owner)) e)
          go false e (inl m) =
              kept n (far.rowed n m) (gets.rows n.owner ∙ ap (λ (b : Bool). cond b (row_of (length old.bearers.items) (length new.bearers.items)) (owned_at old.rows n.owner)) e)
          go false e (inr m) = absurd (true≢false (sym (any-In (λ (m : Named). is_owners n.owner m.owner) group n m (itself n.owner)) ∙ e))

      still_apart : (a b : Named) → In a (take (start + len) ns) → In b (drop (start + len) ns) → a.name ≡ b.name → ⊥
      still_apart a b k m e = go (In-append (take start ns) group a (subst (λ (xs : List Named). In a xs) taken k))
        where
          go : In a (take start ns) ⊎ In a group → ⊥
          go (inl l) = far.apart a b l (subst (λ (xs : List Named). In b xs) (take-append-drop len (drop start ns)) (In-right group (drop len (drop start ns)) b (subst (λ (xs : List Named). In b xs) (sym (drop-drop len start ns)) m))) e
          go (inr l) = behind b m (sym e ∙ in_group a l)

      pub so_far_more : AreSoFar (start + len) first new
      so_far_more = record {
        rowed = rows_after;
        apart = still_apart;
        widths = widths_join first.rows old.rows new.rows far.widths gets.widths;
        within = fits;
      }
