-- What is known of lines tells whether a line may follow them.
use Rattle.std.proofs.Common.{◌≡◌, refl, sym, ◌∙◌, ap, subst, arith, ℕ, ◌+◌, ◌<◌, ◌≤◌, Bool, true, false, cond, not, ◌&&◌, List, [], ◌∷◌, ◌++◌, length, length-append, append_assoc, Option, Some, None}
use Rattle.std.specs.Prelude.{filter, filter_map, fold, max, nat_le, nat_lt, option_map, unwrap_or, ◌==◌}
use Rattle.std.specs.List.{cons_option, list_all}
use Rattle.std.proofs.lemmas.Bool.{and_parts, eqb-true, le-leb, leb-true, lt-ltb, ltb-true}
use Rattle.std.proofs.lemmas.Bool.Decides.{nat_tests}
use Rattle.std.proofs.lemmas.List.{append-nil, nil_from_length}
use Rattle.std.proofs.lemmas.List.Elements.{filter-append, filter_map-append}
use Rattle.std.proofs.lemmas.List.Folds.{list_all-append}
use Rattle.std.proofs.lemmas.List.Sums.{fold-append}
use Rattle.cell_num.specs.Lists.{last}
use Rattle.cell_num.specs.Limits.{max_cell_number, max_cells, max_namespaces}
use Rattle.cell_world.specs.declared.line.DumpLine.{DumpLine}
use Rattle.cell_world.specs.declared.line.DumpLine.TheVariants.{Space, Ns, Cell, Place, Alias, Link, Provider, Content, End}
use Rattle.cell_audit.specs.Following.{cell_number, goes_on, goes_on_after, is_below, is_cell, is_in_order, is_ns, is_root, is_space, may_follow, ns_count, rank_of}
use Rattle.cell_audit.specs.Known.{after_line, follows, is_of, known_of, naming_of, nothing, one_where, placing_of, stands}
use Rattle.cell_audit.specs.declared.order.Known.{Known}

record Tells (before : List DumpLine) (k : Known) : Type 0 where
  begun : (length before == 0) ≡ not k.begun
  rank : (r : ℕ) → list_all (λ l. nat_le (rank_of l) r) before ≡ nat_le k.rank r
  spaces : ns_count before ≡ k.spaces
  cells : length (filter is_cell before) ≡ k.cells
  highest : (n : ℕ) → 1 ≤ n → list_all (λ other. nat_lt other n) (filter_map cell_number before) ≡ nat_lt k.highest n
  placing : (n : ℕ) → goes_on_after before n false ≡ is_of n k.placing
  naming : (n : ℕ) → goes_on_after before n true ≡ is_of n k.naming

zero_le : (n : ℕ) → true ≡ nat_le 0 n
zero_le n = sym (le-leb 0 n (omega arith))

zero_lt : (n : ℕ) → 1 ≤ n → true ≡ nat_lt 0 n
zero_lt n h = sym (lt-ltb 0 n (omega (arith, h)))

tells_nothing : Tells [] nothing
tells_nothing = record {
  begun = refl;
  rank = zero_le;
  spaces = refl;
  cells = refl;
  highest = zero_lt;
  placing = λ n. refl;
  naming = λ n. refl;
}

and_true : (b : Bool) → (b && true) ≡ b
and_true true = refl
and_true false = refl

both : (a b c d : Bool) → a ≡ b → c ≡ d → (a && c) ≡ (b && d)
both a b c d e f = rw (e, f) refl

max_le : (a b r : ℕ) → (nat_le a r && nat_le b r) ≡ nat_le (max a b) r
max_le a b r = grind (arith, nat_tests)

max_lt : (a b r : ℕ) → (nat_lt a r && nat_lt b r) ≡ nat_lt (max a b) r
max_lt a b r = grind (arith, nat_tests)

pub last_is : {X : Type 0} (xs : List X) (x : X) → last (xs ++ x ∷ []) ≡ Some x
last_is [] x = refl
last_is (y ∷ []) x = refl
last_is (y ∷ z ∷ xs) x = last_is (z ∷ xs) x

pub count_more : (p : DumpLine → Bool) (before : List DumpLine) (l : DumpLine) → length (filter p (before ++ l ∷ [])) ≡ length (filter p before) + one_where (p l)
count_more p before l = ap length (filter-append p before (l ∷ [])) ∙ (length-append (filter p before) (filter p (l ∷ [])) ∙ ap (λ (n : ℕ). length (filter p before) + n) (go (p l)))
  where
    go : (b : Bool) → length (cond b (l ∷ []) []) ≡ one_where b
    go true = refl
    go false = refl

not_empty : (n m : ℕ) → n ≡ m + 1 → (n == 0) ≡ false
not_empty n m e = grind (arith, nat_tests)

one_number : (o : Option ℕ) (n : ℕ) → 1 ≤ n → list_all (λ other. nat_lt other n) (cons_option o []) ≡ nat_lt (unwrap_or o 0) n
one_number None n h = zero_lt n h
one_number (Some c) n h = and_true (nat_lt c n)

place_goes : (n : ℕ) (l : DumpLine) → goes_on n false l ≡ is_of n (placing_of l)
place_goes n (Space base pages) = refl
place_goes n (Ns number name parent) = refl
place_goes n (Cell cell ns stem file group) = refl
place_goes n (Place cell section start) = refl
place_goes n (Alias cell symbol name) = refl
place_goes n (Link user entry target) = refl
place_goes n (Provider ns name at offset) = refl
place_goes n (Content at addr bytes) = refl
place_goes n End = refl

alias_goes : (n : ℕ) (l : DumpLine) → goes_on n true l ≡ is_of n (naming_of l)
alias_goes n (Space base pages) = refl
alias_goes n (Ns number name parent) = refl
alias_goes n (Cell cell ns stem file group) = refl
alias_goes n (Place cell section start) = refl
alias_goes n (Alias cell symbol name) = refl
alias_goes n (Link user entry target) = refl
alias_goes n (Provider ns name at offset) = refl
alias_goes n (Content at addr bytes) = refl
alias_goes n End = refl

tells_more : (before : List DumpLine) (k : Known) (l : DumpLine) → Tells before k → Tells (before ++ l ∷ []) (after_line k l)
tells_more before k l h = record {
  begun = not_empty (length (before ++ l ∷ [])) (length before) (length-append before (l ∷ []));
  rank = λ r.
      list_all-append (λ x. nat_le (rank_of x) r) before (l ∷ [])
      ∙ (both (list_all (λ x. nat_le (rank_of x) r) before) (nat_le k.rank r) (nat_le (rank_of l) r && true) (nat_le (rank_of l) r) (h.rank r) (and_true (nat_le (rank_of l) r))
      ∙ max_le k.rank (rank_of l) r);
  spaces = count_more is_ns before l ∙ ap (λ (n : ℕ). n + one_where (is_ns l)) h.spaces;
  cells = count_more is_cell before l ∙ ap (λ (n : ℕ). n + one_where (is_cell l)) h.cells;
  highest = λ n i.
      ap (list_all (λ other. nat_lt other n)) (filter_map-append cell_number before (l ∷ []))
      ∙ (list_all-append (λ other. nat_lt other n) (filter_map cell_number before) (filter_map cell_number (l ∷ []))
      ∙ (both (list_all (λ other. nat_lt other n) (filter_map cell_number before)) (nat_lt k.highest n) (list_all (λ other. nat_lt other n) (filter_map cell_number (l ∷ []))) (nat_lt (unwrap_or (cell_number l) 0) n) (h.highest n i) (one_number (cell_number l) n i)
      ∙ max_lt k.highest (unwrap_or (cell_number l) 0) n));
  placing = λ n. ap (λ (o : Option DumpLine). unwrap_or (option_map (goes_on n false) o) false) (last_is before l) ∙ place_goes n l;
  naming = λ n. ap (λ (o : Option DumpLine). unwrap_or (option_map (goes_on n true) o) false) (last_is before l) ∙ alias_goes n l;
}

tells_on : (later before : List DumpLine) (k : Known) → Tells before k → Tells (before ++ later) (fold after_line k later)
tells_on [] before k h = subst (λ (ls : List DumpLine). Tells ls k) (sym (append-nil before)) h
tells_on (l ∷ later) before k h =
    subst (λ (ls : List DumpLine). Tells ls (fold after_line (after_line k l) later)) (append_assoc before (l ∷ []) later)
    (tells_on later (before ++ l ∷ []) (after_line k l) (tells_more before k l h))

stands_same : (before : List DumpLine) (k : Known) (r : ℕ) → Tells before k → stands k r ≡ is_in_order before r
stands_same before k r h =
    both (nat_le k.rank r) (list_all (λ l. nat_le (rank_of l) r) before) _ _ (sym (h.rank r))
    (go (nat_le r 1) k.begun (not (length before == 0)) (begun_back k.begun (length before == 0) h.begun) (ap (nat_lt 0) (sym h.spaces)))
  where
    begun_back : (b c : Bool) → c ≡ not b → b ≡ not c
    begun_back true c e = rw e refl
    begun_back false c e = rw e refl

    go : (t b c : Bool) → b ≡ c → nat_lt 0 k.spaces ≡ nat_lt 0 (ns_count before) → cond t b (nat_lt 0 k.spaces) ≡ cond t c (nat_lt 0 (ns_count before))
    go true b c e f = e
    go false b c e f = f

guarded : (x b c d e g : Bool) → (b ≡ true → d ≡ e) → (x && b && c && d && g) ≡ (x && b && c && e && g)
guarded false b c d e g h = refl
guarded true false c d e g h = refl
guarded true true c d e g h = rw (h refl) refl

follows_by : (before : List DumpLine) (k : Known) (l : DumpLine) → Tells before k → follows k l ≡ may_follow before l
follows_by before k (Space base pages) h = ap (λ (b : Bool). b && is_space base pages) (sym h.begun)
follows_by before k (Ns number name parent) h =
    ap (λ (b : Bool). b && nat_lt number max_namespaces && cond (number == 0) (is_root name parent) (is_below number parent))
    (both (stands k 1) (is_in_order before 1) (number == k.spaces) (number == ns_count before) (stands_same before k 1 h) (ap (λ (n : ℕ). number == n) (sym h.spaces)))
follows_by before k (Cell cell ns stem file group) h =
    guarded (stands k 2 && nat_lt ns k.spaces) (nat_le 1 cell) (nat_le cell max_cell_number) (nat_lt k.highest cell) (list_all (λ other. nat_lt other cell) (filter_map cell_number before)) (nat_lt k.cells max_cells)
    (λ e. sym (h.highest cell (leb-true 1 cell e)))
    ∙ both _ _ (nat_lt k.cells max_cells) (nat_lt (length (filter is_cell before)) max_cells)
    (ap (λ (b : Bool). b && nat_le 1 cell && nat_le cell max_cell_number && list_all (λ other. nat_lt other cell) (filter_map cell_number before))
    (both (stands k 2) (is_in_order before 2) (nat_lt ns k.spaces) (nat_lt ns (ns_count before)) (stands_same before k 2 h) (ap (λ (n : ℕ). nat_lt ns n) (sym h.spaces))))
    (ap (λ (n : ℕ). nat_lt n max_cells) (sym h.cells))
follows_by before k (Place cell section start) h = sym (h.placing cell)
follows_by before k (Alias cell symbol name) h = sym (h.naming cell)
follows_by before k (Link user entry target) h = stands_same before k 3 h
follows_by before k (Provider ns name at offset) h =
    both (stands k 4) (is_in_order before 4) (nat_lt ns k.spaces) (nat_lt ns (ns_count before)) (stands_same before k 4 h) (ap (λ (n : ℕ). nat_lt ns n) (sym h.spaces))
follows_by before k (Content at addr bytes) h = stands_same before k 5 h
follows_by before k End h = stands_same before k 6 h

pub follows_of : (before : List DumpLine) (k : Known) (l : DumpLine) → k ≡ known_of before → follows k l ≡ may_follow before l
follows_of before k l e = follows_by before k l (subst (λ (j : Known). Tells before j) (sym e) (tells_on before [] nothing tells_nothing))

-- where there are none yet
pub begins_none : (before : List DumpLine) (k : Known) → k ≡ known_of before → k.begun ≡ false → before ≡ []
begins_none before k e f =
    let tells = subst (λ (j : Known). Tells before j) (sym e) (tells_on before [] nothing tells_nothing) in
    nil_from_length before (eqb-true (length before) 0 (tells.begun ∙ ap not f))

pub known_more : (before : List DumpLine) (k : Known) (l : DumpLine) → k ≡ known_of before → after_line k l ≡ known_of (before ++ l ∷ [])
known_more before k l e = ap (λ (j : Known). after_line j l) e ∙ sym (fold-append after_line nothing before (l ∷ []))

-- what may follow leaves room for one more
pub space_room : (k : Known) (number : ℕ) (name : List ℕ) (parent : Option ℕ) → follows k (Ns number name parent) ≡ true → k.spaces < 256
space_room k number name parent h =
    let p = and_parts (stands k 1 && (number == k.spaces) && nat_lt number max_namespaces) (cond (number == 0) (is_root name parent) (is_below number parent)) h in
    let q = and_parts (stands k 1 && (number == k.spaces)) (nat_lt number max_namespaces) p.0 in
    let r = and_parts (stands k 1) (number == k.spaces) q.0 in
    go number k.spaces r.1 q.1
  where
    go : (n s : ℕ) → (n == s) ≡ true → nat_lt n 256 ≡ true → s < 256
    go n s e h = grind (arith, nat_tests)

pub cell_room : (k : Known) (cell ns : ℕ) (stem file : List ℕ) (group : Option ℕ) → follows k (Cell cell ns stem file group) ≡ true → k.cells < 1024
cell_room k cell ns stem file group h =
    ltb-true k.cells max_cells
    (and_parts (stands k 2 && nat_lt ns k.spaces && nat_le 1 cell && nat_le cell max_cell_number && nat_lt k.highest cell) (nat_lt k.cells max_cells) h).1
