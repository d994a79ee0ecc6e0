-- The lines of a coherent machine stand in an order that an audit reads.
use Rattle.std.proofs.Common.{◌≡◌, refl, sym, ◌∙◌, ap, subst, arith, ℕ, zero, suc, ◌+◌, ◌<◌, ◌≤◌, inl, inr, Bool, true, false, cond, not, ◌&&◌, List, [], ◌∷◌, ◌++◌, map, length, length-append, true≢false, Option, Some, None, append_assoc}
use Rattle.std.specs.Prelude.{drop, ◌/◌, ◌%◌, All, filter, filter_map, is_none, nat_le, nat_lt, option_map, unwrap_or, codes, bytes_eq, ◌==◌}
use Rattle.std.specs.List.{cons_option, flat_map, list_all}
use Rattle.std.proofs.lemmas.Bool.{and_parts, and_from, eqb-true, eq-eqb, le-leb, leb-true, lt-ltb, ltb-true}
use Rattle.std.proofs.lemmas.Bool.Decides.{nat_tests}
use Rattle.std.proofs.lemmas.List.{append-nil}
use Rattle.std.proofs.lemmas.List.Elements.{filter_map-append}
use Rattle.cell_num.specs.Lists.{In, each_pair, equals, last, numbered, numbered_from}
use Rattle.cell_num.proofs.Elements.{All-In, all-In, In-all, In-filtered, In-flat_map, In-map, In-numbered}
use Rattle.cell_num.proofs.Sublists.{all-append}
use Rattle.cell_object.specs.declared.object.Section.{Section as ObjectSection}
use Rattle.cell_world.specs.Coherent.{IsCoherent, begins_with_k, is_known_cell, is_sound_parent}
use Rattle.cell_world.specs.Commands.MapCommand.{group_of as group}
use Rattle.cell_world.specs.Names.{names_of}
use Rattle.cell_world.specs.Linked.Target.{start_of}
use Rattle.cell_world.specs.World.{World, Cell, Alias, is_attached}
use Rattle.cell_world.specs.declared.reply.Found.{Found}
use Rattle.cell_world.specs.declared.state.Namespace.{Namespace}
use Rattle.cell_lemmas.proofs.Naming.Known.{known_parts}
use Rattle.cell_world.specs.DumpLines.{alias_line, cell_lines, dump_lines, held_in, lines_within, link_line, ns_line, part_of, place_line, provided_at, provider_line, provider_lines, section_lines}
use Rattle.cell_world.specs.declared.line.DumpLine.{DumpLine}
use Rattle.cell_world.specs.declared.line.DumpLine.TheVariants.{Space, Ns, Cell as CellLine, Place, Alias as AliasLine, Link, Provider, Content, End}
use Rattle.cell_world.specs.declared.line.Part.{Part}
use Rattle.cell_audit.proofs.Knowing.{count_more, last_is}
use Rattle.cell_audit.specs.Following.{cell_number, goes_on, goes_on_after, rank_of, is_below, is_cell, is_in_order, is_ns, is_root, may_follow, ns_count}
use Rattle.cell_audit_laws.proofs.Anew.{known-In}

-- each line may follow those before it
abbrev pub Follows : List DumpLine → List DumpLine → Type 0
Follows before [] = Unit {0}
Follows before (l ∷ lines) = (may_follow before l ≡ true) × Follows (before ++ l ∷ []) lines

follow_on : (before xs ys : List DumpLine) → Follows before xs → Follows (before ++ xs) ys → Follows before (xs ++ ys)
follow_on before [] ys f g = subst (λ (b : List DumpLine). Follows b ys) (append-nil before) g
follow_on before (x ∷ xs) ys f g = (f.0, follow_on (before ++ x ∷ []) xs ys f.1 (subst (λ (b : List DumpLine). Follows b ys) (sym (append_assoc before (x ∷ []) xs)) g))

-- what is known of the lines before
pub record Has (before : List DumpLine) (top spaces : ℕ) (numbers : List ℕ) : Type 0 where
  pub some : 0 < length before
  pub groups : list_all (λ l. nat_le (rank_of l) top) before ≡ true
  pub count : ns_count before ≡ spaces
  pub cells : filter_map cell_number before ≡ numbers
  pub cell_count : length (filter is_cell before) ≡ length numbers

has_higher : (before : List DumpLine) (top more spaces : ℕ) (numbers : List ℕ) → top ≤ more → Has before top spaces numbers → Has before more spaces numbers
has_higher before top more spaces numbers le h = record {
  some = h.some;
  groups = In-all (λ l. nat_le (rank_of l) more) before (λ l i. let k = leb-true (rank_of l) top (all-In (λ l. nat_le (rank_of l) top) before h.groups l i) in le-leb (rank_of l) more (omega (arith, k, le)));
  count = h.count;
  cells = h.cells;
  cell_count = h.cell_count;
}

one_number : (before : List DumpLine) (l : DumpLine) → filter_map cell_number (before ++ l ∷ []) ≡ filter_map cell_number before ++ cons_option (cell_number l) []
one_number before l = filter_map-append cell_number before (l ∷ [])

-- one line more
has_more : (before : List DumpLine) (top spaces : ℕ) (numbers : List ℕ) (l : DumpLine) → Has before top spaces numbers → rank_of l ≤ top → is_ns l ≡ false → is_cell l ≡ false → cell_number l ≡ None
    → Has (before ++ l ∷ []) top spaces numbers
has_more before top spaces numbers l h le n c k = record {
  some = let e = length-append before (l ∷ []) in omega (arith, e);
  groups = all-append (λ l. nat_le (rank_of l) top) before (l ∷ []) h.groups (and_from (nat_le (rank_of l) top) true (le-leb (rank_of l) top le) refl);
  count = count_more is_ns before l ∙ (ap (λ (b : Bool). length (filter is_ns before) + cond b 1 0) n ∙ (let e = h.count in omega (arith, e)));
  cells = one_number before l ∙ (ap (λ (o : Option ℕ). filter_map cell_number before ++ cons_option o []) k ∙ (append-nil (filter_map cell_number before) ∙ h.cells));
  cell_count = count_more is_cell before l ∙ (ap (λ (b : Bool). length (filter is_cell before) + cond b 1 0) c ∙ (let e = h.cell_count in omega (arith, e)));
}

in_order : (before : List DumpLine) (top spaces : ℕ) (numbers : List ℕ) → Has before top spaces numbers → 2 ≤ top → 0 < spaces → is_in_order before top ≡ true
in_order before top spaces numbers h two pos =
    let e : nat_le top 1 ≡ false = grind (arith, nat_tests) in
    let c : nat_lt 0 (ns_count before) ≡ true = lt-ltb 0 (ns_count before) (let k = h.count in omega (arith, k, pos)) in
    and_from (list_all (λ l. nat_le (rank_of l) top) before) (cond (nat_le top 1) (not (length before == 0)) (nat_lt 0 (ns_count before))) h.groups (ap (λ (b : Bool). cond b (not (length before == 0)) (nat_lt 0 (ns_count before))) e ∙ c)

-- lines of the later groups
abbrev pub Late : ℕ → ℕ → DumpLine → Type 0
Late spaces top (Link u e t) = top ≡ 3
Late spaces top (Provider ns name at offset) = (top ≡ 4) × (ns < spaces)
Late spaces top (Content at addr bytes) = top ≡ 5
Late spaces top End = top ≡ 6
Late spaces top _ = ⊥

late_follows : (before : List DumpLine) (top spaces : ℕ) (numbers : List ℕ) (l : DumpLine) → Has before top spaces numbers → 0 < spaces → Late spaces top l
    → (may_follow before l ≡ true) × Has (before ++ l ∷ []) top spaces numbers
late_follows before top spaces numbers (Link u e t) h pos late = (
  subst (λ (n : ℕ). is_in_order before n ≡ true) late (in_order before top spaces numbers h (omega (arith, late)) pos),
  has_more before top spaces numbers (Link u e t) h (omega (arith, late)) refl refl refl,
)
late_follows before top spaces numbers (Provider ns name at offset) h pos late = (
  and_from (is_in_order before 4) (nat_lt ns (ns_count before)) (subst (λ (n : ℕ). is_in_order before n ≡ true) late.0 (in_order before top spaces numbers h (let a = late.0 in omega (arith, a)) pos))
      (lt-ltb ns (ns_count before) (let k = h.count in let b = late.1 in omega (arith, k, b))),
  has_more before top spaces numbers (Provider ns name at offset) h (let a = late.0 in omega (arith, a)) refl refl refl,
)
late_follows before top spaces numbers (Content at addr bytes) h pos late = (
  subst (λ (n : ℕ). is_in_order before n ≡ true) late (in_order before top spaces numbers h (omega (arith, late)) pos),
  has_more before top spaces numbers (Content at addr bytes) h (omega (arith, late)) refl refl refl,
)
late_follows before top spaces numbers End h pos late = (
  subst (λ (n : ℕ). is_in_order before n ≡ true) late (in_order before top spaces numbers h (omega (arith, late)) pos),
  has_more before top spaces numbers End h (omega (arith, late)) refl refl refl,
)
late_follows before top spaces numbers (Space b p) h pos late = absurd late
late_follows before top spaces numbers (Ns n name p) h pos late = absurd late
late_follows before top spaces numbers (CellLine c ns stem file g) h pos late = absurd late
late_follows before top spaces numbers (Place c s start) h pos late = absurd late
late_follows before top spaces numbers (AliasLine c k name) h pos late = absurd late

all_late : (xs before : List DumpLine) (top spaces : ℕ) (numbers : List ℕ) → Has before top spaces numbers → 0 < spaces → ((l : DumpLine) → In l xs → Late spaces top l)
    → Follows before xs × Has (before ++ xs) top spaces numbers
all_late [] before top spaces numbers h pos late = (tt, subst (λ (b : List DumpLine). Has b top spaces numbers) (sym (append-nil before)) h)
all_late (x ∷ xs) before top spaces numbers h pos late =
    let one = late_follows before top spaces numbers x h pos (late x (inl refl)) in
    let rest = all_late xs (before ++ x ∷ []) top spaces numbers one.1 pos (λ l i. late l (inr i)) in
    ((one.0, rest.0), subst (λ (b : List DumpLine). Has b top spaces numbers) (append_assoc before (x ∷ []) xs) rest.1)

-- the lines of a cell
module _ (spaces : ℕ) (pos : 0 < spaces) where
  -- the line before is the cell's, or of one of its places, or also of one of its aliases
  abbrev GoesOn : List DumpLine → ℕ → Bool → Type 0
  GoesOn before c alias = goes_on_after before c alias ≡ true

  places_follow : (c : Cell) (ss : List ObjectSection) (before : List DumpLine) (numbers : List ℕ) → Has before 2 spaces numbers → GoesOn before c.id.0 false
      → Follows before (map (place_line c) ss) × Has (before ++ map (place_line c) ss) 2 spaces numbers × GoesOn (before ++ map (place_line c) ss) c.id.0 false
  places_follow c [] before numbers h g = (tt, subst (λ (b : List DumpLine). Has b 2 spaces numbers) (sym (append-nil before)) h, subst (λ (b : List DumpLine). GoesOn b c.id.0 false) (sym (append-nil before)) g)
  places_follow c (s ∷ ss) before numbers h g =
      let more = has_more before 2 spaces numbers (place_line c s) h (omega arith) refl refl refl in
      let here : GoesOn (before ++ place_line c s ∷ []) c.id.0 false = ap (λ (o : Option DumpLine). unwrap_or (option_map (goes_on c.id.0 false) o) false) (last_is before (place_line c s)) ∙ eq-eqb c.id.0 c.id.0 refl in
      let rest = places_follow c ss (before ++ place_line c s ∷ []) numbers more here in
      ((g, rest.0), subst (λ (b : List DumpLine). Has b 2 spaces numbers) (append_assoc before (place_line c s ∷ []) (map (place_line c) ss)) rest.1, subst (λ (b : List DumpLine). GoesOn b c.id.0 false) (append_assoc before (place_line c s ∷ []) (map (place_line c) ss)) rest.2)

  aliases_follow : (c : Cell) (names : List Alias) (before : List DumpLine) (numbers : List ℕ) → Has before 2 spaces numbers → GoesOn before c.id.0 true
      → Follows before (map (alias_line c) names) × Has (before ++ map (alias_line c) names) 2 spaces numbers
  aliases_follow c [] before numbers h g = (tt, subst (λ (b : List DumpLine). Has b 2 spaces numbers) (sym (append-nil before)) h)
  aliases_follow c (a ∷ names) before numbers h g =
      let more = has_more before 2 spaces numbers (alias_line c a) h (omega arith) refl refl refl in
      let here : GoesOn (before ++ alias_line c a ∷ []) c.id.0 true = ap (λ (o : Option DumpLine). unwrap_or (option_map (goes_on c.id.0 true) o) false) (last_is before (alias_line c a)) ∙ eq-eqb c.id.0 c.id.0 refl in
      let rest = aliases_follow c names (before ++ alias_line c a ∷ []) numbers more here in
      ((g, rest.0), subst (λ (b : List DumpLine). Has b 2 spaces numbers) (append_assoc before (alias_line c a ∷ []) (map (alias_line c) names)) rest.1)

  looser : (before : List DumpLine) (c : ℕ) → GoesOn before c false → GoesOn before c true
  looser before c g = go (last before) g
    where
      of : (l : DumpLine) → goes_on c false l ≡ true → goes_on c true l ≡ true
      of (CellLine n ns stem file g) e = e
      of (Place n s start) e = e
      of (AliasLine n k name) e = absurd (true≢false (sym e))
      of (Space b p) e = e
      of (Ns n name p) e = e
      of (Link u k t) e = e
      of (Provider ns name at offset) e = e
      of (Content at addr bytes) e = e
      of End e = e

      go : (o : Option DumpLine) → unwrap_or (option_map (goes_on c false) o) false ≡ true → unwrap_or (option_map (goes_on c true) o) false ≡ true
      go None e = e
      go (Some l) e = of l e

  -- what is asked of the cells that are left
  pub record Left (numbers : List ℕ) (cells : List Cell) : Type 0 where
    pub above : (c : Cell) → In c cells → list_all (λ other. nat_lt other c.id.0) numbers ≡ true
    pub order : each_pair (λ a b. nat_lt a.id.0 b.id.0) cells ≡ true
    pub fits : (c : Cell) → In c cells → (1 ≤ c.id.0) × (c.id.0 ≤ 65535) × (c.ns < spaces)
    pub few : length numbers + length cells ≤ 1024

  cells_follow : (cells : List Cell) (before : List DumpLine) (numbers : List ℕ) → Has before 2 spaces numbers → Left numbers cells
      → (done : List ℕ) × Follows before (flat_map cell_lines cells) × Has (before ++ flat_map cell_lines cells) 2 spaces done
  cells_follow [] before numbers h left = (numbers, tt, subst (λ (b : List DumpLine). Has b 2 spaces numbers) (sym (append-nil before)) h)
  cells_follow (c ∷ cells) before numbers h left =
      let fit = left.fits c (inl refl) in
      let own : DumpLine = CellLine c.id.0 c.ns c.stem c.file (group c.standing) in
      let own_follows : may_follow before own ≡ true =
      and_from _ _ (and_from _ _ (and_from _ _ (and_from _ _ (and_from (is_in_order before 2) (nat_lt c.ns (ns_count before)) (in_order before 2 spaces numbers h (omega arith) pos)
      (lt-ltb c.ns (ns_count before) (let k = h.count in let f = fit.2 in omega (arith, k, f)))) (le-leb 1 c.id.0 fit.0)) (le-leb c.id.0 65535 fit.1))
      (ap (list_all (λ other. nat_lt other c.id.0)) h.cells ∙ left.above c (inl refl)))
      (lt-ltb (length (filter is_cell before)) 1024 (let k = h.cell_count in let f = left.few in omega (arith, k, f))) in
      let more : Has (before ++ own ∷ []) 2 spaces (numbers ++ c.id.0 ∷ []) = record {
        some = let e = length-append before (own ∷ []) in omega (arith, e);
        groups = all-append (λ l. nat_le (rank_of l) 2) before (own ∷ []) h.groups refl;
        count = count_more is_ns before own ∙ (let e = h.count in omega (arith, e));
        cells = one_number before own ∙ ap (λ (ns : List ℕ). ns ++ c.id.0 ∷ []) h.cells;
        cell_count = count_more is_cell before own ∙ (let e = h.cell_count in let f = length-append numbers (c.id.0 ∷ []) in omega (arith, e, f));
      } in
      let here : GoesOn (before ++ own ∷ []) c.id.0 false = ap (λ (o : Option DumpLine). unwrap_or (option_map (goes_on c.id.0 false) o) false) (last_is before own) ∙ eq-eqb c.id.0 c.id.0 refl in
      let places = places_follow c c.object.sections (before ++ own ∷ []) (numbers ++ c.id.0 ∷ []) more here in
      let names = aliases_follow c c.aliases (before ++ own ∷ [] ++ map (place_line c) c.object.sections) (numbers ++ c.id.0 ∷ []) places.1 (looser (before ++ own ∷ [] ++ map (place_line c) c.object.sections) c.id.0 places.2) in
      let both : Follows (before ++ own ∷ []) (map (place_line c) c.object.sections ++ map (alias_line c) c.aliases) = follow_on (before ++ own ∷ []) (map (place_line c) c.object.sections) (map (alias_line c) c.aliases) places.0 names.0 in
      let whole : before ++ own ∷ [] ++ map (place_line c) c.object.sections ++ map (alias_line c) c.aliases ≡ before ++ cell_lines c =
      append_assoc (before ++ own ∷ []) (map (place_line c) c.object.sections) (map (alias_line c) c.aliases) ∙ append_assoc before (own ∷ []) (map (place_line c) c.object.sections ++ map (alias_line c) c.aliases) in
      let has : Has (before ++ cell_lines c) 2 spaces (numbers ++ c.id.0 ∷ []) = subst (λ (b : List DumpLine). Has b 2 spaces (numbers ++ c.id.0 ∷ [])) whole names.1 in
      let p = and_parts (list_all (λ b. nat_lt c.id.0 b.id.0) cells) (each_pair (λ a b. nat_lt a.id.0 b.id.0) cells) left.order in
      let rest = cells_follow cells (before ++ cell_lines c) (numbers ++ c.id.0 ∷ []) has (record {
        above = λ d i. all-append (λ other. nat_lt other d.id.0) numbers (c.id.0 ∷ []) (left.above d (inr i)) (and_from (nat_lt c.id.0 d.id.0) true (all-In (λ b. nat_lt c.id.0 b.id.0) cells p.0 d i) refl);
        order = p.1;
        fits = λ d i. left.fits d (inr i);
        few = let f = left.few in let e = length-append numbers (c.id.0 ∷ []) in omega (arith, f, e);
      }) in (
        rest.0,
        follow_on before (cell_lines c) (flat_map cell_lines cells) (own_follows, both) rest.1,
        subst (λ (b : List DumpLine). Has b 2 spaces rest.0) (append_assoc before (cell_lines c) (flat_map cell_lines cells)) rest.2,
      )

-- namespaces
abbrev GoodSpace : ℕ → Namespace → Type 0
GoodSpace k x = cond (k == 0) (is_root x.name x.parent) (is_below k x.parent) ≡ true

good_space : (k : ℕ) (x : Namespace) → is_sound_parent (k, x) ≡ true → (k ≡ 0 → equals x.name (codes "k") ≡ true) → GoodSpace k x
good_space k x h name = go k x.parent refl h
  where
    go : (n : ℕ) (o : Option ℕ) → k ≡ n → elim o as (λ _. Bool) [ None ↦ k == 0 | Some parent ↦ nat_lt parent k ] ≡ true → cond (k == 0) (bytes_eq x.name (codes "k") && is_none o) (is_below k o) ≡ true
    go zero None e t = ap (λ (b : Bool). cond b (bytes_eq x.name (codes "k") && true) false) (eq-eqb k 0 e) ∙ and_from (bytes_eq x.name (codes "k")) true (name e) refl
    go zero (Some p) e t = absurd (let l = ltb-true p k t in omega (arith, l, e))
    go (suc n) None e t = absurd (let l = eqb-true k 0 t in omega (arith, l, e))
    go (suc n) (Some p) e t = let b : (k == 0) ≡ false = grind (arith, nat_tests) in ap (λ (v : Bool). cond v (bytes_eq x.name (codes "k") && false) (nat_lt p k)) b ∙ t

spaces_follow : (xs : List Namespace) (before : List DumpLine) (k : ℕ) → Has before 1 k [] → k + length xs ≤ 256 → ((p : ℕ × Namespace) → In p (numbered_from k xs) → GoodSpace p.0 p.1)
    → Follows before (map ns_line (numbered_from k xs)) × Has (before ++ map ns_line (numbered_from k xs)) 1 (k + length xs) []
spaces_follow [] before k h few good = let e : k + 0 ≡ k = omega arith in (tt, subst (λ (b : List DumpLine). Has b 1 (k + 0) []) (sym (append-nil before)) (subst (λ (n : ℕ). Has before 1 n []) (sym e) h))
spaces_follow (x ∷ xs) before k h few good =
    let l : DumpLine = ns_line (k, x) in
    let some : (length before == 0) ≡ false = (let e = h.some in grind (arith, nat_tests, e)) in
    let own : may_follow before l ≡ true =
    and_from _ _ (and_from _ _ (and_from _ _ (and_from (list_all (λ l. nat_le (rank_of l) 1) before) (not (length before == 0)) h.groups (ap not some)) (eq-eqb k (ns_count before) (sym h.count)))
    (lt-ltb k 256 (omega (arith, few)))) (good (k, x) (inl refl)) in
    let more : Has (before ++ l ∷ []) 1 (suc k) [] = record {
      some = let e = length-append before (l ∷ []) in omega (arith, e);
      groups = all-append (λ l. nat_le (rank_of l) 1) before (l ∷ []) h.groups refl;
      count = count_more is_ns before l ∙ (let e = h.count in omega (arith, e));
      cells = one_number before l ∙ (append-nil (filter_map cell_number before) ∙ h.cells);
      cell_count = count_more is_cell before l ∙ (let e = h.cell_count in omega (arith, e));
    } in
    let rest = spaces_follow xs (before ++ l ∷ []) (suc k) more (omega (arith, few)) (λ p i. good p (inr i)) in
    let n : suc k + length xs ≡ k + suc (length xs) = omega arith in
    ((own, rest.0), subst (λ (m : ℕ). Has (before ++ map ns_line (numbered_from k (x ∷ xs))) 1 m []) n (subst (λ (b : List DumpLine). Has b 1 (suc k + length xs) []) (append_assoc before (l ∷ []) (map ns_line (numbered_from (suc k) xs))) rest.1))

module _ (w : World) (h : IsCoherent w) (numbered_cells : All (λ c. 1 ≤ c.id.0) w.cells) where
  abbrev n : ℕ
  n = length w.namespaces

  parents : (begins_with_k w.namespaces ≡ true) × (list_all is_sound_parent (numbered w.namespaces) ≡ true)
  parents = and_parts (begins_with_k w.namespaces) (list_all is_sound_parent (numbered w.namespaces)) h.ready.spaces

  some_space : (xs : List Namespace) → begins_with_k xs ≡ true → 0 < length xs
  some_space [] e = absurd (true≢false (sym e))
  some_space (x ∷ xs) e = omega arith

  pos : 0 < n
  pos = some_space w.namespaces parents.0

  first_name : (xs : List Namespace) → begins_with_k xs ≡ true → (p : ℕ × Namespace) → In p (numbered xs) → p.0 ≡ 0 → equals p.1.name (codes "k") ≡ true
  first_name [] e p i z = absurd i
  first_name (x ∷ xs) e p (inl s) z = subst (λ (q : ℕ × Namespace). equals q.1.name (codes "k") ≡ true) (sym s) e
  first_name (x ∷ xs) e p (inr i) z = let k = In-numbered xs 1 p i in let q = k.2 in absurd (omega (arith, q, z))

  good : (p : ℕ × Namespace) → In p (numbered w.namespaces) → GoodSpace p.0 p.1
  good p i = good_space p.0 p.1 (all-In is_sound_parent (numbered w.namespaces) parents.1 p i) (first_name w.namespaces parents.0 p i)

  space_there : may_follow [] (Space w.base w.pages) ≡ true
  space_there =
      let s = h.ready.space in
      and_from _ _ (and_from _ _ (and_from _ _ (and_from (w.base % 4096 == 0) (nat_le 0x1000 w.base) (eq-eqb (w.base % 4096) 0 s.aligned) (le-leb 0x1000 w.base s.lowest)) (le-leb w.base 0x7ff_ffff_f000 s.highest)) (le-leb 16 w.pages s.fewest)) (le-leb w.pages 4096 s.most)

  begun : Has (Space w.base w.pages ∷ []) 1 0 []
  begun = record { some = omega arith; groups = refl; count = refl; cells = refl; cell_count = refl }

  abbrev A : List DumpLine
  A = Space w.base w.pages ∷ map ns_line (numbered w.namespaces)

  abbrev C : List DumpLine
  C = flat_map cell_lines w.cells

  abbrev K : List DumpLine
  K = map link_line w.links

  abbrev P : List DumpLine
  P = flat_map (provider_lines w) (filter (λ c. is_attached c.standing) w.cells)

  abbrev D : List DumpLine
  D = flat_map (λ c. flat_map (section_lines (held_in w) c) c.object.sections) w.cells

  spaces_here : Follows (Space w.base w.pages ∷ []) (map ns_line (numbered w.namespaces)) × Has ((Space w.base w.pages ∷ []) ++ map ns_line (numbered w.namespaces)) 1 (0 + n) []
  spaces_here = spaces_follow w.namespaces (Space w.base w.pages ∷ []) 0 begun (let f = h.ready.few_spaces in omega (arith, f)) good

  has_A : Has A 2 n []
  has_A = let e : 0 + n ≡ n = omega arith in has_higher A 1 2 n [] (omega arith) (subst (λ (m : ℕ). Has A 1 m []) e spaces_here.1)

  left : Left n pos [] w.cells
  left = record {
    above = λ c i. refl;
    order = h.ready.cell_order;
    fits = λ c i. let k = known_parts w c (all-In (is_known_cell w) w.cells h.ready.cells c i) in
        let a = ltb-true c.id.0 w.next_cell k.number in let b = h.ready.cell_numbers in
        (All-In (λ (c : Cell). 1 ≤ c.id.0) w.cells numbered_cells c i, omega (arith, a, b), ltb-true c.ns n k.ns);
    few = let f = h.ready.few_cells in omega (arith, f);
  }

  cells_here : (done : List ℕ) × Follows A C × Has (A ++ C) 2 n done
  cells_here = cells_follow n pos w.cells A [] has_A left

  abbrev done : List ℕ
  done = cells_here.0

  links_here : Follows (A ++ C) K × Has (A ++ C ++ K) 3 n done
  links_here = all_late K (A ++ C) 3 n done (has_higher (A ++ C) 2 3 n done (omega arith) cells_here.2) pos
      (λ l i. let x = In-map link_line w.links l i in subst (λ (l : DumpLine). Late n 3 l) (sym x.2) refl)

  providers_here : Follows (A ++ C ++ K) P × Has (A ++ C ++ K ++ P) 4 n done
  providers_here = all_late P (A ++ C ++ K) 4 n done (has_higher (A ++ C ++ K) 3 4 n done (omega arith) links_here.1) pos late
    where
      found : (c : Cell) → c.ns < n → (name : List ℕ) (o : Option Found) (l : DumpLine) → option_map (λ f. Provider c.ns name (part_of f.key) f.offset) o ≡ Some l → Late n 4 l
      found c b name None l k = absurd cc
      found c b name (Some f) l k = subst (λ (x : Option DumpLine). elim x as (λ _. Type 0) [ None ↦ Unit {0} | Some z ↦ Late n 4 z ]) k (refl, b)

      late : (l : DumpLine) → In l P → Late n 4 l
      late l i =
          let c = In-flat_map (provider_lines w) (filter (λ c. is_attached c.standing) w.cells) l i in
          let a = known-In (λ (a : Alias). provider_line w c.0.ns a.name) (names_of c.0) l c.2 in
          let m = In-filtered (λ (c : Cell). is_attached c.standing) w.cells c.0 c.1 in
          found c.0 (ltb-true c.0.ns n (known_parts w c.0 (all-In (is_known_cell w) w.cells h.ready.cells c.0 m)).ns) a.0.name (provided_at w c.0.ns a.0.name) l a.1

  contents_here : Follows (A ++ C ++ K ++ P) D × Has (A ++ C ++ K ++ P ++ D) 5 n done
  contents_here = all_late D (A ++ C ++ K ++ P) 5 n done (has_higher (A ++ C ++ K ++ P) 4 5 n done (omega arith) providers_here.1) pos late
    where
      within : (k : ℕ) (at : Part) (addr : ℕ) (bytes : List ℕ) (l : DumpLine) → In l (lines_within k at addr bytes) → Late n 5 l
      within zero at addr bytes l i = absurd i
      within (suc k) at addr bytes l (inl e) = subst (λ (x : DumpLine). Late n 5 x) (sym e) refl
      within (suc k) at addr bytes l (inr i) = within k at (addr + 64) (drop 64 bytes) l i

      late : (l : DumpLine) → In l D → Late n 5 l
      late l i =
          let c = In-flat_map (λ (c : Cell). flat_map (section_lines (held_in w) c) c.object.sections) w.cells l i in
          let s = In-flat_map (section_lines (held_in w) c.0) c.0.object.sections l c.2 in
          within ((length (held_in w c.0 s.0) + 63) / 64) (record { cell = c.0.id.0; section = s.0.number }) (start_of c.0.placed s.0.number) (held_in w c.0 s.0) l s.2

  end_here : Follows (A ++ C ++ K ++ P ++ D) (End ∷ []) × Has (A ++ C ++ K ++ P ++ D ++ End ∷ []) 6 n done
  end_here = all_late (End ∷ []) (A ++ C ++ K ++ P ++ D) 6 n done (has_higher (A ++ C ++ K ++ P ++ D) 5 6 n done (omega arith) contents_here.1) pos late
    where
      late : (l : DumpLine) → In l (End ∷ []) → Late n 6 l
      late l (inl e) = subst (λ (x : DumpLine). Late n 6 x) (sym e) refl
      late l (inr i) = absurd i

  -- all parts, one behind the other
  joined_parts : A ++ C ++ K ++ P ++ D ≡ A ++ (C ++ (K ++ (P ++ D)))
  joined_parts =
      append_assoc (A ++ C ++ K) P D
      ∙ (append_assoc (A ++ C) K (P ++ D)
      ∙ append_assoc A C (K ++ (P ++ D)))

  pub all_follow : Follows [] (dump_lines w)
  all_follow =
      follow_on [] (A ++ (C ++ (K ++ (P ++ D)))) (End ∷ [])
      (follow_on [] A (C ++ (K ++ (P ++ D))) (space_there, spaces_here.0)
      (follow_on A C (K ++ (P ++ D)) cells_here.1
      (follow_on (A ++ C) K (P ++ D) links_here.0
      (follow_on (A ++ C ++ K) P D providers_here.0 contents_here.0))))
      (subst (λ (b : List DumpLine). Follows b (End ∷ [])) joined_parts end_here.0)
