-- Copies of the cells of a namespace in a sibling that is added, not placed yet: the rule of names holds, and nothing is lacking.
use Rattle.std.proofs.Common.{◌≡◌, refl, sym, ◌∙◌, ap, ap₂, subst, arith, ℕ, suc, ◌+◌, ◌≤◌, ◌<◌, ◌⊎◌, inl, inr, Bool, true, false, not, ◌&&◌, ◌||◌, List, [], ◌∷◌, ◌++◌, map, length, true≢false, Option, Some, None, Ok, length-append, append_assoc}
use Rattle.std.specs.Prelude.{filter, filter_map, is_some, is_none, nat_lt, nat_le, option_map, ◌==◌}
use Rattle.std.specs.List.{list_all, list_any}
use Rattle.std.proofs.lemmas.Bool.{and_parts, and_from, or_cases, eqb-true, eq-eqb, ltb-true, lt-ltb, leb-true, le-leb, false_from_ne_true}
use Rattle.std.proofs.lemmas.Slice.Eq.{bytes_eq-Decides}
use Rattle.cell_num.specs.Lists.{equals, holds, holds_name, first, numbered, each_pair, or_else, In}
use Rattle.cell_world.specs.declared.refusal.Refusal.TheVariants.{TooMany}
use Rattle.cell_world.specs.declared.refusal.Many.TheVariants.{Cells, CellNumbers}
use Rattle.cell_num.specs.Limits.{max_cells, max_cell_number}
use Rattle.cell_world.specs.World.{World, Cell, Standing, is_attached}
use Rattle.cell_world.specs.declared.state.Standing.TheVariants.{Attached, Detached}
use Rattle.cell_world.specs.Names.{Provider, chain, are_on_one_path, by_spaces, strong_provider, weak_provider, provider_for, provider_of, symbol_named, weak_symbol_named, needs_of}
use Rattle.cell_world.specs.Gather.{Need, first_lack, with_next}
use Rattle.cell_world.specs.Outcome.{need, each}
use Rattle.cell_world.specs.Commands.NsCommand.{with_namespace}
use Rattle.cell_world.specs.Change.{Copy, append_copy, copy_of}
use Rattle.cell_world.specs.Commands.Asked.{is_in_space, cells_in, copies_into, parent_of}
use Rattle.cell_world.specs.Coherent.{IsCoherent, IsLoadable, all_names, may_both_stand, has_each_name_once, is_supplied, is_known_cell, is_sound_parent, begins_with_k}
use Rattle.cell_num.proofs.Elements.{all-In, In-all, All-In, In-All, any-In, any-Has, In-append, In-left, In-right, In-filtered, filter-In, filter-Passes, filter_none, pairs-In, first_has, first-In, some_has, Has}
use Rattle.cell_num.proofs.Sublists.{pairs-append, pairs-filter, all-append}
use Rattle.cell_lemmas.proofs.Outcomes.{bind_ok, then_ok, need_ok}
use Rattle.std.proofs.lemmas.List.{append-nil}
use Rattle.cell_lemmas.proofs.Naming.Appended.{ok_same}
use Rattle.cell_lemmas.proofs.Naming.Known.{KnownParts, known_parts, known_from}
use Rattle.cell_lemmas.proofs.Holding.KeptPaths.{holds-In, In-holds}
use Rattle.cell_lemmas.proofs.Naming.Lookups.{filter_map-In}
use Rattle.cell_lemmas.proofs.Naming.Asked.{In-by_spaces, by_spaces-In, or_else_from, or_else_has}
use Rattle.cell_lemmas.proofs.Naming.Gathered.{Ranks}
use Rattle.cell_lemmas.proofs.Naming.Spaces.{chain_stays, child, names_stay}
use Rattle.cell_lemmas.proofs.Targeting.Present.{In-filter_map}
use Rattle.cell_lemmas.proofs.Naming.Chains.{Lower, lower_parents}
use Rattle.cell_lemmas.proofs.Naming.Paths.{on_one_path, in_own_chain}
use Rattle.cell_lemmas.proofs.Placement.Ready.{grown}
use Rattle.cell_change_law.proofs.Siblings.{chain_up, chain_added, chain_below, parent_lower}

-- the cell of that number, in that namespace
abbrev pub copied : ℕ → ℕ → Cell → Cell
copied number ns c = record c { placed = record c.placed { id = record { 0 = number }; ns = ns; places = [] }; standing = Attached }

-- one number after the other
abbrev pub copies_from : ℕ → ℕ → List Cell → List Cell
copies_from number ns [] = []
copies_from number ns (c ∷ cells) = copied number ns c ∷ copies_from (suc number) ns cells

pub copies_length : (cells : List Cell) (number ns : ℕ) → length (copies_from number ns cells) ≡ length cells
copies_length [] number ns = refl
copies_length (c ∷ cells) number ns = ap suc (copies_length cells (suc number) ns)

-- a copy is one of a cell, by a number from there on
pub copy-In : (cells : List Cell) (number ns : ℕ) (z : Cell) → In z (copies_from number ns cells) → (n : ℕ) × (c : Cell) × In c cells × (z ≡ copied n ns c) × (number ≤ n) × (n < number + length cells)
copy-In [] number ns z i = absurd i
copy-In (c ∷ cells) number ns z (inl e) = (number, c, inl refl, e, omega arith, omega arith)
copy-In (c ∷ cells) number ns z (inr i) = let r = copy-In cells (suc number) ns z i in (r.0, r.1, inr r.2, r.3, omega (arith, r.4), omega (arith, r.5))

-- each cell has one
pub In-copies : (cells : List Cell) (number ns : ℕ) (c : Cell) → In c cells → (n : ℕ) × In (copied n ns c) (copies_from number ns cells)
In-copies [] number ns c i = absurd i
In-copies (d ∷ cells) number ns c (inl e) = (number, inl (ap (copied number ns) e))
In-copies (d ∷ cells) number ns c (inr i) = let r = In-copies cells (suc number) ns c i in (r.0, inr r.1)

-- what holds of two cells in a row holds of their copies
pairs_copied : (t u : Cell → Cell → Bool) (cells : List Cell) (ns number : ℕ) → ((c d : Cell) → In c cells → In d cells → t c d ≡ true → (n m : ℕ) → n < m → u (copied n ns c) (copied m ns d) ≡ true) → each_pair t cells ≡ true → each_pair u (copies_from number ns cells) ≡ true
pairs_copied t u [] ns number f h = refl
pairs_copied t u (c ∷ cells) ns number f h =
    let k = and_parts (list_all (t c) cells) (each_pair t cells) h in
    and_from (list_all (u (copied number ns c)) (copies_from (suc number) ns cells)) (each_pair u (copies_from (suc number) ns cells))
    (In-all (u (copied number ns c)) (copies_from (suc number) ns cells) (λ z i. one k.0 z (copy-In cells (suc number) ns z i)))
    (pairs_copied t u cells ns (suc number) (λ a b i j. f a b (inr i) (inr j)) k.1)
  where
    one : list_all (t c) cells ≡ true → (z : Cell) → (n : ℕ) × (d : Cell) × In d cells × (z ≡ copied n ns d) × (suc number ≤ n) × (n < suc number + length cells) → u (copied number ns c) z ≡ true
    one k z r = subst (λ (y : Cell). u (copied number ns c) y ≡ true) (sym r.3) (f c r.1 (inl refl) (inr r.2) (all-In (t c) cells k r.1 r.2) number r.0 (omega (arith, r.4)))

-- what appending copies comes to
pub record AreCopied (ns : ℕ) (u : World) (cells : List Cell) (g : World) : Type 0 where
  pub is : grown u (u.cells ++ copies_from u.next_cell ns cells) (u.next_cell + length cells) u.regions ≡ g
  pub few : length g.cells ≤ max_cells
  pub last : g.next_cell ≤ suc max_cell_number

pub all_copied : (ns : ℕ) (cells : List Cell) (u g : World) → length u.cells ≤ max_cells → u.next_cell ≤ suc max_cell_number → each append_copy u (copies_into ns cells) ≡ Ok g → AreCopied ns u cells g
all_copied ns [] u g few last e =
    let s : u ≡ g = ok_same u g e in
    record {
      is = ap₂ (λ (cs : List Cell) n. grown u cs n u.regions) (append-nil u.cells) (zero_more u.next_cell) ∙ s;
      few = subst (λ (x : World). length x.cells ≤ max_cells) s few;
      last = subst (λ (x : World). x.next_cell ≤ suc max_cell_number) s last;
    }
  where
    zero_more : (n : ℕ) → n + 0 ≡ n
    zero_more n = omega arith
all_copied ns (c ∷ cells) u g few last e =
    let b = bind_ok (append_copy u one) (λ y. each append_copy y (copies_into ns cells)) g e in
    let room = then_ok (need (nat_lt (length u.cells) max_cells) (TooMany Cells max_cells)) _ b.0 b.1 in
    let numbers = then_ok (need (nat_le u.next_cell max_cell_number) (TooMany CellNumbers max_cell_number)) _ b.0 room.2 in
    let s : with_next u (copy_of u one) ≡ b.0 = ok_same _ _ numbers.2 in
    let k : AreCopied ns (with_next u (copy_of u one)) cells g = all_copied ns cells (with_next u (copy_of u one)) g
    (omega (arith, ltb-true (length u.cells) max_cells (need_ok _ _ room.0 room.1), length-append u.cells (copied u.next_cell ns c ∷ [])))
    (omega (arith, leb-true u.next_cell max_cell_number (need_ok _ _ numbers.0 numbers.1)))
    (subst (λ (x : World). each append_copy x (copies_into ns cells) ≡ Ok g) (sym s) b.2) in
    record {
      is = ap₂ (λ (cs : List Cell) n. grown u cs n u.regions) (sym (append_assoc u.cells (copied u.next_cell ns c ∷ []) (copies_from (suc u.next_cell) ns cells))) (next_more u.next_cell (length cells)) ∙ k.is;
      few = k.few;
      last = k.last;
    }
  where
    one : Copy
    one = record { original = c; ns = ns }

    next_more : (n m : ℕ) → n + suc m ≡ suc n + m
    next_more n m = omega arith

attached_is : (s : Standing) → is_attached s ≡ true → s ≡ Attached
attached_is Attached e = refl
attached_is (Detached l) e = absurd (true≢false (sym e))

stands_by : (a b p e l : Bool) → (a ≡ true → b ≡ true → p ≡ true → (not e && not l) ≡ true) → (not (a && b && p) || not e && not l) ≡ true
stands_by false b p e l f = refl
stands_by true false p e l f = refl
stands_by true true false e l f = refl
stands_by true true true e l f = f refl refl refl

stand_apart : (a b p : Bool) (rest : Bool) → (not (a && b && p) || rest) ≡ true → a ≡ true → b ≡ true → p ≡ true → rest ≡ true
stand_apart true true true rest h i j k = h
stand_apart false b p rest h i j k = absurd (true≢false (sym i))
stand_apart true false p rest h i j k = absurd (true≢false (sym j))
stand_apart true true false rest h i j k = absurd (true≢false (sym k))

or_turned : (a b : Bool) → (a || b) ≡ true → (b || a) ≡ true
or_turned true true h = refl
or_turned true false h = refl
or_turned false true h = refl
or_turned false false h = h

-- neither stem nor name in common, the other way round
clash_turned : (c d : Cell) → (not (equals c.stem d.stem) && not (list_any (holds_name (all_names d)) (all_names c))) ≡ true → (not (equals d.stem c.stem) && not (list_any (holds_name (all_names c)) (all_names d))) ≡ true
clash_turned c d h =
    let k = and_parts (not (equals c.stem d.stem)) (not (list_any (holds_name (all_names d)) (all_names c))) h in
    and_from (not (equals d.stem c.stem)) (not (list_any (holds_name (all_names c)) (all_names d)))
    (ap not (false_from_ne_true (equals d.stem c.stem) (λ e. unequal k.0 (sym ((bytes_eq-Decides d.stem c.stem).0 e)))))
    (ap not (false_from_ne_true (list_any (holds_name (all_names c)) (all_names d)) (λ e. unshared k.1 (any-Has (holds_name (all_names c)) (all_names d) e))))
  where
    unequal : not (equals c.stem d.stem) ≡ true → c.stem ≡ d.stem → ⊥
    unequal k e = true≢false (sym k ∙ ap not ((bytes_eq-Decides c.stem d.stem).1 e))

    unshared : not (list_any (holds_name (all_names d)) (all_names c)) ≡ true → (n : List ℕ) × In n (all_names d) × (holds_name (all_names c) n ≡ true) → ⊥
    unshared k n =
        let m = any-Has (λ other. equals other n.0) (all_names c) n.2 in
        true≢false (sym k ∙ ap not (any-In (holds_name (all_names d)) (all_names c) m.0 m.1
        (any-In (λ other. equals other m.0) (all_names d) n.0 n.1 ((bytes_eq-Decides n.0 m.0).1 (sym ((bytes_eq-Decides m.0 n.0).0 m.2))))))

-- where each cell is supplied, none lacks anything
pub lacks_none : (w : World) (cells : List Cell) → ((c : Cell) → In c cells → is_supplied w c ≡ true) → first_lack w cells ≡ None
lacks_none w [] f = refl
lacks_none w (c ∷ cells) f =
    let none : filter (λ name. is_none (provider_of w c name)) (needs_of c.object) ≡ [] = filter_none _ (needs_of c.object) (λ name i. some_not_none (provider_of w c name) (all-In (λ n. is_some (provider_of w c n)) (needs_of c.object) (f c (inl refl)) name i)) in
    ap (λ (names : List (List ℕ)). or_else (first (map {B = Need} (λ name. record { cell = c; name = name }) names)) (first_lack w cells)) none ∙ lacks_none w cells (λ d i. f d (inr i))
  where
    some_not_none : {X : Type 0} (o : Option X) → is_some o ≡ true → is_none o ≡ false
    some_not_none None h = absurd (true≢false (sym h))
    some_not_none (Some x) h = refl

-- what the cell provides, where it has the symbol
abbrev Offers : (Cell → Option ℕ) → Cell → Option Provider
Offers has c = option_map {T = ℕ} {U = Provider} (λ symbol. record { cell = c.id.0; symbol = symbol }) (has c)

-- where somebody of the one list has it, somebody of the other does too
has_again : (has : Cell → Option ℕ) (xs ys : List Cell) → ((x : Cell) → In x xs → (z : Cell) × In z ys × (has z ≡ has x)) → Has (first (filter_map (Offers has) xs)) → Has (first (filter_map (Offers has) ys))
has_again has xs ys h p =
    let x = In-filter_map (Offers has) xs p.0 (first-In (filter_map (Offers has) xs) p.0 p.1) in
    let z = h x.0 x.1 in
    let s = had x.0 (has x.0) p.0 x.2 in
    first_has (filter_map (Offers has) ys) (record { cell = z.0.id.0; symbol = s.0 })
    (filter_map-In (Offers has) ys z.0 (record { cell = z.0.id.0; symbol = s.0 }) z.1 (ap (option_map {T = ℕ} {U = Provider} (λ symbol. record { cell = z.0.id.0; symbol = symbol })) (z.2 ∙ s.1)))
  where
    had : (c : Cell) (o : Option ℕ) (q : Provider) → option_map {T = ℕ} {U = Provider} (λ symbol. record { cell = c.id.0; symbol = symbol }) o ≡ Some q → (n : ℕ) × (o ≡ Some n)
    had c None q e = absurd cc
    had c (Some n) q e = (n, refl)

module _ (w : World) (h : IsCoherent w) (name : List ℕ) (ns parent : ℕ) (there : ns < length w.namespaces) (up : parent_of w ns ≡ Some parent) where
  abbrev pub n : ℕ
  n = length w.namespaces

  abbrev pub base : World
  base = with_namespace w name parent

  spaces : list_all is_sound_parent (numbered w.namespaces) ≡ true
  spaces = (and_parts (begins_with_k w.namespaces) (list_all is_sound_parent (numbered w.namespaces)) h.ready.spaces).1

  pub lower : Lower w.namespaces
  lower = lower_parents w.namespaces spaces

  pub parent_below : parent < ns
  parent_below = parent_lower w.namespaces lower ns parent up

  -- both chains go on with that of the parent
  pub own_chain : chain w.namespaces ns ≡ ns ∷ chain w.namespaces parent
  own_chain = chain_up w.namespaces lower ns parent there up

  pub new_chain : chain base.namespaces n ≡ n ∷ chain w.namespaces parent
  new_chain = chain_added w.namespaces lower name parent (omega (arith, parent_below, there))

  abbrev pub olds : List Cell
  olds = cells_in w ns

  old_parts : (c : Cell) → In c olds → In c w.cells × (is_attached c.standing ≡ true) × (c.ns ≡ ns)
  old_parts c i =
      let p = and_parts (is_attached c.standing) (c.ns == ns) (filter-Passes (is_in_space ns) w.cells c i) in
      (In-filtered (is_in_space ns) w.cells c i, p.0, eqb-true c.ns ns p.1)

  abbrev pub copies : List Cell
  copies = copies_from w.next_cell n olds

  abbrev pub next : ℕ
  next = w.next_cell + length olds

  abbrev pub gathered : World
  gathered = grown base (w.cells ++ copies) next w.regions

  cell_there : (c : Cell) → In c w.cells → nat_lt c.ns (length w.namespaces) ≡ true
  cell_there c i = (known_parts w c (all-In (is_known_cell w) w.cells h.ready.cells c i)).ns

  old_chain : (c : Cell) → In c w.cells → chain base.namespaces c.ns ≡ chain w.namespaces c.ns
  old_chain c i = chain_stays w h.ready.spaces name parent c.ns (cell_there c i)

  pub copies_attached : list_all (λ (c : Cell). is_attached c.standing) copies ≡ true
  copies_attached = In-all (λ (c : Cell). is_attached c.standing) copies (λ z i. go z (copy-In olds w.next_cell n z i))
    where
      go : (z : Cell) → (m : ℕ) × (c : Cell) × In c olds × (z ≡ copied m n c) × (w.next_cell ≤ m) × (m < next) → is_attached z.standing ≡ true
      go z r = ap (λ (x : Cell). is_attached x.standing) r.3

  pub copies_fresh : list_all (λ (c : Cell). nat_le w.next_cell c.id.0) copies ≡ true
  copies_fresh = In-all (λ (c : Cell). nat_le w.next_cell c.id.0) copies (λ z i. go z (copy-In olds w.next_cell n z i))
    where
      go : (z : Cell) → (m : ℕ) × (c : Cell) × In c olds × (z ≡ copied m n c) × (w.next_cell ≤ m) × (m < next) → nat_le w.next_cell z.id.0 ≡ true
      go z r = ap (λ (x : Cell). nat_le w.next_cell x.id.0) r.3 ∙ le-leb w.next_cell r.0 r.4

  -- who is on one path with the new namespace is on one path with the old one, and isn't in it
  path_back : (d : Cell) → In d w.cells → are_on_one_path base.namespaces d.ns n ≡ true → (holds (chain w.namespaces ns) d.ns ≡ true) × (d.ns ≡ ns → ⊥)
  path_back d i e = go (or_cases (holds (chain base.namespaces d.ns) n) (holds (chain base.namespaces n) d.ns) e)
    where
      below : d.ns < n
      below = ltb-true d.ns n (cell_there d i)

      in_parent : (d.ns ≡ n) ⊎ In d.ns (chain w.namespaces parent) → (holds (chain w.namespaces ns) d.ns ≡ true) × (d.ns ≡ ns → ⊥)
      in_parent (inl x) = absurd (omega (arith, below, x))
      in_parent (inr x) = (
        In-holds (chain w.namespaces ns) d.ns (subst (In d.ns) (sym own_chain) (inr x)),
        λ q. omega (arith, chain_below w.namespaces lower parent d.ns x, parent_below, q),
      )

      go : (holds (chain base.namespaces d.ns) n ≡ true) ⊎ (holds (chain base.namespaces n) d.ns ≡ true) → (holds (chain w.namespaces ns) d.ns ≡ true) × (d.ns ≡ ns → ⊥)
      go (inl x) = absurd (omega (arith, below, chain_below w.namespaces lower d.ns n (subst (In n) (old_chain d i) (holds-In (chain base.namespaces d.ns) n x))))
      go (inr x) = in_parent (subst (In d.ns) new_chain (holds-In (chain base.namespaces n) d.ns x))

  own_path : holds (chain w.namespaces ns) ns ≡ true
  own_path = in_own_chain w.namespaces ns there

  -- two cells of a coherent machine whose namespaces are in one chain
  apart_names : (c d : Cell) → In c w.cells → In d w.cells → (c ≡ d → ⊥) → is_attached c.standing ≡ true → is_attached d.standing ≡ true → holds (chain w.namespaces ns) c.ns ≡ true → holds (chain w.namespaces ns) d.ns ≡ true
      → (not (equals c.stem d.stem) && not (list_any (holds_name (all_names d)) (all_names c))) ≡ true
  apart_names c d i j unlike a b p q = go (pairs-In (may_both_stand w) w.cells h.ready.names c d i j)
    where
      go : (c ≡ d) ⊎ ((may_both_stand w c d ≡ true) ⊎ (may_both_stand w d c ≡ true)) → (not (equals c.stem d.stem) && not (list_any (holds_name (all_names d)) (all_names c))) ≡ true
      go (inl e) = absurd (unlike e)
      go (inr (inl s)) = stand_apart (is_attached c.standing) (is_attached d.standing) (are_on_one_path w.namespaces c.ns d.ns) _ s a b (on_one_path w.namespaces ns c.ns d.ns p q)
      go (inr (inr s)) = clash_turned d c (stand_apart (is_attached d.standing) (is_attached c.standing) (are_on_one_path w.namespaces d.ns c.ns) _ s b a (on_one_path w.namespaces ns d.ns c.ns q p))

  old_new : (d z : Cell) → In d w.cells → In z copies → may_both_stand gathered d z ≡ true
  old_new d z i j = go (copy-In olds w.next_cell n z j)
    where
      go : (m : ℕ) × (c : Cell) × In c olds × (z ≡ copied m n c) × (w.next_cell ≤ m) × (m < next) → may_both_stand gathered d z ≡ true
      go r = subst (λ (x : Cell). may_both_stand gathered d x ≡ true) (sym r.3)
          (stands_by (is_attached d.standing) true (are_on_one_path base.namespaces d.ns n) (equals d.stem r.1.stem) (list_any (holds_name (all_names r.1)) (all_names d))
          (λ a b p. let q = path_back d i p in let o = old_parts r.1 r.2 in
          apart_names d r.1 i o.0 (λ e. q.1 (ap (λ (x : Cell). x.ns) e ∙ o.2)) a o.1 q.0 (subst (λ m. holds (chain w.namespaces ns) m ≡ true) (sym o.2) own_path)))

  new_new : each_pair (may_both_stand gathered) copies ≡ true
  new_new = pairs_copied (may_both_stand w) (may_both_stand gathered) olds n w.next_cell
      (λ c d i j e k m l. let o = old_parts c i in let q = old_parts d j in
      stands_by true true (are_on_one_path base.namespaces n n) (equals c.stem d.stem) (list_any (holds_name (all_names d)) (all_names c))
      (λ a b p. stand_apart (is_attached c.standing) (is_attached d.standing) (are_on_one_path w.namespaces c.ns d.ns) _ e o.1 q.1
      (on_one_path w.namespaces ns c.ns d.ns (subst (λ x. holds (chain w.namespaces ns) x ≡ true) (sym o.2) own_path) (subst (λ x. holds (chain w.namespaces ns) x ≡ true) (sym q.2) own_path))))
      (pairs-filter (may_both_stand w) (is_in_space ns) w.cells h.ready.names)

  parts_of : (c : Cell) → In c w.cells → KnownParts w c
  parts_of c i = known_parts w c (all-In (is_known_cell w) w.cells h.ready.cells c i)

  more_spaces : length base.namespaces ≡ suc n
  more_spaces = omega (arith, length-append w.namespaces (child name parent ∷ []))

  new_known : (z : Cell) → (m : ℕ) × (c : Cell) × In c olds × (z ≡ copied m n c) × (w.next_cell ≤ m) × (m < next) → is_known_cell gathered z ≡ true
  new_known z r = subst (λ (x : Cell). is_known_cell gathered x ≡ true) (sym r.3)
      (known_from gathered (copied r.0 n r.1) (record {
        number = lt-ltb r.0 next r.5;
        ns = lt-ltb n (length base.namespaces) (omega (arith, more_spaces));
        standing = refl;
        aliases = (parts_of r.1 (old_parts r.1 r.2).0).aliases;
      }))

  old_known : (c : Cell) → In c w.cells → is_known_cell gathered c ≡ true
  old_known c i =
      let p = parts_of c i in
      known_from gathered c (record {
        number = lt-ltb c.id.0 next (omega (arith, ltb-true c.id.0 w.next_cell p.number));
        ns = lt-ltb c.ns (length base.namespaces) (omega (arith, more_spaces, ltb-true c.ns (length w.namespaces) p.ns));
        standing = p.standing;
        aliases = p.aliases;
      })

  new_own : (z : Cell) → (m : ℕ) × (c : Cell) × In c olds × (z ≡ copied m n c) × (w.next_cell ≤ m) × (m < next) → has_each_name_once z ≡ true
  new_own z r = ap has_each_name_once r.3 ∙ all-In has_each_name_once w.cells h.ready.own_names r.1 (old_parts r.1 r.2).0

  new_object : (z : Cell) → (m : ℕ) × (c : Cell) × In c olds × (z ≡ copied m n c) × (w.next_cell ≤ m) × (m < next) → IsLoadable z.object
  new_object z r = subst (λ (x : Cell). IsLoadable x.object) (sym r.3) (All-In (λ (x : Cell). IsLoadable x.object) w.cells h.ready.objects r.1 (old_parts r.1 r.2).0)

  numbers_rise : (x z : Cell) → In x w.cells → In z copies → nat_lt x.id.0 z.id.0 ≡ true
  numbers_rise x z i j = lt-ltb x.id.0 z.id.0 (omega (arith, ltb-true x.id.0 w.next_cell (parts_of x i).number, leb-true w.next_cell z.id.0 (all-In (λ (c : Cell). nat_le w.next_cell c.id.0) copies copies_fresh z j)))

  -- the copies keep the rule of names, the order of numbers and the limits
  pub copied_ranks : (g : World) → AreCopied n base olds g → Ranks gathered
  copied_ranks g k = record {
    names = pairs-append (may_both_stand gathered) w.cells copies (names_stay w h.ready.spaces name parent h.ready.cells h.ready.names) new_new old_new;
    own_names = all-append has_each_name_once w.cells copies h.ready.own_names (In-all has_each_name_once copies (λ z i. new_own z (copy-In olds w.next_cell n z i)));
    order = pairs-append (λ (a b : Cell). nat_lt a.id.0 b.id.0) w.cells copies h.ready.cell_order
        (pairs_copied (λ (a b : Cell). nat_lt a.id.0 b.id.0) (λ (a b : Cell). nat_lt a.id.0 b.id.0) olds n w.next_cell (λ c d i j e m l r. lt-ltb m l r) (pairs-filter (λ (a b : Cell). nat_lt a.id.0 b.id.0) (is_in_space ns) w.cells h.ready.cell_order))
        numbers_rise;
    known = all-append (is_known_cell gathered) w.cells copies (In-all (is_known_cell gathered) w.cells old_known) (In-all (is_known_cell gathered) copies (λ z i. new_known z (copy-In olds w.next_cell n z i)));
    objects = In-All (λ (c : Cell). IsLoadable c.object) (w.cells ++ copies) (λ z i. pick z (In-append w.cells copies z i));
    few = subst (λ (x : World). length x.cells ≤ max_cells) (sym k.is) k.few;
    last = subst (λ (x : World). x.next_cell ≤ suc max_cell_number) (sym k.is) k.last;
  }
    where
      pick : (z : Cell) → In z w.cells ⊎ In z copies → IsLoadable z.object
      pick z (inl i) = All-In (λ (c : Cell). IsLoadable c.object) w.cells h.ready.objects z i
      pick z (inr i) = new_object z (copy-In olds w.next_cell n z i)

  abbrev there_now : List Cell
  there_now = filter (λ (d : Cell). is_attached d.standing) (w.cells ++ copies)

  -- for each cell that the old namespace asks there is one that the new one asks, with the same names: the cell, or its copy
  asked_again : (d : Cell) → In d w.cells → is_attached d.standing ≡ true → (d.ns ≡ ns) ⊎ In d.ns (chain w.namespaces parent)
      → (z : Cell) × In z there_now × (holds (chain base.namespaces n) z.ns ≡ true) × ((name : List ℕ) → symbol_named z name ≡ symbol_named d name) × ((name : List ℕ) → weak_symbol_named z name ≡ weak_symbol_named d name)
  asked_again d j a (inl q) =
      let r = In-copies olds w.next_cell n d (filter-In (is_in_space ns) w.cells d j (and_from (is_attached d.standing) (d.ns == ns) a (eq-eqb d.ns ns q))) in (
        copied r.0 n d,
        filter-In (λ (x : Cell). is_attached x.standing) (w.cells ++ copies) (copied r.0 n d) (In-right w.cells copies (copied r.0 n d) r.1) refl,
        In-holds (chain base.namespaces n) n (subst (In n) (sym new_chain) (inl refl)),
        λ name. refl,
        λ name. refl,
      )
  asked_again d j a (inr q) = (
    d,
    filter-In (λ (x : Cell). is_attached x.standing) (w.cells ++ copies) d (In-left w.cells copies d j) a,
    In-holds (chain base.namespaces n) d.ns (subst (In d.ns) (sym new_chain) (inr q)),
    λ name. refl,
    λ name. refl,
  )

  abbrev there_before : List Cell
  there_before = filter (λ (d : Cell). is_attached d.standing) w.cells

  asked_before : (d : Cell) → In d there_before → holds (chain w.namespaces ns) d.ns ≡ true
      → (z : Cell) × In z there_now × (holds (chain base.namespaces n) z.ns ≡ true) × ((name : List ℕ) → symbol_named z name ≡ symbol_named d name) × ((name : List ℕ) → weak_symbol_named z name ≡ weak_symbol_named d name)
  asked_before d i e =
      asked_again d (In-filtered (λ (x : Cell). is_attached x.standing) w.cells d i) (filter-Passes (λ (x : Cell). is_attached x.standing) w.cells d i)
      (subst (In d.ns) own_chain (holds-In (chain w.namespaces ns) d.ns e))

  strong_again : (symbol : List ℕ) → Has (strong_provider w Attached ns symbol) → Has (strong_provider gathered Attached n symbol)
  strong_again symbol =
      has_again (λ x. symbol_named x symbol) (filter (λ (x : Cell). holds (chain w.namespaces ns) x.ns) there_before) (filter (λ (x : Cell). holds (chain base.namespaces n) x.ns) there_now)
      (λ x i. let z = asked_before x (In-filtered (λ (y : Cell). holds (chain w.namespaces ns) y.ns) there_before x i) (filter-Passes (λ (y : Cell). holds (chain w.namespaces ns) y.ns) there_before x i) in
      (z.0, filter-In (λ (y : Cell). holds (chain base.namespaces n) y.ns) there_now z.0 z.1 z.2, z.3 symbol))

  weak_again : (symbol : List ℕ) → Has (weak_provider w Attached ns symbol) → Has (weak_provider gathered Attached n symbol)
  weak_again symbol =
      has_again (λ x. weak_symbol_named x symbol) (by_spaces (chain w.namespaces ns) there_before) (by_spaces (chain base.namespaces n) there_now)
      (λ x i. let b = In-by_spaces (chain w.namespaces ns) there_before x i in let z = asked_before x b.0 b.1 in
      (z.0, by_spaces-In (chain base.namespaces n) there_now z.0 z.1 z.2, z.4 symbol))

  -- who provides a name to a cell provides it to its copy, or a copy of the provider does
  provided_again : (c : Cell) → In c olds → (m : ℕ) → (symbol : List ℕ) → is_some (provider_of w c symbol) ≡ true → is_some (provider_of gathered (copied m n c) symbol) ≡ true
  provided_again c i m symbol e = ap is_some (go (or_else_from (strong_provider w Attached ns symbol) (weak_provider w Attached ns symbol) had.0 had.1)).1
    where
      had : Has (provider_for w Attached ns symbol)
      had = some_has (provider_for w Attached ns symbol)
          (ap (λ k. is_some (provider_for w Attached k symbol)) (sym (old_parts c i).2) ∙ (ap (λ (s : Standing). is_some (provider_for w s c.ns symbol)) (sym (attached_is c.standing (old_parts c i).1)) ∙ e))

      go : (strong_provider w Attached ns symbol ≡ Some had.0) ⊎ ((strong_provider w Attached ns symbol ≡ None) × (weak_provider w Attached ns symbol ≡ Some had.0)) → Has (provider_for gathered Attached n symbol)
      go (inl a) = or_else_has (strong_provider gathered Attached n symbol) (weak_provider gathered Attached n symbol) (inl (strong_again symbol (had.0, a)))
      go (inr a) = or_else_has (strong_provider gathered Attached n symbol) (weak_provider gathered Attached n symbol) (inr (weak_again symbol (had.0, a.1)))

  copy_supplied : (z : Cell) → (m : ℕ) × (c : Cell) × In c olds × (z ≡ copied m n c) × (w.next_cell ≤ m) × (m < next) → is_supplied gathered z ≡ true
  copy_supplied z r = subst (λ (x : Cell). is_supplied gathered x ≡ true) (sym r.3)
      (In-all (λ symbol. is_some (provider_of gathered (copied r.0 n r.1) symbol)) (needs_of r.1.object) (λ symbol i.
      provided_again r.1 r.2 r.0 symbol (all-In (λ x. is_some (provider_of w r.1 x)) (needs_of r.1.object) (all-In (is_supplied w) w.cells h.ready.supplied r.1 (old_parts r.1 r.2).0) symbol i)))

  -- and lack nothing
  pub copies_lack_nothing : first_lack gathered copies ≡ None
  copies_lack_nothing = lacks_none gathered copies (λ z i. copy_supplied z (copy-In olds w.next_cell n z i))
