-- What is lowered is sound.
use Rattle.std.proofs.Common.{◌≡◌, refl, sym, ◌∙◌, ap, subst, arith, ℕ, zero, suc, ◌+◌, ◌*◌, ◌<◌, ◌≤◌, inl, inr, Bool, true, false, cond, not, ◌||◌, ◌&&◌, List, [], ◌∷◌, ◌++◌, map, length, true≢false, Option, Some, None}
use Rattle.std.specs.Prelude.{◌^◌, pos, find, replicate, slice_get, unwrap_or, option_map, option_and_then, is_some, nat_lt, nat_le, ◌==◌}
use Rattle.std.specs.List.{list_all}
use Rattle.std.specs.Ordering.{int_eq}
use Rattle.std.specs.Option.{option_or}
use Rattle.std.proofs.lemmas.Bool.{and_parts, and_from, eqb-true, eq-eqb}
use Rattle.std.proofs.lemmas.Bool.Decides.{nat_tests}
use Rattle.std.proofs.lemmas.List.Folds.{find-append}
use Rattle.std.proofs.lemmas.List.{length-replicate}
use Rattle.cell_num.specs.Lists.{each_pair, numbered, numbered_from, upto, from_on, In}
use Rattle.cell_num.specs.Kinds.{is_pcrel_lo12, is_pcrel_hi20}
use Rattle.cell_num.specs.declared.kinds.RelKind.TheVariants.{PcrelHi20}
use Rattle.std.proofs.lemmas.Option.{slice_get_within}
use Rattle.cell_num.proofs.Elements.{In-numbered, get-In, all-In, In-all, In-map, map-In, In-left, found-In, find_there, pairs_push, pairs-map, pairs_same, all_push}
use Rattle.cell_num.proofs.Sublists.{all-append, pairs-append, In-fixed}
use Rattle.cell_num.proofs.Ranges.{none_found-In}
use Rattle.cell_object.specs.declared.object.Object.{Object}
use Rattle.cell_object.specs.declared.object.Section.{Section}
use Rattle.cell_object.specs.declared.object.Symbol.{Symbol}
use Rattle.cell_object.specs.declared.object.Entry.{Entry}
use Rattle.cell_object.specs.declared.object.Home.{Home}
use Rattle.cell_object.specs.declared.object.Home.TheVariants.{Undef, Abs, Inside, Elsewhere}
use Rattle.cell_object.specs.Parts.{is_local, section_of, symbol_at, label_of, high_of, inside_of}
use Rattle.cell_object.specs.Sound.{IsSoundObject, is_sound_section, is_known_kind, is_sound_home, is_sound_symbol, is_nameable, is_sound_entry_in, is_sound_entry, may_share, may_both_be, is_plain_sort}
use Rattle.cell_object.specs.Symbols.{is_global_name}
use Rattle.cell_object.specs.Readable.{is_got, IsReadable, plain, plain_entry}
use Rattle.cell_got.specs.Lower.{slots_of, slot_of, got_number, got_section, slot_symbol, slot_entry, lowered_entry, with_slots, lower_by, lower}
use Rattle.cell_got.proofs.Slots.{slot_there, slot_asked, few_slots, slot_below, below_got}

-- what stands in a list is found there when more come behind
found_left : {X : Type 0} (p : X → Bool) (xs ys : List X) (x : X) → find p xs ≡ Some x → find p (xs ++ ys) ≡ Some x
found_left p xs ys x e = find-append p xs ys ∙ ap (λ o. option_or o (find p ys)) e

pub get_left : {X : Type 0} (xs ys : List X) (n : ℕ) (x : X) → slice_get xs n ≡ Some x → slice_get (xs ++ ys) n ≡ Some x
get_left [] ys n x e = absurd cc
get_left (z ∷ xs) ys zero x e = e
get_left (z ∷ xs) ys (suc n) x e = get_left xs ys n x e

pub get_right : {X : Type 0} (xs ys : List X) (n m : ℕ) → m ≡ length xs + n → slice_get (xs ++ ys) m ≡ slice_get ys n
get_right [] ys n m e = ap (slice_get ys) (omega (arith, e))
get_right (z ∷ xs) ys n zero e = absurd (omega (arith, e))
get_right (z ∷ xs) ys n (suc m) e = get_right xs ys n m (omega (arith, e))

more : (n : ℕ) → (suc n == 0) ≡ false
more n = grind (arith, nat_tests)

-- the numbers from a on are those
pub get_from : (a n k : ℕ) → k < n → slice_get (from_on a n) k ≡ Some (a + k)
get_from a zero k h = absurd (omega (arith, h))
get_from a (suc n) zero h = ap Some (omega arith)
get_from a (suc n) (suc k) h = get_from (suc a) n k (omega (arith, h)) ∙ ap Some (omega arith)

from_below : (a n x : ℕ) → In x (from_on a n) → x < a + n
from_below a zero x i = absurd i
from_below a (suc n) x (inl e) = omega (arith, e)
from_below a (suc n) x (inr i) = let h = from_below (suc a) n x i in omega (arith, h)

pub get_map : {X Y : Type 0} (f : X → Y) (xs : List X) (n : ℕ) (x : X) → slice_get xs n ≡ Some x → slice_get (map f xs) n ≡ Some (f x)
get_map f [] n x e = absurd cc
get_map f (z ∷ xs) zero x e = ap (option_map f) e
get_map f (z ∷ xs) (suc n) x e = get_map f xs n x e

module _ (o : Object) (sound : IsSoundObject (plain o)) (slots : List ℕ) (n : ℕ)
    (above : (s : Section) → In s o.sections → s.number < n)
    (few : length slots ≤ 2 ^ 20)
    (there : (e : Entry) → In e o.entries → is_got e ≡ true → In e.symbol slots)
    (known : (x : ℕ) → In x slots → (x == 0 || unwrap_or (option_map (λ s. is_nameable s s.home) (symbol_at o x)) false) ≡ true) where
  abbrev new : Object
  new = with_slots n slots o

  abbrev got : Section
  got = got_section n (length slots)

  got_sound : is_sound_section got ≡ true
  got_sound =
      let a : nat_le (8 * length slots) 16777216 ≡ true = let h = few in grind (arith, nat_tests) in
      let b : (length {A = ℕ} (replicate (8 * length slots) 0) == 8 * length slots) ≡ true = eq-eqb _ _ (length-replicate (8 * length slots) 0) in
      rw (a, b) refl

  pub old_section : (number : ℕ) (s : Section) → section_of o number ≡ Some s → section_of new number ≡ Some s
  old_section number s e = found_left (λ (t : Section). t.number == number) o.sections (got ∷ []) s e

  new_section : section_of new n ≡ Some got
  new_section =
      find-append (λ (t : Section). t.number == n) o.sections (got ∷ [])
      ∙ (ap (λ (r : Option Section). option_or r (find (λ (t : Section). t.number == n) (got ∷ []))) (none_found-In (λ (t : Section). t.number == n) o.sections lower_number)
      ∙ ap (λ (b : Bool). cond b (Some got) None) (eq-eqb n n refl))
    where
      lower_number : (s : Section) → In s o.sections → (s.number == n) ≡ false
      lower_number s i = let h = above s i in grind (arith, nat_tests)

  -- a test of the section of that number holds of it with the slots behind
  tested : (test : Section → Bool) (number : ℕ) → unwrap_or (option_map test (section_of o number)) false ≡ true → unwrap_or (option_map test (section_of new number)) false ≡ true
  tested test number h = go (section_of o number) refl h
    where
      go : (r : Option Section) → section_of o number ≡ r → unwrap_or (option_map test r) false ≡ true → unwrap_or (option_map test (section_of new number)) false ≡ true
      go None e k = absurd (true≢false (sym k))
      go (Some s) e k = ap (λ (r : Option Section). unwrap_or (option_map test r) false) (old_section number s e) ∙ k

  old_home : (s : Symbol) (home : Home) → is_sound_home (plain o) s home ≡ true → is_sound_home new s home ≡ true
  old_home s Undef h = refl
  old_home s Abs h = h
  old_home s (Inside m) h = tested (λ section. nat_le s.value section.size) m h
  old_home s Elsewhere h = h

  three : (a b c : Bool) → (a && b && c) ≡ true → (a ≡ true) × (b ≡ true) × (c ≡ true)
  three true true true h = (refl, refl, refl)
  three true true false h = absurd (true≢false (sym h))
  three true false c h = absurd (true≢false (sym h))
  three false b c h = absurd (true≢false (sym h))

  old_symbol : (s : Symbol) → In s o.symbols → is_sound_symbol new s ≡ true
  old_symbol s i =
      let k = and_parts (is_sound_home (plain o) s s.home) (is_local s.bind || is_global_name s.name && is_plain_sort s.sort) (all-In (is_sound_symbol (plain o)) o.symbols sound.symbols s i) in
      rw (old_home s s.home k.0, k.1) refl

  slot_sound : (k : ℕ) → k < length slots → is_sound_symbol new (slot_symbol n k) ≡ true
  slot_sound k h =
      let a : nat_le (8 * k) (8 * length slots) ≡ true = grind (arith, nat_tests, h) in
      ap (λ (r : Option Section). unwrap_or (option_map (λ section. nat_le (8 * k) section.size) r) false && true) new_section ∙ rw a refl

  -- symbols
  pub symbol_stays : (j : ℕ) (s : Symbol) → symbol_at o j ≡ Some s → symbol_at new j ≡ Some s
  symbol_stays zero s e = absurd cc
  symbol_stays (suc j) s e = get_left o.symbols (map (slot_symbol n) (upto (length slots))) j s e

  pub slot_at : (k : ℕ) → k < length slots → symbol_at new (suc (length o.symbols) + k) ≡ Some (slot_symbol n k)
  slot_at k h =
      let e : suc (length o.symbols) + k ≡ suc (length o.symbols + k) = omega arith in
      ap (symbol_at new) e
      ∙ get_right o.symbols (map (slot_symbol n) (upto (length slots))) k (length o.symbols + k) refl
      ∙ get_map (slot_symbol n) (upto (length slots)) k k (get_from 0 (length slots) k h ∙ ap Some (omega arith))

  nameable_stays : (j : ℕ) → (j == 0 || unwrap_or (option_map (λ s. is_nameable s s.home) (symbol_at o j)) false) ≡ true
      → (j == 0 || unwrap_or (option_map (λ s. is_nameable s s.home) (symbol_at new j)) false) ≡ true
  nameable_stays zero h = refl
  nameable_stays (suc j) h = go (symbol_at o (suc j)) refl h
    where
      go : (r : Option Symbol) → symbol_at o (suc j) ≡ r → (suc j == 0 || unwrap_or (option_map (λ s. is_nameable s s.home) r) false) ≡ true
          → (suc j == 0 || unwrap_or (option_map (λ s. is_nameable s s.home) (symbol_at new (suc j))) false) ≡ true
      go None e k = absurd (true≢false (sym k ∙ rw (more j) refl))
      go (Some s) e k = ap (λ (r : Option Symbol). suc j == 0 || unwrap_or (option_map (λ s. is_nameable s s.home) r) false) (symbol_stays (suc j) s e) ∙ k

  abbrev low : Entry → Entry
  low e = lowered_entry (suc (length o.symbols)) slots e

  -- the two forms of an entry are at one place, and of one kind
  pub record AreAlike (e f : Entry) : Type 0 where
    pub section : e.section ≡ f.section
    pub offset : e.offset ≡ f.offset
    pub kind : e.kind ≡ f.kind

  alike : (e : Entry) → AreAlike (low e) (plain_entry e)
  alike e = go (is_got e)
    where
      go : (b : Bool) → AreAlike
          (elim b as (λ _. Entry) [ true ↦ record e { kind = PcrelHi20; symbol = suc (length o.symbols) + slot_of slots e.symbol } | false ↦ e ])
          (elim b as (λ _. Entry) [ true ↦ record e { kind = PcrelHi20 } | false ↦ e ])
      go true = record { section = refl; offset = refl; kind = refl }
      go false = record { section = refl; offset = refl; kind = refl }

  -- an entry's field is in its section
  field_stays : (e f : Entry) → AreAlike e f → unwrap_or (option_map (is_sound_entry_in f) (section_of o f.section)) false ≡ true
      → unwrap_or (option_map (is_sound_entry_in e) (section_of new e.section)) false ≡ true
  field_stays e f a h =
      rw (a.section, a.offset, a.kind) (tested (is_sound_entry_in f) f.section h)

  abbrev at_label : ℕ × ℕ → Entry → Bool
  at_label label h = is_pcrel_hi20 h.kind && h.section == label.0 && h.offset == label.1

  -- a PCREL_HI20 entry at the label is there as before
  high_stays : (label : ℕ × ℕ) → is_some (find (at_label label) (plain o).entries) ≡ true → is_some (find (at_label label) new.entries) ≡ true
  high_stays label h = go (find (at_label label) (plain o).entries) refl h
    where
      go : (r : Option Entry) → find (at_label label) (plain o).entries ≡ r → is_some r ≡ true → is_some (find (at_label label) new.entries) ≡ true
      go None found k = absurd (true≢false (sym k))
      go (Some x) found k =
          let is = found-In (at_label label) (plain o).entries x found in
          let from = In-map plain_entry o.entries x is.0 in
          let y = find_there (at_label label) new.entries (low from.0) (In-left (map low o.entries) (map (slot_entry n) (numbered slots)) (low from.0) (map-In low o.entries from.0 from.1))
          (same_label (low from.0) (plain_entry from.0) (alike from.0) (subst (λ (z : Entry). at_label label z ≡ true) from.2 is.1)) in
          ap is_some y.1
        where
          same_label : (e f : Entry) → AreAlike e f → at_label label f ≡ true → at_label label e ≡ true
          same_label e f a h = rw (a.section, a.offset, a.kind) h

  label_stays : (e : Entry) (label : ℕ × ℕ) → label_of o e ≡ Some label → label_of new e ≡ Some label
  label_stays e label h = go (symbol_at o e.symbol) refl h
    where
      of : Symbol → Option (ℕ × ℕ)
      of s = option_map (λ section. (section, s.value)) (inside_of s.home)

      go : (r : Option Symbol) → symbol_at o e.symbol ≡ r → option_and_then (λ s. option_map (λ section. (section, s.value)) (inside_of s.home)) r ≡ Some label → label_of new e ≡ Some label
      go None is k = absurd cc
      go (Some s) is k = ap (option_and_then (λ s. option_map (λ section. (section, s.value)) (inside_of s.home))) (symbol_stays e.symbol s is) ∙ k

  -- the label of a PCREL_LO12 entry, with the entry there
  abbrev is_paired : Object → Entry → Bool
  is_paired object e =
      not (is_pcrel_lo12 e.kind)
      || int_eq e.addend (pos 0) && is_some (high_of object e)
      && unwrap_or (option_map (λ label. label.0 == e.section) (label_of object e)) false

  pair_stays : (e : Entry) → is_paired (plain o) e ≡ true → is_paired new e ≡ true
  pair_stays e h = go (is_pcrel_lo12 e.kind) (label_of o e) refl h
    where
      go : (b : Bool) (r : Option (ℕ × ℕ)) → label_of o e ≡ r
          → (not b || int_eq e.addend (pos 0) && is_some (option_and_then (λ label. find (at_label label) (plain o).entries) r) && unwrap_or (option_map (λ label. label.0 == e.section) r) false) ≡ true
          → (not b || int_eq e.addend (pos 0) && is_some (option_and_then (λ label. find (at_label label) new.entries) (label_of new e)) && unwrap_or (option_map (λ label. label.0 == e.section) (label_of new e)) false) ≡ true
      go false r is k = refl
      go true None is k = absurd (true≢false (sym (three (int_eq e.addend (pos 0)) false false k).1))
      go true (Some label) is k =
          let p = three (int_eq e.addend (pos 0)) (is_some (find (at_label label) (plain o).entries)) (label.0 == e.section) k in
          rw (label_stays e label is, p.0, high_stays label p.1, p.2) refl

  four : (a b c d : Bool) → (a && b && c && d) ≡ true → (a ≡ true) × (b ≡ true) × (c ≡ true) × (d ≡ true)
  four a b c d h = let k = three (a && b) c d h in let l = and_parts a b k.0 in (l.0, l.1, k.1, k.2)

  from_four : (a b c d : Bool) → a ≡ true → b ≡ true → c ≡ true → d ≡ true → (a && b && c && d) ≡ true
  from_four a b c d h k l m = rw (h, k, l, m) refl

  or_right : (a b : Bool) → b ≡ true → (a || b) ≡ true
  or_right true b h = refl
  or_right false b h = h

  entry_sound : (e : Entry) → In e o.entries → is_sound_entry new (low e) ≡ true
  entry_sound e i = go (is_got e) refl (all-In (is_sound_entry (plain o)) (plain o).entries sound.entries (plain_entry e) (map-In plain_entry o.entries e i))
    where
      go : (b : Bool) → is_got e ≡ b
          → is_sound_entry (plain o) (elim b as (λ _. Entry) [ true ↦ record e { kind = PcrelHi20 } | false ↦ e ]) ≡ true
          → is_sound_entry new (elim b as (λ _. Entry) [ true ↦ record e { kind = PcrelHi20; symbol = suc (length o.symbols) + slot_of slots e.symbol } | false ↦ e ]) ≡ true
      go true is h =
          let p : Entry = record e { kind = PcrelHi20 } in
          let l : Entry = record e { kind = PcrelHi20; symbol = suc (length o.symbols) + slot_of slots e.symbol } in
          let k = four true (unwrap_or (option_map (is_sound_entry_in p) (section_of o e.section)) false) _ true h in
          from_four true (unwrap_or (option_map (is_sound_entry_in l) (section_of new l.section)) false) (l.symbol == 0 || unwrap_or (option_map (λ s. is_nameable s s.home) (symbol_at new l.symbol)) false) true
          refl (field_stays l p (record { section = refl; offset = refl; kind = refl }) k.1)
          (or_right (l.symbol == 0) _ (ap (λ (r : Option Symbol). unwrap_or (option_map (λ s. is_nameable s s.home) r) false) (slot_at (slot_of slots e.symbol) (slot_below slots e.symbol (there e i is))))) refl
      go false is h =
          let k = four (is_known_kind e.kind) (unwrap_or (option_map (is_sound_entry_in e) (section_of o e.section)) false) (e.symbol == 0 || unwrap_or (option_map (λ s. is_nameable s s.home) (symbol_at o e.symbol)) false) (is_paired (plain o) e) h in
          from_four (is_known_kind e.kind) (unwrap_or (option_map (is_sound_entry_in e) (section_of new e.section)) false) (e.symbol == 0 || unwrap_or (option_map (λ s. is_nameable s s.home) (symbol_at new e.symbol)) false) (is_paired new e)
          k.0 (field_stays e e (record { section = refl; offset = refl; kind = refl }) k.1) (nameable_stays e.symbol k.2) (pair_stays e k.3)

  -- a slot's entry
  fill_sound : (p : ℕ × ℕ) → In p (numbered slots) → is_sound_entry new (slot_entry n p) ≡ true
  fill_sound p i =
      let at = In-numbered slots 0 p i in
      let inside : at.0 < length slots = slice_get_within slots at.0 p.1 at.1 in
      let a : nat_le (8 * p.0 + 8) (8 * length slots) ≡ true = let e = at.2 in grind (arith, nat_tests) in
      from_four true (unwrap_or (option_map (is_sound_entry_in (slot_entry n p)) (section_of new n)) false) (p.1 == 0 || unwrap_or (option_map (λ s. is_nameable s s.home) (symbol_at new p.1)) false) true
      refl (ap (λ (r : Option Section). unwrap_or (option_map (is_sound_entry_in (slot_entry n p)) r) false) new_section ∙ rw a refl)
      (nameable_stays p.1 (known p.1 (get-In slots at.0 p.1 at.1))) refl

  -- no two entries share a byte that may not
  share_alike : (e f g h : Entry) → AreAlike e f → AreAlike g h → may_share f h ≡ true → may_share e g ≡ true
  share_alike e f g h a b k = rw (a.section, a.offset, a.kind, b.section, b.offset, b.kind) k

  low_apart : each_pair may_share (map low o.entries) ≡ true
  low_apart =
      pairs-map may_share low o.entries
      ∙ pairs_same (λ x y. may_share (plain_entry x) (plain_entry y)) (λ x y. may_share (low x) (low y)) o.entries
      (λ x y i j k. share_alike (low x) (plain_entry x) (low y) (plain_entry y) (alike x) (alike y) k)
      (sym (pairs-map may_share plain_entry o.entries) ∙ sound.apart)

  second_of : (a c d : Bool) → (a || true || c || d) ≡ true
  second_of true c d = refl
  second_of false c d = refl

  first_of : (b c d : Bool) → (true || b || c || d) ≡ true
  first_of b c d = refl

  fills_apart : (xs : List ℕ) (k : ℕ) → each_pair may_share (map (slot_entry n) (numbered_from k xs)) ≡ true
  fills_apart [] k = refl
  fills_apart (x ∷ xs) k =
      and_from (list_all (may_share (slot_entry n (k, x))) (map (slot_entry n) (numbered_from (suc k) xs))) (each_pair may_share (map (slot_entry n) (numbered_from (suc k) xs)))
      (In-all (may_share (slot_entry n (k, x))) (map (slot_entry n) (numbered_from (suc k) xs)) later) (fills_apart xs (suc k))
    where
      later : (y : Entry) → In y (map (slot_entry n) (numbered_from (suc k) xs)) → may_share (slot_entry n (k, x)) y ≡ true
      later y i =
          let from = In-map (slot_entry n) (numbered_from (suc k) xs) y i in
          let at = In-numbered xs (suc k) from.0 from.1 in
          let a : nat_le (8 * k + 8) (8 * from.0.0) ≡ true = let e = at.2 in grind (arith, nat_tests) in
          subst (λ (z : Entry). may_share (slot_entry n (k, x)) z ≡ true) (sym from.2)
          (ap (λ (b : Bool). not (n == n) || b || nat_le (8 * from.0.0 + 8) (8 * k) || (8 * k == 8 * from.0.0) && true && false && false) a ∙ second_of (not (n == n)) _ _)

  section_below : (e : Entry) → In e o.entries → (low e).section < n
  section_below e i =
      let p = plain_entry e in
      let h = (four (is_known_kind p.kind) (unwrap_or (option_map (is_sound_entry_in p) (section_of o p.section)) false) _ _ (all-In (is_sound_entry (plain o)) (plain o).entries sound.entries p (map-In plain_entry o.entries e i))).1 in
      let k = go p (section_of o p.section) refl h in
      subst (λ z. z < n) (sym (alike e).section) k
    where
      go : (p : Entry) (r : Option Section) → section_of o p.section ≡ r → unwrap_or (option_map (is_sound_entry_in p) r) false ≡ true → p.section < n
      go p None is h = absurd (true≢false (sym h))
      go p (Some s) is h =
          let k = found-In (λ (t : Section). t.number == p.section) o.sections s is in
          subst (λ z. z < n) (eqb-true s.number p.section k.1) (above s k.0)

  all_apart : each_pair may_share new.entries ≡ true
  all_apart = pairs-append may_share (map low o.entries) (map (slot_entry n) (numbered slots)) low_apart (fills_apart slots 0) across
    where
      across : (x y : Entry) → In x (map low o.entries) → In y (map (slot_entry n) (numbered slots)) → may_share x y ≡ true
      across x y i j =
          let from = In-map low o.entries x i in
          let fill = In-map (slot_entry n) (numbered slots) y j in
          let below : x.section < n = subst (λ (z : Entry). z.section < n) (sym from.2) (section_below from.0 from.1) in
          let a : not (x.section == n) ≡ true = grind (arith, nat_tests, below) in
          subst (λ (z : Entry). may_share x z ≡ true) (sym fill.2) (rw a refl)

  slots_local : (ks : List ℕ) → each_pair may_both_be (map (slot_symbol n) ks) ≡ true
  slots_local [] = refl
  slots_local (k ∷ ks) =
      and_from (list_all (may_both_be (slot_symbol n k)) (map (slot_symbol n) ks)) (each_pair may_both_be (map (slot_symbol n) ks))
      (In-all (may_both_be (slot_symbol n k)) (map (slot_symbol n) ks) (λ y i. refl)) (slots_local ks)

  local_last : (b c : Bool) → (b || true || c) ≡ true
  local_last true c = refl
  local_last false c = refl

  names_stay : each_pair may_both_be new.symbols ≡ true
  names_stay = pairs-append may_both_be o.symbols (map (slot_symbol n) (upto (length slots))) sound.names (slots_local (upto (length slots))) across
    where
      across : (x y : Symbol) → In x o.symbols → In y (map (slot_symbol n) (upto (length slots))) → may_both_be x y ≡ true
      across x y i j =
          let from = In-map (slot_symbol n) (upto (length slots)) y j in
          subst (λ (z : Symbol). may_both_be x z ≡ true) (sym from.2) (local_last (is_local x.bind) _)

  pub slots_sound : IsSoundObject new
  slots_sound = record {
    numbers = pairs_push (λ (a b : Section). nat_lt a.number b.number) o.sections got sound.numbers (λ s i. let h = above s i in grind (arith, nat_tests));
    sections = all_push is_sound_section o.sections got sound.sections got_sound;
    symbols =
        all-append (is_sound_symbol new) o.symbols (map (slot_symbol n) (upto (length slots))) (In-all (is_sound_symbol new) o.symbols old_symbol)
        (In-all (is_sound_symbol new) (map (slot_symbol n) (upto (length slots)))
        (λ y j. let from = In-map (slot_symbol n) (upto (length slots)) y j in
        subst (λ (z : Symbol). is_sound_symbol new z ≡ true) (sym from.2) (slot_sound from.0 (let h = from_below 0 (length slots) from.0 from.1 in omega (arith, h)))));
    names = names_stay;
    entries =
        all-append (is_sound_entry new) (map low o.entries) (map (slot_entry n) (numbered slots))
        (In-all (is_sound_entry new) (map low o.entries) (λ y j. let from = In-map low o.entries y j in subst (λ (z : Entry). is_sound_entry new z ≡ true) (sym from.2) (entry_sound from.0 from.1)))
        (In-all (is_sound_entry new) (map (slot_entry n) (numbered slots)) (λ y j. let from = In-map (slot_entry n) (numbered slots) y j in subst (λ (z : Entry). is_sound_entry new z ≡ true) (sym from.2) (fill_sound from.0 from.1)));
    apart = all_apart;
  }

module _ (o : Object) (r : IsReadable o) where
  plain_symbol : (e : Entry) → (plain_entry e).symbol ≡ e.symbol
  plain_symbol e = go (is_got e)
    where
      go : (b : Bool) → (elim b as (λ _. Entry) [ true ↦ record e { kind = PcrelHi20 } | false ↦ e ]).symbol ≡ e.symbol
      go true = refl
      go false = refl

  third : (a b c d : Bool) → (a && b && c && d) ≡ true → c ≡ true
  third true true true d h = refl
  third true true false d h = absurd (true≢false (sym h))
  third true false c d h = absurd (true≢false (sym h))
  third false b c d h = absurd (true≢false (sym h))

  names_known : (e : Entry) → In e o.entries → (e.symbol == 0 || unwrap_or (option_map (λ s. is_nameable s s.home) (symbol_at o e.symbol)) false) ≡ true
  names_known e i =
      subst (λ (j : ℕ). (j == 0 || unwrap_or (option_map (λ s. is_nameable s s.home) (symbol_at o j)) false) ≡ true) (plain_symbol e)
      (third (is_known_kind (plain_entry e).kind) (unwrap_or (option_map (is_sound_entry_in (plain_entry e)) (section_of (plain o) (plain_entry e).section)) false) ((plain_entry e).symbol == 0 || unwrap_or (option_map (λ s. is_nameable s s.home) (symbol_at o (plain_entry e).symbol)) false)
      (not (is_pcrel_lo12 (plain_entry e).kind) || int_eq (plain_entry e).addend (pos 0) && is_some (high_of (plain o) (plain_entry e)) && unwrap_or (option_map (λ label. label.0 == (plain_entry e).section) (label_of (plain o) (plain_entry e))) false)
      (all-In (is_sound_entry (plain o)) (plain o).entries r.sound.entries (plain_entry e) (map-In plain_entry o.entries e i)))

  number_below : (j : ℕ) → (j == 0 || unwrap_or (option_map (λ s. is_nameable s s.home) (symbol_at o j)) false) ≡ true → j < suc (length o.symbols)
  number_below zero h = omega arith
  number_below (suc j) h = go (slice_get o.symbols j) refl (rw (more j) at h)
    where
      go : (x : Option Symbol) → slice_get o.symbols j ≡ x → unwrap_or (option_map (λ s. is_nameable s s.home) x) false ≡ true → suc j < suc (length o.symbols)
      go None e k = absurd (true≢false (sym k))
      go (Some s) e k = let below = slice_get_within o.symbols j s e in omega (arith, below)

  pub slots_few : length o.symbols < 2 ^ 20 → length (slots_of o) ≤ 2 ^ 20
  slots_few k = let h = few_slots o (suc (length o.symbols)) (λ e i g. number_below e.symbol (names_known e i)) in omega (arith, h, k)

  no_entry : slots_of o ≡ [] → (e : Entry) → In e o.entries → plain_entry e ≡ e
  no_entry none e i = go (is_got e) refl
    where
      go : (b : Bool) → is_got e ≡ b → (elim b as (λ _. Entry) [ true ↦ record e { kind = PcrelHi20 } | false ↦ e ]) ≡ e
      go true g = absurd (subst (λ (xs : List ℕ). In e.symbol xs) none (slot_there o e i g))
      go false g = refl

  pub plain_same : slots_of o ≡ [] → plain o ≡ o
  plain_same none = ap (λ (es : List Entry). record o { entries = es }) (In-fixed plain_entry o.entries (no_entry none))

  pub slots_known : (y : ℕ) → In y (slots_of o) → (y == 0 || unwrap_or (option_map (λ s. is_nameable s s.home) (symbol_at o y)) false) ≡ true
  slots_known y i =
      let a = slot_asked o y i in
      subst (λ (j : ℕ). (j == 0 || unwrap_or (option_map (λ s. is_nameable s s.home) (symbol_at o j)) false) ≡ true) a.3 (names_known a.0 a.1)

  pub entry_section : (e : Entry) → In e o.entries → (s : Section) × (section_of o e.section ≡ Some s)
  entry_section e i = go (section_of o e.section) refl (subst (λ (n : ℕ). unwrap_or (option_map (is_sound_entry_in (plain_entry e)) (section_of o n)) false ≡ true) (plain_section e)
      (second (is_known_kind (plain_entry e).kind) (unwrap_or (option_map (is_sound_entry_in (plain_entry e)) (section_of (plain o) (plain_entry e).section)) false) ((plain_entry e).symbol == 0 || unwrap_or (option_map (λ s. is_nameable s s.home) (symbol_at o (plain_entry e).symbol)) false)
      (not (is_pcrel_lo12 (plain_entry e).kind) || int_eq (plain_entry e).addend (pos 0) && is_some (high_of (plain o) (plain_entry e)) && unwrap_or (option_map (λ label. label.0 == (plain_entry e).section) (label_of (plain o) (plain_entry e))) false)
      (all-In (is_sound_entry (plain o)) (plain o).entries r.sound.entries (plain_entry e) (map-In plain_entry o.entries e i))))
    where
      second : (a b c d : Bool) → (a && b && c && d) ≡ true → b ≡ true
      second true true c d h = refl
      second true false c d h = absurd (true≢false (sym h))
      second false b c d h = absurd (true≢false (sym h))

      plain_section : (e : Entry) → (plain_entry e).section ≡ e.section
      plain_section e = at (is_got e)
        where
          at : (b : Bool) → (elim b as (λ _. Entry) [ true ↦ record e { kind = PcrelHi20 } | false ↦ e ]).section ≡ e.section
          at true = refl
          at false = refl

      go : (x : Option Section) → section_of o e.section ≡ x → unwrap_or (option_map (is_sound_entry_in (plain_entry e)) x) false ≡ true → (s : Section) × (section_of o e.section ≡ Some s)
      go None is h = absurd (true≢false (sym h))
      go (Some s) is h = (s, is)

  pub lower_sound : length o.symbols < 2 ^ 20 → IsSoundObject (lower o)
  lower_sound k = go (slots_of o) refl
    where
      go : (slots : List ℕ) → slots_of o ≡ slots → IsSoundObject (lower_by slots o)
      go [] e = subst IsSoundObject (plain_same e) r.sound
      go (x ∷ slots) e =
          slots_sound o r.sound (x ∷ slots) (got_number o) (below_got o) (subst (λ (xs : List ℕ). length xs ≤ 2 ^ 20) e (slots_few k))
          (λ d i g. subst (λ (xs : List ℕ). In d.symbol xs) e (slot_there o d i g))
          (λ y i. slots_known y (subst (λ (xs : List ℕ). In y xs) (sym e) i))
