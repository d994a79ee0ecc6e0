-- What can be written keeps the rules: each part of a sound object does, where it stands in its place.
use Rattle.std.proofs.Common.{◌≡◌, ℕ, zero, suc, ◌+◌, ◌-◌, ◌^◌, ◌≤◌, inl, inr, Bool, true, false, true≢false, not, ◌&&◌, ◌||◌, List, [], ◌∷◌, length, take, refl, sym, ap, subst, ◌∙◌, arith, pos}
use Rattle.std.specs.Prelude.{◌==◌, ◌%◌, nat_lt, nat_le, Option, Some, None, find, unwrap_or, option_map, option_and_then, is_some, slice_get, filter}
use Rattle.std.specs.List.{list_any, list_all}
use Rattle.std.specs.Ordering.{int_eq}
use Rattle.std.specs.Str.{bytes_eq}
use Rattle.std.proofs.lemmas.Bool.{and_parts, and_from, or_cases, or_right, eqb-true}
use Rattle.std.proofs.lemmas.Bool.Decides.{nat_tests}
use Rattle.std.proofs.lemmas.Option.{slice_get_within}
use Rattle.cell_num.specs.Lists.{each_pair, upto, In}
use Rattle.cell_num.specs.Kinds.{width_of, is_instruction, is_stacking, is_pcrel_lo12, is_got_hi20, is_upper_pcrel}
use Rattle.cell_object.specs.declared.object.Object.{Object}
use Rattle.cell_object.specs.declared.object.Section.{Section}
use Rattle.cell_object.specs.declared.object.Symbol.{Symbol}
use Rattle.cell_object.specs.declared.object.Entry.{Entry}
use Rattle.cell_object.specs.declared.object.Bind.{Bind}
use Rattle.cell_object.specs.declared.object.Bind.TheVariants.{Local, Global, Weak}
use Rattle.cell_object.specs.declared.object.Sort.{Sort}
use Rattle.cell_object.specs.declared.object.Sort.TheVariants as sorts
use Rattle.cell_object.specs.declared.object.Home.{Home}
use Rattle.cell_object.specs.declared.object.Home.TheVariants.{Undef, Abs, Inside, Elsewhere}
use Rattle.cell_object.specs.declared.object.Fill.{Fill}
use Rattle.cell_object.specs.declared.object.Fill.TheVariants.{Prog, Note, Zero}
use Rattle.cell_object.specs.Parts.{is_external, is_local, section_of, symbol_at, label_of, inside_of}
use Rattle.cell_object.specs.Symbols.{is_global_name, defines}
use Rattle.cell_object.specs.Relocations.{is_unusable, is_unplaced, is_clash, has_label, is_label}
use Rattle.cell_object.specs.ImageParts.{entries_for}
use Rattle.cell_object.specs.Sound as sound
use Rattle.cell_object.specs.Sound.{is_sound_section, is_sound_symbol, is_sound_home, is_plain_sort, is_nameable, is_sound_entry_in, may_share, may_both_be}
use Rattle.cell_object.specs.Readable.{is_bare}
use Rattle.cell_object.proofs.Plain.{upper_of, is_readable_entry, AreReadable, parts_readable}
use Rattle.cell_object.specs.Writable.{is_file, IsStorableSection, IsWritable}
use Rattle.cell_num.proofs.Elements.{all-In, In-none, any-In, any-Has, find_there, get-In, filter-In, In-filtered, filter-Passes}
use Rattle.cell_num.proofs.Sublists.{pairs-filter}
use Rattle.cell_image.proofs.Ruled.{is_section, IsWhole, IsWithin, IsWritableHome, IsWritableSection, IsWritableSymbol, IsWritableEntry, IsRuled}

-- TESTS

not_true : (b : Bool) → not b ≡ true → b ≡ false
not_true true h = absurd (true≢false (sym h))
not_true false h = refl

le_of : (m n : ℕ) → nat_le m n ≡ true → m ≤ n
le_of m n h = grind (arith, nat_tests)

same_number : (a b c : ℕ) → a ≡ c → b ≡ c → (a == b) ≡ true
same_number a b c e f = grind (arith, nat_tests)

-- ELEMENTS OF LISTS

module _ {X : Type 0} where
  found_place : (p : X → Bool) (y : X) (ys : List X) (x : X) (b : Bool) → p y ≡ b → find p (y ∷ ys) ≡ Some x
      → (find p ys ≡ Some x → (k : ℕ) × (slice_get ys k ≡ Some x) × (p x ≡ true)) → (k : ℕ) × (slice_get (y ∷ ys) k ≡ Some x) × (p x ≡ true)
  found_place p y ys x true e h f =
      let found : find p (y ∷ ys) ≡ Some y = rw e refl in
      let same : y ≡ x = cc in (zero, ap (λ (z : X). Some z) same, ap p (sym same) ∙ e)
  found_place p y ys x false e h f =
      let later : find p (y ∷ ys) ≡ find p ys = rw e refl in
      let r = f (sym later ∙ h) in (suc r.0, r.1, r.2)

  -- where the first that passes stands
  find_place : (p : X → Bool) (xs : List X) (x : X) → find p xs ≡ Some x → (k : ℕ) × (slice_get xs k ≡ Some x) × (p x ≡ true)
  find_place p [] x h = absurd cc
  find_place p (y ∷ ys) x h = found_place p y ys x (p y) refl h (find_place p ys x)

  -- a test of pairs, of an element and one before it
  pairs_before : (t : X → X → Bool) (xs : List X) (k : ℕ) (x y : X) → each_pair t xs ≡ true → slice_get xs k ≡ Some y → In x (take k xs) → t x y ≡ true
  pairs_before t [] k x y h e i = absurd cc
  pairs_before t (z ∷ zs) zero x y h e i = absurd i
  pairs_before t (z ∷ zs) (suc k) x y h e (inl is) =
      let all = (and_parts (list_all (t z) zs) (each_pair t zs) h).0 in
      ap (λ (v : X). t v y) is ∙ all-In (t z) zs all y (get-In zs k y e)
  pairs_before t (z ∷ zs) (suc k) x y h e (inr i) = pairs_before t zs k x y (and_parts (list_all (t z) zs) (each_pair t zs) h).1 e i

  In-take : (k : ℕ) (xs : List X) (x : X) → In x (take k xs) → In x xs
  In-take zero xs x h = absurd h
  In-take (suc k) [] x h = absurd h
  In-take (suc k) (y ∷ ys) x (inl e) = inl e
  In-take (suc k) (y ∷ ys) x (inr h) = inr (In-take k ys x h)

-- SECTIONS

power_bounds : (align : ℕ) (ks : List ℕ) → list_all (λ k. nat_le 1 (2 ^ k) && nat_le (2 ^ k) 4096) ks ≡ true → list_any (λ k. align == 2 ^ k) ks ≡ true → (1 ≤ align) × (align ≤ 4096)
power_bounds align ks all one =
    let k = any-Has (λ k. align == 2 ^ k) ks one in
    let is : align ≡ 2 ^ k.0 = eqb-true align (2 ^ k.0) k.2 in
    let both = and_parts (nat_le 1 (2 ^ k.0)) (nat_le (2 ^ k.0) 4096) (all-In (λ k. nat_le 1 (2 ^ k) && nat_le (2 ^ k) 4096) ks all k.0 k.1) in
    let low = le_of 1 (2 ^ k.0) both.0 in
    let high = le_of (2 ^ k.0) 4096 both.1 in
    (subst (λ (n : ℕ). 1 ≤ n) (sym is) low, subst (λ (n : ℕ). n ≤ 4096) (sym is) high)

whole_of : (f : Fill) (bytes : List ℕ) (size : ℕ) → (sound.is_zero f || length bytes == size) ≡ true → (f ≡ Zero → bytes ≡ []) → IsWhole f bytes size
whole_of Prog bytes size h bare = eqb-true (length bytes) size h
whole_of Note bytes size h bare = eqb-true (length bytes) size h
whole_of Zero bytes size h bare = bare refl

section_ruled : (k : ℕ) (s : Section) → is_sound_section s ≡ true → IsStorableSection k s → IsWritableSection (k + 1) s
section_ruled k s h st =
    let last = and_parts (not (s.write && s.exec) && list_any (λ k. s.align == 2 ^ k) (upto 13) && nat_le s.size 16777216) (sound.is_zero s.fill || length s.bytes == s.size) h in
    let size = and_parts (not (s.write && s.exec) && list_any (λ k. s.align == 2 ^ k) (upto 13)) (nat_le s.size 16777216) last.0 in
    let first = and_parts (not (s.write && s.exec)) (list_any (λ k. s.align == 2 ^ k) (upto 13)) size.0 in
    let bounds = power_bounds s.align (upto 13) refl first.1 in
    record {
      numbered = st.numbered;
      name = st.name;
      apart = not_true (s.write && s.exec) first.0;
      aligned = or_right (s.align == 0) (list_any (λ k. s.align == 2 ^ k) (upto 13)) first.1;
      some = bounds.0;
      most = bounds.1;
      small = le_of s.size 16777216 size.1;
      whole = whole_of s.fill s.bytes s.size last.1 st.bare;
    }

-- SYMBOLS

plain_sorted : (local good : Bool) (sort : Sort) → (local || good && is_plain_sort sort) ≡ true → (not local && (is_section sort || is_file sort)) ≡ false
plain_sorted true good sort h = refl
plain_sorted false good sorts.NoType h = refl
plain_sorted false good sorts.Object h = refl
plain_sorted false good sorts.Func h = refl
plain_sorted false true sorts.Section h = absurd (true≢false (sym h))
plain_sorted false false sorts.Section h = absurd (true≢false (sym h))
plain_sorted false true sorts.File h = absurd (true≢false (sym h))
plain_sorted false false sorts.File h = absurd (true≢false (sym h))

well_named : (local good taken plain : Bool) → (local || good && plain) ≡ true → (not local ≡ true → taken ≡ false) → (not local && (not good || taken)) ≡ false
well_named true good taken plain h t = refl
well_named false true taken plain h t = t refl
well_named false false taken plain h t = absurd (true≢false (sym h))

other_name : (a b same : Bool) → (a || b || not same) ≡ true → not b ≡ true → (not a && same) ≡ false
other_name true b same h g = refl
other_name false false same h g = not_true same h
other_name false true same h g = absurd (true≢false (sym g))

-- ENTRIES

nameable_placed : (s : Symbol) (h : Home) → is_nameable s h ≡ true → (is_local s.bind && is_unplaced h) ≡ false
nameable_placed s Undef h = go s.bind h
  where
    go : (b : Bind) → not (is_local b) ≡ true → (is_local b && true) ≡ false
    go Local h = absurd (true≢false (sym h))
    go Global h = refl
    go Weak h = refl
nameable_placed s Abs h = never (is_local s.bind)
  where
    never : (b : Bool) → (b && false) ≡ false
    never true = refl
    never false = refl
nameable_placed s (Inside n) h = never (is_local s.bind)
  where
    never : (b : Bool) → (b && false) ≡ false
    never true = refl
    never false = refl
nameable_placed s Elsewhere h = absurd (true≢false (sym h))

not_zero : (i : ℕ) → (suc i == 0) ≡ false
not_zero i = grind (arith, nat_tests)

-- a symbol by its number
symbol_place : (object : Object) (j : ℕ) (s : Symbol) → symbol_at object j ≡ Some s → (not (j == 0) ≡ true) × (slice_get object.symbols (j - 1) ≡ Some s)
symbol_place object zero s e = absurd cc
symbol_place object (suc i) s e =
    let place : suc i - 1 ≡ i = omega arith in (rw (not_zero i) refl, rw place e)

-- the symbol that an entry names is one that relocations can use
usable : (object : Object) (j : ℕ) → (j == 0 || unwrap_or (option_map (λ s. is_nameable s s.home) (symbol_at object j)) false) ≡ true
    → (j ≤ length object.symbols) × (is_unusable object.symbols j ≡ false)
usable object j h = elim (or_cases (j == 0) _ h) [
  | inl z ↦ let none : j ≡ 0 = eqb-true j 0 z in (omega arith, rw z refl)
  | inr named ↦ go (symbol_at object j) refl named
]
  where
    go : (o : Option Symbol) → symbol_at object j ≡ o → unwrap_or (option_map (λ s. is_nameable s s.home) o) false ≡ true → (j ≤ length object.symbols) × (is_unusable object.symbols j ≡ false)
    go None e n = absurd (true≢false (sym n))
    go (Some s) e n =
        let at = symbol_place object j s e in
        let there = slice_get_within object.symbols (j - 1) s at.1 in
        (omega (arith, there), rw (at.0, at.1) (nameable_placed s s.home n))

unpaired_of : (low plain high own label : Bool) → (not low || plain && high && own) ≡ true → (high ≡ true → own ≡ true → label ≡ true) → (low && (not plain || not label)) ≡ false
unpaired_of false plain high own label h f = refl
unpaired_of true false high own label h f = absurd (true≢false (sym h))
unpaired_of true true false own label h f = absurd (true≢false (sym h))
unpaired_of true true true false label h f = absurd (true≢false (sym h))
unpaired_of true true true true label h f = rw (f refl refl) refl

-- what the entry of a PCREL_LO12 names is a label among the entries of its section
labelled : (object : Object) (e : Entry) (all : List Entry) → ((x : Entry) → In x object.entries → x.section ≡ e.section → In x all)
    → is_some (upper_of object e) ≡ true → unwrap_or (option_map (λ (label : ℕ × ℕ). label.0 == e.section) (label_of object e)) false ≡ true → has_label e.section all object.symbols e.symbol ≡ true
labelled object e all among = go (symbol_at object e.symbol) refl
  where
    in_section : (s : Symbol) (h : Home) → is_some (option_and_then (λ (label : ℕ × ℕ). find (λ (x : Entry). is_upper_pcrel x.kind && x.section == label.0 && x.offset == label.1) object.entries) (option_map (λ (section : ℕ). (section, s.value)) (inside_of h))) ≡ true
        → unwrap_or (option_map (λ (label : ℕ × ℕ). label.0 == e.section) (option_map (λ (section : ℕ). (section, s.value)) (inside_of h))) false ≡ true → is_label e.section all h s.value ≡ true
    in_section s Undef some own = absurd (true≢false (sym own))
    in_section s Abs some own = absurd (true≢false (sym own))
    in_section s Elsewhere some own = absurd (true≢false (sym own))
    in_section s (Inside m) some own = found (find (λ (x : Entry). is_upper_pcrel x.kind && x.section == m && x.offset == s.value) object.entries) refl some
      where
        found : (o : Option Entry) → find (λ (x : Entry). is_upper_pcrel x.kind && x.section == m && x.offset == s.value) object.entries ≡ o → is_some o ≡ true
            → (m == e.section && list_any (λ (x : Entry). is_upper_pcrel x.kind && x.offset == s.value) all) ≡ true
        found None is t = absurd (true≢false (sym t))
        found (Some x) is t =
            let at = find_place (λ (x : Entry). is_upper_pcrel x.kind && x.section == m && x.offset == s.value) object.entries x is in
            let parts = and_parts (is_upper_pcrel x.kind && x.section == m) (x.offset == s.value) at.2 in
            let first = and_parts (is_upper_pcrel x.kind) (x.section == m) parts.0 in
            let same : x.section ≡ e.section = eqb-true x.section m first.1 ∙ eqb-true m e.section own in
            and_from (m == e.section) _ own
            (any-In (λ (x : Entry). is_upper_pcrel x.kind && x.offset == s.value) all x (among x (get-In object.entries at.0 x at.1) same) (and_from (is_upper_pcrel x.kind) (x.offset == s.value) first.0 parts.1))

    go : (o : Option Symbol) → symbol_at object e.symbol ≡ o
        → is_some (option_and_then (λ (label : ℕ × ℕ). find (λ (x : Entry). is_upper_pcrel x.kind && x.section == label.0 && x.offset == label.1) object.entries) (option_and_then (λ (s : Symbol). option_map (λ (section : ℕ). (section, s.value)) (inside_of s.home)) o)) ≡ true
        → unwrap_or (option_map (λ (label : ℕ × ℕ). label.0 == e.section) (option_and_then (λ (s : Symbol). option_map (λ (section : ℕ). (section, s.value)) (inside_of s.home)) o)) false ≡ true → has_label e.section all object.symbols e.symbol ≡ true
    go None at some own = absurd (true≢false (sym own))
    go (Some s) at some own = let place = symbol_place object e.symbol s at in rw (place.0, place.1) (in_section s s.home some own)

code_of : (instruction exec whole : Bool) → (not instruction || exec && whole) ≡ true → (instruction && (not exec || not whole)) ≡ false
code_of false exec whole h = refl
code_of true true true h = refl
code_of true true false h = absurd (true≢false (sym h))
code_of true false whole h = absurd (true≢false (sym h))

filled_of : (f : Fill) → not (sound.is_zero f) ≡ true → f ≡ Zero → ⊥
filled_of Prog h e = absurd cc
filled_of Note h e = absurd cc
filled_of Zero h e = true≢false (sym h)

-- fields of one section that may share their bytes don't clash
apart_of : (a wa b wb : ℕ) (same sa sb : Bool) → same ≡ true
    → (not same || nat_le (a + wa) b || nat_le (b + wb) a || (a == b) && (wa == wb) && sa && sb) ≡ true
    → ((nat_lt b (a + wa) && nat_lt a (b + wb)) && not (b == a && wb == wa && sb && sa)) ≡ false
apart_of a wa b wb true true true e h = grind (arith, nat_tests)
apart_of a wa b wb true true false e h = grind (arith, nat_tests)
apart_of a wa b wb true false sb e h = grind (arith, nat_tests)
apart_of a wa b wb false sa sb e h = absurd (true≢false (sym e))

bare_of : (got none : Bool) → (not got || none) ≡ true → (got && not none) ≡ false
bare_of true true h = refl
bare_of true false h = absurd (true≢false (sym h))
bare_of false none h = refl

module _ (object : Object) (w : IsWritable object) where
  parts : AreReadable object
  parts = parts_readable object w.readable

  numbered : (k : ℕ) (s : Section) → slice_get object.sections k ≡ Some s → s.number ≡ k + 1
  numbered k s e = (w.sections k s e).numbered

  -- a section that is found by its number stands in that place
  placed : (n : ℕ) (s : Section) → section_of object n ≡ Some s → (1 ≤ n) × (slice_get object.sections (n - 1) ≡ Some s)
  placed n s e =
      let at = find_place (λ (x : Section). x.number == n) object.sections s e in
      let is : n ≡ at.0 + 1 = sym (eqb-true s.number n at.2) ∙ numbered at.0 s at.1 in
      let place : n - 1 ≡ at.0 = omega arith in
      (omega arith, subst (λ (i : ℕ). slice_get object.sections i ≡ Some s) (sym place) at.1)

  -- and the other way round
  found : (n : ℕ) (s : Section) → slice_get object.sections n ≡ Some s → section_of object (n + 1) ≡ Some s
  found n s e =
      let is : s.number ≡ n + 1 = numbered n s e in
      let test : (s.number == n + 1) ≡ true = grind (arith, nat_tests) in
      let some = find_there (λ (x : Section). x.number == n + 1) object.sections s (get-In object.sections n s e) test in
      let at = placed (n + 1) some.0 some.1 in
      let place : n + 1 - 1 ≡ n = omega arith in
      let there : slice_get object.sections n ≡ Some some.0 = subst (λ (i : ℕ). slice_get object.sections i ≡ Some some.0) place at.1 in
      some.1 ∙ sym there ∙ e

  home_ruled : (s : Symbol) (h : Home) → is_sound_home object s h ≡ true → IsWritableHome object.sections s.bind s.value h
  home_ruled s Undef h = tt
  home_ruled s Abs h = h
  home_ruled s (Inside n) h = within (section_of object n) refl h
    where
      within : (o : Option Section) → section_of object n ≡ o → unwrap_or (option_map (λ section. nat_le s.value section.size) o) false ≡ true → IsWithin object.sections n s.value
      within None e h = absurd (true≢false (sym h))
      within (Some section) e h =
          let at = placed n section e in record { section = section; low = at.0; there = at.1; value_inside = le_of s.value section.size h }
  home_ruled s Elsewhere h = ap not h

  symbol_ruled : (k : ℕ) (s : Symbol) → slice_get object.symbols k ≡ Some s → IsWritableSymbol object k s
  symbol_ruled k s e =
      let st = w.symbols k s e in
      let h : is_sound_symbol object s ≡ true = all-In (is_sound_symbol object) object.symbols parts.symbols s (get-In object.symbols k s e) in
      let named = and_parts (is_sound_home object s s.home) (is_local s.bind || is_global_name s.name && is_plain_sort s.sort) h in
      record {
        name = st.name;
        first = st.first;
        last = st.last;
        sort = plain_sorted (is_local s.bind) (is_global_name s.name) s.sort named.1;
        filed = st.filed;
        home = home_ruled s s.home named.0;
        named = well_named (is_local s.bind) (is_global_name s.name) (defines (take k object.symbols) s.name) (is_plain_sort s.sort) named.1
            (λ external. In-none (λ x. is_external x.bind && bytes_eq x.name s.name) (take k object.symbols)
            (λ x i. other_name (is_local x.bind) (is_local s.bind) (bytes_eq x.name s.name) (pairs_before may_both_be object.symbols k x s parts.names e i) external));
        value = st.value;
        size = st.size;
      }

  entry_ruled : (n : ℕ) (s : Section) → slice_get object.sections n ≡ Some s → (k : ℕ) (e : Entry) → slice_get (entries_for object.entries (n + 1)) k ≡ Some e
      → IsWritableEntry object s (take k (entries_for object.entries (n + 1))) (entries_for object.entries (n + 1)) e
  unfolding entries_for
  entry_ruled n s there k e at =
      let of : Entry → Bool = λ x. x.section == n + 1 in
      let all : List Entry = filter of object.entries in
      let own : e.section ≡ n + 1 = eqb-true e.section (n + 1) (filter-Passes of object.entries e (get-In all k e at)) in
      let h : is_readable_entry object e ≡ true = all-In (is_readable_entry object) object.entries parts.entries e (In-filtered of object.entries e (get-In all k e at)) in
      let inside : Bool = unwrap_or (option_map (is_sound_entry_in e) (section_of object e.section)) false in
      let named : Bool = (e.symbol == 0 || unwrap_or (option_map (λ s. is_nameable s s.home) (symbol_at object e.symbol)) false) in
      let own_label : Bool = unwrap_or (option_map (λ label. label.0 == e.section) (label_of object e)) false in
      let paired : Bool = (not (is_pcrel_lo12 e.kind) || int_eq e.addend (pos 0) && is_some (upper_of object e) && own_label) in
      let last = and_parts (inside && named) paired h in
      let middle = and_parts inside named last.0 in
      let section : section_of object e.section ≡ Some s = ap (section_of object) own ∙ found n s there in
      let fits : is_sound_entry_in e s ≡ true = sym (ap (λ (o : Option Section). unwrap_or (option_map (is_sound_entry_in e) o) false) section) ∙ middle.0 in
      let code = and_parts (not (sound.is_zero s.fill) && nat_le (e.offset + width_of e.kind) s.size) (not (is_instruction e.kind) || s.exec && (e.offset % 4 == 0)) fits in
      let filled = and_parts (not (sound.is_zero s.fill)) (nat_le (e.offset + width_of e.kind) s.size) code.0 in
      let symbol = usable object e.symbol middle.1 in
      record {
        filled = filled_of s.fill filled.0;
        symbol = symbol.0;
        usable = symbol.1;
        inside = le_of (e.offset + width_of e.kind) s.size filled.1;
        code = code_of (is_instruction e.kind) s.exec (e.offset % 4 == 0) code.1;
        apart = In-none (is_clash e) (take k all) (λ f i.
            let one = filter-Passes of object.entries f (In-take k all f i) in
            apart_of f.offset (width_of f.kind) e.offset (width_of e.kind) (f.section == e.section) (is_stacking f.kind) (is_stacking e.kind)
            (same_number f.section e.section (n + 1) (eqb-true f.section (n + 1) one) own) (pairs_before may_share all k f e (pairs-filter may_share of object.entries parts.apart) at i));
        paired = unpaired_of (is_pcrel_lo12 e.kind) (int_eq e.addend (pos 0)) (is_some (upper_of object e)) own_label (has_label e.section all object.symbols e.symbol) last.1
            (labelled object e all (λ x i same. filter-In of object.entries x i (same_number x.section (n + 1) e.section same (sym own))));
        bare = bare_of (is_got_hi20 e.kind) (int_eq e.addend (pos 0)) (all-In is_bare object.entries parts.bare e (In-filtered of object.entries e (get-In all k e at)));
      }

  pub ruled : IsRuled object
  ruled = record {
    sections = λ k s e. section_ruled k s (all-In is_sound_section object.sections parts.sections s (get-In object.sections k s e)) (w.sections k s e);
    symbols = symbol_ruled;
    storable = λ k e at.
        let st = w.entries k e at in
        record { offset = st.offset; symbol = st.symbol; addend = st.addend };
    entries = entry_ruled;
    fits = w.fits;
  }
