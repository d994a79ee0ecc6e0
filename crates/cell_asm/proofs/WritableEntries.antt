-- The entries stand by sections, in the order of the sections.
--     part_numbered        the n-th section that is chosen has the number n + 1
--     entries_of_part      its entries are those with its number
--     entries_grouped      all entries are those of the first section, of the second, and so on
use Rattle.std.specs.Prelude.{◌≡◌, ◌+◌, ◌<◌, ◌==◌, ◌||◌, ◌∷◌, ◌++◌, ◌&&◌, ◌%◌, ◌^◌, ◌≤◌}
use Rattle.cell_asm.proofs.Facts.{ℕ, zero, suc, Bool, true, false, not, cond, List, [], inl, map, length, slice_get, Ok, Some, None, refl, sym, ap, ◌∙◌, append-nil, one-add, true≢false, arith, pos, subst, int_eq, take, and_parts, and_from, not-false, lt-ltb, ne_eqb, and-false, nat_tests, filter-append}
use Rattle.cell_asm.proofs.Facts.{slice_get_within, list_any, position_or_len, option_map_or, filter, flat_map, Option, find, IsStorable, IsWritableEntry, is_instruction, is_pcrel_lo12, is_upper_pcrel, numbered_from, is_unpaired, is_unusable, placed_lines, has_upper, is_upper_label, is_lost}
use Rattle.cell_asm.proofs.Facts.{is_lost_mark, has_lost, parts_of, part_number, section_of, sections, entries_in, entries, label_named, entries_of, target_names, statement_names, label_names, mentions, symbols, symbol_number, target_key, entry_of, fill_of, is_text, object_of, marks_in, is_same_part}
use Rattle.cell_asm.proofs.Facts.{is_in, choices, may_stand, is_made, own_key, made_key, keys_of, label, labels_at, labels, is_key, Entry, Part, Laid, Inside, Text, Target, Mark, Statement, Bytes, Label, Key, KeyNamed as Named, KeyMade as Made, Section, Zero, Bss, In, map-In, In-right, filter-In}
use Rattle.cell_asm.proofs.Facts.{flat_map-In, unfound-In, found-In, any-Has, any-In, none-In, In-flat_map, get-In, filter_all, filter_none, In-none, is_clash, is_got_hi20, is_past_slot, or_right}
use Rattle.cell_object.specs.ImageParts.{entries_for}
use Rattle.cell_object.specs.Relocations.{has_label}
use Rattle.cell_asm.specs.declared.statement.Target.TheVariants as targets
use Rattle.cell_asm.proofs.EntriesFit.{entry_origin, IsStanding, all_stand, at_part, Origin, in_fours, line_room, largest_most, entry_high, entries_apart}
use Rattle.cell_asm.proofs.GoodBlocks.{is_code, lo12_code, any_upper, IsGoodStatement, content_of, statement_taken, IsTaken}
use Rattle.cell_asm.proofs.ListLemmas.{AreApart, fold_apart, get_map, same_of, same_test, before_fails}
use Rattle.cell_asm.proofs.ObjectLemmas.{same_part, part_itself}
use Rattle.cell_asm.proofs.SymbolPlaces.{same_key, labels_once, has_symbol, mentioned_there, made_there, one_less, label_symbol, number_small, number_usable}

-- THE SECTIONS ARE APART

same_some : {A : Type 0} (a b : A) → Some a ≡ Some b → a ≡ b
same_some a b e = cc

-- the n-th of sections that are apart is the first of its kind
place_is : (parts : List Part) (n : ℕ) (q : Part) → AreApart is_same_part parts → slice_get parts n ≡ Some q → position_or_len (is_same_part q) parts ≡ n
place_is [] n q d e = absurd cc
place_is (p ∷ parts) zero q d e = ap (λ b. cond (not b) (1 + position_or_len (is_same_part q) parts) 0) (ap (is_same_part q) (same_some p q e) ∙ part_itself q)
place_is (p ∷ parts) (suc n) q d e = rw (d.0 q (get-In parts n q e), one-add) (ap suc (place_is parts n q d.1 e))

pub part_numbered : (lines : List Laid) (n : ℕ) (part : Part) → slice_get (parts_of lines) n ≡ Some part → part_number lines part ≡ n + 1
part_numbered lines n part e =
    let parts = parts_of lines in
    rw (place_is parts n part (fold_apart is_same_part [] (choices lines) tt) e, lt-ltb n (length parts) (slice_get_within parts n part e)) refl

-- THE ENTRIES WITH A NUMBER

same_plus : (k : ℕ) → k ≡ k + 0
same_plus k = omega arith

moved : (k n : ℕ) → k + suc n ≡ suc k + n
moved k n = omega arith

one_more : (n : ℕ) → n + 1 ≡ 1 + n
one_more n = omega arith

module _ {A : Type 0} (g : A → List Entry) (number : A → ℕ) (own : (a : A) (e : Entry) → In e (g a) → e.section ≡ number a) where
  -- the numbers of the list are k, k + 1 and so on
  abbrev Rises : ℕ → List A → Type 0
  Rises k [] = Unit {0}
  Rises k (a ∷ xs) = (number a ≡ k) × Rises (suc k) xs

  -- none of the list has a number below the first
  none_below : (xs : List A) (k m : ℕ) → Rises k xs → m < k → filter (λ e. e.section == m) (flat_map g xs) ≡ []
  none_below [] k m r l = refl
  none_below (a ∷ xs) k m r l =
      rw (filter-append, filter_none (λ e. e.section == m) (g a) (λ e i. ne_eqb e.section m (λ same. omega (arith, own a e i ∙ r.0, same, l)))) (none_below xs (suc k) m r.1 (omega (arith, l)))

  -- the entries with the n-th number are those of the n-th
  with_number : (xs : List A) (k n : ℕ) (a : A) → Rises k xs → slice_get xs n ≡ Some a → filter (λ e. e.section == k + n) (flat_map g xs) ≡ g a
  with_number [] k n a r h = absurd cc
  with_number (b ∷ xs) k zero a r h =
      rw (filter-append, filter_all (λ e. e.section == k + 0) (g b) (λ e i. same_test e.section (k + 0) (own b e i ∙ r.0 ∙ same_plus k)), none_below xs (suc k) (k + 0) r.1 (omega arith), append-nil) (ap g (same_some b a h))
  with_number (b ∷ xs) k (suc n) a r h =
      rw (filter-append, filter_none (λ e. e.section == k + suc n) (g b) (λ e i. ne_eqb e.section (k + suc n) (λ same. omega (arith, own b e i ∙ r.0, same))), moved k n) (with_number xs (suc k) n a r.1 h)

  rises : (xs : List A) (k : ℕ) → ((n : ℕ) (a : A) → slice_get xs n ≡ Some a → number a ≡ k + n) → Rises k xs
  rises [] k h = tt
  rises (a ∷ xs) k h = (h 0 a refl ∙ sym (same_plus k), rises xs (suc k) (λ n b e. h (suc n) b e ∙ moved k n))

  in_order : {S : Type 0} (s : A → S) (f : ℕ → List Entry) (xs : List A) (k : ℕ) → ((n : ℕ) (a : A) → slice_get xs n ≡ Some a → f (k + n) ≡ g a)
      → flat_map (λ row. f row.0) (numbered_from k (map s xs)) ≡ flat_map g xs
  in_order s f [] k h = refl
  in_order s f (a ∷ xs) k h = rw (ap f (same_plus k) ∙ h 0 a refl, in_order s f xs (suc k) (λ n b e. ap f (sym (moved k n)) ∙ h (suc n) b e)) refl

module _ (source : List ℕ) (lines : List Laid) (read : placed_lines source ≡ Ok lines) where
  own_section : (part : Part) (e : Entry) → In e (entries_in lines part) → e.section ≡ part_number lines part
  own_section part e k = ap (λ x. x.section) (entry_origin source lines read part e k).comes.is

  parts_rise : Rises (entries_in lines) (part_number lines) own_section 1 (parts_of lines)
  parts_rise = rises (entries_in lines) (part_number lines) own_section (parts_of lines) 1 (λ n part e. (omega (arith, part_numbered lines n part e)))

  pub entries_of_part : (n : ℕ) (part : Part) → slice_get (parts_of lines) n ≡ Some part → entries_for (entries lines) (n + 1) ≡ entries_in lines part
  unfolding entries_for
  entries_of_part n part e = rw (one_more n) (with_number (entries_in lines) (part_number lines) own_section (parts_of lines) 1 n part parts_rise e)

  pub entries_grouped : entries lines ≡ flat_map (λ row. entries_for (entries lines) row.0) (numbered_from 1 (sections lines))
  entries_grouped =
      sym (in_order (entries_in lines) (part_number lines) own_section (section_of lines) (entries_for (entries lines)) (parts_of lines) 1
      (λ n part e. ap (entries_for (entries lines)) (sym (one_more n)) ∙ entries_of_part n part e))

-- Each entry of the kinds PCREL_LO12 names the label of one of the kind PCREL_HI20 or GOT_HI20 in its section, and one of the
-- kind GOT_HI20 has no addend.
--     entry_paired      is_unpaired is false
--     entry_bare        is_past_slot is false

-- THE ENTRY OF THE UPPER PART

-- an entry of the upper part stands at an offset
pub record HasUpper (es : List Entry) (at : ℕ) : Type 0 where
  pub e : Entry
  pub there : In e es
  pub upper : is_upper_pcrel e.kind ≡ true
  pub stands : e.offset ≡ at

-- a line with an upper part has the entry at its offset
line_upper : (lines : List Laid) (part : Part) (l : Laid) → In l lines → is_in part l ≡ true → IsStanding l → has_upper l ≡ true → HasUpper (entries_in lines part) l.offset
line_upper lines part l i p s h =
    let r = head_of l.line.statement s.good h in
    record {
      e = entry_of lines part l r.0;
      there = flat_map-In (entries_of lines part) (filter (is_in part) lines) l (entry_of lines part l r.0) (filter-In (is_in part) lines l i p) (map-In (entry_of lines part l) (marks_in l.line.statement) r.0 r.1);
      upper = r.3;
      stands = ap (λ n. l.offset + n) r.2 ∙ omega arith;
    }
  where
    head_of : (s : Statement) → IsGoodStatement s → any_upper (marks_in s) ≡ true → (m : Mark) × In m (marks_in s) × (m.at ≡ 0) × (is_upper_pcrel m.fix.kind ≡ true)
    head_of (Bytes content b) g t =
        let r : (m : Mark) × In m b.marks × (is_upper_pcrel m.fix.kind ≡ true) = any-Has (λ m. is_upper_pcrel m.fix.kind) b.marks t in
        (r.0, r.1, (g.sound.marks_are.stand.0 r.0 r.1).head r.2, r.2)
    head_of _ g t = absurd (true≢false (sym t))

-- THE LABEL

-- a label with that key, at the upper part of an instruction
record IsUpperAt (lines : List Laid) (key : Key) : Type 0 where
  l : Label
  there : In l (labels lines)
  key_is : l.key ≡ key
  in_text : l.part ≡ Text
  upper : HasUpper (entries_in lines Text) l.offset

not_zero : (i : ℕ) → not (i + 1 == 0) ≡ true
not_zero i = grind (arith, nat_tests)

passing : (p : Label → Bool) (o : Option Label) → option_map_or p o false ≡ true → (l : Label) × (o ≡ Some l) × (p l ≡ true)
passing p None e = absurd (true≢false (sym e))
passing p (Some l) e = (l, refl, e)

-- the keys of lines are those of labels
pub in_labels : (lines : List Laid) (l : Laid) (part : Part) (k : Key) → In l lines → l.part ≡ Some part → In k (keys_of l) → In (label part l.offset k) (labels lines)
in_labels lines l part k i p h = flat_map-In (λ m. labels_at m.part m.offset (keys_of m)) lines l (label part l.offset k) i (subst (λ o. In (label part l.offset k) (labels_at o l.offset (keys_of l))) (sym p) (map-In (label part l.offset) (keys_of l) k h))

-- the name of an entry is mentioned
mentions_target : (lines : List Laid) (l : Laid) (m : Mark) (name : List ℕ) → In l lines → In m (marks_in l.line.statement) → m.fix.target ≡ targets.Named name → In name (mentions lines)
mentions_target lines l m name i j t =
    flat_map-In (λ k. label_names k.line.label ++ statement_names k.line.statement) lines l name i
    (In-right (label_names l.line.label) (statement_names l.line.statement) name (of_statement l.line.statement j))
  where
    of_statement : (s : Statement) → In m (marks_in s) → In name (statement_names s)
    of_statement (Bytes content b) k = flat_map-In (λ x. target_names x.fix.target) b.marks m name k (subst (λ u. In name (target_names u)) (sym t) (inl refl))
    of_statement _ k = absurd k

pub made_head : (s : Statement) (m : Mark) → IsGoodStatement s → In m (marks_in s) → is_made m.fix.target ≡ true → any_upper (marks_in s) ≡ true
made_head (Bytes content b) m g k e = g.made (any-In (λ x. is_made x.fix.target) b.marks m k e)
made_head _ m g k e = absurd k

-- what a section takes where a line of it has an entry
pub line_taken : (part : Part) (l : Laid) (m : Mark) → IsStanding l → is_in part l ≡ true → In m (marks_in l.line.statement) → IsTaken part (content_of l.line.statement)
line_taken part l m s e k = statement_taken part l.line.statement m (subst (λ o. may_stand o l.line ≡ true) (at_part part l.part e) s.stands) k

module _ (source : List ℕ) (lines : List Laid) (read : placed_lines source ≡ Ok lines) (kept : find (has_lost lines) lines ≡ None) where
  -- the label that is made at the line itself
  made_upper : (l : Laid) (m : Mark) → In l lines → is_in Text l ≡ true → In m (marks_in l.line.statement) → is_made m.fix.target ≡ true → IsUpperAt lines (Made l.made)
  made_upper l m i t j e =
      let s = all_stand source lines read l i in
      record {
        l = label Text l.offset (Made l.made);
        there = in_labels lines l Text (Made l.made) i (at_part Text l.part t)
            (In-right (own_key l.line.label) (made_key l.line.statement l.made) (Made l.made) (rw (any-In (λ x. is_made x.fix.target) (marks_in l.line.statement) m j e) (inl refl)));
        key_is = refl;
        in_text = refl;
        upper = line_upper lines Text l i t s (made_head l.line.statement m s.good j e);
      }

  -- the label with a name that isn't lost
  named_upper : (name : List ℕ) → is_lost lines (targets.Named name) ≡ false → IsUpperAt lines (Named name)
  named_upper name e =
      let r : (l : Label) × (label_named lines name ≡ Some l) × (is_upper_label lines l ≡ true) = passing (is_upper_label lines) (label_named lines name) (not-false _ e) in
      let is : In r.0 (labels lines) × (is_key r.0.key (Named name) ≡ true) = found-In (λ l. is_key l.key (Named name)) (labels lines) r.0 r.1 in
      let text : (is_same_part Text r.0.part ≡ true) × (list_any (λ l. is_in Text l && l.offset == r.0.offset && has_upper l) lines ≡ true) =
      and_parts (is_same_part Text r.0.part) (list_any (λ l. is_in Text l && l.offset == r.0.offset && has_upper l) lines) r.2 in
      let at : (l : Laid) × In l lines × ((is_in Text l && l.offset == r.0.offset && has_upper l) ≡ true) = any-Has (λ l. is_in Text l && l.offset == r.0.offset && has_upper l) lines text.1 in
      let tests : ((is_in Text at.0 && at.0.offset == r.0.offset) ≡ true) × (has_upper at.0 ≡ true) = and_parts (is_in Text at.0 && at.0.offset == r.0.offset) (has_upper at.0) at.2 in
      let places : (is_in Text at.0 ≡ true) × ((at.0.offset == r.0.offset) ≡ true) = and_parts (is_in Text at.0) (at.0.offset == r.0.offset) tests.0 in
      record {
        l = r.0;
        there = is.0;
        key_is = same_key r.0.key (Named name) is.1;
        in_text = sym (same_part Text r.0.part text.0);
        upper = subst (λ n. HasUpper (entries_in lines Text) n) (same_of at.0.offset r.0.offset places.1) (line_upper lines Text at.0 at.1 places.0 (all_stand source lines read at.0 at.1) tests.1);
      }

  -- the entry of the kind PCREL_LO12 isn't lost
  not_lost : (l : Laid) (m : Mark) → In l lines → In m (marks_in l.line.statement) → is_pcrel_lo12 m.fix.kind ≡ true → is_lost lines m.fix.target ≡ false
  not_lost l m i j low =
      sym (ap (λ x. x && is_lost lines m.fix.target) low) ∙ none-In (is_lost_mark lines) (marks_in l.line.statement) (unfound-In (has_lost lines) lines kept l i) m j

  -- what the entry names has its label, and its symbol
  record IsNamed (key : Key) : Type 0 where
    label_is : IsUpperAt lines key
    symbol_there : has_symbol lines key ≡ true

  target_named : (l : Laid) (m : Mark) (t : Target) → In l lines → is_in Text l ≡ true → In m (marks_in l.line.statement) → m.fix.target ≡ t → is_lost lines t ≡ false → IsNamed (target_key l t)
  target_named l m (targets.Named name) i text j t lost = record { label_is = named_upper name lost; symbol_there = mentioned_there lines name (mentions_target lines l m name i j t) }
  target_named l m targets.Made i text j t lost =
      let u = made_upper l m i text j (ap is_made t) in
      record { label_is = u; symbol_there = made_there lines u.l l.made u.there u.key_is }

  -- the label's symbol is in .text at the upper part
  symbol_upper : (key : Key) (section : ℕ) → section ≡ part_number lines Text → IsNamed key → has_label section (entries_in lines Text) (symbols lines) (symbol_number lines key) ≡ true
  symbol_upper key section at n =
      let u = n.label_is in
      let s = label_symbol lines u.l key (labels_once source lines read) u.there u.key_is n.symbol_there in
      let home : s.s.home ≡ Inside (part_number lines Text) = s.home_is ∙ ap (λ q. Inside (part_number lines q)) u.in_text in
      rw (s.numbered, one_less s.i, s.symbol_is, home)
      (and_from _ _ (not_zero s.i) (and_from _ _ (same_test (part_number lines Text) section (sym at))
      (any-In (λ e. is_upper_pcrel e.kind && e.offset == s.s.value) (entries_in lines Text) u.upper.e u.upper.there (and_from _ _ u.upper.upper (same_test u.upper.e.offset s.s.value (u.upper.stands ∙ sym s.value_is))))))

  text_label : (part : Part) (e : Entry) (o : Origin source lines read part e) → is_pcrel_lo12 o.comes.m.fix.kind ≡ true → has_label e.section (entries_in lines part) (symbols lines) e.symbol ≡ true
  text_label part e o low =
      let c = o.comes in
      let s = all_stand source lines read o.l o.in_lines in
      let code : is_code (content_of o.l.line.statement) ≡ true = sym c.within.fix.code ∙ lo12_code c.m.fix.kind low in
      let text : part ≡ Text = (line_taken part o.l c.m s o.in_part c.there).coded code in
      let in_text : is_in Text o.l ≡ true = subst (λ q. is_in q o.l ≡ true) text o.in_part in
      let named : IsNamed (target_key o.l c.m.fix.target) = target_named o.l c.m c.m.fix.target o.in_lines in_text c.there refl (not_lost o.l c.m o.in_lines c.there low) in
      subst (λ q. has_label e.section (entries_in lines q) (symbols lines) e.symbol ≡ true) (sym text)
      (ap (λ x. has_label x.section (entries_in lines Text) (symbols lines) x.symbol) c.is
      ∙ symbol_upper (target_key o.l c.m.fix.target) (part_number lines part) (ap (part_number lines) text) named)

  by_kind : (part : Part) (e : Entry) (b : Bool) → is_pcrel_lo12 e.kind ≡ b → In e (entries_in lines part) → is_unpaired (symbols lines) (entries_in lines part) e.section e.kind e.addend e.symbol ≡ false
  by_kind part e false h k = ap (λ b. b && (not (int_eq e.addend (pos 0)) || not (has_label e.section (entries_in lines part) (symbols lines) e.symbol))) h
  by_kind part e true h k =
      let o : Origin source lines read part e = entry_origin source lines read part e k in
      let low : is_pcrel_lo12 o.comes.m.fix.kind ≡ true = ap (λ x. is_pcrel_lo12 x.kind) (sym o.comes.is) ∙ h in
      rw (h, ap (λ x. int_eq x.addend (pos 0)) o.comes.is ∙ ap (λ z. int_eq z (pos 0)) (o.comes.within.fix.plain (ap (λ b. b || is_got_hi20 o.comes.m.fix.kind) low)), text_label part e o low) refl

  pub entry_paired : (part : Part) (e : Entry) → In e (entries_in lines part) → is_unpaired (symbols lines) (entries_in lines part) e.section e.kind e.addend e.symbol ≡ false
  entry_paired part e k = by_kind part e (is_pcrel_lo12 e.kind) refl k

  got_by : (part : Part) (e : Entry) (b : Bool) → is_got_hi20 e.kind ≡ b → In e (entries_in lines part) → is_past_slot e.kind e.addend ≡ false
  got_by part e false h k = ap (λ b. b && not (int_eq e.addend (pos 0))) h
  got_by part e true h k =
      let o : Origin source lines read part e = entry_origin source lines read part e k in
      let got : is_got_hi20 o.comes.m.fix.kind ≡ true = ap (λ x. is_got_hi20 x.kind) (sym o.comes.is) ∙ h in
      let unmoved = or_right (is_pcrel_lo12 o.comes.m.fix.kind) (is_got_hi20 o.comes.m.fix.kind) got in
      rw (h, ap (λ x. int_eq x.addend (pos 0)) o.comes.is ∙ ap (λ z. int_eq z (pos 0)) (o.comes.within.fix.plain unmoved)) refl

  pub entry_bare : (part : Part) (e : Entry) → In e (entries_in lines part) → is_past_slot e.kind e.addend ≡ false
  entry_bare part e k = got_by part e (is_got_hi20 e.kind) refl k

-- The entries of the object that lines make can be written.
--     entry_storable       IsStorable of each
--     entry_writable       IsWritableEntry of each entry of a section

-- a section that is filled with zeros
zero_fill : (part : Part) → fill_of part ≡ Zero → part ≡ Bss
zero_fill Bss e = refl
zero_fill _ e = absurd cc

module _ (source : List ℕ) (lines : List Laid) (read : placed_lines source ≡ Ok lines) where
  stands : (part : Part) (e : Entry) (o : Origin source lines read part e) → IsStanding o.l
  stands part e o = all_stand source lines read o.l o.in_lines

  storable : (part : Part) (e : Entry) → length (symbols lines) < 2 ^ 32 → Origin source lines read part e → IsStorable e
  storable part e few o =
      let n : symbol_number lines (target_key o.l o.comes.m.fix.target) ≤ length (symbols lines) = number_small lines (target_key o.l o.comes.m.fix.target) in
      subst IsStorable (sym o.comes.is)
      (record { offset = subst (λ x. x.offset < 2 ^ 32) o.comes.is (omega (arith, o.comes.high, line_room part o.l (stands part e o) o.in_part, largest_most part)); symbol = omega (arith, n, few); addend = o.comes.within.fix.addend })

  pub entry_storable : length (symbols lines) < 2 ^ 32 → (k : ℕ) (e : Entry) → slice_get (entries lines) k ≡ Some e → IsStorable e
  entry_storable few k e g =
      let r : (part : Part) × In part (parts_of lines) × In e (entries_in lines part) = In-flat_map (entries_in lines) (parts_of lines) e (get-In (entries lines) k e g) in
      storable r.0 e few (entry_origin source lines read r.0 e r.2)

  taken_in : (part : Part) (e : Entry) (o : Origin source lines read part e) → IsTaken part (content_of o.l.line.statement)
  taken_in part e o = line_taken part o.l o.comes.m (stands part e o) o.in_part o.comes.there

  in_code : (part : Part) (e : Entry) (o : Origin source lines read part e) → is_instruction e.kind ≡ true → part ≡ Text
  in_code part e o i = (taken_in part e o).coded (sym o.comes.within.fix.code ∙ ap (λ x. is_instruction x.kind) (sym o.comes.is) ∙ i)

  at_four : (part : Part) (e : Entry) (o : Origin source lines read part e) → part ≡ Text → e.offset % 4 ≡ 0
  at_four part e o text =
      let f : o.comes.m.at % 4 ≡ 0 = o.comes.within.fours ((taken_in part e o).wide text) in
      let l : o.l.offset % 4 ≡ 0 = in_fours source lines read o.l o.in_lines (subst (λ q. is_in q o.l ≡ true) text o.in_part) in
      omega (arith, f, l, ap (λ x. x.offset) o.comes.is)

  coded : (part : Part) (e : Entry) (o : Origin source lines read part e) (b : Bool) → is_instruction e.kind ≡ b → (is_instruction e.kind && (not (is_text part) || not (e.offset % 4 == 0))) ≡ false
  coded part e o true i = rw (ap is_text (in_code part e o i), same_test (e.offset % 4) 0 (at_four part e o (in_code part e o i))) (and-false (is_instruction e.kind))
  coded part e o false i = rw i refl

  module _ (kept : find (has_lost lines) lines ≡ None) where
    in_part : (part : Part) (k : ℕ) (e : Entry) → slice_get (entries_in lines part) k ≡ Some e → IsWritableEntry (object_of lines) (section_of lines part) (take k (entries_in lines part)) (entries_in lines part) e
    in_part part k e g =
        let i : In e (entries_in lines part) = get-In (entries_in lines part) k e g in
        let o : Origin source lines read part e = entry_origin source lines read part e i in
        record {
          filled = λ z. (taken_in part e o).filled (zero_fill part z);
          symbol = subst (λ x. x.symbol ≤ length (symbols lines)) (sym o.comes.is) (number_small lines (target_key o.l o.comes.m.fix.target));
          usable = ap (λ x. is_unusable (symbols lines) x.symbol) o.comes.is ∙ number_usable lines (target_key o.l o.comes.m.fix.target);
          inside = entry_high source lines read part e i;
          code = coded part e o (is_instruction e.kind) refl;
          apart = In-none (is_clash e) (take k (entries_in lines part)) (λ x j. before_fails is_clash (entries_in lines part) k e x (entries_apart source lines read part) g j);
          paired = entry_paired source lines read kept part e i;
          bare = entry_bare source lines read kept part e i;
        }

    pub entry_writable : (n : ℕ) (s : Section) → slice_get (sections lines) n ≡ Some s → (k : ℕ) (e : Entry) → slice_get (entries_for (entries lines) (n + 1)) k ≡ Some e
        → IsWritableEntry (object_of lines) s (take k (entries_for (entries lines) (n + 1))) (entries_for (entries lines) (n + 1)) e
    entry_writable n s at k e g =
        let m : (part : Part) × (slice_get (parts_of lines) n ≡ Some part) × (s ≡ section_of lines part) = get_map (section_of lines) (parts_of lines) n s at in
        let same : entries_for (entries lines) (n + 1) ≡ entries_in lines m.0 = entries_of_part source lines read n m.0 m.1 in
        subst (λ t. IsWritableEntry (object_of lines) t (take k (entries_for (entries lines) (n + 1))) (entries_for (entries lines) (n + 1)) e) (sym m.2)
        (subst (λ es. IsWritableEntry (object_of lines) (section_of lines m.0) (take k es) es e) (sym same)
        (in_part m.0 k e (ap (λ es. slice_get es k) (sym same) ∙ g)))
