-- How many bytes the names of a source's symbols take.
--     symbols_cost source lines
use Rattle.std.specs.Prelude.{◌≡◌, ◌+◌, ◌*◌, ◌≤◌, ◌∷◌, ◌++◌, ◌^◌, ◌<◌, ◌⊎◌, if◌then◌else◌, ◌==◌}
use Rattle.cell_asm.proofs.Facts.{ℕ, suc, Bool, true, false, cond, not, List, [], map, length, codes, Ok, Some, None, inl, inr, refl, subst, sym, ap, ◌∙◌, zero-add, true≢false, arith, replicate, length-append, lit≤, and_parts, map-append, length-map, length-replicate, filter-append, sum_by-cons, Option}
use Rattle.cell_asm.proofs.Facts.{decimal, filter, is_none, sum_by, IsWhole, is_upper_pcrel, numbered_from, section_rows, local_count, offset_after, has_entries, content, symbols_part, table, own_names, table_name, names_before_tables, parts_before_tables, parts_before_strings, parts_before_names, onto}
use Rattle.cell_asm.proofs.Facts.{pieces, lines_in, placed_lines, local_labels, label_names, mentions, other_names, key_name, symbols, parts_of, part_name, section_of, sections, entries, object_of, marks_in, is_same_part, is_at, is_in, placed, is_made, makes_label, may_stand, lays_nothing, taken}
use Rattle.cell_asm.proofs.Facts.{size_in, own_key, made_key, keys_of, label, labels_at, labels, is_key, holds_key, Symbol, Mark, Part, Text, Statement, Line, Laid, Label, Key, KeyNamed as Named, KeyMade as Made, Section, Entry, Object, Fill, Prog, Note, Zero, In-one, length-filter_le, In, In-left}
use Rattle.cell_asm.proofs.Facts.{filter-In, any-Has, any-In, In-append, In-filtered, In-map, In-numbered, get-In, names_in, nat_le, all-In, is_bound}
use Rattle.cell_image.proofs.Headers.{rows_count}
use Rattle.cell_image.proofs.Places.{even_length}
use Rattle.cell_image.proofs.Stands.{entry_length}
use Rattle.cell_image.proofs.Symbols.{symbols_length}
use Rattle.cell_image.proofs.Tables.{numbered_length}
use Rattle.cell_object.specs.ImageParts.{padded, entries_for, relocated, filled, symbol_strings, section_strings}
use Rattle.cell_object.specs.ImageParts as parts
use Rattle.cell_object.specs.Rows.{entry_bytes}
use Rattle.cell_object.specs.Strings.{string, string_table}
use Rattle.cell_asm.proofs.EntriesFit.{IsStanding, all_stand, section_fits, few_entries}
use Rattle.cell_asm.proofs.GoodBlocks.{AreMarks, is_code, upper_code, content_of, statement_marks, statement_taken, none_laid}
use Rattle.cell_asm.proofs.ListLemmas.{total, total-append, total-map, total_split, fold_total, total_le, flat_length, flat_most, le_of, le_trans, itself}
use Rattle.cell_asm.proofs.NamesFit.{cost, cost_flat, made_short}
use Rattle.cell_asm.proofs.ObjectLemmas.{few}
use Rattle.cell_asm.proofs.PlacingLemmas.{GoesOn, grows_with}
use Rattle.cell_asm.proofs.ReadLines.{read_line}
use Rattle.cell_asm.proofs.SectionsFit.{section_whole}
use Rattle.cell_asm.proofs.SymbolPlaces.{names_apart, key_itself}
use Rattle.cell_asm.proofs.SymbolsFit.{locals_count}
use Rattle.cell_asm.proofs.WritableEntries.{in_labels, made_head}

-- THE TEXTS OF A SOURCE

abbrev room : List ℕ → ℕ
room text = length text + 1

onto_room : (b n : ℕ) (texts : List (List ℕ)) → total room texts ≤ n + 1 → total room (onto b texts) ≤ suc n + 1
onto_room b n [] h = omega arith
onto_room b n (text ∷ texts) h = omega (arith, h)

pieces_by : (c : Bool) (b n : ℕ) (texts : List (List ℕ)) → total room texts ≤ n + 1 → total room (if c then [] ∷ texts else onto b texts) ≤ suc n + 1
pieces_by true b n texts h = omega (arith, h)
pieces_by false b n texts h = onto_room b n texts h

no_piece : (0 + 1) + 0 ≤ 0 + 1
no_piece = omega arith

pieces_room : (test : ℕ → Bool) (text : List ℕ) → total room (pieces test text) ≤ length text + 1
pieces_room test [] = no_piece
pieces_room test (b ∷ bs) = pieces_by (test b) b (length bs) (pieces test bs) (pieces_room test bs)

lines_room : (source : List ℕ) → total room (lines_in source) ≤ length source + 1
lines_room source = pieces_room _ source

-- NAMES

abbrev names_cost : Laid → ℕ
names_cost l = cost (names_in l.line)

goes : GoesOn (λ done ls. total names_cost ls ≤ total room done)
goes done before n text line h e f =
    omega (arith, (total-append names_cost before (placed before n line ∷ [])), h, (read_line text line e).names.few, (total-append room done (text ∷ [])))

-- the names that the lines mention take no more bytes than the source and one
pub mentions_cost : (source : List ℕ) (lines : List Laid) → placed_lines source ≡ Ok lines → cost (mentions lines) ≤ length source + 1
mentions_cost source lines e =
    omega (arith, cost_flat (λ l. names_in l.line) lines, grows_with (λ done ls. total names_cost ls ≤ total room done) goes (lines_in source) lines (omega arith) e, lines_room source)

-- LABELS THAT ARE MADE

abbrev makes : Laid → ℕ
makes l = if makes_label l.line.statement then 1 else 0

some_there : (marks : List Mark) (m : Mark) → In m marks → 1 ≤ length marks
some_there [] m k = absurd k
some_there (n ∷ marks) m k = omega arith

in_text_by : (o : Option Part) (line : Line) (m : Mark) → may_stand o line ≡ true → In m (marks_in line.statement) → is_code (content_of line.statement) ≡ true → is_at Text o ≡ true
in_text_by None line m t k code = absurd (none_laid line.statement m (and_parts (is_none line.label) (lays_nothing line.statement) t).1 k)
in_text_by (Some part) line m t k code = ap (is_same_part Text) ((statement_taken part line.statement m t k).coded code)

-- so many labels a line makes, at an entry, in .text alone
line_makes : (l : Laid) (b : Bool) → makes_label l.line.statement ≡ b → IsStanding l → (if b then 1 else 0) ≤ 2 * (if is_in Text l then taken l.line.statement l.offset else 0)
line_makes l true e s =
    let st : Statement = l.line.statement in
    let marks : AreMarks (content_of st) (taken st l.offset) (marks_in st) = statement_marks st l.offset s.good in
    let r : (m : Mark) × In m (marks_in st) × (is_made m.fix.target ≡ true) = any-Has (λ m. is_made m.fix.target) (marks_in st) e in
    let u : (m : Mark) × In m (marks_in st) × (is_upper_pcrel m.fix.kind ≡ true) = any-Has (λ m. is_upper_pcrel m.fix.kind) (marks_in st) (made_head st r.0 s.good r.1 r.2) in
    let text : is_in Text l ≡ true = in_text_by l.part l.line u.0 s.stands u.1 (sym (marks.stand.0 u.0 u.1).fix.code ∙ upper_code u.0.fix.kind u.2) in
    subst (λ c. 1 ≤ 2 * (if c then taken st l.offset else 0)) (sym text) (omega (arith, some_there (marks_in st) r.0 r.1, marks.few))
line_makes l false e s = omega arith

text_taken : (b : Bool) (l : Laid) (ls : List Laid) → sum_by (λ m. taken m.line.statement m.offset) (cond b (l ∷ ls) ls) ≡ (if b then taken l.line.statement l.offset else 0) + sum_by (λ m. taken m.line.statement m.offset) ls
text_taken true l ls = sum_by-cons (λ m. taken m.line.statement m.offset) l ls
text_taken false l ls = sym (zero-add (sum_by (λ m. taken m.line.statement m.offset) ls))

makes_few : (ls : List Laid) → ((l : Laid) → In l ls → IsStanding l) → total makes ls ≤ 2 * size_in Text ls
makes_few [] h = omega arith
makes_few (l ∷ ls) h =
    omega (arith, line_makes l (makes_label l.line.statement) refl (h l (inl refl)), makes_few ls (λ m k. h m (inr k)), text_taken (is_in Text l) l (filter (is_in Text) ls))

-- LOCAL LABELS

abbrev label_cost : Label → ℕ
label_cost x = suc (length (key_name x.key))

module _ (lines : List Laid) where
  abbrev is_local : Label → Bool
  is_local x = not (is_bound lines x.key)

  -- the name of a LOCAL label
  abbrev is_own : List ℕ → Bool
  is_own name = holds_key (local_labels lines) (Named name)

  own_by : (x : Label) (name : List ℕ) (t p : Bool) → x.key ≡ Named name → (t ≡ true → p ≡ true) → total label_cost (cond t (x ∷ []) []) ≤ cost (cond p (name ∷ []) [])
  own_by x name true true e h = subst (λ q. suc (length (key_name q)) + 0 ≤ suc (length name) + 0) (sym e) (itself (suc (length name) + 0))
  own_by x name true false e h = absurd (true≢false (sym (h refl)))
  own_by x name false p e h = omega arith

  own_cost : (part : Part) (offset : ℕ) (o : Option (List ℕ)) → ((k : Key) → In k (own_key o) → In (label part offset k) (labels lines))
      → total label_cost (filter is_local (map (label part offset) (own_key o))) ≤ cost (filter is_own (label_names o))
  own_cost part offset None h = omega arith
  own_cost part offset (Some name) h =
      own_by (label part offset (Named name)) name (is_local (label part offset (Named name))) (is_own name) refl
      (λ t. any-In (λ y. is_key y.key (Named name)) (local_labels lines) (label part offset (Named name)) (filter-In is_local (labels lines) (label part offset (Named name)) (h (Named name) (inl refl)) t) (key_itself (Named name)))

  made_by : (part : Part) (offset n : ℕ) (b : Bool) → total label_cost (filter is_local (map (label part offset) (if b then Made n ∷ [] else []))) ≤ 68 * (if b then 1 else 0)
  made_by part offset n true = let d : length (codes ".La" ++ decimal n) ≤ 67 = made_short n in omega (arith, d)
  made_by part offset n false = omega arith

  line_cost : (o : Option Part) (l : Laid) → ((part : Part) → o ≡ Some part → (k : Key) → In k (keys_of l) → In (label part l.offset k) (labels lines))
      → total label_cost (filter is_local (labels_at o l.offset (keys_of l))) ≤ cost (filter is_own (names_in l.line)) + 68 * makes l
  line_cost None l h = omega arith
  line_cost (Some part) l h =
      let own : List Key = own_key l.line.label in
      let made : List Key = made_key l.line.statement l.made in
      simp (map-append, filter-append, total-append) (omega (arith, own_cost part l.offset l.line.label (λ k i. h part refl k (In-left own made k i)), made_by part l.offset l.made (makes_label l.line.statement)))

  labels_cost : (ls : List Laid) → ((l : Laid) → In l ls → In l lines)
      → total label_cost (filter is_local (labels ls)) ≤ cost (filter is_own (mentions ls)) + 68 * total makes ls
  labels_cost [] h = omega arith
  labels_cost (l ∷ ls) h =
      rw (filter-append is_local (labels_at l.part l.offset (keys_of l)) (labels ls), total-append, filter-append is_own (names_in l.line) (mentions ls), total-append)
      (omega (arith, line_cost l.part l (λ part e k i. in_labels lines l part k (h l (inl refl)) e i), labels_cost ls (λ m k. h m (inr k))))

-- ALL SYMBOLS

abbrev pub symbol_cost : Symbol → ℕ
symbol_cost s = suc (length s.name)

symbols_total : (lines : List Laid) → total symbol_cost (symbols lines) ≡ total label_cost (local_labels lines) + cost (other_names lines)
symbols_total lines = simp (total-append, total-map)

-- the names of the symbols take no more bytes than the source and what labels that are made take
pub symbols_cost : (source : List ℕ) (lines : List Laid) → placed_lines source ≡ Ok lines → total symbol_cost (symbols lines) ≤ length source + 142606337
symbols_cost source lines e =
    omega (
      arith,
      symbols_total lines,
      labels_cost lines lines (λ l k. k),
      fold_total names_apart (λ n. suc (length n)) [] (filter (λ n. not (is_own lines n)) (mentions lines)),
      total_split (λ n. suc (length n)) (is_own lines) (mentions lines),
      mentions_cost source lines e,
      makes_few lines (all_stand source lines e),
      section_fits source lines Text e,
    )

-- The tables of an assembled source's image aren't too large, and there aren't too many headers.
--     headers_fit, locals_fit, texts_fit, names_fit, size_fits

-- THE COUNTS

pub few_sections : (lines : List Laid) → length (sections lines) ≤ 4
few_sections lines = subst (λ n. n ≤ 4) (sym (length-map (parts_of lines) (section_of lines))) (few lines (parts_of lines) refl)

few_tables : (lines : List Laid) → length (relocated (sections lines) (entries lines)) ≤ 4
unfolding relocated
few_tables lines =
    le_trans _ _ _ (length-filter_le (λ row. has_entries (entries lines) row.0) (numbered_from 1 (sections lines)))
    (subst (λ n. n ≤ 4) (sym (numbered_length 1 (sections lines))) (few_sections lines))

pub headers_fit : (lines : List Laid) → length (section_rows (object_of lines)) < 65280
headers_fit lines = omega (arith, rows_count (object_of lines), few_sections lines, few_tables lines)

symbols_number : (lines : List Laid) → length (symbols lines) ≡ length (local_labels lines) + length (other_names lines)
symbols_number lines = simp (length-append, length-map)

count_le : (ss : List Symbol) → length ss ≤ total symbol_cost ss
count_le [] = omega arith
count_le (s ∷ ss) = omega (arith, count_le ss)

pub few_symbols : (source : List ℕ) (lines : List Laid) → placed_lines source ≡ Ok lines → length source < 2 ^ 31 → length (symbols lines) ≤ 2290089984
few_symbols source lines e h = omega (arith, (count_le (symbols lines)), (symbols_cost source lines e), h)

pub locals_fit : (source : List ℕ) (lines : List Laid) → placed_lines source ≡ Ok lines → length source < 2 ^ 31 → local_count (object_of lines) + 1 < 2 ^ 32
locals_fit source lines e h =
    omega (arith, (locals_count lines), (symbols_number lines), (few_symbols source lines e h))

-- THE STRINGS

string_le : (m : ℕ) (name : List ℕ) → length name ≤ m → length (string name) ≤ m + 1
string_le m [] h = omega arith
string_le m (b ∷ bs) h = subst (λ n. suc n ≤ m + 1) (sym (length-append bs (0 ∷ []))) (omega (arith, h))

-- so many texts at most, each of so many bytes at most
record AreSmall (n m : ℕ) (texts : List (List ℕ)) : Type 0 where
  count : length texts ≤ n
  short : (t : List ℕ) → In t texts → length t ≤ m

small_join : (a b m : ℕ) (xs ys : List (List ℕ)) → AreSmall a m xs → AreSmall b m ys → AreSmall (a + b) m (xs ++ ys)
small_join a b m xs ys h k = record { count = omega (arith, h.count, k.count, length-append xs ys); short = λ t i. each t (In-append xs ys t i) }
  where
    each : (t : List ℕ) → In t xs ⊎ In t ys → length t ≤ m
    each t (inl i) = h.short t i
    each t (inr i) = k.short t i

small_one : (m : ℕ) (t : List ℕ) → length t ≤ m → AreSmall 1 m (t ∷ [])
small_one m t h = record { count = omega arith; short = λ x k. subst (λ v. length v ≤ m) (sym (In-one x t k)) h }

small_map : {X : Type 0} (n m : ℕ) (f : X → List ℕ) (xs : List X) → length xs ≤ n → ((x : X) → In x xs → length (f x) ≤ m) → AreSmall n m (map f xs)
small_map n m f xs c h = record { count = subst (λ k. k ≤ n) (sym (length-map xs f)) c; short = λ t i. let r = In-map f xs t i in subst (λ v. length v ≤ m) (sym r.2) (h r.0 r.1) }

table_le : (n m : ℕ) (names : List (List ℕ)) → AreSmall n m names → length (string_table names) ≤ 1 + (m + 1) * length names
unfolding string_table
table_le n m names h = omega (arith, flat_most string (m + 1) names (λ t k. string_le m t (h.short t k)))

pub texts_fit : (source : List ℕ) (lines : List Laid) → placed_lines source ≡ Ok lines → length source < 2 ^ 31 → length (symbol_strings (object_of lines)) < 2 ^ 32
unfolding symbol_strings string_table
texts_fit source lines e h =
    let names : List (List ℕ) = map (λ s. s.name) (symbols lines) in
    omega (arith, flat_length string names, total_le (λ n. length (string n)) (λ n. suc (length n)) names (λ n k. (omega (arith, string_le (length n) n (omega arith)))), total-map (λ n. suc (length n)) (λ (s : Symbol). s.name) (symbols lines), symbols_cost source lines e, h)

-- THE NAMES OF SECTIONS

part_short : (part : Part) → length (part_name part) ≤ 7
part_short Text = lit≤ tt
part_short _ = lit≤ tt

section_short : (lines : List Laid) (s : Section) → In s (sections lines) → length s.name ≤ 7
section_short lines s k =
    let r : (part : Part) × In part (parts_of lines) × (s ≡ section_of lines part) = In-map (section_of lines) (parts_of lines) s k in
    subst (λ t. length t.name ≤ 7) (sym r.2) (part_short r.0)

relocated_In : (ss : List Section) (es : List Entry) (row : ℕ × Section) → In row (relocated ss es) → In row.1 ss
unfolding relocated
relocated_In ss es row k = let r = In-numbered ss 1 row (In-filtered (λ r. has_entries es r.0) (numbered_from 1 ss) row k) in get-In ss r.0 row.1 r.1

table_short : (lines : List Laid) (row : ℕ × Section) → In row (relocated (sections lines) (entries lines)) → length (table_name row) ≤ 12
table_short lines row k =
    subst (λ n. n ≤ 12) (sym (length-append (codes ".rela") row.1.name)) (omega (arith, (section_short lines row.1 (relocated_In (sections lines) (entries lines) row k))))

abbrev fixed_names : List (List ℕ)
fixed_names = codes ".symtab" ∷ codes ".strtab" ∷ codes ".shstrtab" ∷ []

fixed_small : AreSmall 3 12 fixed_names
fixed_small = record { count = lit≤ tt; short = λ t k. le_of (length t) 12 (all-In (λ n. nat_le (length n) 12) fixed_names refl t k) }

names_small : (lines : List Laid) → AreSmall 11 12 (names_before_tables (object_of lines) ++ map table_name (relocated (sections lines) (entries lines)))
names_small lines =
    small_join 7 4 12 (names_before_tables (object_of lines)) (map table_name (relocated (sections lines) (entries lines)))
    (small_join 4 3 12 (own_names (sections lines)) fixed_names (small_map 4 12 (λ (s : Section). s.name) (sections lines) (few_sections lines) (λ s k. (omega (arith, section_short lines s k)))) fixed_small)
    (small_map 4 12 table_name (relocated (sections lines) (entries lines)) (few_tables lines) (table_short lines))

pub names_fit : (lines : List Laid) → length (section_strings (object_of lines)) < 2 ^ 32
unfolding section_strings
names_fit lines =
    let names : List (List ℕ) = names_before_tables (object_of lines) ++ map table_name (relocated (sections lines) (entries lines)) in
    (omega (arith, (table_le 11 12 names (names_small lines)), (names_small lines).count))

-- THE WHOLE FILE

padded_le : (m : ℕ) (part : List ℕ) → length part ≤ m → length (padded part) ≤ m + 8
unfolding padded
padded_le m part h =
    omega (arith, length-append part (replicate (parts.padding (length part)) 0), length-replicate {A = ℕ} (parts.padding (length part)) 0, h)

filled_le : (f : Fill) (bytes : List ℕ) (size : ℕ) → IsWhole f bytes size → size ≤ 16777216 → length (filled f bytes) ≤ 16777216
filled_le Prog bytes size w h = subst (λ n. n ≤ 16777216) (sym w) h
filled_le Note bytes size w h = subst (λ n. n ≤ 16777216) (sym w) h
filled_le Zero bytes size w h = omega arith

entries_for_few : (es : List Entry) (n : ℕ) → length (entries_for es n) ≤ length es
unfolding entries_for
entries_for_few es n = length-filter_le (λ e. e.section == n) es

table_few : (es : List Entry) (row : ℕ × Section) → length es ≤ 134217728 → length (table es row) ≤ 3221225472
table_few es row h = omega (arith, even_length entry_bytes 24 entry_length (entries_for es row.0), entries_for_few es row.0, h)

-- the largest part is that of the symbols
abbrev most : ℕ
most = 54962159640

below : (n m : ℕ) → n ≤ m → m ≤ 4294967296 → n ≤ most
below n m h k = omega (arith, h, k)

strings_below : (n : ℕ) → n < 2 ^ 32 → n ≤ most
strings_below n h = omega (arith, h)

pub size_fits : (source : List ℕ) (lines : List Laid) → placed_lines source ≡ Ok lines → length source < 2 ^ 31 → offset_after (parts.parts (object_of lines)) < 2 ^ 64
size_fits source lines e h =
    let o : Object = object_of lines in
    let tables : List (List ℕ) = map (table (entries lines)) (relocated (sections lines) (entries lines)) in
    let small : AreSmall 11 most (parts.parts o) =
    small_join 10 1 most (parts_before_names o) (section_strings o ∷ [])
    (small_join 9 1 most (parts_before_strings o) (symbol_strings o ∷ [])
    (small_join 5 4 most (parts_before_tables o) tables
    (small_join 4 1 most (parts.contents (sections lines)) (symbols_part o ∷ [])
    (small_map 4 most content (sections lines) (few_sections lines)
    (λ s k. let w : (s.size ≤ 16777216) × IsWhole s.fill s.bytes s.size = section_whole source lines e s k in below (length (content s)) 16777216 (filled_le s.fill s.bytes s.size w.1 w.0) (lit≤ tt)))
    (small_one most (symbols_part o) (omega (arith, symbols_length o, few_symbols source lines e h))))
    (small_map 4 most (table (entries lines)) (relocated (sections lines) (entries lines)) (few_tables lines) (λ row k. below (length (table (entries lines) row)) 3221225472 (table_few (entries lines) row (few_entries source lines e)) (lit≤ tt))))
    (small_one most (symbol_strings o) (strings_below (length (symbol_strings o)) (texts_fit source lines e h))))
    (small_one most (section_strings o) (strings_below (length (section_strings o)) (names_fit lines))) in
    omega (arith, flat_most padded (most + 8) (parts.parts o) (λ p k. padded_le most p (small.short p k)), small.count)
