-- The entries, read from the image.
use Rattle.std.proofs.Common.{◌≡◌, ℕ, zero, suc, ◌+◌, ◌-◌, ◌*◌, ◌<◌, ◌≤◌, Bool, true, false, cond, not, true≢false, ◌&&◌, List, [], ◌∷◌, ◌++◌, length, take, get_or, sym, ap, subst, ◌∙◌, refl, arith, map, filter, if◌then◌else◌, inl, inr}
use Rattle.std.specs.Prelude.{◌==◌, Some}
use Rattle.std.specs.List.{flat_map}
use Rattle.std.proofs.lemmas.Bool.{eqb-true, ne_eqb, cases_lt}
use Rattle.cell_num.specs.Kinds.{kind_of}
use Rattle.cell_num.specs.Lists.{numbered_from}
use Rattle.cell_num.specs.declared.kinds.RelKind.{RelKind}
use Rattle.cell_num.specs.declared.kinds.RelKind.TheVariants.{Abs32, Abs64, Branch, Jal, Call, CallPlt, GotHi20, PcrelHi20, PcrelLo12I, PcrelLo12S, Hi20, Lo12I, Lo12S, Add8, Add16, Add32, Add64, Sub8, Sub16, Sub32, Sub64, Sub6, Set6, Set8, Set16, Set32, Pcrel32}
use Rattle.cell_object.specs.declared.object.Object.{Object}
use Rattle.cell_object.specs.declared.object.Section.{Section}
use Rattle.cell_object.specs.declared.object.Entry.{Entry}
use Rattle.cell_object.specs.declared.object.Fill.{Fill}
use Rattle.cell_object.specs.declared.object.Fill.TheVariants.{Prog, Note, Zero}
use Rattle.cell_object.specs.declared.headers.SectionHeader.{SectionHeader}
use Rattle.cell_object.specs.Bytes.{between}
use Rattle.cell_object.specs.Header.{section_header}
use Rattle.cell_object.specs.Sections.{is_alloc}
use Rattle.cell_object.specs.Relocations.{is_rela, is_for_loaded, rela_row, rela_row_at, entry_of_kind, entry_of, entries_below, entry_count, section_entries, entries_of}
use Rattle.cell_object.specs.Rows.{kind_number, entry_bytes}
use Rattle.cell_object.specs.ImageParts.{offset_after, parts_before_tables, table, entries_for, has_entries, relocated}
use Rattle.cell_object.specs.Image.{null_row, table_row, fill_type, section_rows, image}
use Rattle.cell_image.proofs.Rows.{FitsEntry, read_entry}
use Rattle.cell_image.proofs.Places.{even_length}
use Rattle.cell_image.proofs.Headers.{FitsImage, tables, last_rows, rows_count, own_header, last_header, table_header, header_of_image, read_header, table_split}
use Rattle.cell_image.proofs.Gather.{gather_all, gather_none, gather_two, gather_flat}
use Rattle.cell_image.proofs.Tables.{filter_get, table_is}
use Rattle.cell_image.proofs.Symbols.{own_alloc}
use Rattle.cell_image.proofs.Stands.{part_stands, element_stands, entry_stands, entry_length}

pub kind_back : (k : RelKind) → kind_of (kind_number k) ≡ Some k
unfolding kind_number
kind_back Abs32 = refl
kind_back Abs64 = refl
kind_back Branch = refl
kind_back Jal = refl
kind_back Call = refl
kind_back CallPlt = refl
kind_back GotHi20 = refl
kind_back PcrelHi20 = refl
kind_back PcrelLo12I = refl
kind_back PcrelLo12S = refl
kind_back Hi20 = refl
kind_back Lo12I = refl
kind_back Lo12S = refl
kind_back Add8 = refl
kind_back Add16 = refl
kind_back Add32 = refl
kind_back Add64 = refl
kind_back Sub8 = refl
kind_back Sub16 = refl
kind_back Sub32 = refl
kind_back Sub64 = refl
kind_back Sub6 = refl
kind_back Set6 = refl
kind_back Set8 = refl
kind_back Set16 = refl
kind_back Set32 = refl
kind_back Pcrel32 = refl

-- an entry that is read as it was
pub record IsPlainEntry (e : Entry) : Type 0 where
  pub fits : FitsEntry e

-- the j-th table's section and its entries
abbrev pub table_at : Object → ℕ → Section → ℕ × Section
table_at object j d = get_or (tables object) j (0, d)

abbrev pub entries_at : Object → ℕ → Section → List Entry
entries_at object j d = entries_for object.entries (table_at object j d).0

abbrev pub head_at : Object → ℕ → Section → SectionHeader
head_at object j d = (table_row object (take j (tables object), table_at object j d))

-- an entry for a section is one of the object's, and for that section
pub record IsEntryFor (entries : List Entry) (number : ℕ) (z e : Entry) : Type 0 where
  pub place : ℕ
  pub inside : place < length entries
  pub is : e ≡ get_or entries place z
  pub section : e.section ≡ number

pub entry_for : (entries : List Entry) (number k : ℕ) (z : Entry) → k < length (entries_for entries number) → IsEntryFor entries number z (get_or (entries_for entries number) k z)
unfolding entries_for
entry_for entries number k z lt =
    let h = filter_get (λ e. e.section == number) entries k z lt in
    record { place = h.place; inside = h.inside; is = h.is; section = ap (λ e. e.section) h.is ∙ eqb-true (get_or entries h.place z).section number h.test }

-- the k-th entry of the j-th table
pub entry_row_is : (object : Object) (j k : ℕ) (d : Section) (z : Entry) → FitsImage object → j < length (tables object) → k < length (entries_at object j d) → IsPlainEntry (get_or (entries_at object j d) k z)
    → rela_row (image object) (head_at object j d) k ≡ read_entry (get_or (entries_at object j d) k z)
entry_row_is object j k d z f lt inside p =
    let file : List ℕ = image object in
    let e : Entry = get_or (entries_at object j d) k z in
    let at : ℕ = offset_after (parts_before_tables object ++ map (table object.entries) (take j (tables object))) in
    let part = part_stands object (parts_before_tables object ++ map (table object.entries) (take j (tables object))) _ (table object.entries (table_at object j d)) (table_split object j (0, d) lt) in
    let n : at + 24 * k ≡ at + (0 + 24 * k) = omega arith in
    ap (λ m. rela_row_at m file) n
    ∙ entry_stands file (at + (0 + 24 * k)) e (element_stands file at (table object.entries (table_at object j d)) [] entry_bytes 24 (entries_at object j d) k z entry_length inside part refl) p.fits

pub entry_is : (object : Object) (j k : ℕ) (d : Section) (z : Entry) → FitsImage object → j < length (tables object) → k < length (entries_at object j d) → IsPlainEntry (get_or (entries_at object j d) k z)
    → entry_of (image object) (head_at object j d) k ≡ get_or (entries_at object j d) k z ∷ []
unfolding entry_of
entry_is object j k d z f lt inside p =
    let e : Entry = get_or (entries_at object j d) k z in
    let h : SectionHeader = head_at object j d in
    let here = entry_for object.entries (table_at object j d).0 k z inside in
    ap (λ r. entry_of_kind h r (kind_of r.r_type)) (entry_row_is object j k d z f lt inside p)
    ∙ ap (entry_of_kind h (read_entry e)) (kind_back e.kind)
    ∙ (λ i. (record { section = sym here.section i; offset = e.offset; kind = e.kind; symbol = e.symbol; addend = e.addend }) ∷ [])

pub entries_length : (object : Object) (j : ℕ) (d : Section) → length (table object.entries (table_at object j d)) ≡ 24 * length (entries_at object j d)
entries_length object j d = even_length entry_bytes 24 entry_length (entries_at object j d)

pub count_is : (object : Object) (j : ℕ) (d : Section) → entry_count (head_at object j d) ≡ length (entries_at object j d)
count_is object j d = let e = entries_length object j d in omega (arith, e)

-- each of the object's entries is plain
abbrev pub ArePlain : List Entry → Entry → Type 0
ArePlain entries z = (k : ℕ) → k < length entries → IsPlainEntry (get_or entries k z)

pub plain_at : (object : Object) (j k : ℕ) (d : Section) (z : Entry) → ArePlain object.entries z → k < length (entries_at object j d) → IsPlainEntry (get_or (entries_at object j d) k z)
plain_at object j k d z plain lt =
    let h = entry_for object.entries (table_at object j d).0 k z lt in subst IsPlainEntry (sym h.is) (plain h.place h.inside)

pub table_entries : (object : Object) (j n : ℕ) (d : Section) (z : Entry) → FitsImage object → j < length (tables object) → ArePlain object.entries z → n ≡ length (entries_at object j d)
    → entries_below (image object) (head_at object j d) n ≡ entries_at object j d
table_entries object j n d z f lt plain e =
    gather_all (entry_of (image object) (head_at object j d)) (entries_at object j d) 0 n z (let m : 0 + length (entries_at object j d) ≡ n = omega (arith, e) in m)
    (λ k inside. let m : 0 + k ≡ k = omega arith in ap (entry_of (image object) (head_at object j d)) m ∙ entry_is object j k d z f lt inside (plain_at object j k d z plain inside))

-- the section of a table is loaded
pub table_loaded : (object : Object) (j : ℕ) (d : Section) → FitsImage object → j < length (tables object) → is_for_loaded (image object) (head_at object j d) ≡ true
table_loaded object j d f lt =
    let t = table_is object.sections object.entries j d lt in
    ap (λ v. is_alloc (section_header (image object) v.0)) t.is ∙ own_alloc object d (1 + t.place) f (omega arith) (omega (arith, t.inside))

no_rela : (f : Fill) → (fill_type f == 4) ≡ false
no_rela Prog = refl
no_rela Note = refl
no_rela Zero = refl

three : (object : Object) (j : ℕ) → j < 3 → is_rela ((get_or (last_rows object) j null_row)) ≡ false
three object zero lt = refl
three object (suc zero) lt = refl
three object (suc (suc zero)) lt = refl
three object (suc (suc (suc j))) lt = absurd (omega (arith, lt))

-- the headers that are no relocations
pub others : (object : Object) (n : ℕ) (d : Section) → FitsImage object → 1 ≤ n → n < length object.sections + 4 → is_rela (section_header (image object) n) ≡ false
others object n d f low high = elim (cases_lt n (length object.sections + 1)) [
  | inl own ↦
      let e : n ≡ suc (n - 1) = omega (arith, low) in
      ap (λ k. is_rela (section_header (image object) k)) e ∙ ap is_rela (own_header object (n - 1) d f (omega (arith, low, own))) ∙ no_rela (get_or object.sections (n - 1) d).fill
  | inr last ↦
      let e : n ≡ length object.sections + 1 + (n - (length object.sections + 1)) = omega (arith, last) in
      let count = rows_count object in
      ap (λ k. is_rela (section_header (image object) k)) e
      ∙ ap is_rela (last_header object (n - (length object.sections + 1)) f (omega (arith, last, high, count)))
      ∙ three object (n - (length object.sections + 1)) (omega (arith, last, high))
]

no_entries : (object : Object) (n : ℕ) (d : Section) → FitsImage object → 1 ≤ n → n < length object.sections + 4 → section_entries (image object) n ≡ []
unfolding section_entries
no_entries object n d f low high =
    let file : List ℕ = image object in
    let h : SectionHeader = section_header file n in
    ap (λ v. if v && is_for_loaded file h then entries_below file h (entry_count h) else []) (others object n d f low high)

some_entries : (object : Object) (j : ℕ) (d : Section) (z : Entry) → FitsImage object → j < length (tables object) → ArePlain object.entries z → section_entries (image object) (length object.sections + 4 + j) ≡ entries_at object j d
unfolding section_entries
some_entries object j d z f lt plain =
    let file : List ℕ = image object in
    let h : SectionHeader = head_at object j d in
    ap (λ r. if is_rela r && is_for_loaded file r then entries_below file r (entry_count r) else []) (table_header object j (0, d) f lt)
    ∙ ap (λ v. if v then entries_below file h (entry_count h) else []) (table_loaded object j d f lt)
    ∙ table_entries object j (entry_count h) d z f lt plain (count_is object j d)

-- what a filter leaves out has none
flat_one : {X Y : Type 0} (p : X → Bool) (g : X → List Y) (x : X) (xs : List X) (b : Bool) → p x ≡ b → ((x : X) → p x ≡ false → g x ≡ []) → flat_map g (filter p xs) ≡ flat_map g xs → flat_map g (cond b (x ∷ filter p xs) (filter p xs)) ≡ g x ++ flat_map g xs
flat_one p g x xs true e h ih = ap (λ v. g x ++ v) ih
flat_one p g x xs false e h ih = ih ∙ ap (λ v. v ++ flat_map g xs) (sym (h x e))

nothing : (xs : List Entry) → not (length xs == 0) ≡ false → xs ≡ []
nothing [] h = refl
nothing (x ∷ xs) h = absurd (true≢false (ap not (sym (ne_eqb (suc (length xs)) 0 (λ e. omega (arith, e)))) ∙ h))

flat_filter : {X Y : Type 0} (p : X → Bool) (g : X → List Y) (xs : List X) → ((x : X) → p x ≡ false → g x ≡ []) → flat_map g (filter p xs) ≡ flat_map g xs
flat_filter p g [] h = refl
flat_filter p g (x ∷ xs) h = flat_one p g x xs (p x) refl h (flat_filter p g xs h)

none_there : (entries : List Entry) (n : ℕ) → has_entries entries n ≡ false → entries_for entries n ≡ []
none_there entries n h = nothing (entries_for entries n) h

pub entries_are_read : (object : Object) (d : Section) (z : Entry) → FitsImage object → ArePlain object.entries z → object.entries ≡ flat_map (λ row. entries_for object.entries row.0) (numbered_from 1 object.sections)
    → entries_of (image object) ≡ object.entries
unfolding read_header relocated
entries_are_read object d z f plain grouped =
    let file : List ℕ = image object in
    let m : ℕ = length object.sections in
    let n : ℕ = length (section_rows object) in
    let count = rows_count object in
    ap (λ h. flat_map (section_entries file) (between 1 h.e_shnum)) (header_of_image object f)
    ∙ gather_two (section_entries file) 1 (m + 4) n (omega arith) (omega (arith, count))
    ∙ ap (λ v. v ++ flat_map (section_entries file) (between (m + 4) n)) (gather_none (section_entries file) 1 (m + 4) (λ i low high. no_entries object i d f low high))
    ∙ gather_flat (section_entries file) (λ row. entries_for object.entries row.0) (tables object) (m + 4) n (0, d) (omega (arith, count)) (λ j lt. some_entries object j d z f lt plain)
    ∙ flat_filter (λ row. has_entries object.entries row.0) (λ row. entries_for object.entries row.0) (numbered_from 1 object.sections) (λ row h. none_there object.entries row.0 h)
    ∙ sym grouped
