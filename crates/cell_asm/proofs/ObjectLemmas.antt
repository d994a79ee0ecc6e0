-- The object of the lines, by what is kept of them.
--     same_part, part_itself     the test of parts decides whether they are the same
--     few lines parts            there are at most four
--     object_is                  what is made of what is kept is the object
use Rattle.std.specs.Prelude.{◌≡◌, ◌≤◌, ◌∷◌, ◌++◌, ◌+◌, ◌||◌, ◌&&◌, if◌then◌else◌}
use Rattle.cell_asm.proofs.Facts.{Bool, true, false, List, [], length, refl, sym, subst, ap, ◌∙◌, ℕ, map, replicate, append_assoc, not, cond, find, Some, None, replicate-append-replicate, map-append, flat_map-append, filter-append, list_any, option_map_or, unwrap_or, fold, flat_map, Option, option_map}
use Rattle.cell_asm.proofs.Facts.{filter, bytes_of, is_upper_label, is_lost, has_lost, spot_at, Follows, reference_at, references_of, is_upper_spot, key_lost_by, lost_by, section_kept, Lists, mentioned, Mentions, entry_kept, part_entries, adds_part, parts_of, section_of, sections, symbols, symbol_keys}
use Rattle.cell_asm.proofs.Facts.{label_named, part_number, target_key, entry_of, entries_in, entries, object_of, marks_in, is_same_part, choices, is_at, is_in, Part, Text, Rodata, Data, Bss, Laid, Target, TargetNamed as Named, TargetMade as Made, Label, Progress, Reference, Section, Symbol, Entry}
use Rattle.cell_asm.proofs.Facts.{Object, Mark, Symbols, map_same, flat_same}
use Rattle.std.proofs.lemmas.Map.Keys.{IsDistinct-push}
use Rattle.std.proofs.lemmas.Map.Made.{length-le_from_is_member}
use Rattle.std.specs.Cmp.{IsEquivalence}
use Rattle.std.specs.List.{IsDistinct}
use Rattle.cell_asm.proofs.SymbolLemmas.{all_symbols}

pub same_part : (p q : Part) → is_same_part p q ≡ true → p ≡ q
same_part Text Text e = refl
same_part Rodata Rodata e = refl
same_part Data Data e = refl
same_part Bss Bss e = refl
same_part _ _ e = absurd cc

pub part_itself : (p : Part) → is_same_part p p ≡ true
part_itself Text = refl
part_itself _ = refl

turned : (p q : Part) → is_same_part p q ≡ is_same_part q p
turned Text Text = refl
turned Rodata Rodata = refl
turned Data Data = refl
turned Bss Bss = refl
turned _ _ = refl

laws : IsEquivalence is_same_part
laws = record { refl = part_itself; symm = turned; congr = λ p q r e. ap (λ x. is_same_part x r) (same_part p q e) }

added : (parts : List Part) (p : Part) (b : Bool) → list_any (is_same_part p) parts ≡ b → IsDistinct is_same_part parts → IsDistinct is_same_part (if b then parts else parts ++ p ∷ [])
added parts p true e d = d
added parts p false e d = IsDistinct-push laws parts p d e

distinct : (parts more : List Part) → IsDistinct is_same_part parts → IsDistinct is_same_part (fold adds_part parts more)
distinct parts [] d = d
distinct parts (p ∷ more) d = distinct (adds_part parts p) more (added parts p (list_any (is_same_part p) parts) refl d)

parts_distinct : (lines : List Laid) → IsDistinct is_same_part (parts_of lines)
unfolding IsDistinct
parts_distinct lines = distinct [] (choices lines) tt

there : (p : Part) → list_any (is_same_part p) (Text ∷ Rodata ∷ Data ∷ Bss ∷ []) ≡ true
there Text = refl
there _ = refl

pub few : (lines : List Laid) (parts : List Part) → parts ≡ parts_of lines → length parts ≤ 4
few lines parts e = subst (λ ps. length ps ≤ 4) (sym e) (length-le_from_is_member laws (parts_of lines) (Text ∷ Rodata ∷ Data ∷ Bss ∷ []) (parts_distinct lines) (λ q t. there q))

-- BYTES

pub zeros_more : (bs : List ℕ) (i : ℕ) → bs ++ replicate (i + 1) 0 ≡ (bs ++ replicate i 0) ++ 0 ∷ []
zeros_more bs i = ap (λ xs. bs ++ xs) (sym (replicate-append-replicate i 1 0)) ∙ sym (append_assoc bs (replicate i 0) (0 ∷ []))

pub nops_more : (bs : List ℕ) (i : ℕ) → bs ++ flat_map (λ word. bytes_of 4 word) (replicate (i + 1) 0x13) ≡ (bs ++ flat_map (λ word. bytes_of 4 word) (replicate i 0x13)) ++ bytes_of 4 0x13
nops_more bs i = rw (← (replicate-append-replicate {A = ℕ} i 1 0x13), flat_map-append, append_assoc) refl

-- REFERENCES

-- the line of the first reference that passes is the first line that has one
module _ (p : Reference → Bool) where
  first_by : (b t : Bool) (l : Laid) (m : Mark) (r : Option Reference) (o : Option Laid) → option_map (λ x. x.line) r ≡ option_map (λ x. x.number) (cond t (Some l) o)
      → option_map (λ x. x.line) (cond b (Some (reference_at l m)) r) ≡ option_map (λ x. x.number) (cond (b || t) (Some l) o)
  first_by true t l m r o e = refl
  first_by false t l m r o e = e

  first_in : (l : Laid) (ms : List Mark) (rest : List Reference) (o : Option Laid) → option_map (λ r. r.line) (find p rest) ≡ option_map (λ x. x.number) o
      → option_map (λ r. r.line) (find p (map (reference_at l) ms ++ rest)) ≡ option_map (λ x. x.number) (cond (list_any (λ m. p (reference_at l m)) ms) (Some l) o)
  first_in l [] rest o e = e
  first_in l (m ∷ ms) rest o e =
      first_by (p (reference_at l m)) (list_any (λ m. p (reference_at l m)) ms) l m (find p (map (reference_at l) ms ++ rest)) o (first_in l ms rest o e)

  first_of : (lines : List Laid)
      → option_map (λ r. r.line) (find p (flat_map references_of lines)) ≡ option_map (λ l. l.number) (find (λ l. list_any (λ m. p (reference_at l m)) (marks_in l.line.statement)) lines)
  first_of [] = refl
  first_of (l ∷ ls) =
      first_in l (marks_in l.line.statement) (flat_map references_of ls) (find (λ l. list_any (λ m. p (reference_at l m)) (marks_in l.line.statement)) ls) (first_of ls)

-- the references of a section are those of its lines
module _ (part : Part) (e : Reference → Entry) where
  kept_in : (l : Laid) (ms : List Mark) (b : Bool) → is_in part l ≡ b → map e (filter (λ r. is_at part r.part) (map (reference_at l) ms)) ≡ cond b (map (λ m. e (reference_at l m)) ms) []
  kept_in l [] true h = refl
  kept_in l [] false h = refl
  kept_in l (m ∷ ms) true h = simp (h, kept_in l ms true h)
  kept_in l (m ∷ ms) false h = simp (h, kept_in l ms false h)

  joined : (b : Bool) (l : Laid) (ls : List Laid) → cond b (map (λ m. e (reference_at l m)) (marks_in l.line.statement)) [] ++ flat_map (λ x. map (λ m. e (reference_at x m)) (marks_in x.line.statement)) ls
      ≡ flat_map (λ x. map (λ m. e (reference_at x m)) (marks_in x.line.statement)) (cond b (l ∷ ls) ls)
  joined true l ls = refl
  joined false l ls = refl

  pub kept_of : (lines : List Laid) → map e (filter (λ r. is_at part r.part) (flat_map references_of lines))
      ≡ flat_map (λ l. map (λ m. e (reference_at l m)) (marks_in l.line.statement)) (filter (is_in part) lines)
  kept_of [] = refl
  kept_of (l ∷ ls) = rw (filter-append, map-append, kept_in l (marks_in l.line.statement) (is_in part l) refl, kept_of ls) (joined (is_in part l) l (filter (is_in part) ls))

-- THE OBJECT, BY WHAT IS KEPT

module _ (kept : Progress) (lines : List Laid) (h : Follows kept lines) where
  upper_is : (o : Option Label) → is_upper_spot kept (option_map spot_at o) ≡ option_map_or (is_upper_label lines) o false
  upper_is None = refl
  upper_is (Some l) = ap (λ b. is_same_part Text l.part && b) (h.uppers l.offset)

  lost_is : (l : Laid) (t : Target) → key_lost_by kept (target_key l t) ≡ is_lost lines t
  lost_is l Made = refl
  lost_is l (Named name) = ap (λ o. not (is_upper_spot kept o)) (h.spots name) ∙ ap not (upper_is (label_named lines name))

  -- the first line that refers to a label that is none
  pub first_is : option_map (λ r. r.line) (find (lost_by kept) kept.references.items) ≡ option_map (λ l. l.number) (find (has_lost lines) lines)
  first_is = simp (h.references, first_of, lost_is)

  sections_are : map (section_kept kept.parts.items kept.bodies) kept.parts.items ≡ sections lines
  sections_are =
      ap (λ ps. map (section_kept ps kept.bodies) ps) h.parts
      ∙ map_same (section_kept (parts_of lines) kept.bodies) (section_of lines) (parts_of lines) (λ part k. ap (λ (g : ℕ × ℕ × List ℕ). record (section_of lines part) { align = g.0; size = g.1; bytes = g.2 }) (h.bodies part))

  module _ (s : Symbols) (made : Lists s (symbol_keys lines) (symbols lines)) where
    entry_is : (part : Part) (l : Laid) (m : Mark) → entry_kept (part_number lines part) s (reference_at l m) ≡ entry_of lines part l m
    entry_is part l m = ap (λ o. record (entry_of lines part l m) { symbol = unwrap_or o 0 }) (made.numbers (target_key l m.fix.target))

    entries_are : flat_map (part_entries kept s) kept.parts.items ≡ entries lines
    entries_are =
        ap (flat_map (part_entries kept s)) h.parts
        ∙ flat_same (part_entries kept s) (entries_in lines) (parts_of lines) (λ part k. simp (h.parts, h.references, kept_of, entry_is))

  abbrev object : List Section → List Symbol → List Entry → Object
  object ss symbols es = record { sections = ss; symbols = symbols; entries = es }

  pub object_is : (s : Symbols) (ss : List Section) (list : List Symbol) (es : List Entry) → Mentions s kept (fold (mentioned kept) [] kept.mentions.items)
      → ss ≡ map (section_kept kept.parts.items kept.bodies) kept.parts.items → list ≡ s.list.items → es ≡ flat_map (part_entries kept s) kept.parts.items → object ss list es ≡ object_of lines
  object_is s ss list es m sectioned listed entered =
      let made = all_symbols kept lines h s m in
      rw (sectioned, sections_are, listed, made.list, entered, entries_are s made) refl
