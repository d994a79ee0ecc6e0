-- What is known of names, after one more name, and behind one more line.
use Rattle.std.specs.Prelude.{◌≡◌, ◌||◌, ◌∷◌, ◌++◌, ◌+◌, ◌<◌, ◌^◌, ◌⊎◌, if◌then◌else◌}
use Rattle.cell_asm.proofs.Facts.{ℕ, Bool, true, false, List, [], cond, find, map, Some, None, refl, sym, ap, ◌∙◌, append-nil, add-zero, zero-add, suc, length, drop, get_or, Bor, Result, Ok, Err, subst, add-one, arith, append_assoc, inl, inr, drop_more, length-map, map-append, flat_map-append}
use Rattle.cell_asm.proofs.Facts.{filter_map-append, filter-append, list_any-append, find-append, sum_by-append, fold-append, or-false, list_any, cons_option, option_or, option_map_or, Option, option_map, is_some, filter, flat_map, sum_by, fold, max, equals, where_true, last, or_else, numbered_from}
use Rattle.cell_asm.proofs.Facts.{lines_in, Behind, add_line, with_line, placed_line, placed_texts, object_from, object_unless, has_lost, assembled, Assembles, placed_unless, placed_lines, spot_here, spot_at, spot_among, names_in, grown_in, grown_with, bytes_laid, references_of, is_upper_at}
use Rattle.cell_asm.proofs.Facts.{Goes as GoesBehind, Places, failure, body_of, offset_of, twice_of, fault_after, laid_after, Adds, Follows, line_of, adds_choice, parts_of, alignment_asked, first_alignment, alignment, bytes_at, contents, object_of, is_key, makes_label, own_key, made_key, keys_of, label}
use Rattle.cell_asm.proofs.Facts.{labels_at, labels, fault_at, is_at, is_in, choice, choices, taken, size_in, size_at, made_in, is_twice, placed, Part, Bss, Statement, Laid, Label, AsmKindLabel, KeyNamed as Named, KeyMade as Made, Line, Progress, AsmKind, Stop, StopFault as Fault}
use Rattle.cell_asm.proofs.Facts.{StopOutOfMemory as OutOfMemory, Object, AsmFail, AsmFailFault as Faulty, AsmFailOutOfMemory as NoMemory, In, In-append, In-one, StatementBind, given, binding_in, is_other, is_rebound, rebound_of}
use Rattle.cell_asm.proofs.ListLemmas.{ok_once}
use Rattle.cell_asm.proofs.SymbolLemmas.{or_none}
use Rattle.cell_asm.proofs.ObjectLemmas.{same_part}

-- ONE MORE LINE

no_made : (part : Part) (offset n : ℕ) (b : Bool) (q : List ℕ) → find (λ l. is_key l.key (Named q)) (map (label part offset) (if b then Made n ∷ [] else [])) ≡ None
no_made part offset n true q = refl
no_made part offset n false q = refl

first_or_none : (b : Bool) (l : Label) (o : Option Label) → o ≡ None → option_map spot_at (cond b (Some l) o) ≡ where_true b (spot_at l)
first_or_none true l o e = refl
first_or_none false l o e = ap (option_map spot_at) e

-- the label of a line is among its labels
here_is : (o : Option Part) (offset n : ℕ) (own : Option (List ℕ)) (s : Statement) (q : List ℕ) → spot_among (labels_at o offset (own_key own ++ made_key s n)) q ≡ spot_here o offset own q
here_is None offset n None s q = refl
here_is None offset n (Some name) s q = refl
here_is (Some part) offset n None s q = ap (option_map spot_at) (no_made part offset n (makes_label s) q)
here_is (Some part) offset n (Some name) s q = first_or_none (equals name q) (label part offset (Named name)) _ (no_made part offset n (makes_label s) q)

mapped_or : (o p : Option Label) → option_map spot_at (option_or o p) ≡ or_else (option_map spot_at o) (option_map spot_at p)
mapped_or None p = refl
mapped_or (Some l) p = refl

pub flat_more : {X Y : Type 0} (f : X → List Y) (xs : List X) (x : X) → flat_map f (xs ++ x ∷ []) ≡ flat_map f xs ++ f x
flat_more f xs x = flat_map-append f xs (x ∷ []) ∙ ap (λ ys. flat_map f xs ++ ys) (append-nil (f x))

pub labels_push : (lines : List Laid) (l : Laid) → labels (lines ++ l ∷ []) ≡ labels lines ++ labels_at l.part l.offset (keys_of l)
labels_push lines l = flat_more (λ m. labels_at m.part m.offset (keys_of m)) lines l

spot_more : (before : List Laid) (l : Laid) (q : List ℕ) → spot_among (labels (before ++ l ∷ [])) q ≡ or_else (spot_among (labels before) q) (spot_here l.part l.offset l.line.label q)
spot_more before l q = simp (labels_push before l, find-append, mapped_or, here_is l.part l.offset l.made l.line.label l.line.statement q)

or_grouped : {X : Type 0} (a b c : Option X) → or_else (or_else a b) c ≡ or_else a (or_else b c)
or_grouped None b c = refl
or_grouped (Some x) b c = refl

binding_more : (before : List Laid) (l : Laid) (q : List ℕ) → binding_in (before ++ l ∷ []) q ≡ or_else (binding_in before q) (given q l.line.statement)
binding_more [] l q = or_none (given q l.line.statement)
binding_more (m ∷ before) l q = ap (or_else (given q m.line.statement)) (binding_more before l q) ∙ sym (or_grouped (given q m.line.statement) (binding_in before q) (given q l.line.statement))

-- whether a label has the name
found_is : (p : Label → Bool) (ls : List Label) → is_some (option_map spot_at (find p ls)) ≡ list_any p ls
found_is p [] = refl
found_is p (l ∷ ls) = go (p l) (found_is p ls)
  where
    go : (b : Bool) → is_some (option_map spot_at (find p ls)) ≡ list_any p ls → is_some (option_map spot_at (cond b (Some l) (find p ls))) ≡ (b || list_any p ls)
    go true e = refl
    go false e = e

-- One line more behind those that are in their places.

size_is : (p : Progress) (before : List Laid) (part : Option Part) → Follows p before → option_map_or (λ chosen. (body_of p.bodies chosen).size) part 0 ≡ size_at part before
size_is p before None h = refl
size_is p before (Some part) h = ap (λ g. g.1) (h.bodies part)

pub offset_is : (p : Progress) (before : List Laid) → Follows p before → offset_of p ≡ size_at (last (choices before)) before
offset_is p before h = ap (λ o. option_map_or (λ part. (body_of p.bodies part).size) o 0) h.chosen ∙ size_is p before (last (choices before)) h

twice_is : (p : Progress) (before : List Laid) (name : Option (List ℕ)) → Follows p before → twice_of p name ≡ is_twice before name
twice_is p before None h = refl
twice_is p before (Some name) h = ap is_some (h.spots name) ∙ found_is (λ l. is_key l.key (Named name)) (labels before)

rebound_is : (p : Progress) (before : List Laid) (s : Statement) → Follows p before → rebound_of p s ≡ is_rebound before s
rebound_is p before (StatementBind binding name) h = ap (is_other binding) (h.bindings name)
rebound_is p before _ h = refl

-- what is wrong with the next line
pub fault_is : (p : Progress) (before : List Laid) (line : Line) → Follows p before → fault_after p line ≡ fault_at before line
fault_is p before line h = rw (offset_is p before h, twice_is p before line.label h, rebound_is p before line.statement h, h.chosen) refl

pub laid_is : (p : Progress) (before : List Laid) (n : ℕ) (line : Line) → Follows p before → laid_after p n line ≡ placed before n line
laid_is p before n line h = rw (offset_is p before h, h.made, h.chosen) refl

last_push : {X : Type 0} (xs : List X) (x : X) → last (xs ++ x ∷ []) ≡ Some x
last_push [] x = refl
last_push (y ∷ []) x = refl
last_push (y ∷ z ∷ zs) x = last_push (z ∷ zs) x

last_more : {X : Type 0} (xs : List X) (o : Option X) → last (xs ++ cons_option o []) ≡ or_else o (last xs)
last_more xs None = ap last (append-nil xs)
last_more xs (Some x) = last_push xs x

chosen_more : (before : List Laid) (l : Laid) → last (choices (before ++ l ∷ [])) ≡ or_else (choice l.line.statement) (last (choices before))
chosen_more before l = simp (filter_map-append, last_more (choices before) (choice l.line.statement))

one_size : (part : Part) (l : Laid) (b : Bool) → sum_by (λ m. taken m.line.statement m.offset) (cond b (l ∷ []) []) ≡ (if b then taken l.line.statement l.offset else 0)
one_size part l true = zero-add (taken l.line.statement l.offset)
one_size part l false = refl

pub size_more : (part : Part) (before : List Laid) (l : Laid) → size_in part (before ++ l ∷ []) ≡ size_in part before + (if is_in part l then taken l.line.statement l.offset else 0)
size_more part before l = simp (filter-append, sum_by-append, one_size part l (is_in part l))

pub made_more : (before : List Laid) (l : Laid) → made_in (before ++ l ∷ []) ≡ made_in before + (if makes_label l.line.statement then 1 else 0)
made_more before l =
    sum_by-append (λ m. cond (makes_label m.line.statement) 1 0) before (l ∷ []) ∙ ap (λ n. made_in before + n) (zero-add (cond (makes_label l.line.statement) 1 0))

-- where a line stands in a section, its offset is the section's size
pub stands_at : (part : Part) (before : List Laid) (o : Option Part) → is_at part o ≡ true → size_at o before ≡ size_in part before
stands_at part before None e = absurd cc
stands_at part before (Some other) e = ap (λ p. size_in p before) (sym (same_part part other e))

filter_more : {X : Type 0} (p : X → Bool) (xs : List X) (x : X) (b : Bool) → p x ≡ b → filter p (xs ++ x ∷ []) ≡ (if b then filter p xs ++ x ∷ [] else filter p xs)
filter_more p xs x true e = filter-append p xs (x ∷ []) ∙ ap (λ b. filter p xs ++ cond b (x ∷ []) []) e
filter_more p xs x false e = filter-append p xs (x ∷ []) ∙ ap (λ b. filter p xs ++ cond b (x ∷ []) []) e ∙ append-nil (filter p xs)

any_more : {X : Type 0} (p : X → Bool) (xs : List X) (x : X) → list_any p (xs ++ x ∷ []) ≡ (list_any p xs || p x)
any_more p xs x = list_any-append p xs (x ∷ []) ∙ ap (λ b. list_any p xs || b) (or-false (p x))

parts_more : (before : List Laid) (l : Laid) → parts_of (before ++ l ∷ []) ≡ adds_choice (parts_of before) l.line.statement
parts_more before l = simp (filter_map-append, fold-append)

-- the alignment, the size and the bytes of a section
module _ (part : Part) (before : List Laid) (l : Laid) where
  aligned : (b : Bool) → is_in part l ≡ b → alignment part (before ++ l ∷ []) ≡ (if b then max (alignment part before) (alignment_asked l.line.statement) else alignment part before)
  aligned true e = simp (filter_more (is_in part) before l true e, map-append, fold-append)
  aligned false e = ap (λ ls. fold max (first_alignment part) (map (λ m. alignment_asked m.line.statement) ls)) (filter_more (is_in part) before l false e)

  sized : (b : Bool) → is_in part l ≡ b → l.offset ≡ size_at l.part before
      → size_in part (before ++ l ∷ []) ≡ (if b then l.offset + taken l.line.statement l.offset else size_in part before)
  sized true e at = rw (size_more part before l, e, at, stands_at part before l.part e) refl
  sized false e at = rw (size_more part before l, e) (add-zero (size_in part before))

bytes_more : (part : Part) (before : List Laid) (l : Laid) (b : Bool) → is_in part l ≡ b
    → contents part (before ++ l ∷ []) ≡ (if b then contents part before ++ bytes_laid part l.offset l.line.statement else contents part before)
bytes_more Bss before l true e = refl
bytes_more Bss before l false e = refl
bytes_more part before l true e = simp (filter_more (is_in part) before l true e, flat_more)
bytes_more part before l false e = ap (flat_map (λ m. bytes_at part m.offset m.line.statement)) (filter_more (is_in part) before l false e)

triple : (a b m n : ℕ) (xs ys : List ℕ) → a ≡ b → m ≡ n → xs ≡ ys → ◌≡◌ {A = ℕ × ℕ × List ℕ} (a, m, xs) (b, n, ys)
triple a b m n xs ys e f g = cc

grown_more : (part : Part) (before : List Laid) (l : Laid) (b : Bool) → is_in part l ≡ b → l.offset ≡ size_at l.part before
    → grown_in part (before ++ l ∷ []) ≡ (if b then grown_with part l (grown_in part before) else grown_in part before)
grown_more part before l true e at = triple _ _ _ _ _ _ (aligned part before l true e) (sized part before l true e at) (bytes_more part before l true e)
grown_more part before l false e at = triple _ _ _ _ _ _ (aligned part before l false e) (sized part before l false e at) (bytes_more part before l false e)

pub follows_more : (p q : Progress) (before : List Laid) (l : Laid) → Follows p before → l.offset ≡ size_at l.part before → Adds p q l → Follows q (before ++ l ∷ [])
follows_more p q before l h at a = record {
  chosen = a.chosen ∙ ap (or_else (choice l.line.statement)) h.chosen ∙ sym (chosen_more before l);
  parts = a.parts ∙ ap (λ ps. adds_choice ps l.line.statement) h.parts ∙ sym (parts_more before l);
  bodies = λ part. a.bodies part ∙ ap (λ (g : ℕ × ℕ × List ℕ). if is_in part l then grown_with part l g else g) (h.bodies part) ∙ sym (grown_more part before l (is_in part l) refl at);
  made = a.made ∙ ap (λ n. n + (if makes_label l.line.statement then 1 else 0)) h.made ∙ sym (made_more before l);
  spots = λ q. a.spots q ∙ ap (λ o. or_else o (spot_here l.part l.offset l.line.label q)) (h.spots q) ∙ sym (spot_more before l q);
  bindings = λ q. a.bindings q ∙ ap (λ o. or_else o (given q l.line.statement)) (h.bindings q) ∙ sym (binding_more before l q);
  labels = a.labels ∙ ap (λ ls. ls ++ labels_at l.part l.offset (keys_of l)) h.labels ∙ sym (labels_push before l);
  mentions = a.mentions ∙ ap (λ ns. ns ++ names_in l.line) h.mentions ∙ sym (flat_more (λ m. names_in m.line) before l);
  uppers = λ q. a.uppers q ∙ ap (λ b. b || is_upper_at q l) (h.uppers q) ∙ sym (any_more (is_upper_at q) before l);
  references = a.references ∙ ap (λ rs. rs ++ references_of l) h.references ∙ sym (flat_more references_of before l);
}

-- The lines of a source, one after the other.

-- what the lines from number n on come to, behind those before them
abbrev pub placed_from : Result (List Laid) (ℕ × AsmKind) → ℕ → List (List ℕ) → Result (List Laid) (ℕ × AsmKind)
placed_from before n texts = fold add_line before (numbered_from n texts)

-- nothing is read behind a fault
pub after_fault : (fault : ℕ × AsmKind) (n : ℕ) (texts : List (List ℕ)) → placed_from (Err fault) n texts ≡ Err fault
after_fault fault n [] = refl
after_fault fault n (text ∷ texts) = after_fault fault (suc n) texts

-- what is kept behind some lines, from which the texts that are left come to what all texts come to
pub record IsPlaced (p : Progress) (n : ℕ) (left : List (List ℕ)) (all : Result (List Laid) (ℕ × AsmKind)) : Type 0 where
  pub lines : List Laid
  pub comes : placed_from (Ok lines) n left ≡ all
  pub follows : Follows p lines

module _ (p q : Progress) (n : ℕ) (text : List ℕ) (texts : List (List ℕ)) (all : Result (List Laid) (ℕ × AsmKind)) (h : IsPlaced p n (text ∷ texts) all) where
  pub next_placed : (u : Unit {0}) → ((before : List Laid) → Follows p before → GoesBehind q before (Ok u) (placed_line before n (line_of text))) → IsPlaced q (n + 1) texts all
  next_placed u goes =
      let g : GoesBehind q h.lines (Ok u) (placed_line h.lines n (line_of text)) = goes h.lines h.follows in
      record { lines = h.lines ++ g.0 ∷ []; comes = sym (ap (λ r. placed_from (with_line h.lines n r) (suc n) texts) g.1 ∙ ap (λ m. placed_from (Ok (h.lines ++ g.0 ∷ [])) m texts) (sym (add-one n))) ∙ h.comes; follows = g.2 }

  pub stopped : (stop : Stop) → ((before : List Laid) → Follows p before → GoesBehind q before (Err stop) (placed_line before n (line_of text))) → Places (Err (failure stop n)) all
  stopped (Fault kind) goes = sym h.comes ∙ ap (λ r. placed_from (with_line h.lines n r) (suc n) texts) (goes h.lines h.follows) ∙ after_fault (n, kind) (suc n) texts
  stopped OutOfMemory goes = tt

-- the texts that are left
pub dropped : (texts : List (Bor (List ℕ))) (i : ℕ) (d : Bor (List ℕ)) → i < length texts → map (λ text. text.now) (drop i texts) ≡ (get_or texts i d).now ∷ map (λ text. text.now) (drop (i + 1) texts)
dropped texts i d lt = ap (map (λ text. text.now)) (drop_more texts i d lt)

-- there are no more line feeds than bytes
pub few_lines : (size : ℕ) (texts : List (Bor (List ℕ))) → Behind size (map (λ text. text.now) texts) → size < 2 ^ 31 → length texts < 2 ^ 32
few_lines size [] h small = omega arith
few_lines size (text ∷ texts) h small = omega (arith, h (length texts) (omega (arith, length-map texts (λ t. t.now))), small)

-- the source has the fault at which its lines stop
pub stops_all : (fail : AsmFail) (texts : List (List ℕ)) (source : List ℕ) → texts ≡ lines_in source → Places (Err fail) (placed_texts texts) → Assembles (Err fail) (assembled source)
stops_all (Faulty line kind) texts source e h = ap (λ ts. object_from (placed_texts ts)) (sym e) ∙ ap object_from h
stops_all NoMemory texts source e h = tt

pub goes_all : (r : Result Object AsmFail) (lines : List Laid) (texts : List (List ℕ)) (source : List ℕ) → texts ≡ lines_in source → placed_texts texts ≡ Ok lines
    → Assembles r (object_unless lines (find (has_lost lines) lines)) → Assembles r (assembled source)
goes_all r lines texts source e h object = subst (λ said. Assembles r said) (sym (ap (λ ts. object_from (placed_texts ts)) (sym e) ∙ ap object_from h)) object

-- the first line that refers to a label that is none, or the object
pub lost_answer : (lines : List Laid) (o : Option Laid) (line : ℕ) → Some line ≡ option_map (λ l. l.number) o → Assembles (Err (Faulty line AsmKindLabel)) (object_unless lines o)
lost_answer lines None line e = absurd cc
lost_answer lines (Some l) line e = cc

pub whole_answer : (lines : List Laid) (o : Option Laid) (object : Object) → None ≡ option_map (λ l. l.number) o → object ≡ object_of lines → Assembles (Ok object) (object_unless lines o)
whole_answer lines None object e is = ap Ok (sym is)
whole_answer lines (Some l) object e is = absurd cc

pub ruleset answers = (lost_answer, whole_answer)

pub ruleset wholes = (few_lines, stops_all, goes_all)

-- Lines in their places: what holds of none, and goes on with each line, holds of all.

-- what goes on with each line that is read and has no fault behind those before it; and the same of the texts that are read
abbrev pub Goes : (List Laid → Type 0) → Type 0
Goes P = (before : List Laid) (n : ℕ) (text : List ℕ) (line : Line) → P before → line_of text ≡ Ok line → fault_at before line ≡ None → P (before ++ placed before n line ∷ [])

abbrev pub GoesOn : (List (List ℕ) → List Laid → Type 0) → Type 0
GoesOn P =
    (done : List (List ℕ)) (before : List Laid) (n : ℕ) (text : List ℕ) (line : Line) → P done before → line_of text ≡ Ok line → fault_at before line ≡ None
    → P (done ++ text ∷ []) (before ++ placed before n line ∷ [])

not_both : (fault : ℕ × AsmKind) (lines : List Laid) (r : Result (List Laid) (ℕ × AsmKind)) → r ≡ Err fault → r ≡ Ok lines → {P : Type 0} → P
not_both fault lines r e f = absurd cc

module _ (P : List (List ℕ) → List Laid → Type 0) (goes : GoesOn P) where
  -- what follows the line
  abbrev Rest : List (List ℕ) → List Laid → ℕ → List ℕ → List (List ℕ) → List Laid → Type 0
  Rest done before n text texts lines = (l : Laid) → P (done ++ text ∷ []) (before ++ l ∷ []) → placed_from (Ok (before ++ l ∷ [])) (suc n) texts ≡ Ok lines → P (done ++ text ∷ texts) lines

  by_fault : (done : List (List ℕ)) (before : List Laid) (n : ℕ) (text : List ℕ) (texts : List (List ℕ)) (lines : List Laid) (line : Line) (o : Option AsmKind) → P done before → Rest done before n text texts lines
      → line_of text ≡ Ok line → fault_at before line ≡ o → placed_from (with_line before n (placed_unless before n line o)) (suc n) texts ≡ Ok lines → P (done ++ text ∷ texts) lines
  by_fault done before n text texts lines line None p rest read f e = rest (placed before n line) (goes done before n text line p read f) e
  by_fault done before n text texts lines line (Some k) p rest read f e = not_both (n, k) lines _ (after_fault (n, k) (suc n) texts) e

  by_line : (done : List (List ℕ)) (before : List Laid) (n : ℕ) (text : List ℕ) (texts : List (List ℕ)) (lines : List Laid) (r : Result Line AsmKind) → P done before → Rest done before n text texts lines
      → line_of text ≡ r → placed_from (with_line before n (placed_line before n r)) (suc n) texts ≡ Ok lines → P (done ++ text ∷ texts) lines
  by_line done before n text texts lines (Ok line) p rest read e = by_fault done before n text texts lines line (fault_at before line) p rest read refl e
  by_line done before n text texts lines (Err k) p rest read e = not_both (n, k) lines _ (after_fault (n, k) (suc n) texts) e

  from : (done : List (List ℕ)) (before : List Laid) (n : ℕ) (texts : List (List ℕ)) (lines : List Laid) → P done before → placed_from (Ok before) n texts ≡ Ok lines → P (done ++ texts) lines
  from done before n [] lines p e = subst (λ ts. P ts lines) (sym (append-nil done)) (subst (P done) (ok_once before lines (Ok before) refl e) p)
  from done before n (text ∷ texts) lines p e =
      by_line done before n text texts lines (line_of text) p
      (λ l q h. subst (λ ts. P ts lines) (append_assoc done (text ∷ []) texts) (from (done ++ text ∷ []) (before ++ l ∷ []) (suc n) texts lines q h)) refl e

  pub grows_with : (texts : List (List ℕ)) (lines : List Laid) → P [] [] → placed_texts texts ≡ Ok lines → P texts lines
  grows_with texts lines p e = from [] [] 1 texts lines p e

pub grows : (P : List Laid → Type 0) → Goes P → (texts : List (List ℕ)) (lines : List Laid) → P [] → placed_texts texts ≡ Ok lines → P lines
grows P goes texts lines p e = grows_with (λ done ls. P ls) (λ done before n text line q r f. goes before n text line q r f) texts lines p e

-- LINE BY LINE

pub pushed : (Q : Laid → Type 0) (before : List Laid) (new : Laid) → ((l : Laid) → In l before → Q l) → Q new → (l : Laid) → In l (before ++ new ∷ []) → Q l
pushed Q before new h s l k = go (In-append before (new ∷ []) l k)
  where
    go : In l before ⊎ In l (new ∷ []) → Q l
    go (inl i) = h l i
    go (inr i) = subst Q (sym (In-one l new i)) s

-- what holds of each line in its place
pub each_line : (Q : Laid → Type 0) → ((before : List Laid) (n : ℕ) (text : List ℕ) (line : Line) → line_of text ≡ Ok line → fault_at before line ≡ None → Q (placed before n line))
    → (source : List ℕ) (lines : List Laid) → placed_lines source ≡ Ok lines → (l : Laid) → In l lines → Q l
each_line Q one source lines e =
    grows (λ ls. (l : Laid) → In l ls → Q l) (λ before n text line h read f. pushed Q before (placed before n line) h (one before n text line read f)) (lines_in source) lines (λ l k. absurd k) e
