-- Each line stands in a section that is chosen.
use Rattle.std.specs.Prelude.{◌≡◌, ◌+◌, ◌≤◌, ◌∷◌, ◌++◌, ◌⊎◌, ◌^◌, ◌<◌, ◌&&◌, ◌||◌, if◌then◌else◌}
use Rattle.cell_asm.proofs.Facts.{ℕ, List, [], inl, inr, Ok, Some, None, refl, sym, subst, ◌∙◌, arith, true, Bool, false, ap, suc, not, map, length, take, slice_get, append-nil, true≢false, or_from, length-map, take-map, filter_map-append, filter-append, list_any-append, slice_get_within, list_any}
use Rattle.cell_asm.proofs.Facts.{option_map_or, Option, filter, bytes_eq, IsWithin, IsWritableHome, IsWritableSymbol, last, equals, local_count, defines, IsPlain, lines_in, placed_lines, is_name, parts_of, key_name, label_names, mentions, statement_names, part_number, section_of, sections}
use Rattle.cell_asm.proofs.Facts.{local_labels, other_names, label_named, home_at, local_symbol, other_symbol, symbols, object_of, is_same_part, is_at, is_in, choice, choices, size_in, placed, keys_of, labels_at, labels, holds_key, is_key, Part, Laid, Key, KeyNamed as Named, Label, Symbol, In, In-map}
use Rattle.cell_asm.proofs.Facts.{In-none, filter_all, filter_none, In-left, In-flat_map, In-filtered, filter-In, found-In, get-In, names_in, makes_label, own_key, KeyMade as Made, In-one, Bind, binding_in, is_bound, bind_given}
use Rattle.std.proofs.Math.Seq.{take-append-add}
use Rattle.cell_object.specs.Parts.{is_external, is_local}
use Rattle.cell_asm.proofs.EntriesFit.{section_small, stacked}
use Rattle.cell_asm.proofs.ListLemmas.{fold_there, get_split, get_map, get_mapped, fold_apart, fold_In, before_fails}
use Rattle.cell_asm.proofs.NamesFit.{key_fits, AreNames, IsGoodName, name_fits}
use Rattle.cell_asm.proofs.ObjectLemmas.{part_itself, same_part}
use Rattle.cell_asm.proofs.PlacingLemmas.{Goes, grows, pushed, each_line}
use Rattle.cell_asm.proofs.ReadLines.{read_line}
use Rattle.cell_asm.proofs.SymbolPlaces.{never_local, names_apart, IsAt, label_at}
use Rattle.cell_asm.proofs.WritableEntries.{part_numbered}

abbrev AllChosen : List Laid → Type 0
AllChosen lines = (l : Laid) → In l lines → (part : Part) → l.part ≡ Some part → In part (choices lines)

last_In : (parts : List Part) (part : Part) → last parts ≡ Some part → In part parts
last_In [] part e = absurd cc
last_In (x ∷ []) part e = let is : part ≡ x = cc in inl is
last_In (x ∷ y ∷ xs) part e = inr (last_In (y ∷ xs) part e)

-- the choices before are choices still
still_chosen : (before : List Laid) (l : Laid) (part : Part) → In part (choices before) → In part (choices (before ++ l ∷ []))
still_chosen before l part k =
    subst (In part) (sym (filter_map-append (λ m. choice m.line.statement) before (l ∷ []))) (In-left (choices before) (choices (l ∷ [])) part k)

goes : Goes AllChosen
goes before n text line h e f =
    let new : Laid = placed before n line in
    pushed (λ l. (part : Part) → l.part ≡ Some part → In part (choices (before ++ new ∷ []))) before new
    (λ l i part at. still_chosen before new part (h l i part at)) (λ part at. still_chosen before new part (last_In (choices before) part at))

-- The names that lines mention, and the labels that they define.
--     all_named source lines        each mentioned name is a name
--     labels_fit source lines       each label stands in a section that is chosen, within it, and has a fit name

-- MENTIONS

lines_named : (source : List ℕ) (lines : List Laid) → placed_lines source ≡ Ok lines → (l : Laid) → In l lines → AreNames (names_in l.line)
lines_named = each_line (λ l. AreNames (names_in l.line)) (λ before n text line e f. (read_line text line e).names.named)

pub all_named : (source : List ℕ) (lines : List Laid) → placed_lines source ≡ Ok lines → AreNames (mentions lines)
all_named source lines e n k =
    let r : (l : Laid) × In l lines × In n (names_in l.line) = In-flat_map (λ l. names_in l.line) lines n k in
    lines_named source lines e r.0 r.1 n r.2

-- LABELS

pub record IsFitLabel (lines : List Laid) (l : Label) : Type 0 where
  pub chosen : list_any (is_same_part l.part) (parts_of lines) ≡ true
  pub inside : l.offset ≤ size_in l.part lines
  pub name : IsPlain (key_name l.key)

-- the name of a key is the label of its line
key_named : (l : Laid) (key : Key) (name : List ℕ) → In key (keys_of l) → key ≡ Named name → In name (names_in l.line)
key_named l key name k e = In-left (label_names l.line.label) (statement_names l.line.statement) name (go l.line.label (makes_label l.line.statement) k)
  where
    made_named : key ≡ Made l.made → ⊥
    made_named is = absurd cc

    go : (o : Option (List ℕ)) (b : Bool) → In key (own_key o ++ (if b then Made l.made ∷ [] else [])) → In name (label_names o)
    go None true i = made_named (In-one key (Made l.made) i)
    go None false i = i
    go (Some own) b (inl is) = inl cc
    go (Some own) true (inr i) = absurd (made_named (In-one key (Made l.made) i))
    go (Some own) false (inr i) = absurd i

label_fits : (source : List ℕ) (lines : List Laid) (l : Laid) (m : Label) → placed_lines source ≡ Ok lines → In l lines → l.part ≡ Some m.part → m.offset ≡ l.offset → In m.key (keys_of l) → IsFitLabel lines m
label_fits source lines l m e k part offset key = record {
  chosen = fold_there is_same_part part_itself [] (choices lines) m.part (grows AllChosen goes (lines_in source) lines (λ x i. absurd i) e l k m.part part);
  inside = omega (arith, offset, (stacked source lines m.part e).inside l (filter-In (is_in m.part) lines l k (ap (is_at m.part) part ∙ part_itself m.part)));
  name = key_fits m.key (λ name is. lines_named source lines e l k name (key_named l m.key name key is));
}

pub labels_fit : (source : List ℕ) (lines : List Laid) → placed_lines source ≡ Ok lines → (m : Label) → In m (labels lines) → IsFitLabel lines m
labels_fit source lines e m k =
    let r : (l : Laid) × In l lines × In m (labels_at l.part l.offset (keys_of l)) = In-flat_map (λ l. labels_at l.part l.offset (keys_of l)) lines m k in
    let s : IsAt r.0.part r.0.offset (keys_of r.0) m = label_at r.0.part r.0.offset (keys_of r.0) m r.2 in
    label_fits source lines r.0 m e r.1 s.chosen s.placed_at s.key_in

-- The symbols of an assembled source can be written.
--     locals_count lines          the LOCAL symbols are the local labels
--     symbols_fit source lines    each symbol is as it must be

-- HOW MANY ARE LOCAL

pub locals_count : (lines : List Laid) → local_count (object_of lines) ≡ length (local_labels lines)
locals_count lines =
    let own = filter_all (λ s. is_local s.bind) (map (local_symbol lines) (local_labels lines)) (λ s k. ap (λ t. is_local t.bind) (In-map (local_symbol lines) (local_labels lines) s k).2) in
    let none = filter_none (λ s. is_local s.bind) (map (other_symbol lines) (other_names lines)) (λ s k.
    let at = In-map (other_symbol lines) (other_names lines) s k in ap (λ t. is_local t.bind) at.2 ∙ never_local (binding_in lines at.0)) in
    simp (filter-append, own, none, append-nil, length-map)

-- WHERE A SYMBOL IS

-- the place of a section among those that are chosen
found_at : (parts : List Part) (part : Part) → list_any (is_same_part part) parts ≡ true → (k : ℕ) × (slice_get parts k ≡ Some part)
found_at [] part e = absurd (true≢false (sym e))
found_at (q ∷ parts) part e = go (is_same_part part q) refl e (found_at parts part)
  where
    go : (b : Bool) → is_same_part part q ≡ b → (b || list_any (is_same_part part) parts) ≡ true → (list_any (is_same_part part) parts ≡ true → (k : ℕ) × (slice_get parts k ≡ Some part))
        → (k : ℕ) × (slice_get (q ∷ parts) k ≡ Some part)
    go true same h rest = (0, ap (λ x. Some x) (sym (same_part part q same)))
    go false same h rest = let r : (k : ℕ) × (slice_get parts k ≡ Some part) = rest h in (suc r.0, r.1)

label_within : (lines : List Laid) (part : Part) (value : ℕ) → list_any (is_same_part part) (parts_of lines) ≡ true → value ≤ size_in part lines
    → IsWithin (sections lines) (part_number lines part) value
label_within lines part value there inside =
    let r : (k : ℕ) × (slice_get (parts_of lines) k ≡ Some part) = found_at (parts_of lines) part there in
    let n : part_number lines part ≡ r.0 + 1 = part_numbered lines r.0 part r.1 in
    record {
      section = section_of lines part;
      low = omega (arith, n);
      there = ap (slice_get (sections lines)) (omega (arith, n)) ∙ get_mapped (section_of lines) (parts_of lines) r.0 part r.1;
      value_inside = inside;
    }

offset_fits : (source : List ℕ) (lines : List Laid) (l : Label) → placed_lines source ≡ Ok lines → IsFitLabel lines l → l.offset < 2 ^ 64
offset_fits source lines l e h = omega (arith, h.inside, (section_small source lines l.part e))

none_64 : 0 < 2 ^ 64
none_64 = omega arith

-- LOCAL SYMBOLS

local_fits : (source : List ℕ) (lines : List Laid) (k : ℕ) (l : Label) → placed_lines source ≡ Ok lines → slice_get (local_labels lines) k ≡ Some l → IsWritableSymbol (object_of lines) k (local_symbol lines l)
local_fits source lines k l e h =
    let fit : IsFitLabel lines l = labels_fit source lines e l (In-filtered (λ m. not (is_bound lines m.key)) (labels lines) l (get-In (local_labels lines) k l h)) in
    record {
      name = fit.name;
      first = λ less. refl;
      last = λ more. absurd (omega (arith, slice_get_within (local_labels lines) k l h, locals_count lines, more));
      sort = refl;
      filed = λ is. absurd (true≢false (sym is));
      home = label_within lines l.part l.offset fit.chosen fit.inside;
      named = refl;
      value = offset_fits source lines l e fit;
      size = none_64;
    }

-- ALL OTHER SYMBOLS

pub others_named : (source : List ℕ) (lines : List Laid) → placed_lines source ≡ Ok lines → AreNames (other_names lines)
others_named source lines e name k = go (fold_In names_apart [] (filter (λ n. not (holds_key (local_labels lines) (Named n))) (mentions lines)) name k)
  where
    go : In name [] ⊎ In name (filter (λ n. not (holds_key (local_labels lines) (Named n))) (mentions lines)) → is_name name ≡ true
    go (inl i) = absurd i
    go (inr i) = all_named source lines e name (In-filtered (λ n. not (holds_key (local_labels lines) (Named n))) (mentions lines) name i)

-- a symbol of that name that isn't LOCAL
abbrev is_defined_as : List ℕ → Symbol → Bool
is_defined_as name s = is_external s.bind && bytes_eq s.name name

defined_by : (lines : List Laid) (n name : List ℕ) → is_defined_as name (other_symbol lines n) ≡ equals n name
defined_by lines n name = ap (λ b. not b && bytes_eq n name) (never_local (binding_in lines n))

others_define : (lines : List Laid) (names : List (List ℕ)) (name : List ℕ) → ((n : List ℕ) → In n names → equals n name ≡ false) → list_any (is_defined_as name) (map (other_symbol lines) names) ≡ false
others_define lines [] name h = refl
others_define lines (n ∷ names) name h = or_from (is_defined_as name (other_symbol lines n)) (list_any (is_defined_as name) (map (other_symbol lines) names)) (defined_by lines n name ∙ h n (inl refl)) (others_define lines names name (λ m k. h m (inr k)))

not_defined : (lines : List Laid) (k j : ℕ) (name : List ℕ) → k ≡ length (map (local_symbol lines) (local_labels lines)) + j → slice_get (other_names lines) j ≡ Some name
    → defines (take k (symbols lines)) name ≡ false
not_defined lines k j name e h =
    rw (e, take-append-add, take-map, list_any-append)
    (or_from _ _ (In-none (is_defined_as name) (map (local_symbol lines) (local_labels lines)) (λ s i. ap (is_defined_as name) (In-map (local_symbol lines) (local_labels lines) s i).2)) (others_define lines (take j (other_names lines)) name (λ n i. before_fails names_apart (other_names lines) j name
    n (fold_apart names_apart [] (filter (λ m. not (holds_key (local_labels lines) (Named m))) (mentions lines)) tt) h i)))

home_by : (source : List ℕ) (lines : List Laid) (bind : Bind) (o : Option Label) → placed_lines source ≡ Ok lines → ((l : Label) → o ≡ Some l → In l (labels lines))
    → IsWritableHome (sections lines) bind (option_map_or (λ l. l.offset) o 0) (home_at lines o)
home_by source lines bind None e h = tt
home_by source lines bind (Some l) e h =
    let fit : IsFitLabel lines l = labels_fit source lines e l (h l refl) in
    label_within lines l.part l.offset fit.chosen fit.inside

value_by : (source : List ℕ) (lines : List Laid) (o : Option Label) → placed_lines source ≡ Ok lines → ((l : Label) → o ≡ Some l → In l (labels lines)) → option_map_or (λ l. l.offset) o 0 < 2 ^ 64
value_by source lines None e h = none_64
value_by source lines (Some l) e h = offset_fits source lines l e (labels_fit source lines e l (h l refl))

other_fits : (source : List ℕ) (lines : List Laid) (k j : ℕ) (name : List ℕ) → placed_lines source ≡ Ok lines → k ≡ length (map (local_symbol lines) (local_labels lines)) + j
    → slice_get (other_names lines) j ≡ Some name → IsWritableSymbol (object_of lines) k (other_symbol lines name)
other_fits source lines k j name e place h =
    let good : IsGoodName name = name_fits name (others_named source lines e name (get-In (other_names lines) j name h)) in
    let known : (l : Label) → label_named lines name ≡ Some l → In l (labels lines) = λ l is. (found-In (λ m. is_key m.key (Named name)) (labels lines) l is).0 in
    record {
      name = good.plain;
      first = λ less. absurd (omega (arith, place, length-map (local_labels lines) (local_symbol lines), locals_count lines, less));
      last = λ more. ap not (never_local (binding_in lines name));
      sort = ap (λ b. not b && false) (never_local (binding_in lines name));
      filed = λ is. absurd (true≢false (sym is));
      home = home_by source lines (bind_given (binding_in lines name)) (label_named lines name) e known;
      named = rw (never_local (binding_in lines name), good.good, not_defined lines k j name place h) refl;
      value = value_by source lines (label_named lines name) e known;
      size = none_64;
    }

-- ALL SYMBOLS

symbol_by : (source : List ℕ) (lines : List Laid) (k : ℕ) (s : Symbol) → placed_lines source ≡ Ok lines
    → (slice_get (map (local_symbol lines) (local_labels lines)) k ≡ Some s) ⊎ ((j : ℕ) × (k ≡ length (map (local_symbol lines) (local_labels lines)) + j) × (slice_get (map (other_symbol lines) (other_names lines)) j ≡ Some s))
    → IsWritableSymbol (object_of lines) k s
symbol_by source lines k s e (inl h) =
    let r : (l : Label) × (slice_get (local_labels lines) k ≡ Some l) × (s ≡ local_symbol lines l) = get_map (local_symbol lines) (local_labels lines) k s h in
    subst (IsWritableSymbol (object_of lines) k) (sym r.2) (local_fits source lines k r.0 e r.1)
symbol_by source lines k s e (inr t) =
    let r : (name : List ℕ) × (slice_get (other_names lines) t.0 ≡ Some name) × (s ≡ other_symbol lines name) = get_map (other_symbol lines) (other_names lines) t.0 s t.2 in
    subst (IsWritableSymbol (object_of lines) k) (sym r.2) (other_fits source lines k t.0 r.0 e t.1 r.1)

pub symbols_fit : (source : List ℕ) (lines : List Laid) → placed_lines source ≡ Ok lines → (k : ℕ) (s : Symbol) → slice_get (symbols lines) k ≡ Some s → IsWritableSymbol (object_of lines) k s
symbols_fit source lines e k s h =
    symbol_by source lines k s e (get_split (map (local_symbol lines) (local_labels lines)) (map (other_symbol lines) (other_names lines)) k s h)
