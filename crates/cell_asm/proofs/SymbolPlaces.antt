-- No two labels have the same key.
--     labels_once source lines      two labels of the lines with the same key are one
use Rattle.std.specs.Prelude.{◌≡◌, ◌+◌, ◌≤◌, ◌==◌, ◌∷◌, ◌++◌, ◌⊎◌, ◌-◌, ◌||◌, if◌then◌else◌, ◌<◌}
use Rattle.cell_asm.proofs.Facts.{ℕ, Bool, true, false, List, [], inl, inr, Ok, Some, None, refl, sym, ap, subst, ◌∙◌, zero-add, true≢false, arith, zero, suc, not, map, length, slice_get, and_right, slice_get_within, bytes_eq-Decides, list_any, option_map_or, unwrap_or, Option, is_some, filter, find}
use Rattle.cell_asm.proofs.Facts.{fold, bytes_eq, equals, is_unusable_symbol, is_unusable, lines_in, placed_lines, part_number, local_labels, mentions, adds_name, other_names, label_named, home_at, local_symbol, other_symbol, symbols, symbol_keys, number_from, symbol_number, makes_label, made_in}
use Rattle.cell_asm.proofs.Facts.{placed, own_key, keys_of, label, labels_at, labels, is_twice, is_key, holds_key, Part, Laid, Label, Key, KeyNamed as Named, KeyMade as Made, Symbol, Inside, In-one, In, In-map, any-In, In-left, In-right, In-filtered, filter-In, found-In, find_there, any-Has, map-In}
use Rattle.cell_asm.proofs.Facts.{none-In, ne_eqb, or_from, list_any-append, Binding, BindingGlobal, BindingWeak, binding_in, is_rebound, is_bound, bind_given}
use Rattle.cell_num.specs.Lists.{each_pair}
use Rattle.cell_object.specs.Parts.{is_local}
use Rattle.cell_num.proofs.Elements.{pairs-In}
use Rattle.cell_num.proofs.Sublists.{pairs-append}
use Rattle.cell_asm.proofs.EntriesFit.{allowed}
use Rattle.cell_asm.proofs.ListLemmas.{next_place, numbered_if, fold_there, same_of, same_test, get_map, get_mapped}
use Rattle.cell_asm.proofs.PlacingLemmas.{Goes, grows, made_more, labels_push}

-- KEYS

-- the name is of another
abbrev pub names_apart : List ℕ → List ℕ → Bool
names_apart name other = equals other name

pub same_name : (a b : List ℕ) → bytes_eq a b ≡ true → a ≡ b
same_name a b e = (bytes_eq-Decides a b).0 e

pub name_itself : (a : List ℕ) → bytes_eq a a ≡ true
name_itself a = (bytes_eq-Decides a a).1 refl

pub same_key : (k q : Key) → is_key k q ≡ true → k ≡ q
same_key (Named a) (Named b) e = ap Named (same_name a b e)
same_key (Named a) (Made n) e = absurd cc
same_key (Made m) (Named b) e = absurd cc
same_key (Made m) (Made n) e = ap Made (same_of m n e)

pub key_itself : (k : Key) → is_key k k ≡ true
key_itself (Named a) = name_itself a
key_itself (Made n) = same_test n n refl

-- a label of a line is there where the line stands
pub record IsAt (o : Option Part) (offset : ℕ) (keys : List Key) (a : Label) : Type 0 where
  pub chosen : o ≡ Some a.part
  pub placed_at : a.offset ≡ offset
  pub key_in : In a.key keys

pub label_at : (o : Option Part) (offset : ℕ) (keys : List Key) (a : Label) → In a (labels_at o offset keys) → IsAt o offset keys a
label_at None offset keys a h = absurd h
label_at (Some part) offset keys a h =
    let r : (k : Key) × In k keys × (a ≡ label part offset k) = In-map (label part offset) keys a h in
    record { chosen = ap Some (sym (ap (λ l. l.part) r.2)); placed_at = ap (λ l. l.offset) r.2; key_in = subst (λ k. In k keys) (sym (ap (λ l. l.key) r.2)) r.1 }

-- LINE BY LINE

abbrev keys_apart : Label → Label → Bool
keys_apart a b = not (is_key a.key b.key)

-- no two labels have one key, and those that are made have no numbers but those up to how many they are
record AreOnce (lines : List Laid) : Type 0 where
  once : each_pair keys_apart (labels lines) ≡ true
  made : (n : ℕ) → made_in lines < n → holds_key (labels lines) (Made n) ≡ false

-- so it is of the labels of a line
line_once : (o : Option Part) (offset n : ℕ) (own : Option (List ℕ)) (b : Bool) → each_pair keys_apart (labels_at o offset (own_key own ++ (if b then Made n ∷ [] else []))) ≡ true
line_once None offset n own b = refl
line_once (Some part) offset n None true = refl
line_once (Some part) offset n None false = refl
line_once (Some part) offset n (Some name) true = refl
line_once (Some part) offset n (Some name) false = refl

line_makes : (o : Option Part) (offset n m : ℕ) (own : Option (List ℕ)) (b : Bool) → (b ≡ true → (n == m) ≡ false) → holds_key (labels_at o offset (own_key own ++ (if b then Made n ∷ [] else []))) (Made m) ≡ false
line_makes None offset n m own b h = refl
line_makes (Some part) offset n m None true h = ap (λ c. c || false) (h refl)
line_makes (Some part) offset n m None false h = refl
line_makes (Some part) offset n m (Some name) true h = ap (λ c. c || false) (h refl)
line_makes (Some part) offset n m (Some name) false h = refl

-- the keys of a new line are none of those before
first_false : (a b : Bool) → (a || b) ≡ false → a ≡ false
first_false true b e = e
first_false false b e = refl

fresh : (before : List Laid) (own : Option (List ℕ)) (b : Bool) (n : ℕ) → is_twice before own ≡ false → holds_key (labels before) (Made n) ≡ false → (k : Key) → In k (own_key own ++ (if b then Made n ∷ [] else []))
    → holds_key (labels before) k ≡ false
fresh before None true n twice next k i = ap (holds_key (labels before)) (In-one k (Made n) i) ∙ next
fresh before None false n twice next k i = absurd i
fresh before (Some name) b n twice next k (inl e) = ap (holds_key (labels before)) e ∙ twice
fresh before (Some name) true n twice next k (inr i) = ap (holds_key (labels before)) (In-one k (Made n) i) ∙ next
fresh before (Some name) false n twice next k (inr i) = absurd i

goes : Goes AreOnce
goes before n text line h e f =
    let new : Laid = placed before n line in
    let b : Bool = makes_label line.statement in
    let twice : is_twice before line.label ≡ false = first_false (is_twice before line.label) (is_rebound before line.statement) (allowed before line f).new in
    let next : holds_key (labels before) (Made new.made) ≡ false = h.made new.made (omega arith) in
    record {
      once = ap (each_pair keys_apart) (labels_push before new)
          ∙ pairs-append keys_apart (labels before) (labels_at new.part new.offset (keys_of new)) h.once (line_once new.part new.offset new.made line.label b)
          (λ x y i j. ap not (none-In (λ l. is_key l.key y.key) (labels before) (fresh before line.label b new.made twice next y.key (label_at new.part new.offset (keys_of new) y j).key_in) x i));
      made = λ m less.
          rw (labels_push before new, list_any-append)
          (or_from _ _ (h.made m (omega (arith, made_more before new, less)))
          (line_makes new.part new.offset new.made m line.label b (λ t. ne_eqb new.made m (λ same. omega (arith, made_more before new ∙ ap (λ c. made_in before + (if c then 1 else 0)) t, less, same)))));
    }

pub labels_once : (source : List ℕ) (lines : List Laid) → placed_lines source ≡ Ok lines → (a b : Label) → In a (labels lines) → In b (labels lines) → a.key ≡ b.key → a ≡ b
labels_once source lines e a b i j same = go (pairs-In keys_apart (labels lines) (grows AreOnce goes (lines_in source) lines (record { once = refl; made = λ n less. refl }) e).once a b i j)
  where
    go : (a ≡ b) ⊎ ((keys_apart a b ≡ true) ⊎ (keys_apart b a ≡ true)) → a ≡ b
    go (inl is) = is
    go (inr (inl t)) = absurd (true≢false (sym t ∙ ap not (ap (λ k. is_key k b.key) same ∙ key_itself b.key)))
    go (inr (inr t)) = absurd (true≢false (sym t ∙ ap not (ap (is_key b.key) same ∙ key_itself b.key)))

-- The symbols at the numbers of keys.
--     number_small, number_usable     an entry may name the symbol that a key has
--     mentioned_there, made_there     each name that is mentioned has a symbol, and each label that is made
--     label_symbol                    the symbol of a label's key has its section and its offset

-- THE SYMBOL AT A PLACE

-- an element at a place of two lists that are mapped, and what other maps make of the same
module _ {A B X Y : Type 0} (f : A → X) (g : B → X) (h : A → Y) (k : B → Y) where
  abbrev IsBoth : List A → List B → ℕ → X → Type 0
  IsBoth xs ys i x = ((a : A) × In a xs × (x ≡ f a) × (slice_get (map h xs ++ map k ys) i ≡ Some (h a))) ⊎ ((b : B) × (x ≡ g b) × (slice_get (map h xs ++ map k ys) i ≡ Some (k b)))

  next_both : (a : A) (xs : List A) (ys : List B) (i : ℕ) (x : X) → IsBoth xs ys i x → IsBoth (a ∷ xs) ys (suc i) x
  next_both a xs ys i x (inl r) = inl (r.0, inr r.1, r.2, r.3)
  next_both a xs ys i x (inr r) = inr r

  get_both : (xs : List A) (ys : List B) (i : ℕ) (x : X) → slice_get (map f xs ++ map g ys) i ≡ Some x → IsBoth xs ys i x
  get_both [] ys i x e = let r : (b : B) × (slice_get ys i ≡ Some b) × (x ≡ g b) = get_map g ys i x e in inr (r.0, r.2, get_mapped k ys i r.0 r.1)
  get_both (a ∷ xs) ys zero x e = inl (a, inl refl, cc, refl)
  get_both (a ∷ xs) ys (suc i) x e = next_both a xs ys i x (get_both xs ys i x e)

-- the symbol at a place, of a label that no directive gives a binding, or of another name
record IsSymbolAt (lines : List Laid) (i : ℕ) (key : Key) : Type 0 where
  s : Symbol
  there : slice_get (symbols lines) i ≡ Some s
  usable : is_unusable_symbol (Some s) ≡ false
  comes : ((l : Label) × In l (local_labels lines) × (key ≡ l.key) × (s ≡ local_symbol lines l)) ⊎ ((name : List ℕ) × (key ≡ Named name) × (s ≡ other_symbol lines name))

-- a name that isn't LOCAL has another binding
pub never_local : (given : Option Binding) → is_local (bind_given given) ≡ false
never_local None = refl
never_local (Some BindingGlobal) = refl
never_local (Some BindingWeak) = refl

other_usable : (lines : List Laid) (name : List ℕ) → is_unusable_symbol (Some (other_symbol lines name)) ≡ false
other_usable lines name = rw (never_local (binding_in lines name)) refl

symbol_at : (lines : List Laid) (i : ℕ) (x : Key) → slice_get (symbol_keys lines) i ≡ Some x → IsSymbolAt lines i x
symbol_at lines i x e = go (get_both (λ (l : Label). l.key) (λ n. Named n) (local_symbol lines) (other_symbol lines) (local_labels lines) (other_names lines) i x e)
  where
    go : IsBoth (λ (l : Label). l.key) (λ n. Named n) (local_symbol lines) (other_symbol lines) (local_labels lines) (other_names lines) i x → IsSymbolAt lines i x
    go (inl r) = record { s = local_symbol lines r.0; there = r.3; usable = refl; comes = inl (r.0, r.1, r.2, refl) }
    go (inr r) = record { s = other_symbol lines r.0; there = r.2; usable = other_usable lines r.0; comes = inr (r.0, r.1, refl) }

-- THE NUMBER OF A KEY

abbrev pub has_symbol : List Laid → Key → Bool
has_symbol lines key = list_any (λ k. is_key k key) (symbol_keys lines)

record IsNumbered (n : ℕ) (keys : List Key) (q : Key) : Type 0 where
  i : ℕ
  number : number_from n keys q ≡ Some (i + n)
  there : slice_get keys i ≡ Some q

numbered : (n : ℕ) (keys : List Key) (q : Key) → list_any (λ k. is_key k q) keys ≡ true → IsNumbered n keys q
numbered n [] q h = absurd (true≢false (sym h))
numbered n (k ∷ keys) q h = go (is_key k q) refl h (numbered (suc n) keys q)
  where
    go : (b : Bool) → is_key k q ≡ b → (b || list_any (λ x. is_key x q) keys) ≡ true → (list_any (λ x. is_key x q) keys ≡ true → IsNumbered (suc n) keys q) → IsNumbered n (k ∷ keys) q
    go true e t f = record {
      i = 0;
      number = ap (λ b. if b then Some n else number_from (suc n) keys q) e ∙ ap Some (sym (zero-add n));
      there = ap Some (same_key k q e);
    }
    go false e t f =
        let r : IsNumbered (suc n) keys q = f t in
        record { i = suc r.i; number = ap (λ b. if b then Some n else number_from (suc n) keys q) e ∙ r.number ∙ ap Some (next_place r.i n); there = r.there }

-- the symbol that a key has
record HasSymbol (lines : List Laid) (key : Key) : Type 0 where
  i : ℕ
  number : symbol_number lines key ≡ i + 1
  at : IsSymbolAt lines i key

symbol_there : (lines : List Laid) (key : Key) → has_symbol lines key ≡ true → HasSymbol lines key
symbol_there lines key h =
    let r : IsNumbered 1 (symbol_keys lines) key = numbered 1 (symbol_keys lines) key h in
    record { i = r.i; number = ap (λ o. unwrap_or o 0) r.number; at = symbol_at lines r.i key r.there }

none_is : (o : Option ℕ) → is_some o ≡ false → unwrap_or o 0 ≡ 0
none_is None e = refl
none_is (Some n) e = absurd (true≢false e)

symbol_none : (lines : List Laid) (key : Key) → has_symbol lines key ≡ false → symbol_number lines key ≡ 0
symbol_none lines key h = none_is (number_from 1 (symbol_keys lines) key) (numbered_if 1 (symbol_keys lines) key ∙ h)

small_by : (lines : List Laid) (key : Key) (b : Bool) → has_symbol lines key ≡ b → symbol_number lines key ≤ length (symbols lines)
small_by lines key true h = let s = symbol_there lines key h in subst (λ n. n ≤ length (symbols lines)) (sym s.number) (omega (arith, slice_get_within (symbols lines) s.i s.at.s s.at.there))
small_by lines key false h = subst (λ n. n ≤ length (symbols lines)) (sym (symbol_none lines key h)) (omega arith)

pub number_small : (lines : List Laid) (key : Key) → symbol_number lines key ≤ length (symbols lines)
number_small lines key = small_by lines key (has_symbol lines key) refl

pub one_less : (i : ℕ) → (i + 1) - 1 ≡ i
one_less i = omega arith

usable_by : (lines : List Laid) (key : Key) (b : Bool) → has_symbol lines key ≡ b → is_unusable (symbols lines) (symbol_number lines key) ≡ false
usable_by lines key true h =
    let s = symbol_there lines key h in
    rw (s.number, one_less s.i, s.at.there) (and_right (not (s.i + 1 == 0)) (is_unusable_symbol (Some s.at.s)) s.at.usable)
usable_by lines key false h = ap (is_unusable (symbols lines)) (symbol_none lines key h)

pub number_usable : (lines : List Laid) (key : Key) → is_unusable (symbols lines) (symbol_number lines key) ≡ false
number_usable lines key = usable_by lines key (has_symbol lines key) refl

-- WHICH KEYS HAVE ONE

all_added : (more : List (List ℕ)) (x : List ℕ) → In x more → In x (fold adds_name [] more)
all_added more x h =
    let r : (y : List ℕ) × In y (fold adds_name [] more) × (equals y x ≡ true) = any-Has (names_apart x) (fold adds_name [] more) (fold_there names_apart name_itself [] more x h) in
    subst (λ n. In n (fold adds_name [] more)) (same_name r.0 x r.2) r.1

local_there : (lines : List Laid) (l : Label) → In l (local_labels lines) → has_symbol lines l.key ≡ true
local_there lines l h =
    any-In (λ k. is_key k l.key) (symbol_keys lines) l.key (In-left (map (λ m. m.key) (local_labels lines)) (map (λ name. Named name) (other_names lines)) l.key (map-In (λ (m : Label). m.key) (local_labels lines) l h)) (key_itself l.key)

other_there : (lines : List Laid) (name : List ℕ) → In name (other_names lines) → has_symbol lines (Named name) ≡ true
other_there lines name h =
    any-In (λ k. is_key k (Named name)) (symbol_keys lines) (Named name)
    (In-right (map (λ m. m.key) (local_labels lines)) (map (λ n. Named n) (other_names lines)) (Named name) (map-In (λ (n : List ℕ). Named n) (other_names lines) name h)) (key_itself (Named name))

mentioned_by : (lines : List Laid) (name : List ℕ) (b : Bool) → holds_key (local_labels lines) (Named name) ≡ b → In name (mentions lines) → has_symbol lines (Named name) ≡ true
mentioned_by lines name true e h =
    let r : (l : Label) × In l (local_labels lines) × (is_key l.key (Named name) ≡ true) = any-Has (λ l. is_key l.key (Named name)) (local_labels lines) e in
    ap (has_symbol lines) (sym (same_key r.0.key (Named name) r.2)) ∙ local_there lines r.0 r.1
mentioned_by lines name false e h =
    other_there lines name
    (all_added (filter (λ n. not (holds_key (local_labels lines) (Named n))) (mentions lines)) name
    (filter-In (λ n. not (holds_key (local_labels lines) (Named n))) (mentions lines) name h (ap not e)))

pub mentioned_there : (lines : List Laid) (name : List ℕ) → In name (mentions lines) → has_symbol lines (Named name) ≡ true
mentioned_there lines name h = mentioned_by lines name (holds_key (local_labels lines) (Named name)) refl h

pub made_there : (lines : List Laid) (l : Label) (n : ℕ) → In l (labels lines) → l.key ≡ Made n → has_symbol lines (Made n) ≡ true
made_there lines l n h e =
    ap (has_symbol lines) (sym e)
    ∙ local_there lines l (filter-In (λ m. not (is_bound lines m.key)) (labels lines) l h (ap (λ k. not (is_bound lines k)) e))

-- THE SYMBOL OF A LABEL

pub record IsLabelSymbol (lines : List Laid) (l : Label) (number : ℕ) : Type 0 where
  pub i : ℕ
  pub s : Symbol
  pub numbered : number ≡ i + 1
  pub symbol_is : slice_get (symbols lines) i ≡ Some s
  pub home_is : s.home ≡ Inside (part_number lines l.part)
  pub value_is : s.value ≡ l.offset

abbrev pub AreOncePlaced : List Laid → Type 0
AreOncePlaced lines = (a b : Label) → In a (labels lines) → In b (labels lines) → a.key ≡ b.key → a ≡ b

name_found : (lines : List Laid) (l : Label) (name : List ℕ) → AreOncePlaced lines → In l (labels lines) → l.key ≡ Named name → label_named lines name ≡ Some l
name_found lines l name once h e =
    let p : Label → Bool = λ m. is_key m.key (Named name) in
    let r : (y : Label) × (find p (labels lines) ≡ Some y) = find_there p (labels lines) l h (ap (λ k. is_key k (Named name)) e ∙ key_itself (Named name)) in
    let f : In r.0 (labels lines) × (p r.0 ≡ true) = found-In p (labels lines) r.0 r.1 in
    r.1 ∙ ap Some (once r.0 l f.0 h (same_key r.0.key (Named name) f.1 ∙ sym e))

by_place : (lines : List Laid) (l : Label) (n i : ℕ) → AreOncePlaced lines → In l (labels lines) → n ≡ i + 1 → IsSymbolAt lines i l.key → IsLabelSymbol lines l n
by_place lines l n i once h e at = go at.comes
  where
    go : ((m : Label) × In m (local_labels lines) × (l.key ≡ m.key) × (at.s ≡ local_symbol lines m)) ⊎ ((name : List ℕ) × (l.key ≡ Named name) × (at.s ≡ other_symbol lines name)) → IsLabelSymbol lines l n
    go (inl r) =
        let same : r.0 ≡ l = once r.0 l (In-filtered (λ m. not (is_bound lines m.key)) (labels lines) r.0 r.1) h (sym r.2) in
        record { i = i; s = at.s; numbered = e; symbol_is = at.there; home_is = ap (λ x. x.home) r.3 ∙ ap (λ m. Inside (part_number lines m.part)) same; value_is = ap (λ x. x.value) r.3 ∙ ap (λ m. m.offset) same }
    go (inr r) =
        let found : label_named lines r.0 ≡ Some l = name_found lines l r.0 once h r.1 in
        record { i = i; s = at.s; numbered = e; symbol_is = at.there; home_is = ap (λ x. x.home) r.2 ∙ ap (home_at lines) found; value_is = ap (λ x. x.value) r.2 ∙ ap (λ o. option_map_or (λ m. m.offset) o 0) found }

pub label_symbol : (lines : List Laid) (l : Label) (key : Key) → AreOncePlaced lines → In l (labels lines) → l.key ≡ key → has_symbol lines key ≡ true → IsLabelSymbol lines l (symbol_number lines key)
label_symbol lines l key once h e there =
    let s = symbol_there lines key there in
    by_place lines l (symbol_number lines key) s.i once h s.number (subst (IsSymbolAt lines s.i) (sym e) s.at)
