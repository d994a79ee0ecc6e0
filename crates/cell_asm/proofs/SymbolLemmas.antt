-- The symbols of an object, and their numbers.
--     added            a map from keys, after one more key
--     all_symbols      the symbols that are made are those of the lines
use Rattle.std.specs.Prelude.{◌≡◌, ◌==◌, ◌||◌, ◌∷◌, ◌++◌, ◌+◌, if◌then◌else◌}
use Rattle.cell_asm.proofs.Facts.{ℕ, Bool, true, false, cond, List, Some, None, refl, ap, sym, ◌∙◌, arith, not, [], map, subst, length, is_some, append_assoc, nat_tests, length_push, map-append, list_any-append, get, list_any, option_map_or, nat_cmp, is_eq, Option, option_map, filter, fold, equals}
use Rattle.cell_asm.proofs.Facts.{or_else, where_true, holds_name, known, spot_at, Follows, locals_in, number_of, has_key, keys_with, mentioned, home_in, symbol_in, other_in, local_in, Lists, Mentions, local_labels, adds_name, other_names, mentions, home_at, label_named, number_in, number_from, symbol}
use Rattle.cell_asm.proofs.Facts.{local_symbol, symbols, symbol_keys, key_name, is_key, labels, holds_key, Key, KeyNamed as Named, KeyMade as Made, Numbering, Symbol, Local, Inside, Laid, Label, Spot, Progress, Symbols, Bind, NoType, Home, map_same, fold_same, filter_same, binding_in, is_bound}
use Rattle.cell_asm.proofs.Facts.{bind_given, other_symbol, is_bound_in}
use Rattle.cell_asm.proofs.ListLemmas.{number_more, numbered_if}

pub or_none : {X : Type 0} (o : Option X) → or_else o None ≡ o
or_none None = refl
or_none (Some x) = refl

-- a value for a key that had none
pub taken : {X : Type 0} (b : Bool) (v : X) (old : Option X) → (b ≡ true → old ≡ None) → cond b (Some v) old ≡ or_else old (where_true b v)
taken true v old none = sym (ap (λ o. or_else o (Some v)) (none refl))
taken false v old none = sym (or_none old)

pub same_test : (m n : ℕ) → is_eq (nat_cmp m n) ≡ (m == n)
same_test m n = grind (arith, nat_tests)

-- a key more, of either form
pub added_name : (old new : Numbering) (name : List ℕ) (n : ℕ) → ((q : List ℕ) → number_of new (Named q) ≡ or_else (number_of old (Named q)) (where_true (equals name q) n)) → new.made ≡ old.made
    → (q : Key) → number_of new q ≡ or_else (number_of old q) (where_true (is_key (Named name) q) n)
added_name old new name n names made (Named q) = names q
added_name old new name n names made (Made m) = ap (λ t. get nat_cmp t m) made ∙ sym (or_none (number_of old (Made m)))

pub added_made : (old new : Numbering) (k : ℕ) (n : ℕ) → ((q : ℕ) → number_of new (Made q) ≡ or_else (number_of old (Made q)) (where_true (k == q) n)) → new.named ≡ old.named
    → (q : Key) → number_of new q ≡ or_else (number_of old q) (where_true (is_key (Made k) q) n)
added_made old new k n made names (Named q) = ap (λ t. known t q) names ∙ sym (or_none (number_of old (Named q)))
added_made old new k n made names (Made m) = made m

pub ruleset added = (added_name, added_made)

-- LOCAL LABELS

bound_same : (kept : Progress) (lines : List Laid) (key : Key) → Follows kept lines → is_bound_in kept.bindings key ≡ is_bound lines key
bound_same kept lines (Named name) h = ap is_some (h.bindings name)
bound_same kept lines (Made n) h = refl

locals_are : (kept : Progress) (lines : List Laid) → Follows kept lines → locals_in kept kept.labels.items ≡ local_labels lines
locals_are kept lines h =
    ap (locals_in kept) h.labels
    ∙ filter_same (λ l. not (is_bound_in kept.bindings l.key)) (λ l. not (is_bound lines l.key)) (labels lines) (λ l k. ap not (bound_same kept lines l.key h))

-- OTHER NAMES

any_map : {X Y : Type 0} (p : Y → Bool) (f : X → Y) (xs : List X) → list_any p (map f xs) ≡ list_any (λ x. p (f x)) xs
any_map p f [] = refl
any_map p f (x ∷ xs) = ap (λ b. p (f x) || b) (any_map p f xs)

key_there : (locals : List Label) (names : List (List ℕ)) (name : List ℕ)
    → has_key (map (λ l. l.key) locals ++ map (λ n. Named n) names) (Named name) ≡ (holds_key locals (Named name) || holds_name names name)
key_there locals names name = simp (list_any-append, any_map)

by_test : {X : Type 0} (a b : Bool) (old new : X) → (if (a || b) then old else new) ≡ (if not a then (if b then old else new) else old)
by_test true b old new = refl
by_test false b old new = refl

filter_step : {A B : Type 0} (f g : B → A → B) (p : A → Bool) (b : B) (x : A) (xs : List A) (t : Bool) → ((c : B) → fold f c (filter p xs) ≡ fold g c xs)
    → fold f b (cond t (x ∷ filter p xs) (filter p xs)) ≡ fold g (if t then f b x else b) xs
filter_step f g p b x xs true rest = rest (f b x)
filter_step f g p b x xs false rest = rest b

fold_filter : {A B : Type 0} (f : B → A → B) (p : A → Bool) (b : B) (xs : List A) → fold f b (filter p xs) ≡ fold (λ c x. if p x then f c x else c) b xs
fold_filter f p b [] = refl
fold_filter f p b (x ∷ xs) = filter_step f (λ c y. if p y then f c y else c) p b x xs (p x) (λ c. fold_filter f p c xs)

module _ (kept : Progress) (lines : List Laid) (h : Follows kept lines) where
  mentioned_is : (names : List (List ℕ)) (name : List ℕ) → mentioned kept names name ≡ (if not (holds_key (local_labels lines) (Named name)) then adds_name names name else names)
  mentioned_is names name = rw (locals_are kept lines h, key_there (local_labels lines) names name) (by_test (holds_key (local_labels lines) (Named name)) (holds_name names name) names (names ++ name ∷ []))

  others_are : fold (mentioned kept) [] kept.mentions.items ≡ other_names lines
  others_are =
      ap (fold (mentioned kept) []) h.mentions
      ∙ fold_same (mentioned kept) (λ names name. if not (holds_key (local_labels lines) (Named name)) then adds_name names name else names) [] (mentions lines) (λ names name k. mentioned_is names name)
      ∙ sym (fold_filter adds_name (λ name. not (holds_key (local_labels lines) (Named name))) [] (mentions lines))

  -- the symbol of a label, or of a name without one
  symbol_is : (key : Key) (bind : Bind) (o : Option Label) → symbol_in kept key bind (option_map spot_at o) ≡ symbol key bind (home_at lines o) (option_map_or (λ l. l.offset) o 0)
  symbol_is key bind None = refl
  symbol_is key bind (Some l) = ap (λ ps. symbol key bind (Inside (number_in ps l.part)) l.offset) h.parts

  other_is : (name : List ℕ) → other_in kept name ≡ other_symbol lines name
  other_is name =
      ap (λ b. symbol_in kept (Named name) (bind_given b) (known kept.spots name)) (h.bindings name)
      ∙ ap (symbol_in kept (Named name) (bind_given (binding_in lines name))) (h.spots name)
      ∙ symbol_is (Named name) (bind_given (binding_in lines name)) (label_named lines name)

  symbols_are : map (local_in kept) (local_labels lines) ++ map (other_in kept) (other_names lines) ≡ symbols lines
  symbols_are = rw (map_same (local_in kept) (local_symbol lines) (local_labels lines) (λ l k. symbol_is l.key Local (Some l)), map_same (other_in kept) (other_symbol lines) (other_names lines) (λ name k. other_is name)) refl

  -- the symbols that are mentioned are those of the lines
  pub all_symbols : (s : Symbols) → Mentions s kept (fold (mentioned kept) [] kept.mentions.items) → Lists s (symbol_keys lines) (symbols lines)
  all_symbols s m = rw (others_are, locals_are kept lines h, symbols_are) at m

-- The list of symbols, symbol by symbol.

abbrev made : List ℕ → Bind → Home → ℕ → Symbol
made name bind home value = record { name = name; bind = bind; sort = NoType; home = home; value = value; size = 0 }

-- one symbol more, as it is added
pub lists_by : (old new : Symbols) (keys : List Key) (list : List Symbol) (kept : Progress) (k : Key) (bind : Bind) (spot : Option Spot) (name : List ℕ) (home : Home) (value n : ℕ) → Lists old keys list
    → new.list.items ≡ old.list.items ++ made name bind home value ∷ [] → name ≡ key_name k → home ≡ home_in kept.parts.items spot → value ≡ option_map_or (λ s. s.offset) spot 0
    → n ≡ length old.list.items + 1 → ((q : Key) → number_of new.numbers q ≡ or_else (number_of old.numbers q) (where_true (is_key k q) n))
    → Lists new (keys ++ k ∷ []) (list ++ symbol_in kept k bind spot ∷ [])
lists_by old new keys list kept k bind spot name home value n h items named homed valued number numbers = record {
  list = cc;
  count = length_push keys k ∙ ap (λ n. n + 1) h.count ∙ sym (length_push list (symbol_in kept k bind spot));
  numbers = λ q.
      numbers q
      ∙ ap (λ o. or_else o (where_true (is_key k q) n)) (h.numbers q)
      ∙ ap (λ m. or_else (number_from 1 keys q) (where_true (is_key k q) m)) (number ∙ ap (λ ss. length ss + 1) h.list ∙ ap (λ m. m + 1) (sym h.count))
      ∙ sym (number_more 1 keys k q);
}

there : (s : Symbols) (keys : List Key) (list : List Symbol) (q : Key) → Lists s keys list → has_key keys q ≡ is_some (number_of s.numbers q)
there s keys list q h = sym (numbered_if 1 keys q) ∙ sym (ap is_some (h.numbers q))

push_map : {X Y : Type 0} (ys : List Y) (f : X → Y) (xs : List X) (x : X) → ys ++ map f (xs ++ x ∷ []) ≡ (ys ++ map f xs) ++ f x ∷ []
push_map ys f xs x = ap (λ zs. ys ++ zs) (map-append f xs (x ∷ [])) ∙ sym (append_assoc ys (map f xs) (f x ∷ []))

-- a name that is there already
pub mention_known : (s : Symbols) (kept : Progress) (names : List (List ℕ)) (name : List ℕ) → is_some (number_of s.numbers (Named name)) ≡ true → Mentions s kept names → Mentions s kept (mentioned kept names name)
mention_known s kept names name e h =
    let found : has_key (keys_with kept names) (Named name) ≡ true = there s _ _ (Named name) h ∙ e in
    subst (λ ns. Mentions s kept ns) (sym (ap (λ b. if b then names else names ++ name ∷ []) found)) h

-- a new name
pub mention_new : (old new : Symbols) (kept : Progress) (names : List (List ℕ)) (name n : List ℕ) (spot : Option Spot) (bind : Bind) → is_some (number_of old.numbers (Named name)) ≡ false → n ≡ name → spot ≡ known kept.spots name
    → bind ≡ bind_given (known kept.bindings name)
    → Mentions old kept names → Lists new (keys_with kept names ++ Named n ∷ []) ((map (local_in kept) (locals_in kept kept.labels.items) ++ map (other_in kept) names) ++ symbol_in kept (Named n) bind spot ∷ [])
    → Mentions new kept (mentioned kept names name)
mention_new old new kept names name n spot bind e is at bound h more =
    let locals = locals_in kept kept.labels.items in
    let found : has_key (keys_with kept names) (Named name) ≡ false = there old _ _ (Named name) h ∙ e in
    rw (found, push_map (map (λ l. l.key) locals) (λ m. Named m) names name, push_map (map (local_in kept) locals) (other_in kept) names name, ← bound, ← at, ← is) more
