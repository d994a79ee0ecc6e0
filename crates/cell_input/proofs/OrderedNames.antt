-- The object files among names come in byte order.
use Rattle.std.proofs.Common.{◌≡◌, refl, sym, ◌∙◌, ap, arith, ℕ, ◌<◌, ◌⊎◌, inl, inr, Bool, true, false, cond, ◌&&◌, ◌||◌, ◌==◌, List, [], ◌∷◌, true≢false}
use Rattle.std.specs.Prelude.{nat_lt, filter, fold, map, length, All, ◌≤◌}
use Rattle.std.proofs.lemmas.List.{length-map}
use Rattle.std.specs.List.{list_all}
use Rattle.std.specs.declared.cmp.Ordering.{Ordering}
use Rattle.std.specs.declared.cmp.Ordering.TheVariants.{Less, Equal, Greater}
use Rattle.std.specs.Ordering.{nat_cmp, ordering_then, match_ordering}
use Rattle.std.specs.Cmp.Lexicographic.{slice_cmp}
use Rattle.std.specs.BTreeSet.{insert_key}
use Rattle.std.proofs.lemmas.Bool.{and_parts, eqb-true, ltb-true}
use Rattle.std.proofs.lemmas.Bool.Decides.{nat_tests}
use Rattle.cell_num.specs.Limits.{max_files, max_file_bytes}
use Rattle.cell_num.specs.Lists.{each_pair, is_before}
use Rattle.cell_depot.specs.ObjectName.{is_object_name}
use Rattle.cell_world.specs.declared.file.File.{File}
use Rattle.cell_depot.specs.Files.{are_in_order}
use Rattle.cell_input.specs.Objects.{AreObjectFiles, AreObjects, objects_of}

and_both : (a b : Bool) → a ≡ true → b ≡ true → (a && b) ≡ true
and_both true b h k = k
and_both false b h k = h

-- the order of names by their first bytes that differ
less : (xs ys : List ℕ) → slice_cmp nat_cmp xs ys ≡ Less → is_before xs ys ≡ true
less [] [] e = absurd cc
less [] (y ∷ ys) e = refl
less (x ∷ xs) [] e = absurd cc
less (x ∷ xs) (y ∷ ys) e = go (nat_lt x y) (x == y) (slice_cmp nat_cmp xs ys) (is_before xs ys) (less xs ys) e
  where
    go : (l q : Bool) (o : Ordering) (rest : Bool) → (o ≡ Less → rest ≡ true) → ordering_then (cond l Less (cond q Equal Greater)) o ≡ Less → (l || q && rest) ≡ true
    go true q o rest h e = refl
    go false true o rest h e = h e
    go false false o rest h e = absurd cc

greater : (xs ys : List ℕ) → slice_cmp nat_cmp xs ys ≡ Greater → is_before ys xs ≡ true
greater [] [] e = absurd cc
greater [] (y ∷ ys) e = absurd cc
greater (x ∷ xs) [] e = refl
greater (x ∷ xs) (y ∷ ys) e = go (nat_lt x y) (x == y) (slice_cmp nat_cmp xs ys) refl refl (greater xs ys) e
  where
    go : (l q : Bool) (o : Ordering) → nat_lt x y ≡ l → (x == y) ≡ q → (o ≡ Greater → is_before ys xs ≡ true) → ordering_then (cond l Less (cond q Equal Greater)) o ≡ Greater
        → (nat_lt y x || y == x && is_before ys xs) ≡ true
    go true q o lt eq h e = absurd cc
    go false true o lt eq h e = let same = eqb-true x y eq in tie same (h e)
      where
        tie : x ≡ y → is_before ys xs ≡ true → (nat_lt y x || y == x && is_before ys xs) ≡ true
        tie s k = let eq : (y == x) ≡ true = grind (arith, nat_tests, s) in ap (λ b. nat_lt y x || b && is_before ys xs) eq ∙ last (nat_lt y x) (is_before ys xs) k
          where
            last : (a b : Bool) → b ≡ true → (a || true && b) ≡ true
            last true b h = refl
            last false b h = h
    go false false o lt eq h e = let k : nat_lt y x ≡ true = grind (arith, nat_tests, lt, eq) in ap (λ b. b || y == x && is_before ys xs) k

abbrev First : ℕ → List ℕ → ℕ → List ℕ → Type 0
First x xs y ys = (x < y) ⊎ ((x ≡ y) × (is_before xs ys ≡ true))

first : (x : ℕ) (xs : List ℕ) (y : ℕ) (ys : List ℕ) → is_before (x ∷ xs) (y ∷ ys) ≡ true → First x xs y ys
first x xs y ys e = go (nat_lt x y) (x == y) refl refl e
  where
    go : (l q : Bool) → nat_lt x y ≡ l → (x == y) ≡ q → (l || q && is_before xs ys) ≡ true → First x xs y ys
    go true q lt eq e = inl (ltb-true x y lt)
    go false true lt eq e = inr (eqb-true x y eq, e)
    go false false lt eq e = absurd (true≢false (sym e))

before : (x : ℕ) (xs : List ℕ) (y : ℕ) (ys : List ℕ) → First x xs y ys → is_before (x ∷ xs) (y ∷ ys) ≡ true
before x xs y ys (inl lt) = let k : nat_lt x y ≡ true = grind (arith, nat_tests, lt) in ap (λ b. b || x == y && is_before xs ys) k
before x xs y ys (inr h) = let s = h.0 in let k : (x == y) ≡ true = grind (arith, nat_tests, s) in ap (λ b. nat_lt x y || b && is_before xs ys) k ∙ last (nat_lt x y) (is_before xs ys) h.1
  where
    last : (a b : Bool) → b ≡ true → (a || true && b) ≡ true
    last true b h = refl
    last false b h = h

between : (xs ys zs : List ℕ) → is_before xs ys ≡ true → is_before ys zs ≡ true → is_before xs zs ≡ true
between [] [] zs h k = absurd (true≢false (sym h))
between [] (y ∷ ys) [] h k = absurd (true≢false (sym k))
between [] (y ∷ ys) (z ∷ zs) h k = refl
between (x ∷ xs) [] zs h k = absurd (true≢false (sym h))
between (x ∷ xs) (y ∷ ys) [] h k = absurd (true≢false (sym k))
between (x ∷ xs) (y ∷ ys) (z ∷ zs) h k = before x xs z zs (go (between xs ys zs) (first x xs y ys h) (first y ys z zs k))
  where
    go : (is_before xs ys ≡ true → is_before ys zs ≡ true → is_before xs zs ≡ true) → First x xs y ys → First y ys z zs → First x xs z zs
    go rest (inl a) (inl b) = inl (omega (arith, a, b))
    go rest (inl a) (inr b) = let s = b.0 in inl (omega (arith, a, s))
    go rest (inr a) (inl b) = let s = a.0 in inl (omega (arith, s, b))
    go rest (inr a) (inr b) = inr (a.0 ∙ b.0, rest a.1 b.1)

-- what holds of all keys and of one more
all_with : (test : List ℕ → Bool) (ks : List (List ℕ)) (k : List ℕ) → list_all test ks ≡ true → test k ≡ true → list_all test (insert_key (slice_cmp nat_cmp) ks k) ≡ true
all_with test [] k h t = and_both (test k) true t refl
all_with test (x ∷ xs) k h t =
    let parts = and_parts (test x) (list_all test xs) h in
    go (and_both (test x) (list_all test (insert_key (slice_cmp nat_cmp) xs k)) parts.0 (all_with test xs k parts.1 t)) (slice_cmp nat_cmp k x)
  where
    go : list_all test (x ∷ insert_key (slice_cmp nat_cmp) xs k) ≡ true → (o : Ordering) → list_all test (match_ordering o (k ∷ x ∷ xs) (x ∷ xs) (x ∷ insert_key (slice_cmp nat_cmp) xs k)) ≡ true
    go more Less = and_both (test k) (list_all test (x ∷ xs)) t h
    go more Equal = h
    go more Greater = more

later : (k x : List ℕ) (xs : List (List ℕ)) → is_before k x ≡ true → list_all (is_before x) xs ≡ true → list_all (is_before k) xs ≡ true
later k x [] h all = refl
later k x (y ∷ ys) h all =
    let parts = and_parts (is_before x y) (list_all (is_before x) ys) all in
    and_both (is_before k y) (list_all (is_before k) ys) (between k x y h parts.0) (later k x ys h parts.1)

order_kept : (ks : List (List ℕ)) (k : List ℕ) → each_pair is_before ks ≡ true → each_pair is_before (insert_key (slice_cmp nat_cmp) ks k) ≡ true
order_kept [] k h = refl
order_kept (x ∷ xs) k h = let parts = and_parts (list_all (is_before x) xs) (each_pair is_before xs) h in go parts (order_kept xs k parts.1) (slice_cmp nat_cmp k x) refl
  where
    go : (list_all (is_before x) xs ≡ true) × (each_pair is_before xs ≡ true) → each_pair is_before (insert_key (slice_cmp nat_cmp) xs k) ≡ true → (o : Ordering) → slice_cmp nat_cmp k x ≡ o → each_pair is_before (match_ordering o (k ∷ x ∷ xs) (x ∷ xs) (x ∷ insert_key (slice_cmp nat_cmp) xs k)) ≡ true
    go parts more Less e =
        let first : is_before k x ≡ true = less k x e in
        and_both (list_all (is_before k) (x ∷ xs)) (each_pair is_before (x ∷ xs))
        (and_both (is_before k x) (list_all (is_before k) xs) first (later k x xs first parts.0)) h
    go parts more Equal e = h
    go parts more Greater e =
        and_both (list_all (is_before x) (insert_key (slice_cmp nat_cmp) xs k)) (each_pair is_before (insert_key (slice_cmp nat_cmp) xs k))
        (all_with (is_before x) xs k parts.0 (greater k x e)) more

all_kept : (names acc : List (List ℕ)) → list_all is_object_name acc ≡ true → list_all is_object_name (fold (insert_key (slice_cmp nat_cmp)) acc (filter is_object_name names)) ≡ true
all_kept [] acc h = h
all_kept (n ∷ names) acc h = go (all_kept names) (is_object_name n) refl
  where
    go : ((kept : List (List ℕ)) → list_all is_object_name kept ≡ true → list_all is_object_name (fold (insert_key (slice_cmp nat_cmp)) kept (filter is_object_name names)) ≡ true) → (b : Bool) → is_object_name n ≡ b → list_all is_object_name (fold (insert_key (slice_cmp nat_cmp)) acc (cond b (n ∷ filter is_object_name names) (filter is_object_name names))) ≡ true
    go rest true e = rest (insert_key (slice_cmp nat_cmp) acc n) (all_with is_object_name acc n h e)
    go rest false e = rest acc h

in_order : (names acc : List (List ℕ)) → each_pair is_before acc ≡ true → each_pair is_before (fold (insert_key (slice_cmp nat_cmp)) acc names) ≡ true
in_order [] acc h = h
in_order (n ∷ names) acc h = in_order names (insert_key (slice_cmp nat_cmp) acc n) (order_kept acc n h)

pub objects_named : (names : List (List ℕ)) → list_all is_object_name (objects_of names) ≡ true
objects_named names = all_kept names [] refl

pub objects_in_order : (names : List (List ℕ)) → each_pair is_before (objects_of names) ≡ true
objects_in_order names = in_order (filter is_object_name names) [] refl

all_names : (files : List File) → list_all is_object_name (map (λ (f : File). f.name) files) ≡ list_all (λ (f : File). is_object_name f.name) files
all_names [] = refl
all_names (f ∷ files) = ap (λ b. is_object_name f.name && b) (all_names files)

all_after : (name : List ℕ) (files : List File) → list_all (is_before name) (map (λ (f : File). f.name) files) ≡ list_all (λ (f : File). is_before name f.name) files
all_after name [] = refl
all_after name (f ∷ files) = ap (λ b. is_before name f.name && b) (all_after name files)

order_of : (files : List File) → each_pair is_before (map (λ (f : File). f.name) files) ≡ are_in_order files
order_of [] = refl
order_of (f ∷ files) = ap (λ b. b && each_pair is_before (map (λ (f : File). f.name) files)) (all_after f.name files) ∙ ap (λ b. list_all (λ (g : File). is_before f.name g.name) files && b) (order_of files)

-- files of such names
pub object_files : (names : List (List ℕ)) (files : List File) → AreObjects names → map (λ (f : File). f.name) files ≡ names → All (λ (f : File). length f.bytes ≤ max_file_bytes) files → AreObjectFiles files
object_files names files are same small = record {
  few = let a = are.few in let b : length (map (λ (f : File). f.name) files) ≡ length names = ap length same in omega (arith, a, b, length-map files (λ (f : File). f.name));
  small = small;
  named = sym (all_names files) ∙ (ap (list_all is_object_name) same ∙ are.named);
  ordered = sym (order_of files) ∙ (ap (each_pair is_before) same ∙ are.ordered);
}

pub are_objects : (names objects : List (List ℕ)) → objects ≡ objects_of names → length objects ≤ max_files → AreObjects objects
are_objects names objects is few = record {
  few = few;
  named = ap (list_all is_object_name) is ∙ objects_named names;
  ordered = ap (each_pair is_before) is ∙ objects_in_order names;
}
