-- Tables with one more file.
use Rattle.std.proofs.Common.{◌≡◌, ℕ, suc, ◌+◌, ◌<◌, Bool, true, false, cond, List, [], ◌∷◌, ◌++◌, Some, length, take, get_or, refl, ap, subst, sym, ◌∙◌, arith}
use Rattle.std.specs.Prelude.{filter, slice_get, ◌&&◌}
use Rattle.std.proofs.lemmas.List.{take_more, length-take}
use Rattle.cell_num.specs.Lists.{first, numbered_from, equals, or_else, where_true}
use Rattle.cell_world.specs.declared.file.File.{File}
use Rattle.cell_world.specs.Gather.{ns_of_file, stem_of_file}
use Rattle.cell_depot.specs.declared.names.NameMap.{NameMap}
use Rattle.cell_depot.specs.declared.shelves.Shelves.{Shelves}
use Rattle.cell_depot.specs.Files.{shelf, places_where, is_named_for, has_name}
use Rattle.cell_depot.specs.Values.{value_of}
use Rattle.cell_depot.specs.Shelves.{first_places, with_place, places_at, AreKnown, AreTables}
use Rattle.cell_depot.proofs.Located.{places, places_from}
use Rattle.cell_depot.proofs.Shelved.{read_at, shelf_more, shelf_known, shelf_noted}

single : {X : Type 0} (b : Bool) (n : ℕ) (x : X) → places (cond b ((n, x) ∷ []) []) ≡ cond b (n ∷ []) []
single true n x = refl
single false n x = refl

onto : {X : Type 0} (b : Bool) (n : ℕ) (x : X) (ps : List (ℕ × X)) (qs more : List ℕ) → places ps ≡ qs ++ more
    → places (cond b ((n, x) ∷ ps) ps) ≡ cond b (n ∷ qs) qs ++ more
onto true n x ps qs more e = ap (λ ys. n ∷ ys) e
onto false n x ps qs more e = e

taken : {X : Type 0} (b : Bool) (n : ℕ) (x : X) (ps : List (ℕ × X)) → cond b (n ∷ places ps) (places ps) ≡ places (cond b ((n, x) ∷ ps) ps)
taken true n x ps = refl
taken false n x ps = refl

places_from-append : {X : Type 0} (test : X → Bool) (n k : ℕ) (xs ys : List X) → k ≡ n + length xs → places_from test n (xs ++ ys) ≡ places_from test n xs ++ places_from test k ys
places_from-append test n k [] ys e = ap (λ m. places_from test m ys) (let same : n ≡ k = omega arith in same)
places_from-append test n k (x ∷ xs) ys e =
    onto (test x) n x _ _ _ (places_from-append test (suc n) k xs ys (omega arith))
    ∙ ap (λ qs. qs ++ places_from test k ys) (taken (test x) n x (filter (λ p. test p.1) (numbered_from (suc n) xs)))

-- the places among one more element
pub places_more : {X : Type 0} (test : X → Bool) (xs : List X) (i : ℕ) (x : X) → i < length xs → x ≡ get_or xs i x
    → places_where test (take (i + 1) xs) ≡ places_where test (take i xs) ++ cond (test x) (i ∷ []) []
places_more test xs i x lt e =
    ap (places_where test) (take_more xs i x lt)
    ∙ places_from-append test 0 i (take i xs) (get_or xs i x ∷ []) (let n = length-take i xs in omega (arith, n))
    ∙ ap (λ y. places_where test (take i xs) ++ places_from test i (y ∷ [])) (sym e)
    ∙ ap (λ qs. places_where test (take i xs) ++ qs) (single (test x) i x)

named_more : (b : Bool) (ps : List ℕ) (place : ℕ) → or_else (first ps) (where_true b place) ≡ first (ps ++ cond b (place ∷ []) [])
named_more true [] place = refl
named_more false [] place = refl
named_more b (p ∷ ps) place = refl

-- the tables of one more file
pub with_file : (files : List File) (i : ℕ) (f : File) (before after : Shelves) (names_before names_after : NameMap ℕ) (name ns stem : List ℕ)
    → i < length files → f ≡ get_or files i f → name ≡ f.name → ns ≡ ns_of_file name → stem ≡ stem_of_file name
    → AreTables files (take i files) before names_before
    → ((n s : List ℕ) → places_at after n s ≡ cond (equals ns n && equals stem s) (Some (with_place files (places_at before n s) i)) (places_at before n s))
    → ((q : List ℕ) → value_of names_after q ≡ or_else (value_of names_before q) (where_true (equals name q) i))
    → AreTables files (take (i + 1) files) after names_after
with_file files i f before after names_before names_after name ns stem lt at is is_ns is_stem are shelved named =
    let there : slice_get files i ≡ Some f = read_at files i f lt at in
    record {
      shelved = λ n s.
          let o = places_at before n s in
          shelved n s
          ∙ ap (λ b. cond b (Some (with_place files o i)) o) (
          let same : (equals ns n && equals stem s) ≡ is_named_for n s f = rw (is_ns, is_stem, is) in same)
          ∙ ap (λ noted. cond (is_named_for n s f) (Some (with_place files noted i)) noted) (are.shelved n s)
          ∙ shelf_noted (is_named_for n s f) files i f (shelf n s (take i files)) there (are.known n s)
          ∙ ap first_places (sym (shelf_more n s files i f lt at));
      known = λ n s.
          subst (AreKnown files) (sym (shelf_more n s files i f lt at)) (shelf_known (is_named_for n s f) files i f (shelf n s (take i files)) there (are.known n s));
      named = λ q.
          named q
          ∙ ap (λ found. or_else found (where_true (equals name q) i)) (are.named q)
          ∙ ap (λ text. or_else (first (places_where (has_name q) (take i files))) (where_true (equals text q) i)) is
          ∙ named_more (has_name q f) (places_where (has_name q) (take i files)) i
          ∙ ap first (sym (places_more (has_name q) files i f lt at));
    }
