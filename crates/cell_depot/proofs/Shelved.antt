-- Files with their places, in byte order of their names: they are those of the machine.
use Rattle.std.proofs.Common.{◌≡◌, ℕ, zero, suc, ◌+◌, ◌<◌, Bool, true, false, cond, List, [], ◌∷◌, ◌++◌, Option, Some, None, length, take, get_or, refl, ap, sym, ◌∙◌, arith}
use Rattle.std.specs.Prelude.{filter, fold, map, slice_get, ◌&&◌}
use Rattle.std.proofs.lemmas.List.Elements.{filter-append}
use Rattle.std.proofs.lemmas.List.Sums.{fold-append}
use Rattle.std.proofs.lemmas.List.{take_more, length-take}
use Rattle.cell_num.specs.Lists.{equals, is_before, numbered, numbered_from}
use Rattle.cell_world.specs.declared.file.File.{File}
use Rattle.cell_world.specs.Gather.{Source, source_of, with_source, depot_files, ns_of_file, stem_of_file}
use Rattle.cell_depot.specs.declared.shelves.Places.TheVariants.{One, Several}
use Rattle.cell_depot.specs.Files.{with_numbered, shelf, is_named_for}
use Rattle.cell_depot.specs.Shelves.{first_places, name_at, with_place, AreInside, AreKnown}

abbrev source : ℕ × File → Source
source p = source_of p.1

one_more : (p : ℕ × File) (ps : List (ℕ × File)) → map source (with_numbered p ps) ≡ with_source (source p) (map source ps)
one_more p [] = refl
one_more p (q ∷ ps) = go (is_before p.1.name q.1.name) (one_more p ps)
  where
    go : (b : Bool) → map source (with_numbered p ps) ≡ with_source (source p) (map source ps)
        → map source (cond b (p ∷ q ∷ ps) (q ∷ with_numbered p ps)) ≡ cond b (source p ∷ source q ∷ map source ps) (source q ∷ with_source (source p) (map source ps))
    go true e = refl
    go false e = ap (λ fs. source q ∷ fs) e

all_more : (done ps : List (ℕ × File)) → map source (fold (λ sorted p. with_numbered p sorted) done ps) ≡ fold (λ sorted f. with_source f sorted) (map source done) (map source ps)
all_more done [] = refl
all_more done (p ∷ ps) = all_more (with_numbered p done) ps ∙ ap (λ fs. fold (λ sorted f. with_source f sorted) fs (map source ps)) (one_more p done)

module _ (ns stem : List ℕ) where
  abbrev is_here : Source → Bool
  is_here f = equals (ns_of_file f.name) ns && equals (stem_of_file f.name) stem

  filtered : (n : ℕ) (files : List File) → map source (filter (λ p. is_named_for ns stem p.1) (numbered_from n files)) ≡ filter is_here (map source_of files)
  filtered n [] = refl
  filtered n (f ∷ files) = go (is_named_for ns stem f) (filtered (suc n) files)
    where
      go : (b : Bool) → map source (filter (λ p. is_named_for ns stem p.1) (numbered_from (suc n) files)) ≡ filter is_here (map source_of files)
          → map source (cond b ((n, f) ∷ filter (λ p. is_named_for ns stem p.1) (numbered_from (suc n) files)) (filter (λ p. is_named_for ns stem p.1) (numbered_from (suc n) files)))
          ≡ cond b (source_of f ∷ filter is_here (map source_of files)) (filter is_here (map source_of files))
      go true e = ap (λ fs. source_of f ∷ fs) e
      go false e = e

  pub sources_shelved : (files : List File) → map source (shelf ns stem files) ≡ depot_files (map source_of files) ns stem
  sources_shelved files =
      all_more [] (filter (λ p. is_named_for ns stem p.1) (numbered files))
      ∙ ap (fold (λ sorted f. with_source f sorted) []) (filtered 0 files)

-- the files that are known stay so
known_more : (files : List File) (p : ℕ × File) (ps : List (ℕ × File)) → slice_get files p.0 ≡ Some p.1 → AreKnown files ps → AreKnown files (with_numbered p ps)
known_more files p [] e k = (e, tt)
known_more files p (q ∷ ps) e k = go (is_before p.1.name q.1.name) (known_more files p ps e k.1)
  where
    go : (b : Bool) → AreKnown files (with_numbered p ps) → AreKnown files (cond b (p ∷ q ∷ ps) (q ∷ with_numbered p ps))
    go true rest = (e, k)
    go false rest = (k.0, rest)

-- known places are in the list
inside : (files : List File) (k : ℕ) (f : File) → slice_get files k ≡ Some f → k < length files
inside [] k f e = absurd (cc e)
inside (g ∷ files) zero f e = omega arith
inside (g ∷ files) (suc k) f e = let h = inside files k f e in omega arith

pub places_inside : (files : List File) (ps : List (ℕ × File)) → AreKnown files ps → AreInside files (first_places ps)
places_inside files [] k = tt
places_inside files (p ∷ []) k = inside files p.0 p.1 k.0
places_inside files (p ∷ q ∷ ps) k = (inside files p.0 p.1 k.0, inside files q.0 q.1 k.1.0)

named : (files : List File) (p : ℕ × File) → slice_get files p.0 ≡ Some p.1 → name_at files p.0 ≡ p.1.name
named files p e = ap (λ (o : Option File). elim o [ None ↦ [] | Some f ↦ f.name ]) e

-- what is noted of one more file
noted : (files : List File) (place : ℕ) (f : File) (ps : List (ℕ × File)) → slice_get files place ≡ Some f → AreKnown files ps
    → Some (with_place files (first_places ps) place) ≡ first_places (with_numbered (place, f) ps)
noted files place f [] e k = refl
noted files place f (p ∷ []) e k =
    ap (λ xs. Some (cond (is_before xs (name_at files p.0)) (Several place p.0) (Several p.0 place))) (named files (place, f) e)
    ∙ ap (λ xs. Some (cond (is_before f.name xs) (Several place p.0) (Several p.0 place))) (named files p k.0)
    ∙ go (is_before f.name p.1.name)
  where
    go : (b : Bool) → Some (cond b (Several place p.0) (Several p.0 place)) ≡ first_places (cond b ((place, f) ∷ p ∷ []) (p ∷ (place, f) ∷ []))
    go true = refl
    go false = refl
noted files place f (p ∷ q ∷ ps) e k =
    ap (λ xs. Some (cond (is_before xs (name_at files p.0)) (Several place p.0) (cond (is_before xs (name_at files q.0)) (Several p.0 place) (Several p.0 q.0)))) (named files (place, f) e)
    ∙ ap (λ xs. Some (cond (is_before f.name xs) (Several place p.0) (cond (is_before f.name (name_at files q.0)) (Several p.0 place) (Several p.0 q.0)))) (named files p k.0)
    ∙ ap (λ xs. Some (cond (is_before f.name p.1.name) (Several place p.0) (cond (is_before f.name xs) (Several p.0 place) (Several p.0 q.0)))) (named files q k.1.0)
    ∙ go (is_before f.name p.1.name) (is_before f.name q.1.name)
  where
    go : (b c : Bool) → Some (cond b (Several place p.0) (cond c (Several p.0 place) (Several p.0 q.0)))
        ≡ first_places (cond b ((place, f) ∷ p ∷ q ∷ ps) (p ∷ cond c ((place, f) ∷ q ∷ ps) (q ∷ with_numbered (place, f) ps)))
    go true c = refl
    go false true = refl
    go false false = refl

numbered-append : (n k : ℕ) (xs ys : List File) → k ≡ n + length xs → numbered_from n (xs ++ ys) ≡ numbered_from n xs ++ numbered_from k ys
numbered-append n k [] ys e = ap (λ m. numbered_from m ys) (let same : n ≡ k = omega arith in same)
numbered-append n k (x ∷ xs) ys e = ap (λ ps. (n, x) ∷ ps) (numbered-append (suc n) k xs ys (omega arith))

pub read_at : (files : List File) (i : ℕ) (f : File) → i < length files → f ≡ get_or files i f → slice_get files i ≡ Some f
read_at [] i f lt at = absurd (omega arith)
read_at (g ∷ files) zero f lt at = ap Some (sym at)
read_at (g ∷ files) (suc i) f lt at = read_at files i f (omega arith) at

-- the shelf with one more file of the list
pub shelf_more : (ns stem : List ℕ) (files : List File) (i : ℕ) (f : File) → i < length files → f ≡ get_or files i f
    → shelf ns stem (take (i + 1) files) ≡ cond (is_named_for ns stem f) (with_numbered (i, f) (shelf ns stem (take i files))) (shelf ns stem (take i files))
shelf_more ns stem files i f lt at =
    ap (shelf ns stem) (take_more files i f lt ∙ ap (λ g. take i files ++ g ∷ []) (sym at))
    ∙ ap (λ ps. fold (λ sorted p. with_numbered p sorted) [] (filter (λ p. is_named_for ns stem p.1) ps)) (numbered-append 0 i (take i files) (f ∷ []) (let n = length-take i files in omega (arith, n)))
    ∙ ap (fold (λ sorted p. with_numbered p sorted) []) (filter-append (λ (p : ℕ × File). is_named_for ns stem p.1) (numbered (take i files)) ((i, f) ∷ []))
    ∙ fold-append (λ sorted p. with_numbered p sorted) [] (filter (λ p. is_named_for ns stem p.1) (numbered (take i files))) (cond (is_named_for ns stem f) ((i, f) ∷ []) [])
    ∙ go (is_named_for ns stem f)
  where
    go : (b : Bool) → fold (λ sorted p. with_numbered p sorted) (shelf ns stem (take i files)) (cond b ((i, f) ∷ []) [])
        ≡ cond b (with_numbered (i, f) (shelf ns stem (take i files))) (shelf ns stem (take i files))
    go true = refl
    go false = refl

pub shelf_known : (b : Bool) (files : List File) (i : ℕ) (f : File) (ps : List (ℕ × File)) → slice_get files i ≡ Some f → AreKnown files ps → AreKnown files (cond b (with_numbered (i, f) ps) ps)
shelf_known true files i f ps e k = known_more files (i, f) ps e k
shelf_known false files i f ps e k = k

pub shelf_noted : (b : Bool) (files : List File) (i : ℕ) (f : File) (ps : List (ℕ × File)) → slice_get files i ≡ Some f → AreKnown files ps
    → cond b (Some (with_place files (first_places ps) i)) (first_places ps) ≡ first_places (cond b (with_numbered (i, f) ps) ps)
shelf_noted true files i f ps e k = noted files i f ps e k
shelf_noted false files i f ps e k = refl
