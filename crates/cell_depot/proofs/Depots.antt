-- The tables of a depot, and the files that they lead to.
use Rattle.std.proofs.Common.{◌≡◌, ℕ, suc, zero, ◌<◌, Bool, List, [], ◌∷◌, Some, None, length, refl, ap, sym, ◌∙◌, arith}
use Rattle.std.specs.Prelude.{slice_get, filter, find, map}
use Rattle.cell_num.specs.Lists.{first}
use Rattle.cell_world.specs.declared.file.File.{File}
use Rattle.cell_depot.specs.declared.shelves.Places.TheVariants.{One, Several}
use Rattle.cell_world.specs.Gather.{Source, source_of, depot_files}
use Rattle.cell_depot.specs.Files.{shelf, places_where}
use Rattle.cell_depot.specs.Found.{AreFirst}
use Rattle.cell_depot.specs.Shelves.{first_places, AreKnown}
use Rattle.cell_depot.proofs.Located.{IsFirst, is_first, no_item, find-filter}
use Rattle.cell_depot.proofs.Shelved.{sources_shelved}

within : {X : Type 0} (xs : List X) (k : ℕ) (x : X) → slice_get xs k ≡ Some x → k < length xs
within [] k x e = absurd (cc e)
within (y ∷ xs) zero x e = omega arith
within (y ∷ xs) (suc k) x e = let h = within xs k x e in omega arith

-- the element at a place where the test first passes
pub record StandsAt {X : Type 0} (test : X → Bool) (xs : List X) (place : ℕ) : Type 0 where
  pub item : X
  pub inside : place < length xs
  pub at : slice_get xs place ≡ Some item
  pub found : find test xs ≡ Some item

stands : {X : Type 0} (test : X → Bool) (xs : List X) (place : ℕ) (rest : List ℕ) → IsFirst 0 xs (filter test xs) place rest → StandsAt test xs place
stands test xs place rest f =
    let after : f.after ≡ place = let e = f.place in omega arith in
    let at : slice_get xs place ≡ Some f.item = ap (slice_get xs) (sym after) ∙ f.at in
    record {
      item = f.item;
      inside = within xs place f.item at;
      at = at;
      found = find-filter test xs ∙ ap first f.filtered;
    }

first_is : (ps : List ℕ) (place : ℕ) → first ps ≡ Some place → (rest : List ℕ) × (ps ≡ place ∷ rest)
first_is [] place e = absurd (cc e)
first_is (p ∷ ps) place e = (ps, cc)

first_is_none : (ps : List ℕ) → first ps ≡ None → ps ≡ []
first_is_none [] e = refl
first_is_none (p ∷ ps) e = absurd (cc e)

pub named_at : {X : Type 0} (test : X → Bool) (xs : List X) (place : ℕ) → first (places_where test xs) ≡ Some place → StandsAt test xs place
named_at test xs place e =
    let is = first_is (places_where test xs) place e in
    stands test xs place is.0 (is_first test 0 xs place is.0 is.1)

pub named_nowhere : {X : Type 0} (test : X → Bool) (xs : List X) → first (places_where test xs) ≡ None → find test xs ≡ None
named_nowhere test xs e = find-filter test xs ∙ ap first (no_item test 0 xs (first_is_none _ e))

none_noted : (ps : List (ℕ × File)) → first_places ps ≡ None → ps ≡ []
none_noted [] e = refl
none_noted (p ∷ []) e = absurd (cc e)
none_noted (p ∷ q ∷ ps) e = absurd (cc e)

module _ (ns stem : List ℕ) (files : List File) where
  abbrev chosen : List Source
  chosen = depot_files (map source_of files) ns stem

  pub none_shelved : first_places (shelf ns stem files) ≡ None → chosen ≡ []
  none_shelved e = sym (sources_shelved ns stem files) ∙ ap (map (λ p. source_of p.1)) (none_noted (shelf ns stem files) e)

  -- the only file, at its place
  pub record IsOnlyAt (place : ℕ) : Type 0 where
    pub file : File
    pub inside : place < length files
    pub at : slice_get files place ≡ Some file
    pub only : chosen ≡ source_of file ∷ []

  pub one_shelved : (place : ℕ) → AreKnown files (shelf ns stem files) → first_places (shelf ns stem files) ≡ Some (One place) → IsOnlyAt place
  one_shelved place known e = go (shelf ns stem files) known e (sources_shelved ns stem files)
    where
      go : (ps : List (ℕ × File)) → AreKnown files ps → first_places ps ≡ Some (One place) → map (λ p. source_of p.1) ps ≡ chosen → IsOnlyAt place
      go [] k e s = absurd (cc e)
      go (p ∷ []) k e s =
          let same : p.0 ≡ place = cc in
          let at : slice_get files place ≡ Some p.1 = ap (slice_get files) (sym same) ∙ k.0 in
          record { file = p.1; inside = within files place p.1 at; at = at; only = sym s }
      go (p ∷ q ∷ ps) k e s = absurd (cc e)

  pub several_shelved : (one two : ℕ) → AreKnown files (shelf ns stem files) → first_places (shelf ns stem files) ≡ Some (Several one two) → AreFirst files chosen one two
  several_shelved one two known e = go (shelf ns stem files) known e (sources_shelved ns stem files)
    where
      go : (ps : List (ℕ × File)) → AreKnown files ps → first_places ps ≡ Some (Several one two) → map (λ p. source_of p.1) ps ≡ chosen → AreFirst files chosen one two
      go [] k e s = absurd (cc e)
      go (p ∷ []) k e s = absurd (cc e)
      go (p ∷ q ∷ ps) k e s =
          let here : p.0 ≡ one = cc in
          let there : q.0 ≡ two = cc in
          record {
            first = p.1;
            second = q.1;
            rest = map (λ r. source_of r.1) ps;
            first_at = ap (slice_get files) (sym here) ∙ k.0;
            second_at = ap (slice_get files) (sym there) ∙ k.1.0;
            are = sym s;
          }
