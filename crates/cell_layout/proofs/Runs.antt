-- The regions of a new cell, one for each class that has a section.
use Rattle.std.proofs.Common.{◌≡◌, ℕ, zero, suc, ◌<◌, Bool, true, false, cond, ◌||◌, List, [], ◌∷◌, ◌++◌, length, get_or, append-nil, refl, sym, ap, ◌∙◌, inl, inr, arith}
use Rattle.std.specs.Prelude.{filter}
use Rattle.std.specs.List.{list_any}
use Rattle.cell_object.specs.declared.object.Section.{Section as ObjectSection}
use Rattle.cell_world.specs.World.{Region, Permission}
use Rattle.cell_world.specs.Placed.Layout.{is_in_class, image_of, permission_of}
use Rattle.cell_world.specs.declared.layout.Class.{Class}
use Rattle.cell_num.specs.Lists.{In}
use Rattle.cell_lemmas.specs.Loads.{run_region}

abbrev pub run : ℕ → Class → List ObjectSection → List Region
run start class sections = run_region start class (filter (is_in_class class) sections)

-- a class without a section has no region
run_none : (start : ℕ) (class : Class) (sections : List ObjectSection) → list_any (is_in_class class) sections ≡ false → run start class sections ≡ []
run_none start class [] e = refl
run_none start class (s ∷ rest) e = go (is_in_class class s) (run_none start class rest) e
  where
    go : (b : Bool) → (list_any (is_in_class class) rest ≡ false → run start class rest ≡ []) → (b || list_any (is_in_class class) rest) ≡ false
        → run_region start class (cond b (s ∷ filter (is_in_class class) rest) (filter (is_in_class class) rest)) ≡ []
    go true h e = absurd (cc e)
    go false h e = h e

-- each other class has one, with the class's image
abbrev run_of : ℕ → Class → List ObjectSection → Region
run_of start class sections = record { start = start; permission = permission_of class; bytes = image_of sections }

run_some : (start : ℕ) (class : Class) (sections : List ObjectSection) → list_any (is_in_class class) sections ≡ true → run start class sections ≡ run_of start class (filter (is_in_class class) sections) ∷ []
run_some start class [] e = absurd (cc e)
run_some start class (s ∷ rest) e = go (is_in_class class s) (run_some start class rest) e
  where
    go : (b : Bool) → (list_any (is_in_class class) rest ≡ true → run start class rest ≡ run_of start class (filter (is_in_class class) rest) ∷ []) → (b || list_any (is_in_class class) rest) ≡ true
        → run_region start class (cond b (s ∷ filter (is_in_class class) rest) (filter (is_in_class class) rest)) ≡ run_of start class (cond b (s ∷ filter (is_in_class class) rest) (filter (is_in_class class) rest)) ∷ []
    go true h e = refl
    go false h e = h e

abbrev made : ℕ → Permission → List ℕ → Region
made start permission bytes = record { start = start; permission = permission; bytes = bytes }

pub in_get : {X : Type 0} (xs : List X) (i : ℕ) (d : X) → i < length xs → In (get_or xs i d) xs
in_get [] i d lt = absurd (omega arith)
in_get (x ∷ xs) zero d lt = inl refl
in_get (x ∷ xs) (suc i) d lt = inr (in_get xs i d (omega arith))

module _ (start : ℕ) (class : Class) (sections : List ObjectSection) where
  pub none_added : list_any (is_in_class class) sections ≡ false → (regions : List Region) → regions ≡ regions ++ run start class sections
  none_added none regions = sym (append-nil regions) ∙ ap (λ (rs : List Region). regions ++ rs) (sym (run_none start class sections none))

  pub made_added : list_any (is_in_class class) sections ≡ true → (permission : Permission) (bytes : List ℕ) → permission ≡ permission_of class → bytes ≡ image_of (filter (is_in_class class) sections)
      → (regions : List Region) → regions ++ made start permission bytes ∷ [] ≡ regions ++ run start class sections
  made_added there permission bytes p b regions =
      ap (λ (q : Permission). regions ++ made start q bytes ∷ []) p
      ∙ (ap (λ (xs : List ℕ). regions ++ made start (permission_of class) xs ∷ []) b
      ∙ ap (λ (rs : List Region). regions ++ rs) (sym (run_some start class sections there)))
