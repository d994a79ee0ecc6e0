-- The one file of a stem in a depot, and the file of a name.
use Rattle.std.proofs.Common.{◌≡◌, refl, ◌∙◌, ap, ap₂, sym, subst, ℕ, inl, inr, Bool, true, false, cond, ◌&&◌, List, [], ◌∷◌, map, true≢false}
use Rattle.std.specs.Prelude.{Option, Some, Ok, Err, not, slice_get}
use Rattle.std.proofs.lemmas.Bool.{and_parts, eq-eqb}
use Rattle.cell_num.specs.Lists.{equals, In}
use Rattle.cell_world.specs.declared.file.File.{File}
use Rattle.cell_world.specs.declared.refusal.Refusal.{Refusal}
use Rattle.cell_world.specs.declared.refusal.Refusal.TheVariants.{Ambiguous}
use Rattle.cell_world.specs.Gather.{Source, file_named, one_file, source_of}
use Rattle.cell_world.specs.Outcome.{Outcome}
use Rattle.cell_num.proofs.Elements.{all-In, get-In}
use Rattle.cell_depot.specs.Files.{are_apart}
use Rattle.cell_depot.specs.Found.{AreFirst, IsOnly}

same_some : (f g : File) → Some f ≡ (let o : Option File = Some g in o) → f ≡ g
same_some f g e = cc

module _ (files : List File) (chosen : List Source) (lacking : Refusal) where
  pub one_found : (f : File) → IsOnly files chosen f → one_file chosen lacking ≡ Ok (source_of f)
  one_found f is = ap (λ fs. one_file fs lacking) is.only

  pub none_found : chosen ≡ [] → one_file chosen lacking ≡ Err lacking
  none_found e = ap (λ fs. one_file fs lacking) e

  pub several_found : (one two : ℕ) → AreFirst files chosen one two → (f g : File) → slice_get files one ≡ Some f → slice_get files two ≡ Some g → one_file chosen lacking ≡ Err (Ambiguous f.name g.name)
  several_found one two are f g first second =
      ap (λ fs. one_file fs lacking) are.are
      ∙ ap₂ (λ (x y : File). let o : Outcome Source = Err (Ambiguous x.name y.name) in o) (same_some are.first f (sym are.first_at ∙ first)) (same_some are.second g (sym are.second_at ∙ second))

same : (xs : List ℕ) → equals xs xs ≡ true
same [] = refl
same (x ∷ xs) = ap (λ b. b && equals xs xs) (eq-eqb x x refl) ∙ same xs

differs : (b : Bool) → not b ≡ true → b ≡ false
differs true h = absurd (true≢false (sym h))
differs false h = refl

-- a file is found by its name
pub named : (files : List File) → are_apart files ≡ true → (f : File) → In f files → file_named (map source_of files) f.name ≡ Some (source_of f)
named [] apart f i = absurd i
named (g ∷ files) apart f (inl e) =
    subst (λ (x : File). file_named (map source_of (x ∷ files)) f.name ≡ Some (source_of f)) e
    (ap (λ b. cond b (Some (source_of f)) (file_named (map source_of files) f.name)) (same f.name))
named (g ∷ files) apart f (inr i) =
    let parts = and_parts _ (are_apart files) apart in
    ap (λ b. cond b (Some (source_of g)) (file_named (map source_of files) f.name)) (differs (equals g.name f.name) (all-In (λ (h : File). not (equals g.name h.name)) files parts.0 f i))
    ∙ named files parts.1 f i

-- and so is the one of its stem
pub only_named : (files : List File) → are_apart files ≡ true → (chosen : List Source) (f : File) → IsOnly files chosen f → file_named (map source_of files) f.name ≡ Some (source_of f)
only_named files apart chosen f is = named files apart f (get-In files is.place f is.at)
