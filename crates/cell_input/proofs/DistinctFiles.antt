-- Files in byte order of their names have different names.
use Rattle.std.proofs.Common.{◌≡◌, refl, sym, ◌∙◌, ap, arith, ℕ, Bool, true, false, not, ◌&&◌, ◌||◌, List, [], ◌∷◌, true≢false}
use Rattle.std.specs.Prelude.{◌==◌, nat_lt}
use Rattle.std.specs.List.{list_all}
use Rattle.std.proofs.lemmas.Bool.{and_parts}
use Rattle.std.proofs.lemmas.Bool.Decides.{nat_tests}
use Rattle.cell_num.specs.Lists.{equals, is_before}
use Rattle.cell_world.specs.declared.file.File.{File}
use Rattle.cell_depot.specs.Files.{are_apart, are_in_order}

-- what stands before is another name
differs : (xs ys : List ℕ) → is_before xs ys ≡ true → equals xs ys ≡ false
differs [] [] h = absurd (true≢false (sym h))
differs [] (y ∷ ys) h = refl
differs (x ∷ xs) [] h = refl
differs (x ∷ xs) (y ∷ ys) h = go (x == y) refl h (differs xs ys)
  where
    not_less : (x == y) ≡ true → nat_lt x y ≡ false
    not_less e = grind (arith, nat_tests)

    go : (b : Bool) → (x == y) ≡ b → (nat_lt x y || b && is_before xs ys) ≡ true → (is_before xs ys ≡ true → equals xs ys ≡ false) → (b && equals xs ys) ≡ false
    go false e h ih = refl
    go true e h ih = ih (ap (λ b. b || is_before xs ys) (sym (not_less e)) ∙ h)

both : (a b : Bool) → a ≡ true → b ≡ true → (a && b) ≡ true
both true b h k = k
both false b h k = h

others : (f : File) (files : List File) → list_all (λ (g : File). is_before f.name g.name) files ≡ true → list_all (λ (g : File). not (equals f.name g.name)) files ≡ true
others f [] h = refl
others f (g ∷ files) h =
    let parts = and_parts (is_before f.name g.name) (list_all (λ (k : File). is_before f.name k.name) files) h in
    both (not (equals f.name g.name)) (list_all (λ (k : File). not (equals f.name k.name)) files) (ap not (differs f.name g.name parts.0)) (others f files parts.1)

pub apart : (files : List File) → are_in_order files ≡ true → are_apart files ≡ true
apart [] h = refl
apart (f ∷ files) h =
    let parts = and_parts (list_all (λ (g : File). is_before f.name g.name) files) (are_in_order files) h in
    both (list_all (λ (g : File). not (equals f.name g.name)) files) (are_apart files) (others f files parts.0) (apart files parts.1)
