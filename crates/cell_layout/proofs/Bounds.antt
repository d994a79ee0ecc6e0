-- How far the sections of a class reach.
use Rattle.std.proofs.Common.{◌≡◌, refl, arith, ℕ, suc, ◌+◌, ◌*◌, ◌≤◌, Bool, true, false, cond, List, [], ◌∷◌, length, mod-lt}
use Rattle.std.specs.Prelude.{filter, max, ◌%◌, ◌-◌, nat_le, ◌==◌, ◌||◌, ◌&&◌, ◌^◌}
use Rattle.std.specs.List.{list_all, list_any}
use Rattle.std.proofs.lemmas.Bool.{and_parts, leb-true}
use Rattle.std.proofs.lemmas.Bool.Decides.{nat_tests}
use Rattle.cell_object.specs.declared.object.Section.{Section as ObjectSection}
use Rattle.cell_object.specs.Sound.{is_sound_section, is_zero}
use Rattle.cell_num.specs.Lists.{upto}
use Rattle.cell_world.specs.Placed.Layout.{gap, laid_end_from}

-- the parts of a sound section that count here
parts : (a b c d : Bool) → (a && b && c && d) ≡ true → (b ≡ true) × (c ≡ true)
parts true true true d h = (refl, refl)
parts true true false d h = cc
parts true false c d h = cc
parts false b c d h = cc

pub size_small : (s : ObjectSection) → is_sound_section s ≡ true → s.size ≤ 16777216
size_small s h = leb-true s.size 16777216 (parts _ (list_any (λ k. s.align == 2 ^ k) (upto 13)) (nat_le s.size 16777216) (is_zero s.fill || length s.bytes == s.size) h).1

align_small : (s : ObjectSection) → is_sound_section s ≡ true → s.align ≤ 4096
align_small s h = go (parts _ (list_any (λ k. s.align == 2 ^ k) (upto 13)) (nat_le s.size 16777216) (is_zero s.fill || length s.bytes == s.size) h).0
  where
    go : list_any (λ k. s.align == 2 ^ k) (upto 13) ≡ true → s.align ≤ 4096
    go e = grind (arith, nat_tests)

pub gap_small : (n : ℕ) (s : ObjectSection) → is_sound_section s ≡ true → gap n s.align ≤ 4096
gap_small n s h =
    let a = align_small s h in
    let m = mod-lt (s.align - n % max 1 s.align) {m = max 1 s.align} (omega arith) in
    omega (arith, a, m)

-- each section adds its size and a gap
pub laid_small : (xs : List ObjectSection) (n : ℕ) → list_all is_sound_section xs ≡ true → laid_end_from n xs ≤ n + length xs * 16781312
laid_small [] n h = omega arith
laid_small (s ∷ xs) n h =
    let p = and_parts (is_sound_section s) (list_all is_sound_section xs) h in
    let ih = laid_small xs (n + gap n s.align + s.size) p.1 in
    let g = gap_small n s p.0 in
    let z = size_small s p.0 in
    omega (arith, ih, g, z)

pub filter_shorter : {X : Type 0} (p : X → Bool) (xs : List X) → length (filter p xs) ≤ length xs
filter_shorter p [] = omega arith
filter_shorter p (x ∷ xs) = go (p x) (filter_shorter p xs)
  where
    go : (b : Bool) → length (filter p xs) ≤ length xs → length (cond b (x ∷ filter p xs) (filter p xs)) ≤ suc (length xs)
    go true h = omega (arith, h)
    go false h = omega (arith, h)
