-- Forms of lines that want so many words say nothing of fewer or more.
use Rattle.std.proofs.Common.{◌≡◌, arith, ◌<◌, ◌≤◌, ◌⊎◌, inl, inr, List, [], ◌∷◌, length, Option, None}
use Rattle.cell_world.specs.declared.line.DumpLine.{DumpLine}
use Rattle.cell_dumped.specs.Readings.{Word}

pub three_words : (f : List Word → Option DumpLine) (words : List Word) → f [] ≡ None → ((a : Word) → f (a ∷ []) ≡ None) → ((a b : Word) → f (a ∷ b ∷ []) ≡ None) → ((a b c d : Word) (rest : List Word) → f (a ∷ b ∷ c ∷ d ∷ rest) ≡ None)
    → (length words < 3) ⊎ (4 ≤ length words) → None ≡ f words
three_words f [] n a b m h = cc n
three_words f (x ∷ []) n a b m h = cc (a x)
three_words f (x ∷ y ∷ []) n a b m h = cc (b x y)
three_words f (x ∷ y ∷ z ∷ []) n a b m (inl h) = absurd (omega (arith, h))
three_words f (x ∷ y ∷ z ∷ []) n a b m (inr h) = absurd (omega (arith, h))
three_words f (x ∷ y ∷ z ∷ w ∷ rest) n a b m h = cc (m x y z w rest)

pub four_words : (f : List Word → Option DumpLine) (words : List Word) → f [] ≡ None → ((a : Word) → f (a ∷ []) ≡ None) → ((a b : Word) → f (a ∷ b ∷ []) ≡ None) → ((a b c : Word) → f (a ∷ b ∷ c ∷ []) ≡ None)
    → length words < 4 → None ≡ f words
four_words f [] n a b m h = cc n
four_words f (x ∷ []) n a b m h = cc (a x)
four_words f (x ∷ y ∷ []) n a b m h = cc (b x y)
four_words f (x ∷ y ∷ z ∷ []) n a b m h = cc (m x y z)
four_words f (x ∷ y ∷ z ∷ w ∷ rest) n a b m h = absurd (omega (arith, h))
