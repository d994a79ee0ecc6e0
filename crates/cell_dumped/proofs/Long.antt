-- A text of too many words says nothing.
use Rattle.std.proofs.Common.{◌≡◌, refl, sym, arith, ℕ, ◌<◌, Bool, true, false, cond, List, [], ◌∷◌, length, Option, Some, None}
use Rattle.std.specs.Prelude.{bytes_eq, filter, ◌==◌}
use Rattle.std.specs.List.{slice_split}
use Rattle.std.proofs.lemmas.List.Splits.{length-slice_split}
use Rattle.std.proofs.lemmas.List.Sums.{length-filter}
use Rattle.cell_script.specs.Grammar.{file, name}
use Rattle.cell_world.specs.declared.line.DumpLine.{DumpLine}
use Rattle.cell_dumped.specs.Readings.{Form, Word, cell_said, forms, line_said, number, said_by, said_in, ◌>>=◌}

abbrev AllNone : List Form → List Word → Type 0
AllNone [] words = Unit {0}
AllNone (form ∷ others) words = (form.said words ≡ None) × AllNone others words

none_of : (others : List Form) (word : Word) (words : List Word) → AllNone others words → said_in others word words ≡ None
none_of [] word words h = refl
none_of (form ∷ others) word words h = either (bytes_eq word form.word) (form.said words) (said_in others word words) h.0 (none_of others word words h.1)
  where
    either : (t : Bool) (x y : Option DumpLine) → x ≡ None → y ≡ None → cond t x y ≡ None
    either true x y e f = e
    either false x y e f = f

no_cell : (a b c d e f g : Word) (words : List Word) → cell_said (a ∷ b ∷ c ∷ d ∷ e ∷ f ∷ g ∷ words) ≡ None
no_cell a b c d e f g words = go (number a) (number b) (name c) (file d)
  where
    none : Option DumpLine
    none = None

    go : (o p : Option ℕ) (q r : Option Word) → (o >>= (λ x. p >>= (λ y. q >>= (λ z. r >>= (λ u. none))))) ≡ None
    go None p q r = refl
    go (Some x) None q r = refl
    go (Some x) (Some y) None r = refl
    go (Some x) (Some y) (Some z) None = refl
    go (Some x) (Some y) (Some z) (Some u) = refl

many_words : (words : List Word) → 7 < length words → said_by words ≡ None
many_words [] m = absurd (omega (arith, m))
many_words (a ∷ []) m = absurd (omega (arith, m))
many_words (a ∷ b ∷ []) m = absurd (omega (arith, m))
many_words (a ∷ b ∷ c ∷ []) m = absurd (omega (arith, m))
many_words (a ∷ b ∷ c ∷ d ∷ []) m = absurd (omega (arith, m))
many_words (a ∷ b ∷ c ∷ d ∷ e ∷ []) m = absurd (omega (arith, m))
many_words (a ∷ b ∷ c ∷ d ∷ e ∷ f ∷ []) m = absurd (omega (arith, m))
many_words (a ∷ b ∷ c ∷ d ∷ e ∷ f ∷ g ∷ []) m = absurd (omega (arith, m))
many_words (a ∷ b ∷ c ∷ d ∷ e ∷ f ∷ g ∷ h ∷ words) m =
    none_of forms a (b ∷ c ∷ d ∷ e ∷ f ∷ g ∷ h ∷ words) (refl, (refl, (no_cell b c d e f g h words, (refl, (refl, (refl, (refl, (refl, (refl, tt)))))))))

pub long_text : (text : List ℕ) → 6 < length (filter (λ b. b == 32) text) → None ≡ line_said text
long_text text m =
    let count = length-slice_split (λ b. b == 32) text in
    let spaces = length-filter (λ b. b == 32) text in
    sym (many_words (slice_split (λ b. b == 32) text) (omega (arith, count, spaces, m)))

pub ruleset longs = (long_text)
