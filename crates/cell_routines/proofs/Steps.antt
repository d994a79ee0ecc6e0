-- Words one after another, up to the first refusal.
use Rattle.std.proofs.Common.{◌≡◌, refl, ◌∙◌, ap, subst, arith, ℕ, ◌<◌, ◌^◌, List, [], ◌∷◌, ◌++◌, Option, Some, None, map}
use Rattle.std.specs.Prelude.{All, Result, Ok, Err, IfOk}
use Rattle.std.proofs.lemmas.List.{get_or-map, length-map}
use Rattle.std.proofs.lemmas.List.Elements.{All-append, All-cons, All-nil}
use Rattle.cell_world.specs.declared.fail.Fail.{Fail}
use Rattle.cell_world.specs.declared.refusal.Refusal.TheVariants.{NoEntry}
use Rattle.cell_world.specs.declared.state.NewCell.{NewCell}
use Rattle.cell_world.specs.Coherent.{IsLoadable}
use Rattle.cell_world.specs.Following.{Follows}
use Rattle.cell_world.specs.Outcome.{Outcome, ◌>>=◌, each, found}
use Rattle.cell_world.specs.Commands.SwapTransfer.{Begin as Place, begin_of, begins_of}
use Rattle.cell_world.specs.World.{attached}
use Rattle.cell_xfer.specs.Named.{AnswersAs}
use Rattle.cell_routines.specs.declared.entries.Begin.{Begin}
use Rattle.cell_routines.specs.Begins.{DefinitionRow, all_rows, begin_as, begins_by, with_begin}
use Rattle.cell_routines.proofs.Lows.{begin_is_low}
use Rattle.cell_routines.proofs.Named.{by_table}

module _ {X A : Type 0} (step : X → A → Outcome X) where
  after_same : (other : X → A → Outcome X) (items : List A) → ((y : X) → each step y items ≡ each other y items) → (o : Outcome X) → (o >>= (λ y. each step y items)) ≡ (o >>= (λ y. each other y items))
  after_same other items same (Ok y) = same y
  after_same other items same (Err refusal) = refl

  same_steps : (other : X → A → Outcome X) → ((x : X) (a : A) → step x a ≡ other x a) → (x : X) (items : List A) → each step x items ≡ each other x items
  same_steps other same x [] = refl
  same_steps other same x (a ∷ items) =
      ap (λ o. o >>= (λ y. each step y items)) (same x a) ∙ after_same other items (λ y. same_steps other same y items) (other x a)

abbrev with_said : List NewCell → List Place → List ℕ → Outcome (List Place)
with_said cells begins word = found (begin_of (map attached cells) word) (NoEntry word) >>= (λ begin. Ok (begins ++ begin ∷ []))

-- by a table that answers as the definitions do
pub by_words : (table : List DefinitionRow) (cells : List NewCell) (words : List (List ℕ)) → AnswersAs table (all_rows cells) → begins_by table words ≡ begins_of (map attached cells) words
by_words table cells words same =
    same_steps (with_begin table) (with_said cells)
    (λ begins word. ap (λ o. found o (NoEntry word) >>= (λ begin. Ok (begins ++ begin ∷ []))) (by_table table cells same word)) [] words

pub follows_words : (table : List DefinitionRow) (cells : List NewCell) (words : List (List ℕ)) {X : Type 0} (view : X → List Place) (r : Result X Fail) → AnswersAs table (all_rows cells)
    → Follows view r (begins_by table words) → Follows view r (begins_of (map attached cells) words)
follows_words table cells words view r same h = subst (Follows view r) (by_words table cells words same) h

same_ok : (x y : List Place) → (let o : Outcome (List Place) = Ok x in o) ≡ Ok y → x ≡ y
same_ok x y h = cc

abbrev IsLowPlace : Place → Type 0
IsLowPlace b = b.offset < 2 ^ 32

module _ (cells : List NewCell) (loadable : All (λ c. IsLoadable c.object) cells) where
  step_low : (begins more : List Place) (word : List ℕ) → All IsLowPlace begins → (o : Option Place) → begin_of (map attached cells) word ≡ o
      → (found o (NoEntry word) >>= (λ begin. Ok (begins ++ begin ∷ []))) ≡ Ok more → All IsLowPlace more
  step_low begins more word low None e h = absurd (cc h)
  step_low begins more word low (Some b) e h =
      subst (All IsLowPlace) (same_ok (begins ++ b ∷ []) more h) (All-append IsLowPlace begins (b ∷ []) low (All-cons IsLowPlace b [] (begin_is_low cells word b loadable e) (All-nil IsLowPlace)))

  each_low : (begins all : List Place) (words : List (List ℕ)) → All IsLowPlace begins → each (with_said cells) begins words ≡ Ok all → All IsLowPlace all
  each_low begins all [] low h = subst (All IsLowPlace) (same_ok begins all h) low
  each_low begins all (word ∷ words) low h = go (with_said cells begins word) refl h (λ more. each_low more all words)
    where
      go : (o : Outcome (List Place)) → with_said cells begins word ≡ o → (o >>= (λ more. each (with_said cells) more words)) ≡ Ok all
          → ((more : List Place) → All IsLowPlace more → each (with_said cells) more words ≡ Ok all → All IsLowPlace all) → All IsLowPlace all
      go (Ok more) e k rest = rest more (step_low begins more word low (begin_of (map attached cells) word) refl e) k
      go (Err refusal) e k rest = absurd (cc k)

  low_items : (begins : List Begin) → All IsLowPlace (map begin_as begins) → All (λ b. b.offset < 2 ^ 32) begins
  low_items begins low = λ k d lt.
      let long = length-map begins begin_as in
      subst IsLowPlace (get_or-map begin_as begins k d (begin_as d) lt) (low k (begin_as d) (omega (arith, long, lt)))

  pub begins_low : {X : Type 0} (items : X → List Begin) (words : List (List ℕ)) (r : Result X Fail) → Follows (λ x. map begin_as (items x)) r (begins_of (map attached cells) words)
      → IfOk r (λ x. All (λ b. b.offset < 2 ^ 32) (items x))
  begins_low items words (Ok x) h = low_items (items x) (each_low [] (map begin_as (items x)) words (All-nil IsLowPlace) h)
  begins_low items words (Err fail) h = tt
