-- New cells in places.
use Rattle.std.proofs.Common.{◌≡◌, refl, ap, ap₂, arith, List, [], ◌∷◌, map, length}
use Rattle.std.specs.Prelude.{Err, Ok, All}
use Rattle.std.proofs.lemmas.List.Elements.{All-weaker}
use Rattle.cell_object.specs.Sound.{IsSoundObject}
use Rattle.cell_world.specs.declared.refusal.Refusal.{Refusal}
use Rattle.cell_world.specs.Outcome.{Outcome, ◌>>=◌, ◌>>◌}
use Rattle.cell_world.specs.declared.state.NewCell.{NewCell}
use Rattle.cell_world.specs.Coherent.{IsLoadable}
use Rattle.cell_world.specs.declared.layout.Starts.{Starts}
use Rattle.cell_layout.specs.Many.{all_in_places, in_places}

-- what places don't matter to
pub kept : {X : Type 0} (f : NewCell → X) → ((s : Starts) (c : NewCell) → f (in_places s c) ≡ f c) → (starts : List Starts) (cells : List NewCell) → length starts ≡ length cells
    → map f (all_in_places starts cells) ≡ map f cells
kept f same [] [] long = refl
kept f same [] (c ∷ cells) long = absurd (omega (arith, long))
kept f same (s ∷ starts) [] long = absurd (omega (arith, long))
kept {X} f same (s ∷ starts) (c ∷ cells) long = ap₂ (λ (x : X) (xs : List X). x ∷ xs) (same s c) (kept f same starts cells (omega (arith, long)))

pub sound_objects : (cells : List NewCell) → All (λ c. IsLoadable c.object) cells → All (λ c. IsSoundObject c.object) cells
sound_objects cells all = All-weaker (λ (c : NewCell). IsLoadable c.object) (λ (c : NewCell). IsSoundObject c.object) (λ c k. k.sound) cells all

-- what is refused is so whatever would come after it
pub none_placed : {A B C : Type 0} (o : Outcome A) (f : A → Outcome B) (g : A → Outcome C) (r : Refusal) → (o >>= f) ≡ Err r → (o >>= (λ x. f x >> g x)) ≡ Err r
none_placed (Ok x) f g r e = ap (λ o. o >> g x) e
none_placed (Err other) f g r e = cc
