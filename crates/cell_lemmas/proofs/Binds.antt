-- Outcomes that go on with outcomes.
use Rattle.std.proofs.Common.{◌≡◌, refl, ◌∙◌, ap, Ok, Err}
use Rattle.cell_world.specs.declared.refusal.Refusal.{Refusal}
use Rattle.cell_world.specs.Outcome.{Outcome, ◌>>=◌, ◌>>◌}

pub bind_is : {X Y : Type 0} (a : Outcome X) (f : X → Outcome Y) (x : X) (r : Outcome Y) → a ≡ Ok x → f x ≡ r → (a >>= f) ≡ r
bind_is a f x r e h = ap (λ o. o >>= f) e ∙ h

pub bind_err : {X Y : Type 0} (a : Outcome X) (f : X → Outcome Y) (r : Refusal) → a ≡ Err r → (a >>= f) ≡ Err r
bind_err a f r e = ap (λ o. o >>= f) e

-- first a function of the value, and then the rest
pub bind_map : {X Y Z : Type 0} (a : Outcome X) (g : X → Y) (f : Y → Outcome Z) → ((a >>= (λ x. Ok (g x))) >>= f) ≡ (a >>= (λ x. f (g x)))
bind_map (Ok x) g f = refl
bind_map (Err r) g f = refl

pub bind_assoc : {X Y Z : Type 0} (a : Outcome X) (g : X → Outcome Y) (f : Y → Outcome Z) → ((a >>= g) >>= f) ≡ (a >>= (λ x. g x >>= f))
bind_assoc (Ok x) g f = refl
bind_assoc (Err r) g f = refl

-- the rests need agree on the value alone
pub bind_same : {X Y : Type 0} (a : Outcome X) (f g : X → Outcome Y) → ((x : X) → a ≡ Ok x → f x ≡ g x) → (a >>= f) ≡ (a >>= g)
bind_same (Ok x) f g h = h x refl
bind_same (Err r) f g h = refl

-- what went well went well step by step
pub bind_ok : {X Y : Type 0} (a : Outcome X) (f : X → Outcome Y) (y : Y) → (a >>= f) ≡ Ok y → (x : X) × (a ≡ Ok x) × (f x ≡ Ok y)
bind_ok (Ok x) f y h = (x, refl, h)
bind_ok (Err r) f y h = cc

pub ok_same : {X : Type 0} (x y : X) → Ok x ≡ (let o : Outcome X = Ok y in o) → x ≡ y
ok_same x y e = cc
