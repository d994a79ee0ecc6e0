-- Steps that may be refused, one after another.
use Rattle.std.proofs.Common.{◌≡◌, refl, ◌∙◌, ap, Bool, true, false}
use Rattle.std.specs.Prelude.{Option, Some, None, Ok, Err}
use Rattle.cell_world.specs.declared.refusal.Refusal.{Refusal}
use Rattle.cell_world.specs.Outcome.{Outcome, ◌>>=◌, ◌>>◌, need, refused_by}

pub then_assoc : {X Y Z : Type 0} (a : Outcome X) (b : Outcome Y) (c : Outcome Z) → ((a >> b) >> c) ≡ (a >> (b >> c))
then_assoc (Ok x) b c = refl
then_assoc (Err r) b c = refl

pub then_ok : {X Y : Type 0} (a : Outcome X) (b : Outcome Y) (y : Y) → (a >> b) ≡ Ok y → (x : X) × (a ≡ Ok x) × (b ≡ Ok y)
then_ok (Ok x) b y h = (x, refl, h)
then_ok (Err r) b y h = cc

pub bind_ok : {X Y : Type 0} (a : Outcome X) (f : X → Outcome Y) (y : Y) → (a >>= f) ≡ Ok y → (x : X) × (a ≡ Ok x) × (f x ≡ Ok y)
bind_ok (Ok x) f y h = (x, refl, h)
bind_ok (Err r) f y h = cc

pub need_ok : (b : Bool) (r : Refusal) (x : Unit {0}) → need b r ≡ Ok x → b ≡ true
need_ok true r x h = refl
need_ok false r x h = cc

pub refused_ok : (o : Option Refusal) (x : Unit {0}) → refused_by o ≡ Ok x → o ≡ None
refused_ok None x h = refl
refused_ok (Some r) x h = cc

pub ok_same : {X : Type 0} (x y : X) → (let one : Outcome X = Ok x in one ≡ Ok y) → x ≡ y
ok_same x y h = cc

-- the same steps on both sides, what they come to being gone on with by k
module _ {X Y : Type 0} (k : X → Outcome Y) where
  pub need_then : (b c : Bool) (r : Refusal) (o : Outcome Y) (p : Outcome X) → b ≡ c → o ≡ (p >>= k) → (need b r >> o) ≡ (need c r >> p >>= k)
  need_then b true r o p e h = ap (λ t. need t r >> o) e ∙ h
  need_then b false r o p e h = ap (λ t. need t r >> o) e

  pub refused_then : (b c : Option Refusal) (o : Outcome Y) (p : Outcome X) → b ≡ c → o ≡ (p >>= k) → (refused_by b >> o) ≡ (refused_by c >> p >>= k)
  refused_then b None o p e h = ap (λ t. refused_by t >> o) e ∙ h
  refused_then b (Some r) o p e h = ap (λ t. refused_by t >> o) e

  pub bind_then : {A : Type 0} (a : Outcome A) (f : A → Outcome Y) (g : A → Outcome X) → ((x : A) → f x ≡ (g x >>= k)) → (a >>= f) ≡ (a >>= g >>= k)
  bind_then (Ok x) f g h = h x
  bind_then (Err r) f g h = refl
