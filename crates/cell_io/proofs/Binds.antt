-- One definition after another, and the answers of calls one after another.
use Rattle.std.proofs.Common.{◌≡◌, refl, ap, ◌∙◌, ℕ, Bool, true, false, cond, List, length, Ok, Err}
use Rattle.std.specs.Prelude.{Contains, bytes_eq, nat_lt}
use Rattle.std.specs.List.{list_any}
use Rattle.std.specs.declared.result.Result.{Result}
use Rattle.std.proofs.lemmas.Slice.Eq.{bytes_eq-Decides}
use Rattle.std.proofs.lemmas.Map.Views.{Contains-from_any}
use Rattle.cell_io.specs.declared.stop.Stop.{Stop}
use Rattle.cell_io.specs.declared.stop.Stop.TheVariants.{Refused, ReadFault, OutOfMemory}
use Rattle.cell_io.specs.Within.{within, ◌>>=◌, Stops, Gives}

-- the first definition's refusal is that of both
pub stops_first : {R A B : Type 0} (stop : Stop R) (spec : Result A R) (f : A → Result B R) → Stops stop spec → Stops stop (spec >>= f)
stops_first (Refused why) spec f e = ap (λ s. s >>= f) e
stops_first ReadFault spec f e = tt
stops_first OutOfMemory spec f e = tt

-- the second goes on from the first's value
pub goes_on : {R A B : Type 0} (a : A) (spec : Result A R) (f : A → Result B R) → spec ≡ Ok a → (spec >>= f) ≡ f a
goes_on a spec f e = ap (λ s. s >>= f) e

pub stops_same : {R B : Type 0} (stop : Stop R) (spec same : Result B R) → same ≡ spec → Stops stop spec → Stops stop same
stops_same (Refused why) spec same e h = e ∙ h
stops_same ReadFault spec same e h = tt
stops_same OutOfMemory spec same e h = tt

-- what stops the second stops both
pub stops_next : {R A B : Type 0} (stop : Stop R) (a : A) (spec : Result A R) (f : A → Result B R) → spec ≡ Ok a → Stops stop (f a) → Stops stop (spec >>= f)
stops_next stop a spec f e h = stops_same stop (f a) (spec >>= f) (goes_on a spec f e) h

pub gives_same : {R B C : Type 0} (view : C → B) (r : Result C (Stop R)) (spec same : Result B R) → same ≡ spec → Gives view r spec → Gives view r same
gives_same view (Ok b) spec same e g = e ∙ g
gives_same view (Err stop) spec same e g = stops_same stop spec same e g

-- what is within its limit is the whole, and the second goes on from it
whole_where : {R X : Type 0} (many : Bool) (why : R) (xs got : List X) → cond many (Err why) (Ok xs) ≡ Ok got → xs ≡ got
whole_where true why xs got e = cc
whole_where false why xs got e = cc

pub is_whole : {R X : Type 0} (limit : ℕ) (why : R) (xs got : List X) → within limit why xs ≡ Ok got → xs ≡ got
is_whole limit why xs got e = whole_where (nat_lt limit (length xs)) why xs got e

then_where : {R X B : Type 0} (many : Bool) (why : R) (xs : List X) (f : List X → Result B R) (b : B) → (cond many (Err why) (Ok xs) >>= f) ≡ Ok b → f xs ≡ Ok b
then_where true why xs f b e = cc
then_where false why xs f b e = e

pub then_whole : {R X B : Type 0} (limit : ℕ) (why : R) (xs : List X) (f : List X → Result B R) (b : B) → (within limit why xs >>= f) ≡ Ok b → f xs ≡ Ok b
then_whole limit why xs f b e = then_where (nat_lt limit (length xs)) why xs f b e

pub listed : (name : List ℕ) (names : List (List ℕ)) → list_any (bytes_eq name) names ≡ true → Contains names name
listed name names e = Contains-from_any {eq = bytes_eq} (λ x y e. (bytes_eq-Decides x y).0 e) name names e
