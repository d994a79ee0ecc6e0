-- Rules that are tried one after the other.
use Rattle.std.proofs.Common.{◌≡◌, List, [], ◌∷◌, ◌++◌, Result, Ok, Err, refl, sym, ap}
use Rattle.std.specs.Prelude.{IfOk}
use Rattle.cell_object.specs.declared.object.Object.{Object}
use Rattle.cell_object.specs.Reads.{object_unless}
use Rattle.cell_object.specs.Bytes.{Broken, checked}
use Rattle.cell_file.specs.declared.fail.ReadFail.{ReadFail}
use Rattle.cell_file.specs.declared.fail.ReadFail.TheVariants.{BadObject, OutOfMemory}
use Rattle.cell_file.specs.Outcome.{Fails, Gives}

-- where nothing of the first list is broken, the second one decides
pub checked-passed : (xs ys : List Broken) → checked xs ≡ Ok tt → checked (xs ++ ys) ≡ checked ys
checked-passed [] ys e = refl
checked-passed (x ∷ xs) ys e = absurd cc

checked-broken : (b : Broken) (xs ys : List Broken) → checked xs ≡ Err b → checked (xs ++ ys) ≡ Err b
checked-broken b [] ys e = absurd cc
checked-broken b (x ∷ xs) ys e = cc

-- a failure by the first list is one by the whole
pub Fails-append : (e : ReadFail) (xs ys : List Broken) → Fails e (checked xs) → Fails e (checked (xs ++ ys))
Fails-append (BadObject rule at) xs ys h = checked-broken (rule, at) xs ys h
Fails-append OutOfMemory xs ys h = tt

pub ruleset passing = (checked-passed, Fails-append)

-- what is read, from the passes over the rules and what they put together
pub gives_object : (r : Result Object ReadFail) (rules : List Broken) (object : Object) → Gives (λ _. tt) r (checked rules) → IfOk r (λ o. o ≡ object) → Gives (λ o. o) r (object_unless rules object)
gives_object (Ok o) [] object passed is = ap Ok (sym is)
gives_object (Ok o) (x ∷ xs) object passed is = absurd cc
gives_object (Err (BadObject rule at)) [] object failed is = absurd cc
gives_object (Err (BadObject rule at)) (x ∷ xs) object failed is = cc
gives_object (Err OutOfMemory) rules object failed is = tt
