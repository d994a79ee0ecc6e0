-- What a stream holds and what a reader has left, as bytes come and go.
use Rattle.std.proofs.Common.{◌≡◌, ◌≢◌, ℕ, ◌+◌, ◌-◌, ◌<◌, ◌≤◌, List, [], ◌++◌, length, take, drop, Option, Some, None, refl, sym, ap, subst, ◌∙◌, arith, append_assoc, length-drop, length-append}
use Rattle.std.specs.Prelude.{Result, Ok, Err, OnOk, OnErr, IfSome}
use Rattle.std.proofs.Math.Seq.{take-add}
use Rattle.cell_io.specs.Files.{UpTo}
use Rattle.std.proofs.lemmas.List.{append-nil, take-append-drop, take_rest}
use Rattle.std.specs.Io.KnownBytes.{Appends, Keeps, Consumes, IsAtEnd}
use Rattle.cell_io.specs.Written.{AppendsPartOf, Takes}

pub appends_none : (old new : Option (List ℕ)) → Keeps old new → Appends old new []
appends_none None new k = tt
appends_none (Some xs) None k = k
appends_none (Some xs) (Some ys) k = k ∙ sym (append-nil xs)

pub keeps_none : (old new : Option (List ℕ)) (bs : List ℕ) → bs ≡ [] → Appends old new bs → Keeps old new
keeps_none None new bs e a = tt
keeps_none (Some xs) None bs e a = a
keeps_none (Some xs) (Some ys) bs e a = a ∙ ap (λ v. xs ++ v) e ∙ append-nil xs

pub appends_more : (old mid new : Option (List ℕ)) (a b : List ℕ) → Appends old mid a → Appends mid new b → Appends old new (a ++ b)
appends_more None mid new a b x y = tt
appends_more (Some xs) None new a b x y = absurd x
appends_more (Some xs) (Some ys) None a b x y = y
appends_more (Some xs) (Some ys) (Some zs) a b x y = y ∙ ap (λ v. v ++ b) x ∙ append_assoc xs a b

-- a front of the piece was appended
pub appends_front : (old new : Option (List ℕ)) (piece : List ℕ) (n : ℕ) → Appends old new (take n piece) → AppendsPartOf old new piece
appends_front old new piece n a = record { part = take n piece; rest = drop n piece; is = sym (take-append-drop n piece); appended = a }

pub ruleset streams = (appends_none, keeps_none)

pub keeps_self : (o : Option (List ℕ)) → Keeps o o
keeps_self None = tt
keeps_self (Some xs) = refl

pub appends_kept : (old mid new : Option (List ℕ)) (bs : List ℕ) → Appends old mid bs → Keeps mid new → Appends old new bs
appends_kept None mid new bs a k = tt
appends_kept (Some xs) None new bs a k = absurd a
appends_kept (Some xs) (Some ys) None bs a k = k
appends_kept (Some xs) (Some ys) (Some zs) bs a k = k ∙ a

-- one write more of the piece
pub taken_on : (piece : List ℕ) (at n : ℕ) → take at piece ++ take n (take (length piece - at) (drop at piece)) ≡ take (at + n) piece
taken_on piece at n = ap (λ v. take at piece ++ take n v) (take_rest piece at) ∙ sym (take-add at n piece)

pub within_on : (piece : List ℕ) (at n : ℕ) → at ≤ length piece → n ≤ length (take (length piece - at) (drop at piece)) → at + n ≤ length piece
within_on piece at n h k = let e = length-drop at piece in let few : n ≤ length (drop at piece) = subst (λ (v : List ℕ). n ≤ length v) (take_rest piece at) k in omega (arith, e, few)

pub on_err : {X E P : Type 0} (r : Result X E) → P → OnErr r P
on_err (Ok x) p = tt
on_err (Err e) p = p

pub on_ok : {X E P : Type 0} (r : Result X E) → P → OnOk r P
on_ok (Ok x) p = p
on_ok (Err e) p = tt

pub consumes_none : (o : Option (List ℕ)) → Consumes o o []
consumes_none None = tt
consumes_none (Some xs) = refl

pub consumes_kept : (old mid new : Option (List ℕ)) (bs : List ℕ) → Consumes old mid bs → Keeps mid new → Consumes old new bs
consumes_kept None mid new bs a k = tt
consumes_kept (Some xs) None new bs a k = absurd a
consumes_kept (Some xs) (Some ys) None bs a k = k
consumes_kept (Some xs) (Some ys) (Some zs) bs a k = a ∙ ap (λ v. bs ++ v) (sym k)

pub consumes_more : (old mid new : Option (List ℕ)) (a b : List ℕ) → Consumes old mid a → Consumes mid new b → Consumes old new (a ++ b)
consumes_more None mid new a b x y = tt
consumes_more (Some xs) None new a b x y = absurd x
consumes_more (Some xs) (Some ys) None a b x y = y
consumes_more (Some xs) (Some ys) (Some zs) a b x y = x ∙ ap (λ v. a ++ v) y ∙ sym (append_assoc a b zs)

-- more than the limit was taken
pub taken_full : (old new : Option (List ℕ)) (got : List ℕ) (limit : ℕ) → Consumes old new got → length got ≡ limit + 1 → IfSome old (λ all. UpTo limit all got)
taken_full None new got limit c e = tt
taken_full (Some all) None got limit c e = absurd c
taken_full (Some all) (Some left) got limit c e =
    let n : length all ≡ length got + length left = ap length c ∙ length-append got left in
    record { whole = λ few. absurd (omega (arith, n, e, few)); more = λ many. e }

-- all was taken
pub taken_whole : (old new : Option (List ℕ)) (got : List ℕ) (limit : ℕ) → Consumes old new got → IsAtEnd new → length got ≤ limit + 1 → IfSome old (λ all. UpTo limit all got)
taken_whole None new got limit c d most = tt
taken_whole (Some all) None got limit c d most = absurd c
taken_whole (Some all) (Some left) got limit c d most =
    let same : all ≡ got = c ∙ ap (λ v. got ++ v) d ∙ append-nil got in
    let n : length all ≡ length got = ap length same in
    record { whole = λ few. sym same; more = λ many. omega (arith, n, many, most) }

pub takes_nothing : (old new : Option (List ℕ)) (before : List ℕ) → Keeps old new → Takes old new before before
takes_nothing old new before k = record { part = []; is = sym (append-nil before); consumed = consumes_kept old old new [] (consumes_none old) k }

pub takes : (old new : Option (List ℕ)) (before got part : List ℕ) → got ≡ before ++ part → Consumes old new part → Takes old new before got
takes old new before got part e c = record { part = part; is = e; consumed = c }

pub takes_on : (first old new : Option (List ℕ)) (before got : List ℕ) → Consumes first old before → Takes old new before got → Consumes first new got
takes_on first old new before got c t = subst (λ (v : List ℕ). Consumes first new v) (sym t.is) (consumes_more first old new before t.part c t.consumed)
