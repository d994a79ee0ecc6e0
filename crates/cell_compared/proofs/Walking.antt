-- Lines against fresh ones, piece by piece.
use Rattle.std.proofs.Common.{◌≡◌, refl, sym, ◌∙◌, ap, subst, ℕ, Bool, true, false, cond, List, [], ◌∷◌, ◌++◌, drop, Ok, Err}
use Rattle.std.specs.Prelude.{Some, Result}
use Rattle.cell_num.specs.Lists.{equals}
use Rattle.cell_dumped.specs.Texts.{line_text}
use Rattle.cell_world.specs.declared.line.DumpLine.{DumpLine}
use Rattle.cell_audit.specs.Audits.{Audit, ◌>>=◌, first_difference, refused_by}
use Rattle.cell_audit.specs.Dumps.{Text}
use Rattle.cell_audit.specs.Outcome.{FailsBy}
use Rattle.cell_audit.specs.declared.fail.AuditFail.{AuditFail}
use Rattle.cell_audit.specs.declared.fail.AuditFail.TheVariants.{Unreadable, NoObject, Misplaced, Unlinked, Differs, OutOfMemory}
use Rattle.cell_compared.specs.Walk.{Walks, ended, walk}

pub walk_none : (texts : List Text) → walk texts [] ≡ Ok texts
walk_none [] = refl
walk_none (t ∷ texts) = refl

walk_nothing : (lines : List DumpLine) → walk [] lines ≡ Ok []
walk_nothing [] = refl
walk_nothing (l ∷ lines) = refl

-- what is left behind the first lines is compared with the others
pub walk_append : (texts : List Text) (xs ys : List DumpLine) → walk texts (xs ++ ys) ≡ (walk texts xs >>= λ rest. walk rest ys)
walk_append [] xs ys = walk_nothing (xs ++ ys) ∙ sym (walk_nothing ys) ∙ ap (λ (a : Audit (List Text)). a >>= λ rest. walk rest ys) (sym (walk_nothing xs))
walk_append (t ∷ texts) [] ys = refl
walk_append (t ∷ texts) (x ∷ xs) ys = go (equals (drop 2 t.1) (line_text x)) (walk_append texts xs ys)
  where
    go : (b : Bool) → walk texts (xs ++ ys) ≡ (walk texts xs >>= λ rest. walk rest ys)
        → cond b (walk texts (xs ++ ys)) (Err (Differs t.0 (drop 2 t.1) (line_text x))) ≡ (cond b (walk texts xs) (Err (Differs t.0 (drop 2 t.1) (line_text x))) >>= λ rest. walk rest ys)
    go true e = e
    go false e = refl

pub fails_bind : {X Y : Type 0} (fault : AuditFail) (said : Audit X) (f : X → Audit Y) → FailsBy fault said → FailsBy fault (said >>= f)
fails_bind OutOfMemory said f h = tt
fails_bind (Unreadable line) said f h = ap (λ a. a >>= f) h
fails_bind (NoObject line) said f h = ap (λ a. a >>= f) h
fails_bind (Misplaced line) said f h = ap (λ a. a >>= f) h
fails_bind (Unlinked line entry) said f h = ap (λ a. a >>= f) h
fails_bind (Differs line held fresh) said f h = ap (λ a. a >>= f) h

pub fails_same : {X : Type 0} (fault : AuditFail) (said other : Audit X) → said ≡ other → FailsBy fault said → FailsBy fault other
fails_same fault said other e h = subst (FailsBy fault) e h

pub walk_goes : (old new : List Text) (xs ys : List DumpLine) → walk old xs ≡ Ok new → walk old (xs ++ ys) ≡ walk new ys
walk_goes old new xs ys e = walk_append old xs ys ∙ ap (λ (a : Audit (List Text)). a >>= λ rest. walk rest ys) e

pub walk_fails : (fault : AuditFail) (old : List Text) (xs ys : List DumpLine) → FailsBy fault (walk old xs) → FailsBy fault (walk old (xs ++ ys))
walk_fails fault old xs ys h = fails_same fault _ _ (sym (walk_append old xs ys)) (fails_bind fault (walk old xs) (λ rest. walk rest ys) h)

-- the first lines are gone through, and then the others
pub walks_both : (old new last : List Text) (xs ys : List DumpLine) (r : Result (Unit {0}) AuditFail) → walk old xs ≡ Ok new → Walks new ys last r → Walks old (xs ++ ys) last r
walks_both old new last xs ys (Ok done) e h = walk_goes old new xs ys e ∙ h
walks_both old new last xs ys (Err fault) e h = fails_same fault _ _ (sym (walk_goes old new xs ys e)) h

-- the line that stands first is the fresh one
pub one_shown : (old new : List Text) (t : Text) (l : DumpLine) (fresh : List ℕ) → old ≡ t ∷ new → true ≡ equals (drop 2 t.1) fresh → fresh ≡ line_text l → walk old (l ∷ []) ≡ Ok new
one_shown old new t l fresh e h f =
    ap (λ (ts : List Text). walk ts (l ∷ [])) e
    ∙ (ap (λ (b : Bool). cond b (walk new []) (Err (Differs t.0 (drop 2 t.1) (line_text l)))) (sym (h ∙ ap (equals (drop 2 t.1)) f)) ∙ walk_none new)

pub walks_same : (old new : List Text) (xs ys : List DumpLine) (r : Result (Unit {0}) AuditFail) → xs ≡ ys → Walks old xs new r → Walks old ys new r
walks_same old new xs ys r e h = subst (λ (ls : List DumpLine). Walks old ls new r) e h

pub walks_fail : (old new last : List Text) (xs ys : List DumpLine) (fault : AuditFail) → FailsBy fault (walk old xs) → Walks old (xs ++ ys) last (Err fault)
walks_fail old new last xs ys fault h = walk_fails fault old xs ys h

-- ---- loops
-- one more piece of what is left
pub goes_on : (now next : List Text) (rest piece later : List DumpLine) (all : Audit (List Text)) → rest ≡ piece ++ later → walk now rest ≡ all → walk now piece ≡ Ok next → walk next later ≡ all
goes_on now next rest piece later all e far done = sym (walk_goes now next piece later done) ∙ (ap (walk now) (sym e) ∙ far)

pub fails_here : (fault : AuditFail) (now : List Text) (rest piece later : List DumpLine) (all : Audit (List Text)) → rest ≡ piece ++ later → walk now rest ≡ all → FailsBy fault (walk now piece) → FailsBy fault all
fails_here fault now rest piece later all e far h = fails_same fault _ _ (ap (walk now) (sym e) ∙ far) (walk_fails fault now piece later h)

pub all_gone : (now : List Text) (rest : List DumpLine) (all : Audit (List Text)) → rest ≡ [] → walk now rest ≡ all → all ≡ Ok now
all_gone now rest all e far = sym (sym (walk_none now) ∙ (ap (walk now) (sym e) ∙ far))

-- ---- all lines
pub difference_is : (texts : List Text) (lines : List DumpLine) → refused_by (λ (fault : AuditFail). fault) (first_difference texts lines) ≡ (walk texts lines >>= ended)
difference_is [] lines = ap (λ (a : Audit (List Text)). a >>= ended) (sym (walk_nothing lines))
difference_is (t ∷ texts) [] = refl
difference_is (t ∷ texts) (l ∷ lines) = go (equals (drop 2 t.1) (line_text l)) (difference_is texts lines)
  where
    go : (b : Bool) → refused_by (λ (fault : AuditFail). fault) (first_difference texts lines) ≡ (walk texts lines >>= ended)
        → refused_by (λ (fault : AuditFail). fault) (cond b (first_difference texts lines) (Some (Differs t.0 (drop 2 t.1) (line_text l))))
        ≡ (cond b (walk texts lines) (Err (Differs t.0 (drop 2 t.1) (line_text l))) >>= ended)
    go true e = e
    go false e = refl

pub walked_ended : (texts rest : List Text) (lines : List DumpLine) (said : Audit (Unit {0})) → walk texts lines ≡ Ok rest → ended rest ≡ said → refused_by (λ (fault : AuditFail). fault) (first_difference texts lines) ≡ said
walked_ended texts rest lines said e f = difference_is texts lines ∙ (ap (λ (a : Audit (List Text)). a >>= ended) e ∙ f)

pub walk_differs : (fault : AuditFail) (texts : List Text) (lines : List DumpLine) → FailsBy fault (walk texts lines) → FailsBy fault (refused_by (λ (fault : AuditFail). fault) (first_difference texts lines))
walk_differs fault texts lines h = fails_same fault _ _ (sym (difference_is texts lines)) (fails_bind fault (walk texts lines) ended h)
