-- Entries with their targets, one after the other.
use Rattle.std.proofs.Common.{◌≡◌, ℕ, zero, suc, ◌+◌, ◌<◌, ◌≤◌, Bool, true, false, cond, Option, Some, None, List, [], ◌∷◌, ◌++◌, length, get_or, take, refl, sym, ap, ◌∙◌, add-one, arith}
use Rattle.std.specs.Prelude.{find, option_map}
use Rattle.std.specs.Option.{option_or}
use Rattle.std.proofs.lemmas.List.Folds.{find-append}
use Rattle.cell_object.specs.declared.object.Entry.{Entry}
use Rattle.cell_world.specs.declared.state.NewCell.{NewCell}
use Rattle.cell_world.specs.declared.state.Target.{Target}
use Rattle.cell_world.specs.Linked.Field.{Bound, bound_by}
use Rattle.cell_link.specs.declared.numbers.Operands.{Operands}
use Rattle.cell_link.specs.Linked.{bound_in}
use Rattle.cell_link.specs.Tables.{high_among, is_high_at, operands_of}

bound_suc : (es : List Entry) (ts : List Target) (i : ℕ) (e : Entry) (t : Target) → i < length es → length ts ≡ length es
    → take (suc i) (bound_by es ts) ≡ take i (bound_by es ts) ++ record { entry = get_or es i e; target = get_or ts i t } ∷ []
bound_suc [] ts i e t below same = absurd (omega arith)
bound_suc (x ∷ xs) [] i e t below same = absurd (omega arith)
bound_suc (x ∷ xs) (y ∷ ys) zero e t below same = refl
bound_suc (x ∷ xs) (y ∷ ys) (suc i) e t below same = ap (λ (bs : List Bound). record { entry = x; target = y } ∷ bs) (bound_suc xs ys i e t (omega arith) (omega arith))

-- one entry more
pub bound_more : (es : List Entry) (ts : List Target) (i : ℕ) (e : Entry) (t : Target) → i < length es → length ts ≡ length es
    → take (i + 1) (bound_by es ts) ≡ take i (bound_by es ts) ++ record { entry = get_or es i e; target = get_or ts i t } ∷ []
bound_more es ts i e t below same = rw add-one (bound_suc es ts i e t below same)

-- all entries
pub bound_all : (es : List Entry) (ts : List Target) (i : ℕ) → length es ≤ i → take i (bound_by es ts) ≡ bound_by es ts
bound_all [] ts zero h = refl
bound_all [] ts (suc i) h = refl
bound_all (x ∷ xs) [] zero h = refl
bound_all (x ∷ xs) [] (suc i) h = refl
bound_all (x ∷ xs) (y ∷ ys) zero h = absurd (omega arith)
bound_all (x ∷ xs) (y ∷ ys) (suc i) h = ap (λ (bs : List Bound). record { entry = x; target = y } ∷ bs) (bound_all xs ys i (omega arith))

high_push : {X Y : Type 0} (val : X → Y) (o : Option X) (t : Bool) (x : X) → option_map val (option_or o (cond t (Some x) None)) ≡ option_or (option_map val o) (cond t (Some (val x)) None)
high_push val None true x = refl
high_push val None false x = refl
high_push val (Some y) t x = refl

pub highs_more : (c : NewCell) (targets : List Target) (es : List Entry) (i : ℕ) (e : Entry) (t : Target) (f g : ℕ × ℕ → Option Operands)
    → es ≡ c.object.entries → i < length es → length targets ≡ length c.object.entries
    → ((q : ℕ × ℕ) → f q ≡ high_among c (take i (bound_in c targets)) q)
    → ((q : ℕ × ℕ) → g q ≡ option_or (f q) (cond (is_high_at q (record { entry = get_or es i e; target = get_or targets i t })) (Some (operands_of c (record { entry = get_or es i e; target = get_or targets i t }))) None))
    → (q : ℕ × ℕ) → g q ≡ high_among c (take (i + 1) (bound_in c targets)) q
highs_more c targets es i e t f g entries below same were are q =
    let b : Bound = record { entry = get_or c.object.entries i e; target = get_or targets i t } in
    rw entries at (are q) ∙ rw (were q) (
    sym (high_push (operands_of c) (find (is_high_at q) (take i (bound_in c targets))) (is_high_at q b) b)
    ∙ ap (option_map (operands_of c)) (sym (find-append (is_high_at q) (take i (bound_in c targets)) (b ∷ [])))
    ∙ ap (λ (bs : List Bound). option_map (operands_of c) (find (is_high_at q) bs)) (sym (bound_more c.object.entries targets i e t (rw entries at below) same))
    )

pub highs_all : (c : NewCell) (targets : List Target) (es : List Entry) (i : ℕ) (f : ℕ × ℕ → Option Operands) → es ≡ c.object.entries → length es ≤ i
    → ((q : ℕ × ℕ) → f q ≡ high_among c (take i (bound_in c targets)) q) → (q : ℕ × ℕ) → f q ≡ high_among c (bound_in c targets) q
highs_all c targets es i f entries all are q = rw (bound_all c.object.entries targets i (rw entries at all)) at (are q)
