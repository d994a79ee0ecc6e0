-- Which classes start at a region, and what leaves it.
use Rattle.std.proofs.Common.{◌≡◌, refl, sym, ◌∙◌, ap, subst, ℕ, ◌+◌, ◌-◌, ◌≤◌, ◌<◌, inl, inr, Bool, true, false, cond, List, [], ◌∷◌, length, true≢false, Option, Some, None}
use Rattle.std.proofs.lemmas.Bool.{eqb-true, leb-true, ltb-true, and_parts}
use Rattle.std.specs.Prelude.{filter, fold, ◌==◌, nat_le, nat_lt}
use Rattle.cell_world.specs.Running.Memory.{covers, pasted}
use Rattle.cell_world.specs.Linked.Relink.{class_start, is_region_of, Patch, patched}
use Rattle.cell_world.specs.World.{Cell, Region}
use Rattle.cell_world.specs.declared.layout.Class.{Class}
use Rattle.cell_num.specs.Lists.{In}
use Rattle.cell_lemmas.proofs.Fields.Relinked.{restore}

-- no class of the cells starts at the region
pub none_there : (class : Class) (r : Region) (cells : List Cell) → ((c : Cell) → In c cells → (start : ℕ) → class_start c class ≡ Some start → start ≡ r.start → ⊥) → filter (is_region_of class r) cells ≡ []
none_there class r [] n = refl
none_there class r (c ∷ cells) n =
    subst (λ b. cond b (c ∷ filter (is_region_of class r) cells) (filter (is_region_of class r) cells) ≡ []) (sym (go (class_start c class) refl))
    (none_there class r cells (λ d k. n d (inr k)))
  where
    other : (start : ℕ) → class_start c class ≡ Some start → (b : Bool) → (start == r.start) ≡ b → b ≡ false
    other start e true h = absurd (n c (inl refl) start e (eqb-true start r.start h))
    other start e false h = refl

    go : (o : Option ℕ) → class_start c class ≡ o → elim o as (λ _. Bool) [ None ↦ false | Some start ↦ start == r.start ] ≡ false
    go None e = refl
    go (Some start) e = other start e (start == r.start) refl

-- patches that begin outside leave the region
pub passed_by : (r : Region) (ps : List Patch) → ((p : Patch) → In p ps → covers r p.addr ≡ false) → fold patched r ps ≡ r
passed_by r [] n = refl
passed_by r (p ∷ ps) n =
    let k : patched r p ≡ r = ap (λ b. cond b (record r { bytes = pasted r.bytes (p.addr - r.start) p.bytes }) r) (n p (inl refl)) in
    ap (λ (q : Region). fold patched q ps) k ∙ passed_by r ps (λ q m. n q (inr m))

-- the cell's class starts at the region
pub starts_at : (class : Class) (c : Cell) (r : Region) → is_region_of class r c ≡ true → class_start c class ≡ Some r.start
starts_at class c r h = go (class_start c class) h
  where
    go : (o : Option ℕ) → elim o as (λ _. Bool) [ None ↦ false | Some start ↦ start == r.start ] ≡ true → o ≡ Some r.start
    go None k = absurd (true≢false (sym k))
    go (Some m) k = ap (λ (x : ℕ). Some x) (eqb-true m r.start k)

-- the bytes that are there already
pub restore_same : (o : Option (List ℕ)) (r : Region) → ((bytes : List ℕ) → o ≡ Some bytes → bytes ≡ r.bytes) → restore o r ≡ r
restore_same None r f = refl
restore_same (Some bytes) r f = ap (λ (b : List ℕ). record r { bytes = b }) (f bytes refl)

pub uncovered : (r : Region) (x : ℕ) → (r.start ≤ x → x < r.start + length r.bytes → ⊥) → covers r x ≡ false
uncovered r x n = go (covers r x) refl
  where
    go : (b : Bool) → covers r x ≡ b → b ≡ false
    go true h = let k = and_parts (nat_le r.start x) (nat_lt x (r.start + length r.bytes)) h in absurd (n (leb-true r.start x k.0) (ltb-true x (r.start + length r.bytes) k.1))
    go false h = refl
