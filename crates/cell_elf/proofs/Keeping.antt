-- What is kept of items that come in several runs.
use Rattle.std.proofs.Common.{◌≡◌, ℕ, ◌≤◌, List, [], ◌++◌, length, append_assoc, true, false, Option, Some, None, sym, ap, subst, refl, ◌∙◌, arith}
use Rattle.std.proofs.lemmas.Bool.{eqb-true, eqb-false}
use Rattle.std.proofs.lemmas.List.{append-nil, take_all, length-take-le}
use Rattle.cell_object.specs.Reads.{loaded_section}
use Rattle.cell_object.specs.Header.{section_header}
use Rattle.cell_object.specs.Sections.{is_alloc}
use Rattle.cell_file.specs.Kept.{Adds, IsLike, is_full}

-- nothing came
pub adds_none : {T : Type 0} (holds : List T → List T → Type 0) (none : List T) → none ≡ [] → Adds holds holds none
adds_none {T = T} holds none e aim before h = subst (holds aim) (sym (ap (λ (xs : List T). before ++ xs) e ∙ append-nil before)) h

-- one run came after the other
pub adds_more : {T : Type 0} (old here new : List T → List T → Type 0) (first more all : List T) → all ≡ first ++ more → Adds old here first → Adds here new more → Adds old new all
adds_more {T = T} old here new first more all e one two aim before h =
    subst (new aim) (append_assoc before first more ∙ sym (ap (λ (xs : List T). before ++ xs) e)) (two aim (before ++ first) (one aim before h))

-- the items that came are the list exactly where each was as in it and as many came
pub whole_is : {T : Type 0} (list : List T) (same : Option ℕ) (given : List T) → IsLike list same given → is_full list same ≡ true → given ≡ list
whole_is list None given h e = absurd cc
whole_is list (Some count) given h e =
    let all : length list ≤ count = omega (arith, eqb-true count (length list) e) in h.1 ∙ take_all count list all

pub whole_not : {T : Type 0} (list : List T) (same : Option ℕ) (given : List T) → IsLike list same given → is_full list same ≡ false → given ≡ list → ⊥
whole_not list None given h e is = h [] (append-nil given ∙ is)
whole_not list (Some count) given h e is =
    let len : length given ≡ count = ap length h.1 ∙ length-take-le count list h.0 in
    eqb-false count (length list) e (sym len ∙ ap length is)

-- nothing came yet
pub none_like : {T : Type 0} (aim list : List T) (same : Option ℕ) → list ≡ aim → same ≡ Some 0 → (list ≡ aim) × IsLike aim same []
none_like {T = T} aim list same e none =
    let low : 0 ≤ length aim = omega arith in
    let started : IsLike aim (Some 0) [] = (low, refl) in (e, subst (λ (o : Option ℕ). IsLike aim o []) (sym none) started)

-- a section that isn't loaded adds nothing
pub loaded_section-none : (file : List ℕ) (n : ℕ) → is_alloc (section_header file n) ≡ false → loaded_section file n ≡ []
unfolding loaded_section
loaded_section-none file n e = rw e refl

pub ruleset keeping = (loaded_section-none)
