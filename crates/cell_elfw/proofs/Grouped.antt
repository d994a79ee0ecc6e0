-- Entries by section.
use Rattle.std.proofs.Common.{◌≡◌, ℕ, suc, ◌+◌, ◌<◌, Bool, cond, List, [], ◌∷◌, ◌++◌, length, take, sym, ap, subst, ◌∙◌, refl, arith, get_or, length-append, length-take, ◌-◌, inl, inr}
use Rattle.std.proofs.lemmas.Bool.{cases_lt}
use Rattle.std.specs.Prelude.{◌==◌, if◌then◌else◌}
use Rattle.std.specs.List.{filter}
use Rattle.std.proofs.lemmas.List.{take_more, get_or_append_left, get_or-append_right}
use Rattle.std.proofs.lemmas.List.Elements.{filter_more, filter-append}
use Rattle.cell_num.specs.Lists.{numbered_from}
use Rattle.cell_object.specs.declared.object.Section.{Section}
use Rattle.cell_object.specs.declared.object.Entry.{Entry}
use Rattle.cell_object.specs.ImageParts.{entries_for, has_entries, relocated}
use Rattle.cell_elfw.specs.Drafts.{AreTables, IsEntryPut}

numbered_push : {X : Type 0} (a : ℕ) (xs : List X) (y : X) → numbered_from a (xs ++ (y ∷ [])) ≡ numbered_from a xs ++ ((a + length xs, y) ∷ [])
numbered_push a [] y = let e : a ≡ a + 0 = omega arith in ap (λ n. (n, y) ∷ []) e
numbered_push a (x ∷ xs) y =
    let e : suc a + length xs ≡ a + suc (length xs) = omega arith in
    ap (λ v. (a, x) ∷ v) (numbered_push (suc a) xs y ∙ ap (λ n. numbered_from (suc a) xs ++ ((n, y) ∷ [])) e)

filter_one : {X : Type 0} (p : X → Bool) (y : X) (b : Bool) → p y ≡ b → filter p (y ∷ []) ≡ cond b (y ∷ []) []
filter_one p y b e = ap (λ v. cond v (y ∷ []) []) e

relocated_push : (sections : List Section) (entries : List Entry) (s : Section) (b : Bool) → has_entries entries (1 + length sections) ≡ b
    → relocated (sections ++ (s ∷ [])) entries ≡ relocated sections entries ++ cond b ((1 + length sections, s) ∷ []) []
unfolding relocated
relocated_push sections entries s b e =
    ap (filter (λ row. has_entries entries row.0)) (numbered_push 1 sections s)
    ∙ filter-append (λ row. has_entries entries row.0) (numbered_from 1 sections) ((1 + length sections, s) ∷ [])
    ∙ ap (λ v. filter (λ row. has_entries entries row.0) (numbered_from 1 sections) ++ v) (filter_one (λ row. has_entries entries row.0) (1 + length sections, s) b e)

pub relocated_more : (sections : List Section) (entries : List Entry) (i : ℕ) (d : Section) (b : Bool) → i < length sections → has_entries entries (i + 1) ≡ b
    → relocated (take (i + 1) sections) entries ≡ relocated (take i sections) entries ++ cond b ((i + 1, get_or sections i d) ∷ []) []
relocated_more sections entries i d b lt e =
    let n : 1 + length (take i sections) ≡ i + 1 = omega (arith, length-take i sections) in
    ap (λ v. relocated v entries) (take_more sections i d lt)
    ∙ relocated_push (take i sections) entries (get_or sections i d) b (ap (has_entries entries) n ∙ e)
    ∙ ap (λ k. relocated (take i sections) entries ++ cond b ((k, get_or sections i d) ∷ []) []) n

pub put_more : {T : Type 0} (items : T → List Entry) (entries : List Entry) (i : ℕ) (d : Entry) (old new : List T) → i < length entries → length new ≡ length old
    → AreTables items (take i entries) old → IsEntryPut items (get_or entries i d) old new → AreTables items (take (i + 1) entries) new
unfolding entries_for
put_more items entries i d old new lt len are put = λ e k h.
    let h2 : k < length old = omega (arith, len, h) in
    put e k h2 ∙ ap (λ v. v ++ (if (get_or entries i d).section == k + 1 then get_or entries i d ∷ [] else [])) (are e k h2) ∙ sym (filter_more (λ x. x.section == k + 1) entries i d lt)

-- one more empty table
pub empty_put : {T : Type 0} (items : T → List Entry) (old : List T) (t : T) → items t ≡ [] → AreTables items [] old → AreTables items [] (old ++ (t ∷ []))
unfolding entries_for
empty_put items old t none are = λ z k h.
    elim (cases_lt k (length old)) [
      | inl lt ↦ ap items (get_or_append_left old (t ∷ []) z k lt) ∙ are z k lt
      | inr le ↦
          let n : k - length old ≡ 0 = omega (arith, le, h, length-append old (t ∷ [])) in
          ap items (get_or-append_right old (t ∷ []) (length old) k z refl le ∙ ap (λ j. get_or (t ∷ []) j z) n) ∙ none
    ]

pub empty_put_to : {T : Type 0} (items : T → List Entry) (old new : List T) (t : T) → new ≡ old ++ (t ∷ []) → items t ≡ [] → AreTables items [] old → AreTables items [] new
empty_put_to items old new t e none are = subst (AreTables items []) (sym e) (empty_put items old t none are)
