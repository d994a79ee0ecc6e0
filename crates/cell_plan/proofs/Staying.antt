-- What doesn't fit in a cell is what changes there.
use Rattle.std.proofs.Common.{◌≡◌, ℕ, zero, suc, ◌<◌, ◌&&◌, not, Bool, true, false, List, [], ◌∷◌, length, get_or, refl, sym, ap, ◌∙◌, arith, All}
use Rattle.std.specs.Prelude.{find, option_map}
use Rattle.std.specs.List.{list_any}
use Rattle.std.proofs.lemmas.List.Elements.{All-head, All-tail}
use Rattle.std.proofs.lemmas.List.Folds.{list_any_at}
use Rattle.cell_link.proofs.FirstFieldLemmas.{at_self}
use Rattle.cell_object.specs.declared.object.Entry.{Entry}
use Rattle.cell_world.specs.declared.state.NewCell.{NewCell}
use Rattle.cell_world.specs.declared.state.Target.{Target}
use Rattle.cell_world.specs.World.{World, Cell}
use Rattle.cell_world.specs.Linked.Field.{Bound, bound_by, fits, is_at}
use Rattle.cell_world.specs.Linked.Fit.{misfit_in, overflow_at}
use Rattle.cell_world.specs.Linked.Relink.{bound_entries}
use Rattle.cell_world.specs.Linked.Target.{targets_of}
use Rattle.cell_world.specs.Changed.{changed_misfit, differs, is_changed, now_in}
use Rattle.cell_plan.specs.Staying.{StaysBy}

entries_same : (w : World) (c : Cell) → (now_in w c).placed ≡ c.placed → (now_in w c).object.entries ≡ c.object.entries
entries_same w c same = ap (λ (p : NewCell). p.object.entries) same

-- what holds of each entry of a list of bound entries, at an entry that fails
find_agree : {X : Type 0} (p q : X → Bool) (xs : List X) → All (λ x. p x ≡ q x) xs → find p xs ≡ find q xs
find_agree p q [] same = refl
find_agree {X = X} p q (x ∷ xs) same = rw (All-head (λ (y : X). p y ≡ q y) x xs same, find_agree p q xs (All-tail (λ (y : X). p y ≡ q y) x xs same)) refl

any_self : (f : Entry → Bool) (e : Entry) → f e ≡ true → is_at e e && f e ≡ true
any_self f e h = rw (at_self e, h) refl

any_in : (f : Entry → Bool) (xs : List Entry) (k : ℕ) (e d : Entry) → k < length xs → get_or xs k d ≡ e → f e ≡ true → list_any (λ x. is_at e x && f x) xs ≡ true
any_in f xs k e d below there h = list_any_at (λ x. is_at e x && f x) xs k d below (ap (λ x. is_at e x && f x) there ∙ any_self f e h)

pub bound_entry : (es : List Entry) (ts : List Target) (k : ℕ) (d : Bound) (e : Entry) → k < length (bound_by es ts) → (k < length es) × (get_or es k e ≡ (get_or (bound_by es ts) k d).entry)
bound_entry [] ts k d e below = absurd (omega arith)
bound_entry (x ∷ xs) [] k d e below = absurd (omega arith)
bound_entry (x ∷ xs) (t ∷ ts) zero d e below = (omega arith, refl)
bound_entry (x ∷ xs) (t ∷ ts) (suc k) d e below = let h = bound_entry xs ts k d e (omega arith) in (omega (arith, h.0), h.1)

-- an entry that doesn't fit differs, so it is at a field that changes
unfit_changes : (v w : World) (c : Cell) → StaysBy v w c
    → All (λ b. (is_changed v w c b.entry && not (fits (now_in w c).placed (bound_entries w (now_in w c)) b)) ≡ not (fits (now_in w c).placed (bound_entries w (now_in w c)) b)) (bound_entries w (now_in w c))
unfit_changes v w c stays = λ k d below.
    let b = get_or (bound_entries w (now_in w c)) k d in
    let at = bound_entry (now_in w c).object.entries (targets_of w (now_in w c)) k d b.entry below in
    go (is_changed v w c b.entry) (differs v w c b.entry) (fits (now_in w c).placed (bound_entries w (now_in w c)) b)
    (stays.fit k d below)
    (λ h. any_in (differs v w c) c.object.entries k b.entry b.entry (rw (← entries_same w c stays.same) at.0) (ap (λ es. get_or es k b.entry) (sym (entries_same w c stays.same)) ∙ at.1) h)
  where
    go : (changed differ fit : Bool) → (differ ≡ false → fit ≡ true) → (differ ≡ true → changed ≡ true) → (changed && not fit) ≡ not fit
    go true differ fit f g = refl
    go false differ true f g = refl
    go false true false f g = absurd (never (g refl))
      where
        never : false ≡ true → ⊥
        never h = absurd cc
    go false false false f g = absurd (never (f refl))
      where
        never : false ≡ true → ⊥
        never h = absurd cc

pub misfit_changed : (v w : World) (c : Cell) → StaysBy v w c → changed_misfit v w c ≡ misfit_in w (now_in w c)
misfit_changed v w c stays =
    ap (option_map (overflow_at (now_in w c)))
    (find_agree (λ b. is_changed v w c b.entry && not (fits (now_in w c).placed (bound_entries w (now_in w c)) b)) (λ b. not (fits (now_in w c).placed (bound_entries w (now_in w c)) b)) (bound_entries w (now_in w c)) (unfit_changes v w c stays))
