-- Scans over a table of entries.
use Rattle.std.proofs.Common.{◌≡◌, ℕ, ◌+◌, ◌<◌, ◌≤◌, Bool, true, false, Some, None, List, [], ◌∷◌, length, get_or, take, drop, refl, sym, ap, ◌∙◌}
use Rattle.std.specs.Prelude.{find, option_map}
use Rattle.std.proofs.lemmas.List.{take-append-drop}
use Rattle.std.proofs.lemmas.List.Folds.{find-append}
use Rattle.cell_object.specs.declared.object.Entry.{Entry}
use Rattle.cell_world.specs.declared.state.NewCell.{NewCell}
use Rattle.cell_world.specs.declared.state.Target.{Target}
use Rattle.cell_world.specs.Linked.Field.{Bound}
use Rattle.cell_link.specs.Linked.{bound_in}
use Rattle.cell_link.specs.Tables.{high_among, is_high_at, operands_of}
use Rattle.cell_link.proofs.BoundLemmas.{bound_more, bound_all}

found_early : {X : Type 0} (p : X → Bool) (n : ℕ) (xs : List X) (x : X) → find p (take n xs) ≡ Some x → find p xs ≡ Some x
found_early p n xs x h =
    ap (find p) (sym (take-append-drop n xs)) ∙ find-append p (take n xs) (drop n xs) ∙ rw h refl

-- the entry at a place is the first that is found
pub high_here : (c : NewCell) (targets : List Target) (es : List Entry) (i : ℕ) (e : Entry) (t : Target) (label : ℕ × ℕ)
    → es ≡ c.object.entries → i < length es → length targets ≡ length c.object.entries
    → find (is_high_at label) (take i (bound_in c targets)) ≡ None
    → is_high_at label (record { entry = get_or es i e; target = get_or targets i t }) ≡ true
    → Some (operands_of c (record { entry = get_or es i e; target = get_or targets i t })) ≡ high_among c (bound_in c targets) label
high_here c targets es i e t label entries below same none high =
    let bound = bound_in c targets in
    let b : Bound = record { entry = get_or c.object.entries i e; target = get_or targets i t } in
    let here : find (is_high_at label) (take (i + 1) bound) ≡ Some b =
    rw (bound_more c.object.entries targets i e t (rw entries at below) same) (find-append (is_high_at label) (take i bound) (b ∷ []) ∙ rw (none, rw entries at high) refl) in
    rw entries (sym (ap (option_map (operands_of c)) (found_early (is_high_at label) (i + 1) bound b here)))

pub high_apart : (c : NewCell) (targets : List Target) (es : List Entry) (i : ℕ) (e : Entry) (t : Target) (label : ℕ × ℕ)
    → es ≡ c.object.entries → i < length es → length targets ≡ length c.object.entries
    → find (is_high_at label) (take i (bound_in c targets)) ≡ None
    → is_high_at label (record { entry = get_or es i e; target = get_or targets i t }) ≡ false
    → find (is_high_at label) (take (i + 1) (bound_in c targets)) ≡ None
high_apart c targets es i e t label entries below same none low =
    let bound = bound_in c targets in
    let b : Bound = record { entry = get_or c.object.entries i e; target = get_or targets i t } in
    rw (bound_more c.object.entries targets i e t (rw entries at below) same) (find-append (is_high_at label) (take i bound) (b ∷ []) ∙ rw (none, rw entries at low) refl)

pub high_nowhere : (c : NewCell) (targets : List Target) (es : List Entry) (i : ℕ) (label : ℕ × ℕ) → es ≡ c.object.entries → length es ≤ i
    → find (is_high_at label) (take i (bound_in c targets)) ≡ None → None ≡ high_among c (bound_in c targets) label
high_nowhere c targets es i label entries all none =
    sym (ap (option_map (operands_of c)) (rw (bound_all c.object.entries targets i (rw entries at all)) at none))
