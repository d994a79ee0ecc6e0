-- The first PCREL_HI20 entry of each place, with one more entry.
use Rattle.std.proofs.Common.{◌≡◌, ℕ, ◌+◌, ◌<◌, List, [], ◌∷◌, Some, None, cond, length, get_or, take, ap, sym, ◌∙◌}
use Rattle.std.specs.Prelude.{Option, find}
use Rattle.std.specs.Option.{option_or}
use Rattle.std.proofs.lemmas.List.{take_more}
use Rattle.std.proofs.lemmas.List.Folds.{find-append}
use Rattle.cell_object.specs.declared.object.Entry.{Entry}
use Rattle.cell_target.specs.Highs.{is_high_at}

pub highs_more : (entries : List Entry) (i : ℕ) (d : Entry) (q : ℕ × ℕ) (old new : Option Entry) → i < length entries
    → new ≡ option_or old (cond (is_high_at q (get_or entries i d)) (Some (get_or entries i d)) None)
    → old ≡ find (is_high_at q) (take i entries) → new ≡ find (is_high_at q) (take (i + 1) entries)
highs_more entries i d q old new lt e far =
    e ∙ ap (λ o. option_or o (cond (is_high_at q (get_or entries i d)) (Some (get_or entries i d)) None)) far
    ∙ sym (find-append (is_high_at q) (take i entries) (get_or entries i d ∷ []))
    ∙ ap (find (is_high_at q)) (sym (take_more entries i d lt))
