-- Pages that are set one after another.
use Rattle.std.proofs.Common.{◌≡◌, ℕ, ◌+◌, ◌<◌, Bool, List, ◌++◌, length, take, drop, replicate, sym, ap, ◌∙◌, arith}
use Rattle.std.proofs.Math.ListN.{set}
use Rattle.std.proofs.lemmas.List.{take_all, length-replicate}
use Rattle.std.proofs.lemmas.List.Edits.{fill_from_more}
use Rattle.cell_world.specs.Placed.Pages.{filled}

whole : (table : List Bool) (page i : ℕ) (value : Bool) → filled table page i value ≡ take page table ++ take i (replicate i value) ++ drop (page + i) table
whole table page i value =
    ap (λ (set_pages : List Bool). take page table ++ set_pages ++ drop (page + i) table)
    (sym (take_all i (replicate i value) (omega (arith, length-replicate i value))))

-- one page more
pub filled_more : (table : List Bool) (page i : ℕ) (value : Bool) → page + i < length table → set (filled table page i value) (page + i) value ≡ filled table page (i + 1) value
filled_more table page i value lt =
    ap (λ l. set l (page + i) value) (whole table page i value) ∙ fill_from_more table page i value lt ∙ sym (whole table page (i + 1) value)
