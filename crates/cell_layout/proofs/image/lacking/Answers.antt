use Rattle.std.proofs.Common.{◌≡◌, ℕ, ◌<◌, List, [], ◌∷◌, ◌++◌, replicate, length, refl, sym, ap, arith}
use Rattle.cell_num.specs.Limits.{page_size}
use Rattle.cell_world.specs.Placed.Layout.{to_pages}
use Rattle.cell_layout.proofs.image.lacking.Goals as goal

no_bytes : (bytes : List ℕ) (n : ℕ) → length bytes < 1 → n ≡ page_size → to_pages bytes ≡ bytes ++ replicate n 0
no_bytes [] n none page = ap (λ k. replicate k 0) (sym page)
no_bytes (b ∷ bytes) n none page = absurd (omega arith)

pub returns-in-empty-clause-pages : goal.returns-in-empty-clause-pages
returns-in-empty-clause-pages c = no_bytes c.args.image.now page_size c.in-empty.len_below refl
