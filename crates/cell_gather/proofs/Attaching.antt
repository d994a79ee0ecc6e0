-- A new cell stands behind all others.
use Rattle.std.proofs.Common.{◌≡◌, sym, subst, arith, ℕ, ◌+◌, ◌<◌, List, [], ◌∷◌, length, map}
use Rattle.std.specs.Prelude.{All}
use Rattle.std.proofs.lemmas.List.Elements.{All-nil, All-cons, All-head, All-tail, All-append, All-weaker}
use Rattle.cell_world.specs.World.{Cell}
use Rattle.cell_space.specs.declared.cell.SpaceCell.{SpaceCell}
use Rattle.cell_space.specs.Machine.{called}
use Rattle.cell_space.specs.Spaces.{SpacesState}
use Rattle.cell_gather.specs.declared.gathering.Gathered.{Gathered}
use Rattle.cell_gather.specs.Growing.{IsGrowing, new_of}

rows_below : (n : ℕ) (cells : List Cell) → All (λ c. c.id.0 < n) cells → All (λ c. c.cell.0 < n) (map called cells)
rows_below n [] all = All-nil (λ (c : SpaceCell). c.cell.0 < n)
rows_below n (c ∷ cells) all =
    All-cons (λ (d : SpaceCell). d.cell.0 < n) (called c) (map called cells) (All-head (λ (d : Cell). d.id.0 < n) c cells all)
    (rows_below n cells (All-tail (λ (d : Cell). d.id.0 < n) c cells all))

pub all_below : (spaces : SpacesState) (next : ℕ) (old : Gathered) → IsGrowing spaces next old → All (λ c. c.cell.0 < next) spaces.cells → (id : ℕ) → id ≡ next + length (new_of old)
    → All (λ c. c.cell.0 < id) old.ahead.cells
all_below spaces next old growing given id is =
    let Below : SpaceCell → Type 0 = λ c. c.cell.0 < id in
    let below : All (λ c. c.id.0 < id) (new_of old) = subst (λ n. All (λ c. c.id.0 < n) (new_of old)) (sym is) growing.below in
    subst (All Below) (sym growing.cells)
    (All-append Below spaces.cells (map called (new_of old))
    (All-weaker (λ (c : SpaceCell). c.cell.0 < next) Below (λ c lt. omega (arith, lt, is)) spaces.cells given) (rows_below id (new_of old) below))
