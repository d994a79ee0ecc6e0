-- Appending a copy, over each machine that the spaces are those of.
use Rattle.std.proofs.Common.{◌≡◌, sym, ◌∙◌, ap, ap₂, arith, ℕ, suc, ◌+◌, List, [], ◌∷◌, ◌++◌, length, take, drop, append_assoc, length-append, take-append-drop}
use Rattle.std.specs.Prelude.{Ok, Err, nat_lt, nat_le}
use Rattle.cell_world.specs.declared.fail.Fail.{Fail}
use Rattle.cell_world.specs.declared.fail.Fail.TheVariants.{Refused, OutOfMemory}
use Rattle.cell_world.specs.declared.refusal.Refusal.TheVariants.{TooMany}
use Rattle.cell_world.specs.declared.refusal.Many.TheVariants.{Cells, CellNumbers}
use Rattle.cell_world.specs.declared.state.NewCell.{NewCell}
use Rattle.cell_world.specs.Change.{copy_of}
use Rattle.cell_world.specs.Following.{FailsAs}
use Rattle.cell_world.specs.Gather.{grown, with_next}
use Rattle.cell_world.specs.Names.{definitions_of}
use Rattle.cell_world.specs.Outcome.{Outcome, ◌>>◌, need}
use Rattle.cell_world.specs.World.{Alias, Cell, World}
use Rattle.cell_space.specs.Spaces.{SpacesState}
use Rattle.cell_gather.specs.declared.copies.Original.{Original}
use Rattle.cell_gather.specs.Appending.{room_now}
use Rattle.cell_gather.specs.Copying.{append_original, as_copy, cell_as, said_copy}
use Rattle.cell_gather.specs.Gathering.{IsOf}
use Rattle.cell_gather.specs.Growing.{Ends}
use Rattle.cell_gather.proofs.Outcomes.{then_assoc}
use Rattle.cell_gather.proofs.Worlds.{grown_many, remade}

-- names that begin with the definitions go on with the aliases
pub split : (c : NewCell) (names : List Alias) → take (length (definitions_of c.object)) names ≡ definitions_of c.object → names ≡ definitions_of c.object ++ drop (length (definitions_of c.object)) names
split c names named =
    sym (take-append-drop (length (definitions_of c.object)) names)
    ∙ ap (λ (front : List Alias). front ++ drop (length (definitions_of c.object)) names) named

module _ (spaces : SpacesState) (next : ℕ) (cells : List Cell) (o : Original) where
  abbrev room : Outcome (Unit {0})
  room = room_now (length spaces.cells + length cells) (next + length cells)

  abbrev pub the_copy : ℕ → Cell
  the_copy number = as_copy (cell_as number o) o.names.now

  abbrev said : World → Outcome World
  said w = append_original (grown w cells) o

  one_more : (w : World) → with_next (grown w cells) (copy_of (grown w cells) (said_copy o)) ≡ grown w (cells ++ the_copy (w.next_cell + length cells) ∷ [])
  one_more w =
      let c : Cell = the_copy (w.next_cell + length cells) in
      let all : (w.cells ++ cells) ++ c ∷ [] ≡ w.cells ++ (cells ++ c ∷ []) = append_assoc w.cells cells (c ∷ []) in
      let number : suc (w.next_cell + length cells) ≡ w.next_cell + length (cells ++ c ∷ []) = let l = length-append cells (c ∷ []) in omega arith in
      ap₂ (λ cs n. remade w cs n) all number

  copied_is : (w : World) → IsOf spaces next w → said w ≡ (room >> Ok (grown w (cells ++ the_copy (next + length cells) ∷ [])))
  copied_is w is =
      let numbered : w.next_cell + length cells ≡ next + length cells = ap (λ n. n + length cells) is.number in
      let go : ℕ → ℕ → World → Outcome World = λ total number u. need (nat_lt total 1024) (TooMany Cells 1024) >> (need (nat_le number 65535) (TooMany CellNumbers 65535) >> Ok u) in
      ap (go (length (grown w cells).cells) (w.next_cell + length cells)) (one_more w ∙ ap (λ n. grown w (cells ++ the_copy n ∷ [])) numbered)
      ∙ ap₂ (λ total number. go total number (grown w (cells ++ the_copy (next + length cells) ∷ []))) (grown_many spaces next w is cells) numbered
      ∙ sym (then_assoc (need (nat_lt (length spaces.cells + length cells) 1024) (TooMany Cells 1024)) (need (nat_le (next + length cells) 65535) (TooMany CellNumbers 65535)) (Ok (grown w (cells ++ the_copy (next + length cells) ∷ []))))

  pub copy_refused : (fail : Fail) (new : List Cell) → FailsAs fail room → Ends spaces next said (Err fail) new
  copy_refused (Refused refusal) new e = λ w is. copied_is w is ∙ ap (λ (r : Outcome (Unit {0})). r >> Ok (grown w (cells ++ the_copy (next + length cells) ∷ []))) e
  copy_refused OutOfMemory new e = tt

  pub copy_done : (new : List Cell) → room ≡ Ok tt → new ≡ cells ++ the_copy (next + length cells) ∷ [] → (w : World) → IsOf spaces next w → said w ≡ Ok (grown w new)
  copy_done new e are w is =
      copied_is w is
      ∙ ap (λ (r : Outcome (Unit {0})). r >> Ok (grown w (cells ++ the_copy (next + length cells) ∷ []))) e
      ∙ ap (λ cs. Ok (grown w cs)) (sym are)
