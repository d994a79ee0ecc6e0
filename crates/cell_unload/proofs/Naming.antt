-- The cells that names name, by what the spaces answer.
use Rattle.std.proofs.Common.{◌≡◌, refl, sym, ◌∙◌, ap, arith, ℕ, suc, ◌+◌, ◌≤◌, ◌<◌, List, [], ◌∷◌, ◌++◌, drop, drop-cons, drop_of_length-le, get_or, length, map}
use Rattle.std.specs.Prelude.{Option, Some, None, Ok, Err, option_and_then, option_map}
use Rattle.std.proofs.lemmas.List.{map-append}
use Rattle.cell_num.specs.declared.ids.CellId.{CellId}
use Rattle.cell_world.specs.declared.command.CellName.{CellName}
use Rattle.cell_world.specs.declared.refusal.Refusal.{Refusal}
use Rattle.cell_world.specs.declared.refusal.Refusal.TheVariants.{Unknown}
use Rattle.cell_world.specs.Answer.{numbers_of}
use Rattle.cell_world.specs.Names.{cell_at, namespace_named}
use Rattle.cell_world.specs.Outcome.{Outcome, ◌>>=◌, each, found}
use Rattle.cell_world.specs.Commands.UnloadCommand.{attached_cell, cell_word, named_cells}
use Rattle.cell_world.specs.World.{Cell, World}
use Rattle.cell_world.specs.declared.fail.Fail.{Fail}
use Rattle.cell_world.specs.declared.fail.Fail.TheVariants.{Refused, OutOfMemory}
use Rattle.cell_world.specs.Following.{FailsAs}
use Rattle.cell_space.specs.Machine.{called}
use Rattle.cell_space.specs.Named.{cell_at as called_at}
use Rattle.cell_space.specs.declared.cell.SpaceCell.{SpaceCell}
use Rattle.cell_space.proofs.Machines.{cell_at-called}
use Rattle.cell_machine.specs.Unknown.{IsUnknown}

abbrev numbered : World → CellName → Outcome ℕ
numbered w name = attached_cell w name >>= (λ c. Ok c.id.0)

module _ (w : World) (spaces : List SpaceCell) (known : spaces ≡ map called w.cells) (name : CellName) where
  -- the number that the spaces answer
  abbrev answered : Option ℕ
  answered = option_and_then (λ ns. called_at ns name.stem spaces) (namespace_named w name.ns)

  of_cell : (o : Option Cell) (r : Refusal) → (found o r >>= (λ c. Ok c.id.0)) ≡ (let said : Outcome ℕ = found (option_map (λ c. c.id.0) o) r in said)
  of_cell None r = refl
  of_cell (Some c) r = refl

  pub by_spaces : numbered w name ≡ found answered (Unknown (cell_word name))
  by_spaces = go (namespace_named w name.ns)
    where
      go : (o : Option ℕ) → ((found o (Unknown (cell_word name)) >>= (λ ns. found (cell_at w ns name.stem) (Unknown (cell_word name)))) >>= (λ c. Ok c.id.0))
          ≡ (let said : Outcome ℕ = found (option_and_then (λ ns. called_at ns name.stem spaces) o) (Unknown (cell_word name)) in said)
      go None = refl
      go (Some ns) =
          of_cell (cell_at w ns name.stem) (Unknown (cell_word name))
          ∙ ap (λ (o : Option ℕ). found o (Unknown (cell_word name))) (cell_at-called w ns name.stem ∙ ap (called_at ns name.stem) (sym known))

-- the numbers so far, and then those of the names that are left
pub numbers_from : World → List ℕ → List CellName → Outcome (List ℕ)
numbers_from w numbers [] = Ok numbers
numbers_from w numbers (name ∷ names) = numbered w name >>= (λ n. numbers_from w (numbers ++ n ∷ []) names)

module _ (w : World) where
  one_more : (o : Outcome Cell) (cells : List Cell) (rest : List Cell → Outcome (List Cell)) (after : List ℕ → Outcome (List ℕ))
      → ((cells : List Cell) → (rest cells >>= (λ cells. Ok (numbers_of cells))) ≡ after (numbers_of cells))
      → (((o >>= (λ c. Ok (cells ++ c ∷ []))) >>= rest) >>= (λ cells. Ok (numbers_of cells))) ≡ ((o >>= (λ c. Ok c.id.0)) >>= (λ n. after (numbers_of cells ++ n ∷ [])))
  one_more (Err r) cells rest after f = refl
  one_more (Ok c) cells rest after f = f (cells ++ c ∷ []) ∙ ap after (map-append (λ (c : Cell). c.id.0) cells (c ∷ []))

  from_cells : (names : List CellName) (cells : List Cell) → (each (λ cells name. attached_cell w name >>= (λ c. Ok (cells ++ c ∷ []))) cells names >>= (λ cells. Ok (numbers_of cells))) ≡ numbers_from w (numbers_of cells) names
  unfolding numbers_from
  from_cells [] cells = refl
  from_cells (name ∷ names) cells =
      one_more (attached_cell w name) cells (λ cells. each (λ cells name. attached_cell w name >>= (λ c. Ok (cells ++ c ∷ []))) cells names) (λ numbers. numbers_from w numbers names) (from_cells names)

  pub all_numbers : (names : List CellName) → (named_cells w names >>= (λ cells. Ok (numbers_of cells))) ≡ numbers_from w [] names
  all_numbers names = from_cells names []

  -- once no name is left
  pub all_found : (numbers : List ℕ) → numbers_from w numbers [] ≡ Ok numbers
  unfolding numbers_from
  all_found numbers = refl

  pub number_found : (numbers : List ℕ) (name : CellName) (names : List CellName) (n : ℕ) → numbered w name ≡ Ok n → numbers_from w numbers (name ∷ names) ≡ numbers_from w (numbers ++ n ∷ []) names
  unfolding numbers_from
  number_found numbers name names n e = ap (λ (o : Outcome ℕ). o >>= (λ n. numbers_from w (numbers ++ n ∷ []) names)) e

  pub number_lacking : (numbers : List ℕ) (name : CellName) (names : List CellName) (r : Refusal) → numbered w name ≡ Err r → numbers_from w numbers (name ∷ names) ≡ Err r
  unfolding numbers_from
  number_lacking numbers name names r e = ap (λ (o : Outcome ℕ). o >>= (λ n. numbers_from w (numbers ++ n ∷ []) names)) e

  -- before the first name, and after the last
  pub none_yet : (names : List CellName) (cells : List CellId) → cells ≡ [] → (named_cells w names >>= (λ cells. Ok (numbers_of cells))) ≡ numbers_from w (map (λ c. c.0) cells) (drop 0 names)
  none_yet names cells none = all_numbers names ∙ ap (λ (cells : List CellId). numbers_from w (map (λ c. c.0) cells) names) (sym none)

  pub at_end : (said : Outcome (List ℕ)) (numbers : List ℕ) (names : List CellName) (i : ℕ) → length names ≤ i → said ≡ numbers_from w numbers (drop i names) → said ≡ Ok numbers
  at_end said numbers names i past so = so ∙ (ap (numbers_from w numbers) (drop_of_length-le names {i = i} past) ∙ all_found numbers)

  module _ (said : Outcome (List ℕ)) (names : List CellName) (i : ℕ) (name : CellName) (inside : i < length names) (here : name ≡ get_or names i name) where
    next : drop i names ≡ name ∷ drop (i + 1) names
    next = let one : suc i ≡ i + 1 = omega arith in drop-cons names i name inside ∙ (ap (λ (x : CellName). x ∷ drop (suc i) names) (sym here) ∙ ap (λ (k : ℕ). name ∷ drop k names) one)

    pub one_found : (cells more : List CellId) (cell : CellId) → numbered w name ≡ Ok cell.0 → more ≡ cells ++ cell ∷ [] → said ≡ numbers_from w (map (λ c. c.0) cells) (drop i names) → said ≡ numbers_from w (map (λ c. c.0) more) (drop (i + 1) names)
    one_found cells more cell is added so =
        so
        ∙ (ap (numbers_from w (map (λ c. c.0) cells)) next
        ∙ (number_found (map (λ c. c.0) cells) name (drop (i + 1) names) cell.0 is
        ∙ ap (λ (numbers : List ℕ). numbers_from w numbers (drop (i + 1) names)) (sym (ap (map (λ (c : CellId). c.0)) added ∙ map-append (λ (c : CellId). c.0) cells (cell ∷ [])))))

    -- a name that names no cell, or for which memory was lacking
    pub fails_so : (numbers : List ℕ) (fail : Fail) → FailsAs fail (numbered w name) → said ≡ numbers_from w numbers (drop i names) → FailsAs fail said
    fails_so numbers (Refused refusal) e so = so ∙ (ap (numbers_from w numbers) next ∙ number_lacking numbers name (drop (i + 1) names) refusal e)
    fails_so numbers OutOfMemory e so = tt

-- the refusal for a word that names nothing
pub unknown_is : {A : Type 0} (word : List ℕ) (fail : Fail) → IsUnknown word fail → (said : Outcome A) → said ≡ Err (Unknown word) → FailsAs fail said
unknown_is word (Refused refusal) e said h = h ∙ ap (λ (r : Refusal). Err r) (sym e)
unknown_is word OutOfMemory e said h = tt
