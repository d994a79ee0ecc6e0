-- The lines of a script, one after another.
use Rattle.std.proofs.Common.{◌≡◌, ℕ, ◌+◌, ◌-◌, ◌<◌, ◌≤◌, ◌^◌, List, [], ◌∷◌, ◌++◌, Bor, Ok, Err, map, length, get_or, ap, arith}
use Rattle.std.specs.declared.result.Result.{Result}
use Rattle.std.proofs.lemmas.List.{get_or-map, length-map}
use Rattle.cell_text.specs.Text.{Behind}
use Rattle.cell_script.specs.declared.line.Line.{Line}
use Rattle.cell_script.specs.declared.command.Reading.{Reading}
use Rattle.cell_script.specs.declared.command.Reading.TheVariants.{Nothing}
use Rattle.cell_script.specs.Script.{reading_of}

-- lines before those of the later texts
abbrev pub prepend : List Line → Result (List Line) ℕ → Result (List Line) ℕ
prepend lines (Ok later) = Ok (lines ++ later)
prepend lines (Err n) = Err n

abbrev pub no_text : Bor (List ℕ)
no_text = record { ref_ptr = (0, 0); now = [] }

-- a line's number fits where the line holds something
pub fits : (texts : List (Bor (List ℕ))) (i : ℕ) (d : Bor (List ℕ)) → Behind (2 ^ 32 - 1) (map (λ text. text.now) texts) → i < length texts → i + length (get_or texts i d).now ≤ 2 ^ 32 - 1
fits texts i d behind lt =
    let same : get_or (map (λ text. text.now) texts) i [] ≡ (get_or texts i d).now = get_or-map (λ text. text.now) texts i d [] lt in
    omega (arith, behind i (omega (arith, length-map texts (λ text. text.now))), ap length same)

-- a line that says something is not empty
pub filled : (text : List ℕ) (r : Reading) → r ≡ reading_of text → (r ≡ Nothing → ⊥) → 0 < length text
filled [] r e not_nothing = absurd (not_nothing e)
filled (b ∷ bs) r e not_nothing = omega arith
