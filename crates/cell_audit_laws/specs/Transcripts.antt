-- A transcript with a dump in it.
--     transcript before n lines rest     earlier lines, the answer to the dump of line n, its lines, and what follows
use Rattle.std.specs.Prelude.{◌≡◌, ℕ, false, List, [], ◌∷◌, ◌++◌, map, codes, ◌==◌}
use Rattle.std.specs.Fmt.{decimal}
use Rattle.std.specs.List.{flat_map, list_any, slice_split}
use Rattle.cell_world.specs.declared.line.DumpLine.{DumpLine}
use Rattle.cell_audit.specs.Dumps.{is_answer}
use Rattle.cell_audit_laws.specs.Anew.{shown}

abbrev pub ended : List ℕ → List ℕ
ended text = text ++ 10 ∷ []

abbrev pub answer_text : ℕ → List ℕ
answer_text n = decimal n ++ codes " ok dumpall"

abbrev pub transcript : List (List ℕ) → ℕ → List DumpLine → List ℕ → List ℕ
transcript before n lines rest =
    flat_map ended before ++ (ended (answer_text n) ++ (flat_map ended (map shown lines) ++ rest))

-- a line that begins no dump
pub record IsEarlier (text : List ℕ) : Type 0 where
  pub feedless : list_any (λ b. b == 10) text ≡ false
  pub other : is_answer (slice_split (λ b. b == 32) text) ≡ false
