-- Tables of the names that cells define, symbol by symbol and cell by cell.
use Rattle.std.proofs.Common.{◌≡◌, sym, ◌∙◌, ap, subst, ℕ, ◌+◌, ◌<◌, List, [], ◌∷◌, ◌++◌, length, map, get_or, take, append-nil, append_assoc}
use Rattle.std.specs.Prelude.{filter}
use Rattle.std.proofs.lemmas.List.{map-append, take_more}
use Rattle.std.proofs.lemmas.List.Concat.{flat_map-append}
use Rattle.std.proofs.lemmas.List.Elements.{filter-append}
use Rattle.cell_object.specs.declared.object.Symbol.{Symbol}
use Rattle.cell_world.specs.declared.state.NewCell.{NewCell}
use Rattle.cell_world.specs.Names.{is_definition}
use Rattle.cell_xfer.specs.Named.{AnswersAs}
use Rattle.cell_xfer.proofs.Answering.{answers_added}
use Rattle.cell_routines.specs.Begins.{DefinitionRow, all_rows, begin_in, definition_rows}

module _ {V : Type 0} where
  -- what was added so far, and one part more
  pub one_more : (old table new so_far more all : List (List ℕ × V)) → AnswersAs table (old ++ so_far) → AnswersAs new (table ++ more) → all ≡ so_far ++ more → AnswersAs new (old ++ all)
  one_more old table new so_far more all far added e =
      subst (AnswersAs new) (append_assoc old so_far more ∙ ap (λ rows. old ++ rows) (sym e)) (answers_added table new (old ++ so_far) more far added)

abbrev row : NewCell → Symbol → DefinitionRow
row c s = (s.name, begin_in c s)

rows_both : (c : NewCell) (xs ys : List Symbol) → definition_rows c (xs ++ ys) ≡ definition_rows c xs ++ definition_rows c ys
rows_both c xs ys = ap (map (row c)) (filter-append is_definition xs ys) ∙ map-append (row c) (filter is_definition xs) (filter is_definition ys)

pub rows_more : (c : NewCell) (symbols : List Symbol) (i : ℕ) (s : Symbol) → i < length symbols → s ≡ get_or symbols i s
    → definition_rows c (take (i + 1) symbols) ≡ definition_rows c (take i symbols) ++ definition_rows c (s ∷ [])
rows_more c symbols i s lt item =
    ap (definition_rows c) (take_more symbols i s lt ∙ ap (λ x. take i symbols ++ x ∷ []) (sym item)) ∙ rows_both c (take i symbols) (s ∷ [])

abbrev rows_of : NewCell → List DefinitionRow
rows_of c = definition_rows c c.object.symbols

pub cells_more : (cells : List NewCell) (i : ℕ) (c : NewCell) → i < length cells → c ≡ get_or cells i c → all_rows (take (i + 1) cells) ≡ all_rows (take i cells) ++ rows_of c
cells_more cells i c lt item =
    ap all_rows (take_more cells i c lt ∙ ap (λ x. take i cells ++ x ∷ []) (sym item))
    ∙ flat_map-append rows_of (take i cells) (c ∷ [])
    ∙ ap (λ rows. all_rows (take i cells) ++ rows) (append-nil (rows_of c))
