-- What the definitions say of a machine is what they say of its spaces.
use Rattle.std.proofs.Common.{◌≡◌, refl, sym, ◌∙◌, ap, ap₂, arith, ℕ, suc, ◌+◌, List, [], ◌∷◌, ◌++◌, length, map, append_assoc, append-nil, length-append}
use Rattle.std.specs.Prelude.{Ok, Err, option_map, nat_lt, nat_le}
use Rattle.std.proofs.lemmas.List.{map-append, length-map}
use Rattle.cell_num.specs.Lists.{or_else}
use Rattle.cell_object.specs.declared.object.Object.{Object}
use Rattle.cell_world.specs.declared.file.File.{File}
use Rattle.cell_world.specs.declared.refusal.Refusal.TheVariants.{TooMany}
use Rattle.cell_world.specs.declared.refusal.Many.TheVariants.{Cells, CellNumbers}
use Rattle.cell_world.specs.declared.state.NewCell.{NewCell}
use Rattle.cell_world.specs.World.{World, Cell, Alias, attached}
use Rattle.cell_world.specs.Names as names
use Rattle.cell_world.specs.Names.{definitions_of}
use Rattle.cell_world.specs.Gather.{source_of, stem_of_file, object_in, duplicate, clash_among, append_cell, grown}
use Rattle.cell_world.specs.Outcome.{Outcome, ◌>>=◌, ◌>>◌, need, refused_by}
use Rattle.cell_space.specs.Machine.{called}
use Rattle.cell_space.specs.Named.{clash_stem, clash_name}
use Rattle.cell_space.specs.Spaces.{SpacesState}
use Rattle.cell_space.proofs.Machines.{clash_stem-called, clash_name-called}
use Rattle.cell_gather.specs.Appending.{clash_among_now, stem_free, names_free, cell_from, append_now}
use Rattle.cell_gather.specs.Gathering.{IsOf}
use Rattle.cell_gather.specs.Growing.{with_new}
use Rattle.cell_gather.proofs.Outcomes.{then_assoc, need_then, refused_then, bind_then}

-- the machine with other cells and another next number
abbrev pub remade : World → List Cell → ℕ → World
remade w cells next = record w { cells = cells; next_cell = next }

abbrev pub with_one : World → NewCell → World
with_one u c = remade u (u.cells ++ attached c ∷ []) (suc u.next_cell)

module _ (s : SpacesState) (next : ℕ) (u : World) (is : IsOf s next u) where
  clash_stem_is : (ns : ℕ) (stem : List ℕ) → names.clash_stem u ns stem ≡ clash_stem s.namespaces ns stem s.cells
  clash_stem_is ns stem =
      clash_stem-called u ns stem
      ∙ ap (λ spaces. clash_stem spaces ns stem (map called u.cells)) is.namespaces
      ∙ ap (λ cells. clash_stem s.namespaces ns stem cells) is.cells

  pub clash_name_is : (ns : ℕ) (name : List ℕ) → names.clash_name u ns name ≡ clash_name s.namespaces ns name s.cells
  clash_name_is ns name =
      clash_name-called u ns name
      ∙ ap (λ spaces. clash_name spaces ns name (map called u.cells)) is.namespaces
      ∙ ap (λ cells. clash_name s.namespaces ns name cells) is.cells

  clash_among_is : (ns : ℕ) (list : List Alias) → clash_among u ns list ≡ clash_among_now s ns list
  clash_among_is ns [] = refl
  clash_among_is ns (a ∷ list) =
      ap (λ o. or_else (option_map (duplicate a.name) o) (clash_among u ns list)) (clash_name_is ns a.name)
      ∙ ap (or_else (option_map (duplicate a.name) (clash_name s.namespaces ns a.name s.cells))) (clash_among_is ns list)

  -- appending the cell of a file
  pub append_is : (total : ℕ) (f : File) (ns : ℕ) → length u.cells ≡ total → append_cell u (source_of f) ns ≡ (append_now s total next f ns >>= (λ c. Ok (with_one u c)))
  append_is total f ns many =
      let k : NewCell → Outcome World = λ c. Ok (with_one u c) in
      let stem : List ℕ = stem_of_file f.name in
      let object_cell : Object → Outcome NewCell = λ object. names_free s ns stem (definitions_of object) >> Ok (cell_from next ns f object) in
      need_then k (nat_lt (length u.cells) 1024) (nat_lt total 1024) (TooMany Cells 1024) _ (need (nat_le next 65535) (TooMany CellNumbers 65535) >> (object_in (source_of f) >>= object_cell)) (ap (λ n. nat_lt n 1024) many)
      (need_then k (nat_le u.next_cell 65535) (nat_le next 65535) (TooMany CellNumbers 65535) _ (object_in (source_of f) >>= object_cell) (ap (λ n. nat_le n 65535) is.number)
      (bind_then k (object_in (source_of f)) _ object_cell (λ object.
      refused_then k (option_map (duplicate stem) (names.clash_stem u ns stem)) (option_map (duplicate stem) (clash_stem s.namespaces ns stem s.cells)) _
      (refused_by (clash_among_now s ns (definitions_of object)) >> Ok (cell_from next ns f object))
      (ap (option_map (duplicate stem)) (clash_stem_is ns stem))
      (refused_then k (clash_among u ns (definitions_of object)) (clash_among_now s ns (definitions_of object)) _ (Ok (cell_from next ns f object)) (clash_among_is ns (definitions_of object))
      (ap (λ n. Ok (with_one u (cell_from n ns f object))) is.number))
      ∙ sym (ap (λ o. o >>= k) (then_assoc (stem_free s ns stem) (refused_by (clash_among_now s ns (definitions_of object))) (Ok (cell_from next ns f object)))))))
      ∙ sym (ap (λ o. o >>= k) (then_assoc (need (nat_lt total 1024) (TooMany Cells 1024)) (need (nat_le next 65535) (TooMany CellNumbers 65535)) (object_in (source_of f) >>= object_cell)))

module _ (spaces : SpacesState) (next : ℕ) (w : World) (is : IsOf spaces next w) where
  pub grown_is : (cells : List Cell) → IsOf (with_new spaces cells) (next + length cells) (grown w cells)
  grown_is cells =
      record {
        namespaces = is.namespaces;
        cells =
            map-append called w.cells cells ∙ ap (λ cs. cs ++ map called cells) is.cells;
        number = ap (λ n. n + length cells) is.number;
      }

  present_many : length w.cells ≡ length spaces.cells
  present_many = sym (length-map w.cells called) ∙ ap length is.cells

  pub grown_many : (cells : List Cell) → length (grown w cells).cells ≡ length spaces.cells + length cells
  grown_many cells =
      length-append w.cells cells ∙ ap (λ n. n + length cells) present_many

  pub grown_more : (cells : List Cell) (c : NewCell) → with_one (grown w cells) c ≡ grown w (cells ++ attached c ∷ [])
  grown_more cells c =
      let all : (w.cells ++ cells) ++ attached c ∷ [] ≡ w.cells ++ (cells ++ attached c ∷ []) = append_assoc w.cells cells (attached c ∷ []) in
      let number : suc (w.next_cell + length cells) ≡ w.next_cell + length (cells ++ attached c ∷ []) = let l = length-append cells (attached c ∷ []) in omega arith in
      ap₂ (λ cs n. remade w cs n) all number

  pub grown_none : grown w [] ≡ w
  grown_none = ap₂ (λ cs n. remade w cs n) (append-nil w.cells) (let e : w.next_cell + 0 ≡ w.next_cell = omega arith in e)

  -- appending to the new cells
  pub append_grown : (cells : List Cell) (f : File) (ns : ℕ)
      → append_cell (grown w cells) (source_of f) ns
      ≡ (append_now (with_new spaces cells) (length spaces.cells + length cells) (next + length cells) f ns >>= (λ c. Ok (grown w (cells ++ attached c ∷ []))))
  append_grown cells f ns =
      append_is (with_new spaces cells) (next + length cells) (grown w cells) (grown_is cells) (length spaces.cells + length cells) f ns (grown_many cells)
      ∙ same (append_now (with_new spaces cells) (length spaces.cells + length cells) (next + length cells) f ns)
    where
      same : (o : Outcome NewCell) → (o >>= (λ c. Ok (with_one (grown w cells) c))) ≡ (o >>= (λ c. Ok (grown w (cells ++ attached c ∷ []))))
      same (Ok c) = ap (λ u. Ok u) (grown_more cells c)
      same (Err r) = refl
