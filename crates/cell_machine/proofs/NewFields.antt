-- The fields of new cells, cell by cell: how many there are, what is written for them, and which bytes they seal.
use Rattle.std.proofs.Common.{◌≡◌, refl, sym, ◌∙◌, ap₂, subst, arith, ℕ, ◌+◌, ◌*◌, ◌≤◌, true, List, [], ◌∷◌, ◌++◌, length, length-append, map}
use Rattle.std.specs.Prelude.{All, flat_map, fold}
use Rattle.std.specs.List.{list_all}
use Rattle.std.proofs.lemmas.Bool.Decides.{nat_tests}
use Rattle.std.proofs.lemmas.List.{length-map, map-append}
use Rattle.std.proofs.lemmas.Simd.{map-map}
use Rattle.cell_num.specs.Kinds.{width_of}
use Rattle.cell_object.specs.declared.object.Entry.{Entry}
use Rattle.cell_world.specs.World.{World, Cell}
use Rattle.cell_world.specs.Coherent.{is_in_space}
use Rattle.cell_world.specs.Linked.Field.{fields_of, place_of}
use Rattle.cell_world.specs.Running.Memory.{covers}
use Rattle.cell_world.specs.Linked.Relink.{field_count, Patch, patches_of}
use Rattle.cell_world.specs.Linked.Target.{targets_of}
use Rattle.cell_num.specs.Lists.{In}
use Rattle.cell_lemmas.specs.Linkable.{IsLinkable}
use Rattle.cell_lemmas.specs.Present.{IsInside}
use Rattle.cell_num.proofs.Elements.{All-In, In-All, In-flat_map, In-map, all-In, found-In}
use Rattle.cell_lemmas.proofs.Fields.FieldsInside.{among-In}
use Rattle.cell_lemmas.proofs.Placement.Inside.{fields_lie}
use Rattle.cell_link.specs.Linked.{field_values, value_at}
use Rattle.cell_commit.specs.Commit.{patch_from, patches_from}
use Rattle.cell_commit.specs.Seals.{IsInSpace, span_of, spans_of}
use Rattle.cell_machine.specs.Machine.{field_bytes}
use Rattle.cell_space.specs.Joined.{placed_of}
use Rattle.cell_machine.specs.Staged.{all_fields}

-- what stands in a region is in the space
inside_space : (w : World) → list_all (is_in_space w) w.regions ≡ true → (addr n : ℕ) → IsInside w addr n → (w.base ≤ addr) × (addr + n ≤ w.base + 4096 * w.pages)
inside_space w all addr n is =
    let at : In is.region w.regions × (covers is.region addr ≡ true) = found-In (λ r. covers r addr) w.regions is.region is.at in
    let fits : is_in_space w is.region ≡ true = all-In (is_in_space w) w.regions all is.region at.0 in
    let ends = is.ends in
    let begins = at.1 in
    (grind (arith, nat_tests), grind (arith, nat_tests))

module _ (w : World) where
  counted : (n : ℕ) (cells : List Cell) → fold (λ (n : ℕ) (c : Cell). n + length (fields_of c.object)) n cells ≡ n + length (all_fields w cells)
  counted n [] = omega arith
  counted n (c ∷ cells) =
      let own : length (field_values c.placed (targets_of w c)) ≡ length (fields_of c.object) = length-map (fields_of c.object) (value_at c.placed (targets_of w c)) in
      let both : length (all_fields w (c ∷ cells)) ≡ length (field_values c.placed (targets_of w c)) + length (all_fields w cells) = length-append (field_values c.placed (targets_of w c)) (all_fields w cells) in
      let more = counted (n + length (fields_of c.object)) cells in
      omega (arith, own, both, more)

  pub count_is : (cells : List Cell) → field_count cells ≡ length (all_fields w cells)
  count_is cells = let all = counted 0 cells in omega (arith, all)

  -- what is written for them is what linking writes
  pub patches_are : (cells : List Cell) → patches_from (all_fields w cells) ≡ flat_map (patches_of w) cells
  patches_are [] = refl
  patches_are (c ∷ cells) =
      map-append patch_from (field_values c.placed (targets_of w c)) (all_fields w cells)
      ∙ ap₂ (λ (xs ys : List Patch). xs ++ ys) (map-map patch_from (value_at c.placed (targets_of w c)) (fields_of c.object)) (patches_are cells)

  pub spans_are : (cells : List Cell) → spans_of (all_fields w cells) ≡ field_bytes (map placed_of cells)
  spans_are [] = refl
  spans_are (c ∷ cells) =
      map-append span_of (field_values c.placed (targets_of w c)) (all_fields w cells)
      ∙ ap₂ (λ (xs ys : List (ℕ × ℕ)). xs ++ ys) (map-map span_of (value_at c.placed (targets_of w c)) (fields_of c.object)) (spans_are cells)

  module _ (inside : list_all (is_in_space w) w.regions ≡ true) (linkable : IsLinkable w) (cells : List Cell) (there : (c : Cell) → In c cells → In c w.cells) where
    one_in_space : (c : Cell) → In c w.cells → (e : Entry) → In e c.object.entries → IsInSpace w.base w.pages (value_at c.placed (targets_of w c) e)
    one_in_space c k e i =
        let lie = All-In (λ (c : Cell). All (λ (e : Entry). IsInside w (place_of c.placed e) (width_of e.kind)) c.object.entries) w.cells (fields_lie w linkable) c k in
        inside_space w inside (place_of c.placed e) (width_of e.kind) (All-In (λ (e : Entry). IsInside w (place_of c.placed e) (width_of e.kind)) c.object.entries lie e i)

    -- each field is in the space
    pub fields_in_space : All (IsInSpace w.base w.pages) (all_fields w cells)
    fields_in_space =
        In-All (IsInSpace w.base w.pages) (all_fields w cells) (λ f k.
        let c = In-flat_map (λ (c : Cell). field_values c.placed (targets_of w c)) cells f k in
        let e = In-map (value_at c.0.placed (targets_of w c.0)) (fields_of c.0.object) f c.2 in
        subst (IsInSpace w.base w.pages) (sym e.2) (one_in_space c.0 (there c.0 c.1) e.0 (among-In c.0.object.entries [] e.0 e.1)))
