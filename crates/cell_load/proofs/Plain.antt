-- What attached cells are linked to doesn't hang on their aliases.
use Rattle.std.proofs.Common.{◌≡◌, refl, ap, ap₂, inl, inr, List, [], ◌∷◌, ◌++◌, map}
use Rattle.std.specs.Prelude.{filter_map}
use Rattle.cell_num.specs.Lists.{numbered, or_else, In}
use Rattle.cell_world.specs.declared.state.LinkRow.{LinkRow}
use Rattle.cell_world.specs.World.{World, Cell, Standing, attached}
use Rattle.cell_world.specs.declared.state.Standing.TheVariants.{Attached}
use Rattle.cell_world.specs.Linked.Fit.{first_misfit, misfit_in}
use Rattle.cell_world.specs.Linked.Relink.{link_of}
use Rattle.cell_world.specs.Linked.Target.{targets_of}
use Rattle.cell_lemmas.specs.Grown.{links_from}
use Rattle.cell_link.specs.declared.value.FieldValue.{FieldValue}
use Rattle.cell_link.specs.Linked.{field_values}
use Rattle.cell_space.specs.Joined.{placed_of}
use Rattle.cell_machine.specs.Staged.{all_attached, all_fields}

module _ (w : World) where
  targets_plain : (c : Cell) → c.standing ≡ Attached → targets_of w c ≡ targets_of w (attached c.placed)
  targets_plain c e = ap (λ (s : Standing). targets_of w (record { placed = c.placed; aliases = c.aliases; standing = s })) e

  misfit_plain : (c : Cell) → c.standing ≡ Attached → misfit_in w c ≡ misfit_in w (attached c.placed)
  misfit_plain c e = ap (λ (s : Standing). misfit_in w (record { placed = c.placed; aliases = c.aliases; standing = s })) e

  links_plain : (c : Cell) → c.standing ≡ Attached → filter_map (link_of w c) (numbered c.object.entries) ≡ filter_map (link_of w (attached c.placed)) (numbered c.object.entries)
  links_plain c e = ap (λ (s : Standing). let d : Cell = record { placed = c.placed; aliases = c.aliases; standing = s } in filter_map (link_of w d) (numbered c.object.entries)) e

  pub fields_plain : (cells : List Cell) → ((c : Cell) → In c cells → c.standing ≡ Attached) → all_fields w cells ≡ all_fields w (all_attached (map placed_of cells))
  fields_plain [] all = refl
  fields_plain (c ∷ cells) all =
      ap₂ (λ (xs ys : List FieldValue). xs ++ ys) (ap (field_values c.placed) (targets_plain c (all c (inl refl)))) (fields_plain cells (λ d k. all d (inr k)))

  pub misfits_plain : (cells : List Cell) → ((c : Cell) → In c cells → c.standing ≡ Attached) → first_misfit w cells ≡ first_misfit w (all_attached (map placed_of cells))
  misfits_plain [] all = refl
  misfits_plain (c ∷ cells) all = ap₂ or_else (misfit_plain c (all c (inl refl))) (misfits_plain cells (λ d k. all d (inr k)))

  pub rows_plain : (cells : List Cell) → ((c : Cell) → In c cells → c.standing ≡ Attached) → links_from w cells ≡ links_from w (all_attached (map placed_of cells))
  rows_plain [] all = refl
  rows_plain (c ∷ cells) all = ap₂ (λ (xs ys : List LinkRow). xs ++ ys) (links_plain c (all c (inl refl))) (rows_plain cells (λ d k. all d (inr k)))
