-- What linking new cells gives, by what their entries name.
--     targets_in w c           what each entry of c names
--     rows_by c targets        one link for each entry whose target is a section
--     Links w c result         fields and links of the cell, or the refusal of the first entry that doesn't fit
--     LinksAll w cells result  the same for several cells, one after another
--     CanLink spaces c         the cell's namespace is there, its entries can be counted, and its places are low
use Rattle.std.specs.Prelude.{◌≡◌, ◌<◌, ◌^◌, ℕ, suc, List, [], ◌∷◌, Some, None, Result, Ok, Err, All, flat_map, length}
use Rattle.std.specs.List.{cons_option}
use Rattle.cell_object.specs.declared.object.Entry.{Entry}
use Rattle.cell_world.specs.declared.state.LinkRow.{LinkRow}
use Rattle.cell_world.specs.declared.state.Namespace.{Namespace}
use Rattle.cell_world.specs.declared.state.NewCell.{NewCell}
use Rattle.cell_world.specs.declared.state.Target.{Target}
use Rattle.cell_world.specs.World.{World, attached}
use Rattle.cell_world.specs.Linked.Fit.{first_misfit, misfit_in}
use Rattle.cell_world.specs.Linked.Relink.{link_to}
use Rattle.cell_world.specs.Linked.Target.{targets_of}
use Rattle.cell_link.specs.Linked.{field_values}
use Rattle.cell_world.specs.declared.fail.Fail.{Fail}
use Rattle.cell_world.specs.declared.fail.Fail.TheVariants.{Refused, OutOfMemory}
use Rattle.cell_machine.specs.Staged.{all_attached, all_fields}
use Rattle.cell_load.specs.declared.link.Linked.{Linked}

abbrev pub targets_in : World → NewCell → List Target
targets_in w c = targets_of w (attached c)

-- the entries are numbered from i on
abbrev pub rows_from : NewCell → ℕ → List Entry → List Target → List LinkRow
rows_from c i [] targets = []
rows_from c i (e ∷ entries) [] = []
rows_from c i (e ∷ entries) (t ∷ targets) = cons_option (link_to (attached c) i e t) (rows_from c (suc i) entries targets)

abbrev pub rows_by : NewCell → List Target → List LinkRow
rows_by c targets = rows_from c 0 c.object.entries targets

abbrev pub all_rows : World → List NewCell → List LinkRow
all_rows w cells = flat_map (λ c. rows_by c (targets_in w c)) cells

pub record IsLinked (w : World) (c : NewCell) (l : Linked) : Type 0 where
  pub fit : misfit_in w (attached c) ≡ None
  pub fields : l.fields.items ≡ field_values c (targets_in w c)
  pub rows : l.rows.items ≡ rows_by c (targets_in w c)

abbrev pub Links : World → NewCell → Result Linked Fail → Type 0
Links w c (Ok l) = IsLinked w c l
Links w c (Err (Refused refusal)) = misfit_in w (attached c) ≡ Some refusal
Links w c (Err OutOfMemory) = Unit {0}

pub record AreLinked (w : World) (cells : List NewCell) (l : Linked) : Type 0 where
  pub fit : first_misfit w (all_attached cells) ≡ None
  pub fields : l.fields.items ≡ all_fields w (all_attached cells)
  pub rows : l.rows.items ≡ all_rows w cells

abbrev pub LinksAll : World → List NewCell → Result Linked Fail → Type 0
LinksAll w cells (Ok l) = AreLinked w cells l
LinksAll w cells (Err (Refused refusal)) = first_misfit w (all_attached cells) ≡ Some refusal
LinksAll w cells (Err OutOfMemory) = Unit {0}

pub record CanLink (spaces : List Namespace) (c : NewCell) : Type 0 where
  pub ns : c.ns < length spaces
  pub few : length c.object.entries < 2 ^ 32
  pub low : All (λ p. p.start < 2 ^ 63) c.places
