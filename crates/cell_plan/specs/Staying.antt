-- A cell that stays, between the machine before a change, v, and the machine with the new cells in their places, w.
--     links_in v c              its links in v
--     StaysBy v w c             its number, object and places are as they were, and an entry that names what it named fits
--     IsTold v w c              each of its entries names something else exactly where it has another link
--     is_user v old c           it has a link into one of these cells
use Rattle.std.specs.Prelude.{ℕ, ◌≡◌, Bool, true, false, List, All, filter_map}
use Rattle.std.specs.List.{list_any}
use Rattle.cell_num.specs.Lists.{holds, numbered, In}
use Rattle.cell_object.specs.declared.object.Entry.{Entry}
use Rattle.cell_world.specs.declared.state.LinkRow.{LinkRow}
use Rattle.cell_world.specs.World.{World, Cell}
use Rattle.cell_world.specs.Linked.Field.{fits}
use Rattle.cell_world.specs.Linked.Relink.{bound_entries, link_of}
use Rattle.cell_world.specs.Changed.{differs, now_in}
use Rattle.cell_lemmas.specs.LinkSteps.{is_other_link}

abbrev pub links_in : World → Cell → List LinkRow
links_in v c = filter_map (link_of v c) (numbered c.object.entries)

abbrev pub is_user : World → List ℕ → Cell → Bool
is_user v old c = list_any (λ l. holds old l.target.cell.0) (links_in v c)

pub record StaysBy (v w : World) (c : Cell) : Type 0 where
  pub same : (now_in w c).placed ≡ c.placed
  pub fit : All (λ b. differs v w c b.entry ≡ false → fits (now_in w c).placed (bound_entries w (now_in w c)) b ≡ true) (bound_entries w (now_in w c))

abbrev pub IsTold : World → World → Cell → Type 0
IsTold v w c = (p : ℕ × Entry) → In p (numbered c.object.entries) → differs v w c p.1 ≡ is_other_link (link_of v c p) (link_of w (now_in w c) p)
