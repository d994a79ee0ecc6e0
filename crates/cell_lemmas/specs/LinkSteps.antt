-- What becomes of the links of the cells that were there: each entry has a row before and after, or none.
--     LinkStep                     an entry's row before and after
--     link_steps v w               those of all entries of v's cells, by cells and then in table order
--     befores, afters steps        the rows before, and after
--     moves, binds, unbinds steps  the rows of links that lead to another section, that come, and that go
--     IsOneEntry s                 both rows are of one user and entry
--     is_other_link before after   the rows lead to different sections, or there is one of them alone
use Rattle.std.specs.Prelude.{Bool, true, false, ◌≡◌, not, List, Option, Some, None, map, filter_map, flat_map}
use Rattle.cell_num.specs.Lists.{numbered, where_true}
use Rattle.cell_world.specs.declared.state.LinkRow.{LinkRow}
use Rattle.cell_world.specs.World.{World, Cell}
use Rattle.cell_world.specs.Linked.Relink.{link_of}
use Rattle.cell_world.specs.Changed.{is_same_key, now_in}

pub record LinkStep : Type 0 where
  pub before : Option LinkRow
  pub after : Option LinkRow

abbrev pub cell_steps : World → World → Cell → List LinkStep
cell_steps v w c = map (λ p. record { before = link_of v c p; after = link_of w (now_in w c) p }) (numbered c.object.entries)

abbrev pub link_steps : World → World → List LinkStep
link_steps v w = flat_map (cell_steps v w) v.cells

abbrev pub befores : List LinkStep → List LinkRow
befores steps = filter_map (λ s. s.before) steps

abbrev pub afters : List LinkStep → List LinkRow
afters steps = filter_map (λ s. s.after) steps

abbrev pub moved_row : Option LinkRow → Option LinkRow → Option LinkRow
moved_row (Some l) (Some m) = where_true (not (is_same_key l.target m.target)) m
moved_row (Some l) None = None
moved_row None m = None

abbrev pub bound_row : Option LinkRow → Option LinkRow → Option LinkRow
bound_row None m = m
bound_row (Some l) m = None

abbrev pub unbound_row : Option LinkRow → Option LinkRow → Option LinkRow
unbound_row l None = l
unbound_row l (Some m) = None

abbrev pub moves : List LinkStep → List LinkRow
moves steps = filter_map (λ s. moved_row s.before s.after) steps

abbrev pub binds : List LinkStep → List LinkRow
binds steps = filter_map (λ s. bound_row s.before s.after) steps

abbrev pub unbinds : List LinkStep → List LinkRow
unbinds steps = filter_map (λ s. unbound_row s.before s.after) steps

abbrev pub IsOneEntry : LinkStep → Type 0
IsOneEntry s = (l m : LinkRow) → s.before ≡ Some l → s.after ≡ Some m → (l.user ≡ m.user) × (l.entry ≡ m.entry)

-- the rows lead to different sections, or there is one of them alone
abbrev pub is_other_link : Option LinkRow → Option LinkRow → Bool
is_other_link None None = false
is_other_link None (Some m) = true
is_other_link (Some l) None = true
is_other_link (Some l) (Some m) = not (is_same_key l.target m.target)
