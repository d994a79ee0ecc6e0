-- What becomes of links that stay or go when others come, entry by entry: a step is an entry's row before and after, or none.
--     backs steps                   the rows of links that lead to another section, as they lead before
--     rows_of s                     the rows of a step
--     is_below_step s t             each row of the one is below each of the other
--     AreSteps rows steps           from these rows on, each step is of one entry, and they rise
--     IsRewiring .. steps           such steps take these links away, add these, and have these lead so
--     IsTurned r back               these lists take back what those do
--     CanRewire g .. moves          there are such steps, their sections are there, and there is room
use Rattle.std.specs.Prelude.{◌≡◌, ◌≤◌, ◌+◌, true, Bool, List, [], All, Contains, filter_map, length}
use Rattle.std.specs.List.{cons_option, list_all}
use Rattle.cell_num.specs.Lists.{each_pair, In}
use Rattle.cell_world.specs.declared.state.LinkRow.{LinkRow}
use Rattle.cell_lemmas.specs.LinkSteps.{LinkStep, IsOneEntry, afters, befores, binds, moved_row, moves, unbinds}
use Rattle.cell_graph.specs.Links.{Links}
use Rattle.cell_commit.specs.declared.wiring.Rewiring.{Rewiring}
use Rattle.cell_graph.specs.Order.{below_link}

abbrev pub backs : List LinkStep → List LinkRow
backs steps = filter_map (λ s. moved_row s.after s.before) steps

abbrev pub rows_of : LinkStep → List LinkRow
rows_of s = cons_option s.before (cons_option s.after [])

abbrev pub is_below_step : LinkStep → LinkStep → Bool
is_below_step s t = list_all (λ l. list_all (below_link l) (rows_of t)) (rows_of s)

pub record AreSteps (rows : List LinkRow) (steps : List LinkStep) : Type 0 where
  pub are : rows ≡ befores steps
  pub one : (s : LinkStep) → In s steps → IsOneEntry s
  pub rise : each_pair is_below_step steps ≡ true

pub record IsRewiring (rows gone new led : List LinkRow) (steps : List LinkStep) : Type 0 where
  pub steps_are : AreSteps rows steps
  pub open steps_are use *
  pub gone_are : gone ≡ unbinds steps
  pub new_are : new ≡ binds steps
  pub led_are : led ≡ moves steps

-- the one takes back what the other does
pub record IsTurned (r back : Rewiring) : Type 0 where
  pub moves : back.moves.items ≡ r.backs.items
  pub backs : back.backs.items ≡ r.moves.items
  pub binds : back.binds.items ≡ r.unbinds.items
  pub unbinds : back.unbinds.items ≡ r.binds.items

pub record CanRewire (g : Links) (gone new led : List LinkRow) : Type 0 where
  pub steps : List LinkStep
  pub is : IsRewiring g.rows gone new led steps
  pub present : All (λ r. Contains g.sections r.user × Contains g.sections r.target) (afters steps)
  pub room : length new ≤ g.spare_rows + length gone
