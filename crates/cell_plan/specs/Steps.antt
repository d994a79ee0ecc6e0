-- What becomes of the links of one cell once other cells have come, entry by entry.
--     front i links                  the first of the links, where it is of that entry
--     behind i links                 the links behind it
--     steps_of c targets links       each entry's link before, and the one that its target by now gives
--     is_change s                    the two lead to different sections, or there is one of them alone
--     marks_of c targets links       a mark for each entry: whether that is so of its links
--     is_marked_spot entries marks q an entry at that section and offset is marked
--     changed_fields c targets links the fields an entry of which is marked, in table order
--     HasSteps steps was now         the rows of links that come, go and lead elsewhere are added
use Rattle.std.specs.Prelude.{◌≡◌, ◌==◌, ◌&&◌, ◌||◌, ℕ, suc, Bool, false, List, [], ◌∷◌, ◌++◌, Option, None, filter, map, if◌then◌else◌}
use Rattle.cell_num.specs.Lists.{where_true}
use Rattle.cell_object.specs.declared.object.Entry.{Entry}
use Rattle.cell_world.specs.declared.state.LinkRow.{LinkRow}
use Rattle.cell_world.specs.declared.state.NewCell.{NewCell}
use Rattle.cell_world.specs.declared.state.Target.{Target}
use Rattle.cell_world.specs.Linked.Field.{fields_of}
use Rattle.cell_world.specs.Linked.Relink.{link_to}
use Rattle.cell_world.specs.World.{attached}
use Rattle.cell_lemmas.specs.LinkSteps.{LinkStep, binds, is_other_link, moves, unbinds}
use Rattle.cell_link.specs.Applied.{spot_of}
use Rattle.cell_commit.specs.Rewiring.{backs}
use Rattle.cell_commit.specs.declared.wiring.Rewiring.{Rewiring}
use Rattle.cell_plan.specs.Firsts.{is_entry_at}

abbrev pub front : ℕ → List LinkRow → Option LinkRow
front i [] = None
front i (l ∷ links) = where_true (l.entry == i) l

abbrev pub behind : ℕ → List LinkRow → List LinkRow
behind i [] = []
behind i (l ∷ links) = if l.entry == i then links else l ∷ links

-- the entries are numbered from i on, and the links are in their order
abbrev pub steps_from : NewCell → ℕ → List Entry → List Target → List LinkRow → List LinkStep
steps_from c i [] targets links = []
steps_from c i (e ∷ entries) [] links = []
steps_from c i (e ∷ entries) (t ∷ targets) links =
    record { before = front i links; after = link_to (attached c) i e t } ∷ steps_from c (suc i) entries targets (behind i links)

abbrev pub steps_of : NewCell → List Target → List LinkRow → List LinkStep
steps_of c targets links = steps_from c 0 c.object.entries targets links

abbrev pub is_change : LinkStep → Bool
is_change s = is_other_link s.before s.after

abbrev pub marks_of : NewCell → List Target → List LinkRow → List Bool
marks_of c targets links = map is_change (steps_of c targets links)

abbrev pub is_marked_spot : List Entry → List Bool → ℕ × ℕ → Bool
is_marked_spot [] marks q = false
is_marked_spot (e ∷ entries) [] q = false
is_marked_spot (e ∷ entries) (b ∷ marks) q = is_entry_at q e && b || is_marked_spot entries marks q

abbrev pub marked_fields : NewCell → List Bool → List Entry
marked_fields c marks = filter (λ f. is_marked_spot c.object.entries marks (spot_of f)) (fields_of c.object)

abbrev pub changed_fields : NewCell → List Target → List LinkRow → List Entry
changed_fields c targets links = marked_fields c (marks_of c targets links)

pub record HasSteps (steps : List LinkStep) (was now : Rewiring) : Type 0 where
  pub moves_are : now.moves.items ≡ was.moves.items ++ moves steps
  pub backs_are : now.backs.items ≡ was.backs.items ++ backs steps
  pub binds_are : now.binds.items ≡ was.binds.items ++ binds steps
  pub unbinds_are : now.unbinds.items ≡ was.unbinds.items ++ unbinds steps
