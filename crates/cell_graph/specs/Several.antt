-- Several links that come or go, one after another.
--     unlinked rows r            the links without that one
--     linked rows r              the links with that one in its place
--     all_unlinked rows gone     the links without each of these
--     all_linked rows new        the links with each of these in its place
--     AreThere rows gone         each link is there, once those before it are gone
--     AreNew rows new            each is new, once those before it are there
use Rattle.std.specs.Prelude.{◌≡◌, false, List, [], ◌∷◌, Contains, fold}
use Rattle.cell_world.specs.declared.state.LinkRow.{LinkRow}
use Rattle.cell_graph.specs.Links.{is_bound}
use Rattle.cell_graph.specs.Order.{with_link, without_link}

abbrev pub unlinked : List LinkRow → LinkRow → List LinkRow
unlinked rows r = without_link r.user r.entry rows

abbrev pub linked : List LinkRow → LinkRow → List LinkRow
linked rows r = with_link r rows

abbrev pub all_unlinked : List LinkRow → List LinkRow → List LinkRow
all_unlinked rows gone = fold unlinked rows gone

abbrev pub all_linked : List LinkRow → List LinkRow → List LinkRow
all_linked rows new = fold linked rows new

abbrev pub AreThere : List LinkRow → List LinkRow → Type 0
AreThere rows [] = Unit {0}
AreThere rows (r ∷ gone) = Contains rows r × AreThere (unlinked rows r) gone

abbrev pub AreNew : List LinkRow → List LinkRow → Type 0
AreNew rows [] = Unit {0}
AreNew rows (r ∷ new) = (is_bound rows r.user r.entry ≡ false) × AreNew (linked rows r) new
