-- The links into a cell, as they are gathered and put in order.
--     HasSections graph c     the graph has each section of the cell
--     links_in rows keys      the links into each of the sections in turn
--     AreInOrder rows         no link follows one that it is before
use Rattle.std.specs.Prelude.{List, Contains, flat_map}
use Rattle.std.specs.List.Sorted.{IsSortedBy}
use Rattle.cell_num.specs.declared.ids.SecKey.{SecKey}
use Rattle.cell_world.specs.declared.state.LinkRow.{LinkRow}
use Rattle.cell_world.specs.declared.state.NewCell.{NewCell}
use Rattle.cell_num.specs.Lists.{In}
use Rattle.cell_graph.specs.Links.{Links, links_to}
use Rattle.cell_machine.specs.LinkOrder.{is_before}
use Rattle.cell_machine.specs.Machine.{section_keys}

abbrev pub HasSections : Links → NewCell → Type 0
HasSections graph c = (key : SecKey) → In key (section_keys c) → Contains graph.sections key

abbrev pub links_in : List LinkRow → List SecKey → List LinkRow
links_in rows keys = flat_map (λ key. links_to key rows) keys

abbrev pub AreInOrder : List LinkRow → Type 0
AreInOrder rows = IsSortedBy is_before rows
