-- What the fields of a graph mean, and what always holds of them.
--     links_of g     the view
--     IsSound g      the invariant
use Rattle.std.specs.Prelude.{◌-◌, min, map}
use Rattle.slab.specs.Slab.{get, slab_len}
use Rattle.cell_graph.specs.declared.graph.Graph.TheInside.{Inside}
use Rattle.cell_graph.specs.Links.{Links}
use Rattle.cell_graph.specs.Places.{link_at}
use Rattle.cell_graph.specs.Listed.{IsWhole}

abbrev pub links_of : Inside → Links
links_of g =
    record {
      sections = map (λ s. s.key) g.section_list.items;
      rows = map (link_at (get g.rows)) g.row_list.items;
      spare_sections = min g.section_list.spare (g.sections.capacity - slab_len g.sections);
      spare_rows = min g.row_list.spare (g.rows.capacity - slab_len g.rows);
    }

abbrev pub IsSound : Inside → Type 0
IsSound g = IsWhole (get g.rows) (get g.sections) g.section_list.items g.row_list.items
