-- An arena with one place changed.
--     edited at place change     what stands at the place, if one is named, is changed
--     without at place           nothing stands at the place
--     placed at place row        the row stands at the place
use Rattle.std.specs.Prelude.{ℕ, ◌==◌, Option, Some, None, option_map, if◌then◌else◌}
use Rattle.cell_graph.specs.declared.rows.ChainRow.{ChainRow}

abbrev pub edited : (ℕ → Option ChainRow) → Option ℕ → (ChainRow → ChainRow) → ℕ → Option ChainRow
edited at None change other = at other
edited at (Some place) change other = if other == place then option_map change (at other) else at other

abbrev pub without : (ℕ → Option ChainRow) → ℕ → ℕ → Option ChainRow
without at place other = if other == place then None else at other

abbrev pub placed : (ℕ → Option ChainRow) → ℕ → ChainRow → ℕ → Option ChainRow
placed at place row other = if other == place then Some row else at other

abbrev pub before_set : Option ℕ → ChainRow → ChainRow
before_set before row = record row { before = before }

abbrev pub after_set : Option ℕ → ChainRow → ChainRow
after_set after row = record row { after = after }
