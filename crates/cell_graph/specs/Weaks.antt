-- What is seen of a weak reference.
--     place_of weak   where that section stood
--     made_for weak   the section that the reference was made for
use Rattle.std.specs.Prelude.{ℕ}
use Rattle.cell_num.specs.declared.ids.SecKey.{SecKey}
use Rattle.cell_graph.specs.declared.weak.Weak.{Weak}

abbrev pub made_for : Weak → SecKey
made_for weak = weak.key

abbrev pub place_of : Weak → ℕ
place_of weak = weak.place
