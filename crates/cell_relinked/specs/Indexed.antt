-- The index of a ground's names.
--     IsIndexed ground objects     it is that of these objects and of the cells, whose numbers rise
use Rattle.std.specs.Prelude.{◌≡◌, true, List, nat_lt}
use Rattle.cell_num.specs.Lists.{each_pair}
use Rattle.cell_object.specs.declared.object.Object.{Object}
use Rattle.cell_bearers.specs.Index.{IsIndex}
use Rattle.cell_relinked.specs.declared.ground.Ground.{Ground}

pub record IsIndexed (g : Ground) (objects : List Object) : Type 0 where
  pub index : IsIndex g.file.now objects g.cells.now g.index.now
  pub rising : each_pair (λ a b. nat_lt a.id.0 b.id.0) g.cells.now ≡ true
