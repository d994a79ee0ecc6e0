-- An undo that is under way.
use Rattle.std.specs.Prelude.{All, List, [], ◌∷◌}
use Rattle.cell_world.specs.World.{Region}
use Rattle.cell_world.specs.declared.transfer.Record.{Record}
use Rattle.cell_world.specs.Running.Undo.{put_back_in, undone}
use Rattle.cell_num.specs.Lists.{In}

-- going back by the records leaves each region of `saved` as it is there
abbrev pub GivesBack : List Region → List Region → List Record → Type 0
GivesBack saved regions records = All (λ r. In r (undone regions records)) saved

-- one region with each number put back, that of the last record first
abbrev pub undone_in : Region → List Record → Region
undone_in r [] = r
undone_in r (x ∷ records) = put_back_in x (undone_in r records)
