-- What the attached cells of a namespace see.
--     IsAsked asked     the sights are those of the namespace
use Rattle.std.specs.Prelude.{◌≡◌, None}
use Rattle.cell_world.specs.Names.{chain}
use Rattle.cell_relinked.specs.Asked.{AreSights}
use Rattle.cell_compared.specs.declared.name_lines.Asked.{Asked}

pub record IsAsked (a : Asked) : Type 0 where
  pub are : AreSights a.scene.now a.sights.now
  pub group : a.sights.now.group ≡ None
  pub spaces : a.sights.now.spaces.now ≡ chain a.scene.now.namespaces.now a.ns
