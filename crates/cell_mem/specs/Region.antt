-- What the fields of a region mean.
use Rattle.cell_world.specs.World.{Region as Seen}
use Rattle.cell_mem.specs.declared.region.Region.TheInside.{Inside}
use Rattle.cell_mem.specs.Perm.{permission_of}

abbrev pub region_of_fields : Inside → Seen
region_of_fields r = record { start = r.start; permission = permission_of r.perm; bytes = r.bytes.items }
