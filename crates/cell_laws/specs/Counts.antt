-- What a reply says of cells that went.
--     removed_by reply     the cells that the command removed
use Rattle.std.specs.Prelude.{List, []}
use Rattle.cell_num.specs.declared.ids.CellId.{CellId}
use Rattle.cell_world.specs.declared.reply.Reply.{Reply}
use Rattle.cell_world.specs.declared.reply.Reply.TheVariants.{Swap, Unload, Purge, Recover, Rebuild}

abbrev pub removed_by : Reply → List CellId
removed_by (Swap number fresh patched removed kept) = removed
removed_by (Unload removed) = removed
removed_by (Purge removed) = removed
removed_by (Recover task number fresh patched removed kept) = removed
removed_by (Rebuild task number fresh patched removed kept) = removed
removed_by _ = []
