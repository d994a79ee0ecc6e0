-- What the entries of a cell name.
--     lacks_numbered w c number     the symbol of that number is a need without a provider; symbol 0 is none
--     AreEntries w c entries        the targets of the entries, and the place of the first that lacks a provider
use Rattle.std.specs.Prelude.{◌≡◌, ℕ, Bool, false, option_map, position, unwrap_or}
use Rattle.cell_audit.specs.Linking.{is_lacking, lacks_provider}
use Rattle.cell_object.specs.Parts.{symbol_at}
use Rattle.cell_world.specs.Linked.Target.{targets_of}
use Rattle.cell_world.specs.World.{Cell, World}
use Rattle.cell_relinked.specs.declared.entries.Entries.{Entries}

abbrev pub lacks_numbered : World → Cell → ℕ → Bool
lacks_numbered w c number = unwrap_or (option_map (is_lacking w c) (symbol_at c.object number)) false

pub record AreEntries (w : World) (c : Cell) (entries : Entries) : Type 0 where
  pub targets : entries.targets.items ≡ targets_of w c
  pub lacking : entries.lacking ≡ position (lacks_provider w c) c.object.entries
